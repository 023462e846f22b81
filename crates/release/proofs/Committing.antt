-- The entries at some places are committed one by one.
use Rattle.std.proofs.Common.{◌≡◌, ℕ, ◌+◌, ◌<◌, ◌≤◌, true, List, [], ◌∷◌, length, get_or, drop, refl, sym, ap, ◌∙◌, subst, add-one, zero-add, drop-cons, drop_of_length-le, arith}
use Rattle.std.specs.Prelude.{None, ◌&&◌, map}
use Rattle.std.proofs.lemmas.Option.{slice_get-get_or}
use Rattle.laws.specs.Lists.{list_all}
use Rattle.laws.proofs.Lists.{and_left, and_right}
use Rattle.guids.specs.Guid.{Guid, same_guid}
use Rattle.guids.proofs.Guids.{same_eq}
use Rattle.rules.specs.declared.entry.Entry.{Entry}
use Rattle.rules.specs.Entry.{of_group}
use Rattle.rules.specs.declared.entry.What.TheVariants.{Sample}
use Rattle.rules.specs.Run.{place_of}
use Rattle.rules.specs.Release.{Work, commit_one, commit_all}
use Rattle.sets.specs.declared.Sets.{Sets}
use Rattle.sets.specs.Works.{Carries, Goes}
use Rattle.ready.specs.Places.{entries_at}
use Rattle.release.specs.declared.commit.Memory.{Memory}
use Rattle.release.specs.Known.{Known}
use Rattle.release.specs.Order.{AllBelow}

-- a work that some sets and places carry: each place is that of a sample
entry_for : ℕ → Entry ℕ
entry_for x = record { group = []; writer = []; reader = 0; number = 0; set = None; what = Sample x; time = 0; ended = None }

places_back : (l : List ℕ) → map (λ y. place_of y) (map (λ x. entry_for x) l) ≡ l
unfolding place_of entry_for
places_back [] = refl
places_back (x ∷ l) = rw (places_back l) (ap (λ y. y ∷ l) (zero-add x))

carried : Sets → List ℕ → Work ℕ
carried s o = record { committed = 0; pending = []; held = s.held.items; out = map (λ x. entry_for x) o; lost = []; counts = s.counts }

carries : (s : Sets) (o : List ℕ) → Carries s o (carried s o)
unfolding carried
carries s o = record { held = refl; counts = refl; out = sym (places_back o) }

-- the entries at the first k places are committed, from s and o to t and p; m is what is remembered then
pub record Committing (g : Guid) (ps : List (Entry ℕ)) (places : List ℕ) (k : ℕ) (s : Sets) (o : List ℕ) (t : Sets) (p : List ℕ) (m : Memory) : Type 0 where
  pub goes : (w : Work ℕ) → Carries s o w → (v : Work ℕ) × Carries t p v × (commit_all (entries_at ps places) w ≡ commit_all (entries_at ps (drop k places)) v)
  pub group : list_all (λ e. of_group g e) (entries_at ps (drop k places)) ≡ true
  pub room : length t.held.items + length p ≤ length s.held.items + length o + k
  pub known : Known g m t.held.items

module _ (g : Guid) (ps : List (Entry ℕ)) (places : List ℕ) (k : ℕ) (s : Sets) (o : List ℕ) (t : Sets) (p : List ℕ) (m : Memory) (c : Committing g ps places k s o t p m) where
  pub committing_all : length places ≤ k → Goes (λ w. commit_all (entries_at ps places) w) s o t p
  unfolding commit_all
  committing_all h w x =
      let r = c.goes w x in
      let none : drop k places ≡ [] = drop_of_length-le places h in
      subst (λ (v : Work ℕ). Carries t p v) (sym (r.2 ∙ ap (λ l. commit_all (entries_at ps l) r.0) none)) r.1

  module _ (d : Entry ℕ) (below : AllBelow (length ps) places) (h : k < length places) where
    abbrev i : ℕ
    i = get_or places k 0

    within : i < length ps
    within = below k h 0

    abbrev e : Entry ℕ
    e = get_or ps i d

    next_places : entries_at ps (drop k places) ≡ e ∷ entries_at ps (drop (k + 1) places)
    next_places = rw (add-one, drop-cons places k 0 h, slice_get-get_or ps i d within)

    both : of_group g e && list_all (λ x. of_group g x) (entries_at ps (drop (k + 1) places)) ≡ true
    both = subst (λ (l : List (Entry ℕ)). list_all (λ x. of_group g x) l ≡ true) next_places c.group

    pub group_is : g ≡ e.group
    unfolding of_group
    group_is = same_eq g e.group (and_left (same_guid g e.group) _ both)

    pub known_here : Known e.group m t.held.items
    known_here = subst (λ (x : Guid). Known x m t.held.items) group_is c.known

    pub committing_more : (u : Sets) (q : List ℕ) (n : Memory) → Goes (λ w. commit_one e w) t p u q → length u.held.items + length q ≤ length t.held.items + length p + 1
        → ((w : Work ℕ) → Known e.group m w.held → Known e.group n (commit_one e w).held) → Committing g ps places (k + 1) s o u q n
    unfolding commit_all carried
    committing_more u q n a b f =
        let w0 : Work ℕ = carried t p in
        let r0 : Carries u q (commit_one e w0) = a w0 (carries t p) in
        record {
          goes = λ w x.
              let r = c.goes w x in
              (commit_one e r.0, a r.0 r.1, r.2 ∙ ap (λ l. commit_all l r.0) next_places);
          group = and_right (of_group g e) _ both;
          room = omega (arith, b, c.room);
          known = rw (group_is, r0.held) (f w0 known_here);
        }
