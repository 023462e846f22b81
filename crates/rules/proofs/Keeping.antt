-- What a release keeps of the entries: tests that hold of all, the sum of pending and held, and each group's numbers about committed.
use Prim.Native.Nat.{ℕ, ◌+◌, ◌≤◌, ◌<◌}
use mathlib.Core.Path.{◌≡◌, refl, sym, ap, ◌∙◌, subst}
use mathlib.Core.Bool.{Bool, true, false, ◌&&◌, ◌||◌, not}
use mathlib.Core.List.{List, [], ◌∷◌, map}
use Rattle.std.specs.Prelude.{Option, Some, None}
use native.Mathlib.Omega.{arith}
use lib.IntN.{ℤ}
use lib.Dec.{leb, ltb, eqb}
use lib.ListN.{length}
use borrow.Author.Tests.{ltb-true, leb-true, lt-ltb, le-leb, eqb-true, eqb-false, not-true}
use Rattle.laws.specs.Lists.{filter, list_all, count, find}
use Rattle.guids.specs.Guid.{Guid, same_guid, before}
use Rattle.rules.specs.Entry.{What, Sample, End, Entry, of_group, in_set, marks}
use Rattle.rules.specs.State.{Group}
use Rattle.rules.specs.Offer.{shares, replaced, marked, keep_end, mark_of, join}
use Rattle.rules.specs.Sets.{without}
use Rattle.rules.specs.Commit.{Turn, is_head, head_of, next}
use Rattle.rules.specs.Release.{Work, discard, hand_out, with_held, with_out, mark_or, settle, enough, committed_at, at_group, release_group, release_all}
use Rattle.rules.specs.Claim.{ascending}
use Rattle.laws.proofs.Lists.{not_both, and_left, and_right, all_snoc, all_keep, all_kept, all_imp, all_and, all_left, all_right, all_yes, any_all, count_all}
use Rattle.guids.proofs.Guids.{same_eq, before_not_same, after_not_same}
use Rattle.rules.proofs.Minima.{next_head, next_lower}
use Rattle.rules.proofs.Turns.{taken, Keeps, all_rounds_keep, release_all_keeps}
use Rattle.rules.proofs.Frame.{Blind, release_fewer}

-- an entry of number m against committed c and the number n that is committed, b whether it is of the group
head_above : (b : Bool) (c n m : ℕ) → b && eqb n m ≡ true → not b || ltb c m ≡ true → c < n
head_above true c n m d e = omega (arith, eqb-true n m d, ltb-true c m e)
head_above false c n m d e = not_both false d refl

rest_above : (b : Bool) (n m : ℕ) → not b || leb n m ≡ true → not (b && eqb n m) ≡ true → not b || ltb n m ≡ true
rest_above true n m d e = lt-ltb n m (omega (arith, leb-true n m d, eqb-false n m (not-true (eqb n m) e)))
rest_above false n m d e = refl

more_up_to : (b : Bool) (c n m : ℕ) → c < n → not b || leb m c ≡ true → not b || leb m n ≡ true
more_up_to true c n m h d = le-leb m n (omega (arith, leb-true m c d))
more_up_to false c n m h d = refl

head_up_to : (b : Bool) (n m : ℕ) → b && eqb n m ≡ true → not b || leb m n ≡ true
head_up_to true n m d = le-leb m n (omega (arith, eqb-true n m d))
head_up_to false n m d = refl

module _ {X : Type 0} where
  -- ---- tests that hold of all entries

  pub keep_end_all : (p : Entry X → Bool) → Blind p → (m : Option ℕ) (e : Entry X) (l : List (Entry X)) → p e ≡ true → list_all p l ≡ true → list_all p (keep_end m e l) ≡ true
  unfolding keep_end
  keep_end_all p b m e l d h = all_snoc p (filter (λ x. not (replaced e x)) l) (marked m e) (all_keep p (λ x. not (replaced e x)) l h) (b m e ∙ d)

  pub join_all : (p : Entry X → Bool) → Blind p → (e : Entry X) (l : List (Entry X)) → p e ≡ true → list_all p l ≡ true → list_all p (join e l) ≡ true
  unfolding join
  join_all p b e l d h = keep_end_all p b (mark_of (find (λ h. replaced e h) l)) e l d h

  -- q of the pending entries, p of the held ones and those still to be committed, each about the number committed
  module _ (q p : ℕ → Entry X → Bool) (b : (c : ℕ) → Blind (λ e. p c e)) where
    abbrev Both : Work X → Type 0
    Both w = (list_all (λ e. q w.committed e) w.pending ≡ true) × (list_all (λ e. p w.committed e) w.held ≡ true)

    abbrev With : List (Entry X) → Work X → Type 0
    With l w = (list_all (λ e. p w.committed e) l ≡ true) × Both w

    settle_with : (e : Entry X) (l : List (Entry X)) (w : Work X) (x : What X) (y : Option ℤ) → p w.committed e ≡ true → With l w → With l (settle e w x y)
    unfolding with_held with_out
    settle_with e l w (Sample x) None d h = h
    settle_with e l w (Sample x) (Some z) d h = (h.0, (h.1.0, all_snoc (λ e. p w.committed e) w.held e h.1.1 d))
    settle_with e l w (End u) None d h = h
    settle_with e l w (End u) (Some z) d h = (h.0, (h.1.0, keep_end_all (λ e. p w.committed e) (b w.committed) (mark_or e.time (find (λ m. shares e m && marks m) w.held)) e w.held d h.1.1))

    -- the rounds keep it if a number that leaves pending does
    both : (t : Turn) → ((n k : ℕ) (w : Work X) → next t w.pending ≡ Some n → Both w → With (head_of t n w.pending) (taken t n k w)) → Keeps t With
    unfolding discard hand_out without
    both t f = record {
      at_discard = λ l z w h. (h.0, (h.1.0, all_keep (λ e. p w.committed e) (λ x. not (in_set t.guid z x)) w.held h.1.1));
      at_hand_out = λ z w h. (h.0, (h.1.0, all_keep (λ e. p w.committed e) (λ x. not (in_set t.guid z x)) w.held h.1.1));
      at_settle = λ e l w x y i o h. settle_with e l w x y (and_left (p w.committed e) _ h.0) (and_right (p w.committed e) _ h.0, h.1);
      at_taken = λ n k w d h. f n k w d h.1;
    }

  -- tests that don't read that number: kept if p holds of what the group's rounds commit
  module _ (q p : Entry X → Bool) (b : Blind p) where
    head_all : (t : Turn) → ((e : Entry X) → of_group t.guid e ≡ true → q e ≡ true → p e ≡ true) → (n : ℕ) (l : List (Entry X)) → list_all q l ≡ true → list_all p (head_of t n l) ≡ true
    unfolding head_of
    head_all t f n l h = all_imp (λ e. is_head t n e && q e) p (λ e d. f e (unfold is_head in and_left (of_group t.guid e) _ (and_left (is_head t n e) _ d)) (and_right (is_head t n e) _ d)) (filter (λ e. is_head t n e) l) (all_and (λ e. is_head t n e) q (filter (λ e. is_head t n e) l) (all_kept (λ e. is_head t n e) l) (all_keep q (λ e. is_head t n e) l h))

    plain : (t : Turn) → ((e : Entry X) → of_group t.guid e ≡ true → q e ≡ true → p e ≡ true) → Keeps t (With (λ c. q) (λ c. p) (λ c. b))
    plain t f = both (λ c. q) (λ c. p) (λ c. b) t (λ n k w d h. (head_all t f n w.pending h.0, (all_keep q (λ e. not (is_head t n e)) w.pending h.0, h.1)))

  -- ---- a group's numbers about committed

  -- of the group only above c; of the group none above c
  unfoldable pub above : Guid → ℕ → Entry X → Bool
  above g c e = not (of_group g e) || ltb c e.number

  unfoldable pub up_to : Guid → ℕ → Entry X → Bool
  up_to g c e = not (of_group g e) || leb e.number c

  -- the group's pending numbers are above committed, its held ones are not
  abbrev pub Own : Guid → Work X → Type 0
  Own g w = (list_all (λ e. above g w.committed e) w.pending ≡ true) × (list_all (λ e. up_to g w.committed e) w.held ≡ true)

  next_above : (t : Turn) (w : Work X) (n : ℕ) → next t w.pending ≡ Some n → Own t.guid w → w.committed < n
  unfolding above is_head
  next_above t w n h k = any_all (λ e. is_head t n e) (λ e. above t.guid w.committed e) (λ e c d. head_above (of_group t.guid e) w.committed n e.number c d) w.pending (next_head t w.pending n h) k.0

  up_to_blind : (g : Guid) (c : ℕ) → Blind (λ e. up_to g c e)
  unfolding up_to of_group marked
  up_to_blind g c m e = refl

  own : (t : Turn) → Keeps t (With (above t.guid) (up_to t.guid) (up_to_blind t.guid))
  own t =
      let g : Guid = t.guid in
      both (above g) (up_to g) (up_to_blind g) t (λ n k w d o. (
        all_imp (λ e. is_head t n e) (λ e. up_to g n e) (λ e d. unfold up_to is_head in head_up_to (of_group g e) n e.number d) (head_of t n w.pending) (unfold head_of in all_kept (λ e. is_head t n e) w.pending),
        (
          all_imp (λ e. (not (of_group g e) || leb n e.number) && not (is_head t n e)) (λ e. above g n e)
              (λ e d. unfold above is_head in rest_above (of_group g e) n e.number (and_left (not (of_group g e) || leb n e.number) _ d) (and_right (not (of_group g e) || leb n e.number) _ d))
              (filter (λ e. not (is_head t n e)) w.pending)
              (all_and (λ e. not (of_group g e) || leb n e.number) (λ e. not (is_head t n e)) (filter (λ e. not (is_head t n e)) w.pending)
              (all_keep (λ e. not (of_group g e) || leb n e.number) (λ e. not (is_head t n e)) w.pending (next_lower t w.pending n d))
              (all_kept (λ e. not (is_head t n e)) w.pending)),
          all_imp (λ e. up_to g w.committed e) (λ e. up_to g n e) (λ e h. unfold up_to in more_up_to (of_group g e) w.committed n e.number (next_above t w n d o) h) w.held o.1,
        ),
      ))

  -- ---- all groups, each with its turn

  unfoldable pub above_each : List Group → Entry X → Bool
  above_each gs e = list_all (λ x. above x.guid x.committed e) gs

  unfoldable pub up_to_each : List Group → Entry X → Bool
  up_to_each gs e = list_all (λ x. up_to x.guid x.committed e) gs

  -- each group's pending numbers are above its committed, its held ones are not
  abbrev pub Fit : List Group → Work X → Type 0
  Fit gs w = (list_all (λ e. above_each gs e) w.pending ≡ true) × (list_all (λ e. up_to_each gs e) w.held ≡ true)

  up_to_each_blind : (gs : List Group) → Blind (λ e. up_to_each gs e)
  unfolding up_to_each up_to of_group marked
  up_to_each_blind gs m e = refl

  -- an entry of one group breaks no bound of another
  other_up_to : (g : Guid) (c : ℕ) (h : Guid) (e : Entry X) → same_guid g h ≡ false → of_group h e ≡ true → up_to g c e ≡ true
  unfolding up_to of_group
  other_up_to g c h e a d = rw (← same_eq h e.group d, a)

  others_up_to : (g : Guid) (e : Entry X) → of_group g e ≡ true → (gs : List Group) → list_all (λ x. before g x.guid) gs ≡ true → up_to_each gs e ≡ true
  unfolding up_to_each
  others_up_to g e d gs h = all_imp (λ x. before g x.guid) (λ x. up_to x.guid x.committed e) (λ x b. other_up_to x.guid x.committed g e (after_not_same x.guid g b) d) gs h

  module _ (t : Group → Turn) (at : (g : Group) → (t g).guid ≡ g.guid) where
    pub release_all_guids : (gs : List Group) (w : Work X) → map (λ x. x.guid) (release_all t gs w).0 ≡ map (λ x. x.guid) gs
    unfolding release_all committed_at
    release_all_guids [] w = refl
    release_all_guids (g ∷ gs) w = ap (λ l. g.guid ∷ l) (release_all_guids gs (release_group (t g) g w))

    pub release_all_stored : (gs : List Group) (w : Work X) → length (release_all t gs w).1.pending + length (release_all t gs w).1.held ≤ length w.pending + length w.held
    release_all_stored gs w =
        let n : (l : List (Entry X)) → count (λ e. true) l ≡ length l = λ l. count_all (λ e. true) l (all_yes l) in
        let r : Work X = (release_all t gs w).1 in
        omega (arith, release_fewer (λ e. true) (λ e. true) (λ e h. h) (λ m e h. h) t gs w, n r.pending, n r.held, n w.pending, n w.held)

    -- q of the pending entries, p of the held ones: kept if p holds of what groups that pass s commit
    pub release_all_all : (q p : Entry X → Bool) (b : Blind p) (s : Group → Bool)
        → ((x : Group) (e : Entry X) → s x ≡ true → of_group x.guid e ≡ true → q e ≡ true → p e ≡ true)
        → (gs : List Group) → list_all s gs ≡ true → (w : Work X) → Both (λ c. q) (λ c. p) (λ c. b) w → Both (λ c. q) (λ c. p) (λ c. b) (release_all t gs w).1
    unfolding at_group
    release_all_all q p b s f gs a w h = (release_all_keeps {P = With (λ c. q) (λ c. p) (λ c. b)} t s (λ x i. plain q p b (t x) (λ e d. f x e i (rw (← at x) d))) (λ x v r. r) gs a w (refl, h)).1

    pub release_all_fit : (gs : List Group) → ascending gs ≡ true → (w : Work X) → Fit gs w → Fit (release_all t gs w).0 (release_all t gs w).1
    unfolding release_all release_group at_group committed_at ascending above_each up_to_each
    release_all_fit [] a w h = h
    release_all_fit (g ∷ gs) a w h =
        let v : Work X = release_group (t g) g w in
        let r : List Group × Work X = release_all t gs v in
        let apart : list_all (λ x. before g.guid x.guid) gs ≡ true = and_left (list_all (λ x. before g.guid x.guid) gs) _ a in
        let mine : Own g.guid (at_group g w) = (all_left (λ e. above g.guid g.committed e) (λ e. above_each gs e) w.pending h.0, all_left (λ e. up_to g.guid g.committed e) (λ e. up_to_each gs e) w.held h.1) in
        let rest : Fit gs (at_group g w) = (all_right (λ e. above g.guid g.committed e) (λ e. above_each gs e) w.pending h.0, all_right (λ e. up_to g.guid g.committed e) (λ e. up_to_each gs e) w.held h.1) in
        let mine' : Own g.guid v = subst (λ x. Own x v) (at g) (all_rounds_keep (own (t g)) (enough w) (at_group g w) (refl, subst (λ x. Own x (at_group g w)) (sym (at g)) mine)).1 in
        let rest' : Fit gs v = (all_rounds_keep (plain (λ e. above_each gs e) (λ e. up_to_each gs e) (up_to_each_blind gs) (t g) (λ e d c. others_up_to g.guid e (rw (← at g) d) gs apart)) (enough w) (at_group g w) (refl, rest)).1 in
        let ih : Fit r.0 r.1 = release_all_fit gs (and_right (list_all (λ x. before g.guid x.guid) gs) _ a) v rest' in
        let mine'' : (list_all (λ e. above g.guid v.committed e) r.1.pending ≡ true) × (list_all (λ e. up_to g.guid v.committed e) r.1.held ≡ true) =
        release_all_all (λ e. above g.guid v.committed e) (λ e. up_to g.guid v.committed e) (up_to_blind g.guid v.committed) (λ x. before g.guid x.guid)
        (λ x e b d c. other_up_to g.guid v.committed x.guid e (before_not_same g.guid x.guid b) d) gs apart v mine'
        in
        (all_and (λ e. above g.guid v.committed e) (λ e. above_each r.0 e) r.1.pending mine''.0 ih.0, all_and (λ e. up_to g.guid v.committed e) (λ e. up_to_each r.0 e) r.1.held mine''.1 ih.1)
