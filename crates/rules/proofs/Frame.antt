-- The release of other groups leaves a group's entries; and a release stores no entry more.
use Prim.Native.Nat.{ℕ, ◌+◌, ◌≤◌}
use mathlib.Core.Path.{◌≡◌, refl, sym, ap, ◌∙◌}
use mathlib.Core.Bool.{Bool, true, false, ◌&&◌, not}
use mathlib.Core.List.{List, [], ◌∷◌}
use Rattle.std.specs.Prelude.{Option, Some, None}
use native.Mathlib.Omega.{arith}
use lib.IntN.{ℤ}
use borrow.Author.Tests.{not-true}
use Rattle.laws.specs.Lists.{filter, list_all, count, find}
use Rattle.guids.specs.Guid.{Guid, same_guid}
use Rattle.rules.specs.Entry.{What, Sample, End, Entry, is_sample, of_group, in_set, marks}
use Rattle.rules.specs.State.{Group, is_group}
use Rattle.rules.specs.Offer.{shares, replaced, marked, keep_end}
use Rattle.rules.specs.Sets.{without}
use Rattle.rules.specs.Commit.{Turn, is_head, head_of}
use Rattle.rules.specs.Release.{Work, discard, hand_out, with_held, with_out, settle, mark_or, at_group, release_group, release_all}
use Rattle.laws.proofs.Lists.{not_both, true_or_false, and_left, and_right, and_true, weight_imp, keep_under, keep_last, count_nil, count_last, count_cons, count_split, count_keep, all_yes}
use Rattle.guids.proofs.Guids.{same_eq}
use Rattle.rules.proofs.Turns.{Keeps, release_all_keeps}

module _ {X : Type 0} where
  apart : (g a : Guid) (e : Entry X) → same_guid g a ≡ false → of_group g e ≡ true → of_group a e ≡ false
  unfolding of_group
  apart g a e f h = true_or_false (same_guid a e.group) (λ s. not_both (same_guid g a) (ap (λ x. same_guid g x) (same_eq a e.group s) ∙ h) f)

  -- the group's pending and held entries are these
  abbrev Same : Guid → List (Entry X) → List (Entry X) → Work X → Type 0
  Same g P H w = (filter (λ e. of_group g e) w.pending ≡ P) × (filter (λ e. of_group g e) w.held ≡ H)

  without_other : (g a : Guid) (z : ℤ) (l : List (Entry X)) → same_guid g a ≡ false → filter (λ e. of_group g e) (without a z l) ≡ filter (λ e. of_group g e) l
  unfolding without in_set
  without_other g a z l f = keep_under (λ h. not (in_set a z h)) (λ e. of_group g e) (λ x h. rw (apart g a x f h)) l

  settle_same : (g : Guid) (P H : List (Entry X)) (e : Entry X) (w : Work X) (x : What X) (y : Option ℤ) → of_group g e ≡ false → Same g P H w → Same g P H (settle e w x y)
  unfolding with_held with_out keep_end replaced shares of_group marked
  settle_same g P H e w (Sample x) None f r = r
  settle_same g P H e w (Sample x) (Some z) f r = (r.0, keep_last (λ x. of_group g x) w.held e f ∙ r.1)
  settle_same g P H e w (End u) None f r = r
  settle_same g P H e w (End u) (Some z) f r = (
    r.0,
    keep_last (λ x. of_group g x) (filter (λ x. not (replaced e x)) w.held) (marked (mark_or e.time (find (λ m. shares e m && marks m) w.held)) e) f
        ∙ keep_under (λ x. not (replaced e x)) (λ x. of_group g x) (λ x s. rw (apart g e.group x f s)) w.held
        ∙ r.1,
  )

  keeps_same : (g : Guid) (P H : List (Entry X)) (t : Turn) → same_guid g t.guid ≡ false → Keeps t (λ l w. Same g P H w)
  unfolding discard hand_out of_group
  keeps_same g P H t f = record {
    at_discard = λ l z w r. (r.0, without_other g t.guid z w.held f ∙ r.1);
    at_hand_out = λ z w r. (r.0, without_other g t.guid z w.held f ∙ r.1);
    at_settle = λ e l w x y h o r. settle_same g P H e w x y (ap (λ x. same_guid g x) (sym (same_eq t.guid e.group o)) ∙ f) r;
    at_taken = λ n k w d r. (keep_under (λ (e : Entry X). not (is_head t n e)) (λ e. of_group g e) (λ e h. unfold is_head in rw (apart g t.guid e f h)) w.pending ∙ r.0, r.1);
  }

  -- groups none of which is g leave its pending and its held entries
  pub frame : (g : Guid) (t : Group → Turn) → ((x : Group) → (t x).guid ≡ x.guid) → (gs : List Group) (w : Work X) → list_all (λ x. not (is_group g x)) gs ≡ true
      → (filter (λ e. of_group g e) (release_all t gs w).1.pending ≡ filter (λ e. of_group g e) w.pending)
      × (filter (λ e. of_group g e) (release_all t gs w).1.held ≡ filter (λ e. of_group g e) w.held)
  unfolding is_group at_group
  frame g t same gs w a =
      release_all_keeps {P = λ l v. Same g (filter (λ e. of_group g e) w.pending) (filter (λ e. of_group g e) w.held) v} t (λ x. not (is_group g x))
      (λ x o. keeps_same g _ _ (t x) (ap (λ y. same_guid g y) (same x) ∙ not-true _ o)) (λ x v r. r) gs a w (refl, refl)

  -- ---- a release stores no entry more

  -- a test that does not see a kept end's mark
  abbrev pub Blind : (Entry X → Bool) → Type 0
  Blind p = (m : Option ℕ) (e : Entry X) → p (marked m e) ≡ p e

  -- pending entries by one test, held ones by another: an entry that passes as held, marked or not, passed as pending
  module _ (q h : Entry X → Bool) (plain : (e : Entry X) → h e ≡ true → q e ≡ true) (kept : (m : Option ℕ) (e : Entry X) → h (marked m e) ≡ true → q e ≡ true) where
    -- with those to be committed, at most n that pass
    abbrev AtMost : ℕ → List (Entry X) → Work X → Type 0
    AtMost n l w = count q l + count q w.pending + count h w.held ≤ n

    settle_fewer : (n : ℕ) (e : Entry X) (l : List (Entry X)) (w : Work X) (x : What X) (y : Option ℤ) → AtMost n (e ∷ l) w → AtMost n l (settle e w x y)
    unfolding with_held with_out keep_end
    settle_fewer n e l w (Sample x) None r = omega (arith, count_cons q e l)
    settle_fewer n e l w (Sample x) (Some z) r = omega (arith, count_cons q e l, count_last h w.held e, weight_imp (h e) (q e) (plain e))
    settle_fewer n e l w (End u) None r = omega (arith, count_cons q e l)
    settle_fewer n e l w (End u) (Some z) r =
        let m : Option ℕ = mark_or e.time (find (λ m. shares e m && marks m) w.held) in
        omega (arith, count_cons q e l, count_last h (filter (λ x. not (replaced e x)) w.held) (marked m e), weight_imp (h (marked m e)) (q e) (kept m e), count_keep (λ x. not (replaced e x)) h w.held)

    fewer : (n : ℕ) (t : Turn) → Keeps t (λ l w. AtMost n l w)
    unfolding discard hand_out head_of without
    fewer n t = record {
      at_discard = λ l z w r. omega (arith, count_keep (λ x. not (in_set t.guid z x)) h w.held);
      at_hand_out = λ z w r. omega (arith, count_keep (λ x. not (in_set t.guid z x)) h w.held);
      at_settle = λ e l w x y h o r. settle_fewer n e l w x y r;
      at_taken = λ j k w d r. omega (arith, count_split (λ e. is_head t j e) q w.pending, count_nil q);
    }

    pub release_fewer : (t : Group → Turn) (gs : List Group) (w : Work X)
        → count q (release_all t gs w).1.pending + count h (release_all t gs w).1.held ≤ count q w.pending + count h w.held
    unfolding at_group
    release_fewer t gs w =
        let n : ℕ = count q w.pending + count h w.held in
        let r : AtMost n [] (release_all t gs w).1 = release_all_keeps {P = λ l w. AtMost n l w} t (λ g. true) (λ g o. fewer n (t g)) (λ g v r. r) gs (all_yes gs) w (omega (arith, count_nil q)) in
        omega (arith, count_nil q)

    pub group_fewer : (t : Turn) (g : Group) (w : Work X) → count q (release_group t g w).pending + count h (release_group t g w).held ≤ count q w.pending + count h w.held
    unfolding release_all
    group_fewer t g w = release_fewer (λ x. t) (g ∷ []) w

  -- held members that pass q
  unfoldable pub member_with : (Entry X → Bool) → Entry X → Bool
  member_with q e = is_sample e && q e

  pub member_plain : (q : Entry X → Bool) (e : Entry X) → member_with q e ≡ true → q e ≡ true
  unfolding member_with
  member_plain q e h = and_right (is_sample e) _ h

  pub member_kept : (q : Entry X → Bool) → Blind q → (m : Option ℕ) (e : Entry X) → member_with q (marked m e) ≡ true → q e ≡ true
  member_kept q b m e h = sym (b m e) ∙ member_plain q (marked m e) h

  pub member_imp : (p q : Entry X → Bool) → ((e : Entry X) → p e ≡ true → q e ≡ true) → (e : Entry X) → member_with p e ≡ true → member_with q e ≡ true
  unfolding member_with
  member_imp p q f e h = and_true (is_sample e) _ (and_left (is_sample e) _ h) (f e (and_right (is_sample e) _ h))
