-- Where a release leaves an entry pending: its group has stored an entry up to that number that waited less than the timeout.
use Prim.Native.Nat.{ℕ, ◌+◌, ◌≤◌}
use mathlib.Core.Path.{◌≡◌, refl, sym, ap, ◌∙◌, subst}
use mathlib.Core.Bool.{Bool, true, false, ◌&&◌, ◌||◌, not}
use mathlib.Core.List.{List, [], ◌∷◌}
use Rattle.std.specs.Prelude.{Option, Some, None}
use mathlib.Core.Logic.{inl, inr}
use native.Mathlib.Omega.{arith}
use lib.IntN.{ℤ}
use lib.Dec.{ltb, leb, eqb}
use lib.ListN.{length}
use borrow.Author.Tests.{not-false, leb-true, ltb-false, le-leb, eqb-true}
use Rattle.laws.specs.Lists.{filter, list_all, list_any, count, find}
use Rattle.guids.specs.Guid.{Guid, same_guid, before}
use Rattle.rules.specs.Entry.{Entry, is_sample, of_group, in_set, is_member}
use Rattle.rules.specs.State.{Group, is_group, knows_group}
use Rattle.rules.specs.Offer.{marked}
use Rattle.rules.specs.Sets.{lowest_ended, end_missing}
use Rattle.rules.specs.Commit.{Turn, is_head, next}
use Rattle.rules.specs.Release.{Work, young, waits, round, enough, at_group, release_group, release_all}
use Rattle.rules.specs.Claim.{empty_at, stops_empty, ascending}
use Rattle.laws.proofs.Lists.{and_left, and_right, and_true, not_both, true_or_false, or_left, or_right, keep_keep, all_imp, count_imp, count_any, count_none, taken, find_test, find_count, find_some}
use Rattle.guids.proofs.Guids.{same_eq, before_not_same}
use Rattle.rules.proofs.Minima.{next_none, next_lower, next_head}
use Rattle.rules.proofs.Turns.{Stopped, why_stopped}
use Rattle.rules.proofs.Fuel.{stops}
use Rattle.rules.proofs.Frame.{frame, group_fewer, member_with, member_plain, member_kept}

module _ {X : Type 0} where
  -- of the group: of number n, above n, up to n, and the last offered from time m on
  unfoldable pub is_at : Guid → ℕ → Entry X → Bool
  is_at g n e = of_group g e && eqb n e.number

  unfoldable pub is_above : Guid → ℕ → Entry X → Bool
  is_above g n e = of_group g e && ltb n e.number

  unfoldable pub is_up_to : Guid → ℕ → Entry X → Bool
  is_up_to g n e = of_group g e && leb e.number n

  unfoldable pub is_owed : Guid → ℕ → ℕ → Entry X → Bool
  is_owed g n m e = is_up_to g n e && leb m e.time

  -- one such is pending, or a held member
  abbrev pub Owed : Guid → ℕ → ℕ → Work X → Type 0
  Owed g n m w = 1 ≤ count (λ e. is_owed g n m e) w.pending + count (λ e. member_with (λ e. is_owed g n m e) e) w.held

  owes : (g : Guid) (n m : ℕ) (e : Entry X) → of_group g e ≡ true → e.number ≤ n → m ≤ e.time → is_owed g n m e ≡ true
  unfolding is_owed is_up_to
  owes g n m e o a b = and_true _ _ (and_true _ _ o (le-leb e.number n a)) (le-leb m e.time b)

  -- ---- where a group's rounds stop

  module _ (t : Turn) (w : Work X) (n m : ℕ) (fresh-since : (e : Entry X) → young t (Some e) ≡ true → m ≤ e.time) where
    -- an ended set waits: its first member is young
    set_stop : (z : ℤ) → waits t z w.held ≡ true → empty_at t w (Some z) ≡ false → count (λ e. is_above t.guid n e) w.held ≡ 0 → Owed t.guid n m w
    unfolding waits is_member in_set is_above member_with
    set_stop z s e a =
        let is : Entry X → Bool = λ x. is_member t.guid z x in
        let i : list_any is w.held ≡ true = not-false _ (sym (ap (λ b. b && not (list_any is w.held)) s) ∙ e) in
        let (x, f) = find_some is w.held (count_any is w.held i) in
        let y : young t (Some x) ≡ true = ap (λ o. young t o) (sym f) ∙ and_right (end_missing t.guid z t.counted w.held) _ s in
        let g : of_group t.guid x ≡ true = and_left (of_group t.guid x) _ (and_left (in_set t.guid z x) _ (find_test is w.held x f)) in
        let u : ltb n x.number ≡ false = true_or_false _ (λ b. omega (arith, find_count is (λ e. is_above t.guid n e) w.held x f (and_true _ _ g b))) in
        let p : is_sample x ≡ true = and_right (in_set t.guid z x) _ (find_test is w.held x f) in
        omega (arith, find_count is (λ e. member_with (λ e. is_owed t.guid n m e) e) w.held x f (and_true _ _ p (owes t.guid n m x g (ltb-false n x.number u) (fresh-since x y))))

    -- the lowest pending number waits: its first entry is young
    head_stop : (a : ℕ) → next t w.pending ≡ Some a → young t (find (λ e. is_head t a e) w.pending) ≡ true → 1 ≤ count (λ e. is_at t.guid n e) w.pending → Owed t.guid n m w
    unfolding is_at is_head
    head_stop a l h p =
        let of : Entry X → Bool = λ e. of_group t.guid e in
        let (x, c, d) = taken (λ e. is_at t.guid n e) (λ e. not (of e) || leb a e.number) w.pending p (next_lower t w.pending a l) in
        let (y, f) = find_some (λ e. is_head t a e) w.pending (count_any (λ e. is_head t a e) w.pending (next_head t w.pending a l)) in
        let i : is_head t a y ≡ true = find_test (λ e. is_head t a e) w.pending y f in
        let b : leb a x.number ≡ true = ap (λ o. not o || leb a x.number) (sym (and_left (of x) _ c)) ∙ d in
        let u : y.number ≤ n = omega (arith, eqb-true n x.number (and_right (of x) _ c), leb-true a x.number b, eqb-true a y.number (and_right (of y) _ i)) in
        omega (arith, find_count (λ e. is_head t a e) (λ e. is_owed t.guid n m e) w.pending y f (owes t.guid n m y (and_left (of y) _ i) u (fresh-since y (ap (λ o. young t o) (sym f) ∙ h))))

    stop : round t w ≡ None → empty_at t w (lowest_ended t.guid w.held) ≡ false
        → 1 ≤ count (λ e. is_at t.guid n e) w.pending → count (λ e. is_above t.guid n e) w.held ≡ 0 → Owed t.guid n m w
    unfolding is_at
    stop r e p a = go (why_stopped t w r)
      where
        go : Stopped t w → Owed t.guid n m w
        go (inl (z, l, s)) = set_stop z s (ap (λ o. empty_at t w o) (sym l) ∙ e) a
        go (inr (c, inl d)) = omega (arith, count_imp (λ e. is_at t.guid n e) (λ e. of_group t.guid e) (λ e k. and_left (of_group t.guid e) _ k) w.pending, count_none (λ e. of_group t.guid e) w.pending (next_none t w.pending d))
        go (inr (c, inr (b, d, f, y))) = head_stop b d y p

-- ---- where a release stops

module _ {X : Type 0} where
  -- tests of a group's entries count alike where the group's entries are alike
  grouped : (g : Guid) (r : Entry X → Bool) (l k : List (Entry X)) → filter (λ e. of_group g e) l ≡ filter (λ e. of_group g e) k
      → count (λ e. of_group g e && r e) l ≡ count (λ e. of_group g e && r e) k
  unfolding count
  grouped g r l k h = ap length (sym (keep_keep r (λ e. of_group g e) l) ∙ ap (λ x. filter r x) h ∙ keep_keep r (λ e. of_group g e) k)

  group_stops : (t : Turn) (x : Group) (w : Work X) → round t (release_group t x w) ≡ None
  unfolding release_group enough at_group
  group_stops t x w = stops t (at_group x w)

  pub owed_blind : (g : Guid) (n m : ℕ) (k : Option ℕ) (e : Entry X) → is_owed g n m (marked k e) ≡ is_owed g n m e
  unfolding is_owed is_up_to of_group marked
  owed_blind g n m k e = refl

  module _ (t : Group → Turn) (same : (x : Group) → (t x).guid ≡ x.guid) (g : Guid) (n m : ℕ)
      (fresh-since : (x : Group) (e : Entry X) → young (t x) (Some e) ≡ true → m ≤ e.time) where
    -- the group's own rounds stopped so, and the later groups' leave its entries
    here : (x : Group) (gs : List Group) (w : Work X) → list_all (λ y. before x.guid y.guid) gs ≡ true → is_group g x ≡ true
        → empty_at (t x) (release_group (t x) x w) (lowest_ended x.guid (release_group (t x) x w).held) ≡ false
        → 1 ≤ count (λ e. is_at g n e) (release_all t gs (release_group (t x) x w)).1.pending
        → count (λ e. is_above g n e) (release_all t gs (release_group (t x) x w)).1.held ≡ 0
        → Owed g n m (release_group (t x) x w)
    unfolding is_group is_at is_above
    here x gs w a s e p h =
        let v : Work X = release_group (t x) x w in
        let q : g ≡ x.guid = same_eq g x.guid s in
        let f = frame g t same gs v
        (all_imp (λ y. before x.guid y.guid) (λ y. not (is_group g y)) (λ y b. ap not (ap (λ z. same_guid z y.guid) q ∙ before_not_same x.guid y.guid b)) gs a) in
        let p' : 1 ≤ count (λ e. is_at g n e) v.pending = rw (grouped g (λ e. eqb n e.number) _ _ f.0) at p in
        let h' : count (λ e. is_above g n e) v.held ≡ 0 = rw (grouped g (λ e. ltb n e.number) _ _ f.1) at h in
        subst (λ d. 1 ≤ count (λ e. is_at d n e) v.pending → count (λ e. is_above d n e) v.held ≡ 0 → Owed d n m v) (same x ∙ sym q)
        (stop (t x) v n m (fresh-since x) (group_stops (t x) x w) (ap (λ d. empty_at (t x) v (lowest_ended d v.held)) (same x) ∙ e)) p' h'

    pub stuck : (gs : List Group) (w : Work X) → ascending gs ≡ true → knows_group g gs ≡ true → stops_empty t gs w ≡ false
        → 1 ≤ count (λ e. is_at g n e) (release_all t gs w).1.pending → count (λ e. is_above g n e) (release_all t gs w).1.held ≡ 0
        → Owed g n m w
    unfolding ascending knows_group stops_empty release_all
    stuck [] w a k e p h = not_both true refl (sym k)
    stuck (x ∷ gs) w a k e p h =
        let v : Work X = release_group (t x) x w in
        let q : Entry X → Bool = λ e. is_owed g n m e in
        let l = group_fewer q (λ e. member_with q e) (member_plain q) (member_kept q (owed_blind g n m)) (t x) x w in
        let o : Owed g n m v =
        (elim (is_group g x) as (λ b. is_group g x ≡ b → b || list_any (λ y. is_group g y) gs ≡ true → Owed g n m v) [
          | true ↦ λ s r. here x gs w (and_left _ _ a) s (or_left _ _ e) p h
          | false ↦ λ s r.
              stuck gs v (and_right (list_all (λ y. before x.guid y.guid) gs) _ a) r (or_right (empty_at (t x) v (lowest_ended x.guid v.held)) _ e) p h
        ]) refl k in
        omega arith
