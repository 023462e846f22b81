-- is_empty is alike on both sides.
use Prim.Native.Nat.{ℕ, suc, ◌+◌}
use mathlib.Core.Path.{◌≡◌, refl, sym, ap, ◌∙◌, subst}
use mathlib.Core.Bool.{Bool, true, false, ◌&&◌, not}
use mathlib.Core.List.{List, [], ◌∷◌, map}
use Rattle.std.specs.Prelude.{Option, Some}
use native.Mathlib.Omega.{arith}
use lib.IntN.{ℤ}
use lib.Dec.{eqb}
use lib.ListN.{length}
use borrow.Author.Tests.{eqb-true, eqb-false, eq-eqb, ne_eqb}
use Rattle.laws.specs.Lists.{filter, list_all, list_any, count}
use Rattle.guids.specs.Guid.{Guid}
use Rattle.rules.specs.Entry.{is_sample}
use Rattle.rules.specs.declared.entry.Entry.{Entry}
use Rattle.rules.specs.State.{State}
use Rattle.rules.specs.Run.{nothing_waits}
use Rattle.laws.proofs.Lists.{and_left, and_right, none_some, none_not_some, true_or_false, count_none, count_any}
use Rattle.source_model.specs.Map.{Order, guids, or_default, get, ascends}
use Rattle.source_model.specs.Source.{GroupOrder, no_group, sum_of, is_empty}
use Rattle.source_model.specs.Source as S
use Rattle.source_model.proofs.Maps.{Lawful, guids_lawful, numbers_lawful, get_found, get_past, get_above}
use Rattle.source_model.proofs.Like.{as_entry, vec_of, is_at, PendingLike, Like}
use Rattle.source_model.proofs.Ready.{all_ext, all_two}
use Rattle.source_model.proofs.Figures.{pending_count, members_held, always, sum_ext}

-- what holds of all values that the keys find, holds of the map
module _ {K A : Type 0} {o : Order K} (lo : Lawful o) where
  pub all_found : (p q : K × A → Bool) (m : List (K × A)) → ascends o m ≡ true → ((x : K × A) → get o x.0 m ≡ Some x.1 → p x ≡ q x) → list_all p m ≡ list_all q m
  unfolding ascends
  all_found p q [] a h = refl
  all_found p q (x ∷ m) a h =
      let c : list_all p m ≡ list_all q m = all_found p q m (and_right (list_all (λ y. o.less x.0 y.0) m) _ a)
      (λ y d. h y (get_past lo y.0 x m (true_or_false (o.same y.0 x.0) (λ e. none_not_some (get o y.0 m) y.1 (ap (λ k. get o k m) (lo.same_is y.0 x.0 e) ∙ get_above lo x.0 m (and_left (list_all (λ y. o.less x.0 y.0) m) _ a)) d)) ∙ d)) in
      ap (λ b. b && list_all p m) (h x (get_found lo x.0 x m (lo.same_self x.0))) ∙ ap (λ b. q x && b) c

zero_sum : {A : Type 0} (f : A → ℕ) (l : List A) → eqb (sum_of f l) 0 ≡ list_all (λ a. eqb (f a) 0) l
unfolding sum_of
zero_sum f [] = refl
zero_sum f (a ∷ l) =
    (elim (eqb (f a) 0) as (λ t. eqb (f a) 0 ≡ t → eqb (f a + sum_of f l) 0 ≡ t && list_all (λ a. eqb (f a) 0) l) [
      | true ↦ λ e. ap (λ n. eqb n 0) (let d = eqb-true (f a) 0 e in let q : f a + sum_of f l ≡ sum_of f l = omega (arith, d) in q) ∙ zero_sum f l
      | false ↦ λ e. ne_eqb (f a + sum_of f l) 0 (λ q. eqb-false (f a) 0 e (omega (arith, q)))
    ]) refl

never_empty : {A : Type 0} (l : List A) (v : List A) → vec_of l ≡ Some v → eqb (length v) 0 ≡ false
never_empty [] v e = none_some v e
never_empty (a ∷ l) v e = let q : a ∷ l ≡ v = cc in ap (λ r. eqb (length r) 0) (sym q) ∙ ne_eqb (suc (length l)) 0 (λ d. omega (arith, d))

all_none : {A : Type 0} (l : List A) → list_all (λ a. false) l ≡ eqb (length l) 0
all_none [] = refl
all_none (x ∷ l) = sym (ne_eqb (suc (length l)) 0 (λ d. omega (arith, d)))

module _ {X : Type 0} where
  -- a map of pending entries is empty exactly when it holds none
  pending_empty : (g : Guid) (m : List (ℤ × List (S.Entry X))) (l : List (Entry X)) → PendingLike g m l → eqb (sum_of (λ v. length v.1) m) 0 ≡ eqb (length m) 0
  pending_empty g m l k =
      zero_sum (λ v. length v.1) m
      ∙ all_found numbers_lawful (λ v. eqb (length v.1) 0) (λ v. false) m k.ascend (λ x d. never_empty (map (λ e. as_entry e) (filter (λ e. is_at g x.0 e) l)) x.1 (sym (k.at x.0) ∙ d))
      ∙ all_none m

  none_any : (q : Entry X → Bool) (l : List (Entry X)) → not (list_any q l) ≡ eqb (count q l) 0
  none_any q l =
      (elim (list_any q l) as (λ t. list_any q l ≡ t → not t ≡ eqb (count q l) 0) [
        | true ↦ λ e. sym (ne_eqb (count q l) 0 (λ d. omega (arith, d, count_any q l e)))
        | false ↦ λ e. sym (eq-eqb (count q l) 0 (count_none q l e))
      ]) refl

module _ {X : Type 0} (o : GroupOrder X) (s : State X) (l : Like o s) where
  own_pending : (x : Guid × S.Group X) → get guids x.0 o.groups ≡ Some x.1 → PendingLike x.0 x.1.pending s.pending
  own_pending x d = subst (λ (u : Option (S.Group X)). PendingLike x.0 (or_default no_group u).pending s.pending) d (l.each x.0).pending

  pub empty_same : nothing_waits s ≡ is_empty o
  unfolding nothing_waits is_empty
  empty_same =
      let a : length s.pending ≡ sum_of (λ x. sum_of (λ v. length v.1) x.1.pending) o.groups =
      sym (always o s l s.pending) ∙ pending_count o s l (λ e. true) (λ e. true) (λ e. refl) ∙ sum_ext (λ x. sum_of (λ v. count (λ e. true) v.1) x.1.pending) (λ x. sum_of (λ v. length v.1) x.1.pending) (λ x. sum_ext (λ v. count (λ e. true) v.1) (λ v. length v.1) (λ v. always o s l v.1) x.1.pending) o.groups in
      let b : count (λ h. is_sample h) s.held ≡ sum_of (λ x. sum_of (λ z. length z.1.members) x.1.sets) o.groups = members_held o s l in
      let c : eqb (length s.pending) 0 ≡ list_all (λ x. eqb (length x.1.pending) 0) o.groups =
      ap (λ n. eqb n 0) a ∙ zero_sum (λ x. sum_of (λ v. length v.1) x.1.pending) o.groups
      ∙ all_found guids_lawful (λ x. eqb (sum_of (λ v. length v.1) x.1.pending) 0) (λ x. eqb (length x.1.pending) 0) o.groups l.ascend (λ x d. pending_empty x.0 x.1.pending s.pending (own_pending x d)) in
      let d : not (list_any (λ h. is_sample h) s.held) ≡ list_all (λ x. list_all (λ z. eqb (length z.1.members) 0) x.1.sets) o.groups =
      none_any (λ h. is_sample h) s.held ∙ ap (λ n. eqb n 0) b ∙ zero_sum (λ x. sum_of (λ z. length z.1.members) x.1.sets) o.groups
      ∙ all_ext (λ x. eqb (sum_of (λ z. length z.1.members) x.1.sets) 0) (λ x. list_all (λ z. eqb (length z.1.members) 0) x.1.sets) (λ x. zero_sum (λ z. length z.1.members) x.1.sets) o.groups in
      ap (λ t. t && not (list_any (λ h. is_sample h) s.held)) c ∙ ap (λ t. list_all (λ x. eqb (length x.1.pending) 0) o.groups && t) d
      ∙ sym (all_two (λ x. eqb (length x.1.pending) 0) (λ x. list_all (λ z. eqb (length z.1.members) 0) x.1.sets) o.groups)
