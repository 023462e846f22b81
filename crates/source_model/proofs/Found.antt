-- The first of an ascending map that passes has the lowest key of those that pass.
use mathlib.Core.Path.{◌≡◌, refl, sym, ap, ◌∙◌}
use mathlib.Core.Bool.{Bool, true, false, not, cond}
use mathlib.Core.List.{List, [], ◌∷◌}
use Rattle.std.specs.Prelude.{Option, Some, None}
use lib.IntN.{ℤ}
use lib.Signed.{lt_z}
use borrow.Author.Tests.{not-true}
use Rattle.laws.specs.Whole.{eq_z}
use Rattle.laws.specs.Lists.{list_all, list_any, find, is_some}
use Rattle.rules.specs.Entry.{is_set}
use Rattle.rules.specs.declared.entry.Entry.{Entry}
use Rattle.rules.specs.Sets.{lowest_set}
use Rattle.laws.proofs.Lists.{not_both, and_left, and_right, none_some, none_not_some, true_or_false, any_all}
use Rattle.rules.proofs.Minima.{eq_z_eq, not_under, lowest_set_none, lowest_set_lower, lowest_set_attained}
use Rattle.source_model.specs.Map.{Order, numbers, get, ascends}
use Rattle.source_model.specs.Source.{is_some_and}
use Rattle.source_model.proofs.Maps.{Lawful, numbers_lawful, get_above}

abbrev pub key_of : {K A : Type 0} → Option (K × A) → Option K
key_of None = None
key_of (Some x) = Some x.0

-- ---- in a map

module _ {K A : Type 0} {o : Order K} (lo : Lawful o) (p : K × A → Bool) where
  pub passes_none : (m : List (K × A)) → find p m ≡ None → (k : K) → is_some_and (λ v. p (k, v)) (get o k m) ≡ false
  unfolding get
  passes_none [] e k = refl
  passes_none (x ∷ m) e k =
      (elim (p x) as (λ t. p x ≡ t → cond t (Some x) (find p m) ≡ None → is_some_and (λ v. p (k, v)) (cond (o.same k x.0) (Some x.1) (get o k m)) ≡ false) [
        | true ↦ λ d f. none_some x (sym f)
        | false ↦ λ d f. (elim (o.same k x.0) as (λ t. o.same k x.0 ≡ t → is_some_and (λ v. p (k, v)) (cond t (Some x.1) (get o k m)) ≡ false) [
          | true ↦ λ q. ap (λ j. p (j, x.1)) (lo.same_is k x.0 q) ∙ d
          | false ↦ λ q. passes_none m f k
        ]) refl
      ]) refl e

  pub passes_own : (m : List (K × A)) (x : K × A) → ascends o m ≡ true → find p m ≡ Some x → (get o x.0 m ≡ Some x.1) × (p x ≡ true)
  unfolding get ascends
  passes_own [] x a e = none_some x e
  passes_own (y ∷ m) x a e =
      (elim (p y) as (λ t. p y ≡ t → cond t (Some y) (find p m) ≡ Some x → (cond (o.same x.0 y.0) (Some y.1) (get o x.0 m) ≡ Some x.1) × (p x ≡ true)) [
        | true ↦ λ d f. let q : y ≡ x = cc in rw (← q) (rw (lo.same_self y.0), d)
        | false ↦ λ d f.
            let h = passes_own m x (and_right (list_all (λ z. o.less y.0 z.0) m) _ a) f in
            (elim (o.same x.0 y.0) as (λ t. o.same x.0 y.0 ≡ t → (cond t (Some y.1) (get o x.0 m) ≡ Some x.1) × (p x ≡ true)) [
              | true ↦ λ q. none_not_some (get o x.0 m) x.1 (ap (λ k. get o k m) (lo.same_is x.0 y.0 q) ∙ get_above lo y.0 m (and_left (list_all (λ z. o.less y.0 z.0) m) _ a)) h.0
              | false ↦ λ q. h
            ]) refl
      ]) refl e

module _ {K : Type 0} {o : Order K} (lo : Lawful o) where
  less_self : (a : K) → o.less a a ≡ false
  less_self a = true_or_false (o.less a a) (λ e. not_both (o.same a a) (lo.same_self a) (lo.less_apart a a e))

  less_back : (a b : K) → o.less a b ≡ true → o.less b a ≡ false
  less_back a b e = true_or_false (o.less b a) (λ f. not_both (o.less a a) (lo.trans a b a e f) (less_self a))

module _ {K A : Type 0} {o : Order K} (lo : Lawful o) (p : K × A → Bool) where
  in_above : (a k : K) (m : List (K × A)) → list_all (λ z. o.less a z.0) m ≡ true → is_some_and (λ v. p (k, v)) (get o k m) ≡ true → o.less a k ≡ true
  unfolding get
  in_above a k [] e f = not_both false f refl
  in_above a k (y ∷ m) e f =
      (elim (o.same k y.0) as (λ t. o.same k y.0 ≡ t → is_some_and (λ v. p (k, v)) (cond t (Some y.1) (get o k m)) ≡ true → o.less a k ≡ true) [
        | true ↦ λ d g. rw (lo.same_is k y.0 d) (and_left (o.less a y.0) _ e)
        | false ↦ λ d g. in_above a k m (and_right (o.less a y.0) _ e) g
      ]) refl f

  pub passes_least : (m : List (K × A)) (x : K × A) (k : K) → ascends o m ≡ true → find p m ≡ Some x → is_some_and (λ v. p (k, v)) (get o k m) ≡ true → o.less k x.0 ≡ false
  unfolding get ascends
  passes_least [] x k a e f = none_some x e
  passes_least (y ∷ m) x k a e f =
      (elim (p y) as (λ t. p y ≡ t → cond t (Some y) (find p m) ≡ Some x → o.less k x.0 ≡ false) [
        | true ↦ λ d g.
            let q : y ≡ x = cc in
            rw (← q)
            ((elim (o.same k y.0) as (λ t. o.same k y.0 ≡ t → is_some_and (λ v. p (k, v)) (cond t (Some y.1) (get o k m)) ≡ true → o.less k y.0 ≡ false) [
              | true ↦ λ h i. rw (lo.same_is k y.0 h) (less_self lo y.0)
              | false ↦ λ h i. less_back lo y.0 k (in_above y.0 k m (and_left (list_all (λ z. o.less y.0 z.0) m) _ a) i)
            ]) refl f)
        | false ↦ λ d g.
            (elim (o.same k y.0) as (λ t. o.same k y.0 ≡ t → is_some_and (λ v. p (k, v)) (cond t (Some y.1) (get o k m)) ≡ true → o.less k x.0 ≡ false) [
              | true ↦ λ h i. not_both (p y) (ap (λ j. p (j, y.1)) (sym (lo.same_is k y.0 h)) ∙ i) d
              | false ↦ λ h i. passes_least m x k (and_right (list_all (λ z. o.less y.0 z.0) m) _ a) g i
            ]) refl f
      ]) refl e

-- ---- the lowest set number

pub eq_below : (a b : ℤ) → lt_z a b ≡ false → lt_z b a ≡ false → a ≡ b
unfolding numbers
eq_below a b d e =
    (elim (eq_z a b) as (λ t. eq_z a b ≡ t → a ≡ b) [
      | true ↦ λ q. eq_z_eq a b q
      | false ↦ λ q. not_both (lt_z b a) (numbers_lawful.third a b q d) e
    ]) refl

set_under : (x z : ℤ) (s : Option ℤ) → is_set x s ≡ true → not_under z s ≡ true → lt_z x z ≡ false
set_under x z None e f = not_both false e refl
set_under x z (Some y) e f = ap (λ k. lt_z k z) (eq_z_eq x y e) ∙ not-true (lt_z y z) f

set_some : {R : Type 0} (x : ℤ) (s : Option ℤ) → is_set x s ≡ true → not (is_some s) ≡ true → R
unfolding is_some
set_some x None e f = not_both false e refl
set_some x (Some y) e f = not_both false f refl

module _ {X A : Type 0} (p : ℤ × A → Bool) (m : List (ℤ × A)) (l : List (Entry X)) (a : ascends numbers m ≡ true)
    (same : (z : ℤ) → list_any (λ h. is_set z h.set) l ≡ is_some_and (λ s. p (z, s)) (get numbers z m)) where
  found_both : (u : Option (ℤ × A)) (w : Option ℤ) → find p m ≡ u → lowest_set l ≡ w → key_of u ≡ w
  unfolding numbers
  found_both None None c d = refl
  found_both None (Some z) c d = not_both (list_any (λ h. is_set z h.set) l) (lowest_set_attained l z d) (same z ∙ passes_none numbers_lawful p m c z)
  found_both (Some x) None c d =
      let o = passes_own numbers_lawful p m x a c in
      any_all (λ h. is_set x.0 h.set) (λ h. not (is_some h.set)) (λ h e f. set_some x.0 h.set e f) l (same x.0 ∙ ap (λ u. is_some_and (λ s. p (x.0, s)) u) o.0 ∙ o.1) (lowest_set_none l d)
  found_both (Some x) (Some z) c d =
      let o = passes_own numbers_lawful p m x a c in
      ap Some (eq_below x.0 z
      (any_all (λ h. is_set x.0 h.set) (λ h. not_under z h.set) (λ h e f. set_under x.0 z h.set e f) l (same x.0 ∙ ap (λ u. is_some_and (λ s. p (x.0, s)) u) o.0 ∙ o.1) (lowest_set_lower l z d))
      (passes_least numbers_lawful p m x z a c (sym (same z) ∙ lowest_set_attained l z d)))

  pub found_lowest : key_of (find p m) ≡ lowest_set l
  found_lowest = found_both (find p m) (lowest_set l) refl refl
