-- The lowest number and the lowest set number of a list: some entry has it and none is below it.
use Prim.Native.Nat.{ℕ, min}
use mathlib.Core.Path.{◌≡◌, refl, sym, ap, ◌∙◌}
use mathlib.Core.Bool.{Bool, true, false, ◌&&◌, ◌||◌, not, cond}
use mathlib.Core.List.{List, [], ◌∷◌}
use Rattle.std.specs.Prelude.{Option, Some, None}
use native.Mathlib.Omega.{arith}
use lib.IntN.{ℤ, pos, negsuc}
use lib.Signed.{lt_z}
use lib.Dec.{leb, eqb}
use borrow.Author.Tests.{ltb-true, ltb-false, leb-true, leb-false, le-leb, le-ltb, eqb-true, eq-eqb, not-true}
use Rattle.laws.specs.Whole.{eq_z}
use Rattle.laws.specs.Lists.{filter, list_all, list_any, is_some}
use Rattle.guids.specs.Guid.{Guid}
use Rattle.rules.specs.Entry.{Entry, is_set, of_group, in_set, marks}
use Rattle.rules.specs.Offer.{shares}
use Rattle.rules.specs.Sets.{lesser, lowest_set, lowest_ended, is_stale, lowest_stale}
use Rattle.rules.specs.Commit.{Turn, least, lowest_number, next, is_head}
use Rattle.laws.proofs.Lists.{not_both, and_true, and_left, and_right, or_true_left, or_true_right, none_not_some, all_imp, any_kept, kept_none, all_unkept}

-- ---- whole numbers

pub eq_z_refl : (a : ℤ) → eq_z a a ≡ true
eq_z_refl (pos a) = eq-eqb a a refl
eq_z_refl (negsuc a) = eq-eqb a a refl

pub eq_z_eq : (a b : ℤ) → eq_z a b ≡ true → a ≡ b
eq_z_eq (pos a) (pos b) e = ap pos (eqb-true a b e)
eq_z_eq (pos a) (negsuc b) e = not_both false e refl
eq_z_eq (negsuc a) (pos b) e = not_both false e refl
eq_z_eq (negsuc a) (negsuc b) e = ap negsuc (eqb-true a b e)

lt_z_irrefl : (a : ℤ) → lt_z a a ≡ false
lt_z_irrefl (pos a) = le-ltb a a (omega arith)
lt_z_irrefl (negsuc a) = le-ltb a a (omega arith)

-- not below is transitive
not_below : (a b c : ℤ) → lt_z b a ≡ false → lt_z c b ≡ false → lt_z c a ≡ false
not_below (pos a) (pos b) (pos c) d e = le-ltb c a (omega (arith, ltb-false b a d, ltb-false c b e))
not_below (pos a) (pos b) (negsuc c) d e = e
not_below (pos a) (negsuc b) c d e = not_both true refl d
not_below (negsuc a) b (pos c) d e = refl
not_below (negsuc a) (pos b) (negsuc c) d e = not_both true refl e
not_below (negsuc a) (negsuc b) (negsuc c) d e = le-ltb a c (omega (arith, ltb-false a b d, ltb-false b c e))

below_not_above : (a b : ℤ) → lt_z b a ≡ true → lt_z a b ≡ false
below_not_above (pos a) (pos b) e = le-ltb a b (omega (arith, ltb-true b a e))
below_not_above (pos a) (negsuc b) e = refl
below_not_above (negsuc a) (pos b) e = not_both false e refl
below_not_above (negsuc a) (negsuc b) e = le-ltb b a (omega (arith, ltb-true a b e))

-- a set number that is no lower than z
abbrev pub not_under : ℤ → Option ℤ → Bool
not_under z None = true
not_under z (Some y) = not (lt_z y z)

setless : (z : ℤ) (s : Option ℤ) → not (is_some s) ≡ true → not_under z s ≡ true
unfolding is_some
setless z None e = refl
setless z (Some y) e = not_both false e refl

under_less : (a b : ℤ) (s : Option ℤ) → lt_z b a ≡ false → not_under b s ≡ true → not_under a s ≡ true
under_less a b None d e = refl
under_less a b (Some y) d e = ap not (not_below a b y d (not-true (lt_z y b) e))

module _ {X : Type 0} where
  -- ---- numbers

  pub lowest_number_none : (l : List (Entry X)) → lowest_number l ≡ None → l ≡ []
  unfolding lowest_number
  lowest_number_none [] h = refl
  lowest_number_none (e ∷ l) h = (elim (lowest_number l) as (λ o. least e.number o ≡ None → e ∷ l ≡ []) [ None ↦ λ k. none_not_some (Some e.number) e.number k refl | Some m ↦ λ k. none_not_some (Some (min e.number m)) (min e.number m) k refl ]) h

  -- no entry's number is below the lowest
  pub lowest_number_lower : (l : List (Entry X)) (n : ℕ) → lowest_number l ≡ Some n → list_all (λ e. leb n e.number) l ≡ true
  unfolding lowest_number
  lowest_number_lower [] n h = refl
  lowest_number_lower (e ∷ l) n h =
      (elim (lowest_number l) as (λ o. lowest_number l ≡ o → least e.number o ≡ Some n → leb n e.number && list_all (λ e. leb n e.number) l ≡ true) [
        | None ↦ λ d k.
            let z : e.number ≡ n = cc in
            rw (lowest_number_none l d) (and_true (leb n e.number) true (le-leb n e.number (omega arith)) refl)
        | Some m ↦ λ d k.
            let z : min e.number m ≡ n = cc in
            and_true (leb n e.number) _ (le-leb n e.number (omega arith))
            (all_imp (λ x. leb m x.number) (λ x. leb n x.number) (λ x y. le-leb n x.number (omega (arith, leb-true m x.number y))) l (lowest_number_lower l m d))
      ]) refl h

  -- some entry has it
  pub lowest_number_attained : (l : List (Entry X)) (n : ℕ) → lowest_number l ≡ Some n → list_any (λ e. eqb n e.number) l ≡ true
  unfolding lowest_number
  lowest_number_attained [] n h = none_not_some None n refl h
  lowest_number_attained (e ∷ l) n h =
      (elim (lowest_number l) as (λ o. lowest_number l ≡ o → least e.number o ≡ Some n → eqb n e.number || list_any (λ e. eqb n e.number) l ≡ true) [
        | None ↦ λ d k. let z : e.number ≡ n = cc in or_true_left (eqb n e.number) _ (eq-eqb n e.number (sym z))
        | Some m ↦ λ d k.
            let z : min e.number m ≡ n = cc in
            (elim (leb e.number m) as (λ b. leb e.number m ≡ b → eqb n e.number || list_any (λ e. eqb n e.number) l ≡ true) [
              | true ↦ λ f. or_true_left (eqb n e.number) _ (eq-eqb n e.number (omega (arith, leb-true e.number m f)))
              | false ↦ λ f. or_true_right (eqb n e.number) _ (lowest_number_attained l n (d ∙ ap Some (omega (arith, leb-false e.number m f))))
            ]) refl
      ]) refl h

  -- ---- set numbers

  -- without a lowest set number no entry has one
  pub lowest_set_none : (l : List (Entry X)) → lowest_set l ≡ None → list_all (λ e. not (is_some e.set)) l ≡ true
  unfolding lowest_set is_some
  lowest_set_none [] h = refl
  lowest_set_none (e ∷ l) h =
      (elim e.set as (λ s. lesser s (lowest_set l) ≡ None → not (is_some s) && list_all (λ e. not (is_some e.set)) l ≡ true) [
        | None ↦ λ k. lowest_set_none l k
        | Some a ↦ λ k. (elim (lowest_set l) as (λ o. lesser (Some a) o ≡ None → false ≡ true) [ None ↦ λ u. none_not_some (Some a) a u refl | Some b ↦ λ u. none_not_some (Some (cond (lt_z b a) b a)) (cond (lt_z b a) b a) u refl ]) k
      ]) h

  -- no entry's set number is below the lowest
  pub lowest_set_lower : (l : List (Entry X)) (z : ℤ) → lowest_set l ≡ Some z → list_all (λ e. not_under z e.set) l ≡ true
  unfolding lowest_set
  lowest_set_lower [] z h = refl
  lowest_set_lower (e ∷ l) z h =
      (elim e.set as (λ s. lesser s (lowest_set l) ≡ Some z → not_under z s && list_all (λ e. not_under z e.set) l ≡ true) [
        | None ↦ λ k. lowest_set_lower l z k
        | Some a ↦ λ k.
            (elim (lowest_set l) as (λ o. lowest_set l ≡ o → lesser (Some a) o ≡ Some z → not (lt_z a z) && list_all (λ e. not_under z e.set) l ≡ true) [
              | None ↦ λ d u.
                  let y : a ≡ z = cc in
                  and_true (not (lt_z a z)) _ (rw (← y) (ap not (lt_z_irrefl a))) (all_imp (λ e. not (is_some e.set)) (λ e. not_under z e.set) (λ e f. setless z e.set f) l (lowest_set_none l d))
              | Some b ↦ λ d u.
                  (elim (lt_z b a) as (λ t. lt_z b a ≡ t → Some (cond t b a) ≡ Some z → not (lt_z a z) && list_all (λ e. not_under z e.set) l ≡ true) [
                    | true ↦ λ f v.
                        let y : b ≡ z = cc in
                        and_true (not (lt_z a z)) _ (rw (← y) (ap not (below_not_above a b f))) (lowest_set_lower l z (d ∙ v))
                    | false ↦ λ f v.
                        let y : a ≡ z = cc in
                        rw (← y) (and_true (not (lt_z a a)) _ (ap not (lt_z_irrefl a)) (all_imp (λ e. not_under b e.set) (λ e. not_under a e.set) (λ e g. under_less a b e.set f g) l (lowest_set_lower l b d)))
                  ]) refl u
            ]) refl k
      ]) h

  -- some entry has it
  pub lowest_set_attained : (l : List (Entry X)) (z : ℤ) → lowest_set l ≡ Some z → list_any (λ e. is_set z e.set) l ≡ true
  unfolding lowest_set
  lowest_set_attained [] z h = none_not_some None z refl h
  lowest_set_attained (e ∷ l) z h =
      (elim e.set as (λ s. lesser s (lowest_set l) ≡ Some z → is_set z s || list_any (λ e. is_set z e.set) l ≡ true) [
        | None ↦ λ k. lowest_set_attained l z k
        | Some a ↦ λ k.
            (elim (lowest_set l) as (λ o. lowest_set l ≡ o → lesser (Some a) o ≡ Some z → eq_z z a || list_any (λ e. is_set z e.set) l ≡ true) [
              | None ↦ λ d u. let y : a ≡ z = cc in or_true_left (eq_z z a) _ (rw y (eq_z_refl z))
              | Some b ↦ λ d u.
                  (elim (lt_z b a) as (λ t. Some (cond t b a) ≡ Some z → eq_z z a || list_any (λ e. is_set z e.set) l ≡ true) [
                    | true ↦ λ v. or_true_right (eq_z z a) _ (lowest_set_attained l z (d ∙ v))
                    | false ↦ λ v. let y : a ≡ z = cc in or_true_left (eq_z z a) _ (rw y (eq_z_refl z))
                  ]) u
            ]) refl k
      ]) h

  -- ---- a group's next number, its lowest ended set and the lowest stale one

  pub next_none : (t : Turn) (l : List (Entry X)) → next t l ≡ None → list_any (λ e. of_group t.guid e) l ≡ false
  unfolding next
  next_none t l h = kept_none (λ e. of_group t.guid e) l (lowest_number_none (filter (λ e. of_group t.guid e) l) h)

  pub next_lower : (t : Turn) (l : List (Entry X)) (n : ℕ) → next t l ≡ Some n → list_all (λ e. not (of_group t.guid e) || leb n e.number) l ≡ true
  unfolding next
  next_lower t l n h = all_unkept (λ e. leb n e.number) (λ e. of_group t.guid e) l (lowest_number_lower (filter (λ e. of_group t.guid e) l) n h)

  pub next_head : (t : Turn) (l : List (Entry X)) (n : ℕ) → next t l ≡ Some n → list_any (λ e. is_head t n e) l ≡ true
  unfolding next is_head
  next_head t l n h = any_kept (λ e. eqb n e.number) (λ e. of_group t.guid e) (λ e. of_group t.guid e && eqb n e.number) (λ e p q. and_true (of_group t.guid e) _ p q) l (lowest_number_attained (filter (λ e. of_group t.guid e) l) n h)

  pub ended_there : (g : Guid) (l : List (Entry X)) (z : ℤ) → lowest_ended g l ≡ Some z → list_any (λ h. in_set g z h && marks h) l ≡ true
  unfolding lowest_ended in_set
  ended_there g l z h = any_kept (λ x. is_set z x.set) (λ x. of_group g x && marks x) (λ x. of_group g x && is_set z x.set && marks x) (λ x p q. and_true (of_group g x && is_set z x.set) (marks x) (and_true (of_group g x) _ (and_left (of_group g x) _ p) q) (and_right (of_group g x) _ p)) l (lowest_set_attained (filter (λ x. of_group g x && marks x) l) z h)

  pub stale_there : (e : Entry X) (l : List (Entry X)) (z : ℤ) → lowest_stale e l ≡ Some z → list_any (λ h. in_set e.group z h && is_stale e l h) l ≡ true
  unfolding lowest_stale in_set is_stale
  stale_there e l z h = any_kept (λ x. is_set z x.set) (λ x. is_stale e l x) (λ x. of_group e.group x && is_set z x.set && is_stale e l x) (λ x p q. and_true (of_group e.group x && is_set z x.set) (is_stale e l x) (and_true (of_group e.group x) _ (and_left (of_group e.group x) _ (and_left (of_group e.group x && not (list_any (λ m. shares x m && marks m) l)) _ p)) q) p) l (lowest_set_attained (filter (λ x. is_stale e l x) l) z h)
