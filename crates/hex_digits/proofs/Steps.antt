-- Laws of one step: a digit looked at, a byte filled in; and what is refused.
use Prim.Native.Nat.{ℕ, zero, suc, ◌+◌, ◌*◌, ◌≤◌, ◌<◌}
use mathlib.Core.Path.{◌≡◌, refl, sym, ap, ◌∙◌}
use mathlib.Core.Bool.{Bool, true, false, ◌&&◌}
use mathlib.Core.List.{List, [], ◌∷◌}
use Rattle.std.specs.Prelude.{Option, None, Some}
use Rattle.std.specs.Option.{unwrap_or}
use native.Mathlib.Numerals.{add-one}
use native.Mathlib.Omega.{arith}
use borrow.Author.Tests.{lt-ltb, le-ltb, ltb-true, eq-eqb, ne_eqb}
use lib.Dec.{ltb}
use lib.ListN.{length, drop, get_or, set}
use lib.Seq.{drop-cons, drop-set-lt, get_or-set_same, lt-length-set}
use Rattle.hex_digits.specs.Hex.{value_of, before, unhex, over_by, over, unhex_to, has, are_digits, half_by, half}

-- ---- digits looked at

-- a digit's value, or 16
pub half_or : (v : Option ℕ) → ((n : ℕ) → v ≡ Some n → n < 16) → half (unwrap_or v 16) ≡ v
unfolding half half_by
half_or None f = refl
half_or (Some n) f = rw (lt-ltb n 16 (f n refl))

both : (t u : Bool) → t && u ≡ true → (t ≡ true) × (u ≡ true)
both true u e = (refl, e)
both false u e = let z : ◌≡◌ {A = ℕ} 0 1 = cc in absurd (omega arith)

has_at : (s : List ℕ) (i : ℕ) → are_digits s ≡ true → i < length s → has (value_of (get_or s i 0)) ≡ true
unfolding are_digits
has_at [] i e h = absurd (omega arith)
has_at (b ∷ s) zero e h = (both (has (value_of b)) (are_digits s) e).0
has_at (b ∷ s) (suc i) e h = has_at s i (both (has (value_of b)) (are_digits s) e).1 (omega arith)

value_by : (n : ℕ) (v : Option ℕ) (t : Bool) → ltb n 16 ≡ t → half_by t n ≡ v → has v ≡ true → (n < 16) × (v ≡ Some n)
unfolding half_by has
value_by n v true e p h = (ltb-true n 16 e, sym p)
value_by n v false e p h = let z : false ≡ true = ap has p ∙ h in let y : ◌≡◌ {A = ℕ} 0 1 = cc in absurd (omega arith)

module _ (s : List ℕ) (i n : ℕ) (h : i < length s) (e : half n ≡ value_of (get_or s i 0)) where
  pub digit_here : n < 16 → are_digits (drop i s) ≡ are_digits (drop (i + 1) s)
  unfolding are_digits half half_by has
  digit_here l = rw (add-one, drop-cons s i 0 h, ← e, lt-ltb n 16 l)

  pub none_here : 16 ≤ n → are_digits (drop i s) ≡ false
  unfolding are_digits half half_by has
  none_here l = rw (drop-cons s i 0 h, ← e, le-ltb n 16 l)

  pub value_here : are_digits s ≡ true → (n < 16) × (value_of (get_or s i 0) ≡ Some n)
  unfolding half
  value_here a = value_by n (value_of (get_or s i 0)) (ltb n 16) refl e (has_at s i a h)

-- ---- a byte filled in

drop_two : (s : List ℕ) (k : ℕ) → suc k < length s → drop k s ≡ get_or s k 0 ∷ get_or s (k + 1) 0 ∷ drop (suc (suc k)) s
drop_two s k h = rw (add-one, drop-cons s k 0 (omega arith), drop-cons s (suc k) 0 h)

module _ (s l : List ℕ) (i j h m : ℕ) (e : j ≡ suc i) (p : i < length l) (q : 2 * j ≤ length s) where
  pub fill_more : value_of (get_or s (2 * i) 0) ≡ Some h → value_of (get_or s (2 * i + 1) 0) ≡ Some m → unhex (drop (2 * j) s) ≡ Some (drop j l)
      → unhex (drop (2 * i) s) ≡ Some (drop i (set l i (h * 16 + m)))
  unfolding unhex before
  fill_more a b r =
      let t : suc (suc (2 * i)) ≡ 2 * j = omega arith in
      let u = drop_two s (2 * i) (omega arith) ∙ ap (λ (k : ℕ). get_or s (2 * i) 0 ∷ get_or s (2 * i + 1) 0 ∷ drop k s) t in
      let w : drop i (set l i (h * 16 + m)) ≡ (h * 16 + m) ∷ drop j l =
      rw (drop-cons (set l i (h * 16 + m)) i 0 (lt-length-set l i (h * 16 + m) p), get_or-set_same l i (h * 16 + m) 0 p, drop-set-lt (suc i) l i (h * 16 + m) (omega arith), e) in
      rw (u, a, b, r, w)

-- ---- what is refused, and what is read

before_length : (x y : Option ℕ) (z : Option (List ℕ)) (l : List ℕ) (n : ℕ) → ((m : List ℕ) → z ≡ Some m → n ≡ 2 * length m)
    → before x y z ≡ Some l → suc (suc n) ≡ 2 * length l
unfolding before
before_length None y z l n f e = let w : ◌≡◌ {A = ℕ} 0 1 = cc in absurd (omega arith)
before_length (Some h) None z l n f e = let w : ◌≡◌ {A = ℕ} 0 1 = cc in absurd (omega arith)
before_length (Some h) (Some m) None l n f e = let w : ◌≡◌ {A = ℕ} 0 1 = cc in absurd (omega arith)
before_length (Some h) (Some m) (Some s) l n f e = let w : (h * 16 + m) ∷ s ≡ l = cc in rw (← w) (omega (arith, f s refl))

unhex_length : (s l : List ℕ) → unhex s ≡ Some l → length s ≡ 2 * length l
unfolding unhex
unhex_length [] l e = let w : [] ≡ l = cc in rw (← w)
unhex_length (a ∷ []) l e = let w : ◌≡◌ {A = ℕ} 0 1 = cc in absurd (omega arith)
unhex_length (a ∷ b ∷ s) l e = before_length (value_of a) (value_of b) (unhex s) l (length s) (unhex_length s) e

before_none : (x y : Option ℕ) (z : Option (List ℕ)) (t : Bool) → (t ≡ false → z ≡ None) → has x && (has y && t) ≡ false → before x y z ≡ None
unfolding before has
before_none None y z t f e = refl
before_none (Some h) None z t f e = refl
before_none (Some h) (Some m) z t f e = rw (f e)

unhex_none : (s : List ℕ) → are_digits s ≡ false → unhex s ≡ None
unfolding unhex are_digits
unhex_none [] e = let w : ◌≡◌ {A = ℕ} 0 1 = cc in absurd (omega arith)
unhex_none (a ∷ []) e = refl
unhex_none (a ∷ b ∷ s) e = before_none (value_of a) (value_of b) (unhex s) (are_digits s) (unhex_none s) e

module _ (s l : List ℕ) where
  over_other : (v : Option (List ℕ)) → ((m : List ℕ) → v ≡ Some m → length m ≡ length l → ⊥) → (false, l) ≡ over v l
  unfolding over over_by
  over_other None f = refl
  over_other (Some m) f = rw (ne_eqb (length m) (length l) (f m refl))

  pub other_length : (length s ≡ 2 * length l → ⊥) → (false, l) ≡ unhex_to s l
  unfolding unhex_to
  other_length h = over_other (unhex s) (λ m e q. h (omega (arith, unhex_length s m e)))

  pub no_digit : are_digits s ≡ false → (false, l) ≡ unhex_to s l
  unfolding unhex_to over
  no_digit e = rw (unhex_none s e)

  pub all_read : (m : List ℕ) → length s ≡ 2 * length l → unhex s ≡ Some m → (true, m) ≡ unhex_to s l
  unfolding unhex_to over over_by
  all_read m h e = rw (e, eq-eqb (length m) (length l) (omega (arith, unhex_length s m e)))
