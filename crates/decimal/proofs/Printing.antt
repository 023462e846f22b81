-- A number's digits are those that std prints.
use Rattle.std.proofs.Common.{◌≡◌, ℕ, zero, suc, ◌+◌, ◌/◌, ◌%◌, ◌^◌, ◌≤◌, ◌<◌, List, [], ◌∷◌, ◌++◌, refl, sym, ap, ◌∙◌, arith, lt-ltb, le-ltb, ltb, ℤ, pos, negsuc, true, false}
use mir.Syntax.{w64}
use mir.Val.{SFits, to_z, of_z}
use lib.IntN.{nat_abs}
use lib.Signed.{lt_z}
use borrow.Author.Tests.{ltb-true}
use Rattle.std.specs.Fmt.{decimal, signed_decimal}
use Rattle.std.proofs.lemmas.Int.{to_z-of_z}
use Rattle.std.proofs.lemmas.Fmt.{decimal_by_steps}
use Rattle.decimal.specs.Print.{one_or, digits_in, digits_of, signed_digits}

-- more room than the digits take changes nothing
digits_room : (j k n : ℕ) → n < 10 ^ suc j → n < 10 ^ suc k → digits_in j n ≡ digits_in k n
unfolding digits_in one_or
digits_room zero zero n a b = refl
digits_room zero (suc k) n a b = simp (lt-ltb n 10 a)
digits_room (suc j) zero n a b = simp (lt-ltb n 10 b)
digits_room (suc j) (suc k) n a b = ap (one_or (ltb n 10) n) (digits_room j k (n / 10) (omega arith) (omega arith))

pub digits_one : (n : ℕ) → n < 10 → digits_of n ≡ (48 + n) ∷ []
unfolding digits_of digits_in one_or
digits_one n h = simp (lt-ltb n 10 h)

digits_more : (n : ℕ) → n < 10 ^ 20 → 10 ≤ n → digits_of n ≡ digits_of (n / 10) ++ ((48 + n % 10) ∷ [])
unfolding digits_of digits_in one_or
digits_more n b h =
    simp (le-ltb n 10 h) (ap (λ ds. ds ++ ((48 + n % 10) ∷ [])) (digits_room 18 19 (n / 10) (omega arith) (omega arith)))

pub digits_decimal : (n : ℕ) → n < 2 ^ 64 → digits_of n ≡ decimal n
digits_decimal n h =
    decimal_by_steps
    (λ n ds. n < 10 ^ 20 → digits_of n ≡ ds)
    (λ n l b. digits_one n l)
    (λ n ds l p b. digits_more n b l ∙ ap (λ ds. ds ++ ((48 + n % 10) ∷ [])) (p (omega arith)))
    n
    h
    (omega arith)

pub signed_digits_decimal : (z : ℤ) → SFits w64 z → signed_digits z ≡ signed_decimal z
unfolding signed_digits
signed_digits_decimal (pos n) h = let b : n < 2 ^ 63 = h.sfits in digits_decimal n (omega arith)
signed_digits_decimal (negsuc n) h = let b : n < 2 ^ 63 = h.sfits in ap (λ ds. 45 ∷ ds) (digits_decimal (suc n) (omega arith))

-- what is printed of x's 64 bits
pub printed : (x : ℤ) (s : List ℕ) → SFits w64 x → s ≡ signed_decimal (to_z w64 (of_z w64 x)) → s ≡ signed_digits x
printed x s h e = e ∙ ap (λ (z : ℤ). signed_decimal z) (to_z-of_z w64 x h) ∙ sym (signed_digits_decimal x h)

-- ---- by a number's sign and its size

pub minus_digits : (x : ℤ) → lt_z x (pos 0) ≡ true → 45 ∷ digits_of (nat_abs x) ≡ signed_digits x
unfolding signed_digits
minus_digits (pos n) e = absurd (omega (arith, ltb-true n 0 e))
minus_digits (negsuc n) e = refl

pub plus_digits : (x : ℤ) → lt_z x (pos 0) ≡ false → digits_of (nat_abs x) ≡ signed_digits x
unfolding signed_digits
plus_digits (pos n) e = refl
plus_digits (negsuc n) e = cc
