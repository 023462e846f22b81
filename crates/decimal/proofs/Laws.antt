-- What is printed is read back; examples of the definitions.
use Prim.Native.Nat.{ℕ, zero, suc, ◌+◌, ◌-◌, ◌*◌, ◌/◌, ◌%◌, ◌^◌, ◌≤◌, ◌<◌}
use mathlib.Core.Path.{◌≡◌, refl, ap, ◌∙◌}
use mathlib.Core.Bool.{Bool, true, false}
use mathlib.Core.List.{List, [], ◌∷◌, ◌++◌}
use Rattle.std.specs.Prelude.{Option, None, Some}
use native.Mathlib.Nat.{div-add-mod'}
use native.Mathlib.Omega.{arith}
use borrow.Author.Tests.{ltb-true, ltb-false, le-leb, ne_eqb}
use lib.Dec.{ltb}
use lib.IntN.{negsuc}
use lib.ListN.{get_or}
use Rattle.decimal.specs.Read.{given, is_digit, read_on, plain, read_number, at_most, read_unsigned, minus, read_signed_by, read_signed}
use Rattle.decimal.specs.Print.{one_or, digits_in, digits_of}

-- ---- what holds of one digit, and of each more, holds of a number's digits

module _
    (P : ℕ → List ℕ → Type 0)
    (one : (n : ℕ) → n < 10 → P n ((48 + n) ∷ []))
    (more : (n : ℕ) (ds : List ℕ) → 10 ≤ n → P (n / 10) ds → P n (ds ++ ((48 + n % 10) ∷ [])))
  where
    digits_by : (n : ℕ) (ds : List ℕ) → P (n / 10) ds → (t : Bool) → ltb n 10 ≡ t → P n (one_or t n ds)
    unfolding one_or
    digits_by n ds p true e = one n (ltb-true n 10 e)
    digits_by n ds p false e = more n ds (ltb-false n 10 e) p

    digits_ind : (k n : ℕ) → n < 10 ^ suc k → P n (digits_in k n)
    unfolding digits_in
    digits_ind zero n h = one n (omega arith)
    digits_ind (suc k) n h = digits_by n (digits_in k (n / 10)) (digits_ind k (n / 10) (omega arith)) (ltb n 10) refl

-- ---- the digits read

given_some : (t : Bool) (a b : Option ℕ) (m n : ℕ) → (a ≡ Some m → b ≡ Some n) → given t a ≡ Some m → given t b ≡ Some n
unfolding given
given_some true a b m n f e = f e
given_some false a b m n f e = let z : ◌≡◌ {A = ℕ} 0 1 = cc in absurd (omega arith)

read_one : (v d : ℕ) → d < 10 → read_on v ((48 + d) ∷ []) ≡ Some (v * 10 + d)
unfolding read_on is_digit given
read_one v d h =
    let e : 48 + d - 48 ≡ d = omega arith in rw (le-leb 48 (48 + d) (omega arith), le-leb (48 + d) 57 (omega arith), e)

-- one digit more
read_more : (v m : ℕ) (s : List ℕ) (d : ℕ) → d < 10 → read_on v s ≡ Some m → read_on v (s ++ ((48 + d) ∷ [])) ≡ Some (m * 10 + d)
unfolding read_on
read_more v m [] d h e = let p : v ≡ m = cc in rw (← p) (read_one v d h)
read_more v m (b ∷ s) d h e =
    let w = v * 10 + (b - 48) in
    given_some (is_digit b) (read_on w s) (read_on w (s ++ ((48 + d) ∷ []))) m (m * 10 + d) (read_more w m s d h) e

digits_read : (n : ℕ) → n < 10 ^ 20 → read_on 0 (digits_of n) ≡ Some n
unfolding digits_of
digits_read n b =
    digits_ind
    (λ n ds. read_on 0 ds ≡ Some n)
    (λ n h. let e : 0 * 10 + n ≡ n = omega arith in read_one 0 n h ∙ ap Some e)
    (λ n ds h p. read_more 0 (n / 10) ds (n % 10) (omega arith) p ∙ ap Some (div-add-mod' n 10))
    19
    n
    b

-- ---- the first digit

first_append : (s t : List ℕ) → 48 < get_or s 0 0 → 48 < get_or (s ++ t) 0 0
first_append [] t h = absurd (omega arith)
first_append (b ∷ s) t h = h

digits_first : (n : ℕ) → n < 10 ^ 20 → 0 < n → 48 < get_or (digits_of n) 0 0
unfolding digits_of
digits_first n b =
    digits_ind
    (λ n ds. 0 < n → 48 < get_or ds 0 0)
    (λ n h l. omega arith)
    (λ n ds h p l. first_append ds ((48 + n % 10) ∷ []) (p (omega arith)))
    19
    n
    b

plain_first : (s : List ℕ) → 48 < get_or s 0 0 → plain s ≡ true
unfolding plain
plain_first [] h = absurd (omega arith)
plain_first (b ∷ []) h = refl
plain_first (b ∷ c ∷ s) h = rw (ne_eqb b 48 (λ e. omega arith))

digits_plain : (n : ℕ) → n < 10 ^ 20 → plain (digits_of n) ≡ true
unfolding plain digits_of digits_in one_or
digits_plain zero b = refl
digits_plain (suc m) b = plain_first (digits_of (suc m)) (digits_first (suc m) b (omega arith))

-- ---- the theorem

pub read_printed : (n : ℕ) → n < 2 ^ 64 → read_unsigned (digits_of n) ≡ Some n
unfolding read_unsigned read_number at_most given
read_printed n h =
    let b : n < 10 ^ 20 = omega arith in rw (digits_plain n b, digits_read n b, le-leb n (2 ^ 64 - 1) (omega arith))

-- ---- examples

prints_largest : digits_of 18446744073709551615 ≡ 49 ∷ 56 ∷ 52 ∷ 52 ∷ 54 ∷ 55 ∷ 52 ∷ 52 ∷ 48 ∷ 55 ∷ 51 ∷ 55 ∷ 48 ∷ 57 ∷ 53 ∷ 53 ∷ 49 ∷ 54 ∷ 49 ∷ 53 ∷ []
unfolding digits_of digits_in one_or
prints_largest = refl

reads_above : read_unsigned (digits_of 18446744073709551616) ≡ None
unfolding digits_of digits_in one_or read_unsigned read_number read_on plain is_digit given at_most
reads_above = refl

reads_nothing : read_unsigned [] ≡ None
unfolding read_unsigned read_number plain given at_most
reads_nothing = refl

reads_zero : read_unsigned (48 ∷ []) ≡ Some 0
unfolding read_unsigned read_number read_on plain is_digit given at_most
reads_zero = refl

refuses_zero_before : read_unsigned (48 ∷ 53 ∷ []) ≡ None
unfolding read_unsigned read_number read_on plain is_digit given at_most
refuses_zero_before = refl

reads_lowest : read_signed (45 ∷ digits_of 9223372036854775808) ≡ Some (negsuc 9223372036854775807)
unfolding digits_of digits_in one_or read_signed read_signed_by read_number read_on plain is_digit given at_most minus
reads_lowest = refl

refuses_sign_alone : read_signed (45 ∷ []) ≡ None
unfolding read_signed read_signed_by read_number plain given at_most minus
refuses_sign_alone = refl
