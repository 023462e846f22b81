-- How long numbers are: a field that spells one has at most 20 digits and a sign, and so has one that is printed.
use Prim.Native.Nat.{ℕ, zero, suc, ◌+◌, ◌-◌, ◌*◌, ◌/◌, ◌%◌, ◌^◌, ◌≤◌, ◌<◌}
use mathlib.Core.Path.{◌≡◌, refl, ap}
use mathlib.Core.Bool.{Bool, true, false, not, ◌&&◌}
use mathlib.Core.List.{List, [], ◌∷◌}
use Rattle.std.specs.Prelude.{None}
use native.Mathlib.Omega.{arith}
use borrow.Author.Tests.{eqb-false, leb-true, lt-ltb}
use lib.Dec.{eqb, leb, ltb}
use lib.ListN.{length, get_or, drop, length-drop, length-append}
use Rattle.decimal.specs.Read.{given, is_digit, read_on, plain, at_most, read_number, read_unsigned, plus, minus, read_signed_by, read_signed}
use Rattle.decimal.specs.Print.{one_or, digits_in, digits_of}
use Rattle.decimal.proofs.Reading.{given_none, read_above}

-- p with k zeros behind it
unfoldable tens : ℕ → ℕ → ℕ
tens zero p = p
tens (suc k) p = tens k (p * 10)

-- k digits after a value of at least p
digits_above : (m k p v : ℕ) (s : List ℕ) → k ≤ length s → p ≤ v → m < tens k p → at_most m (read_on v s) ≡ None
unfolding read_on tens
digits_above m zero p v s l h q = read_above m v s (omega arith)
digits_above m (suc k) p v [] l h q = absurd (omega arith)
digits_above m (suc k) p v (b ∷ s) l h q =
    given_none m (is_digit b) (read_on (v * 10 + (b - 48)) s) (digits_above m k (p * 10) (v * 10 + (b - 48)) s (omega arith) (omega arith) q)

first_above : (m b : ℕ) (s : List ℕ) → m < 10 ^ 20 → 20 ≤ length s
    → (t u : Bool) → eqb b 48 ≡ t → leb 48 b ≡ u
    → at_most m (given (not t) (given (u && leb b 57) (read_on (0 * 10 + (b - 48)) s))) ≡ None
unfolding given at_most tens
first_above m b s q l true u e h = refl
first_above m b s q l false false e h = refl
first_above m b s q l false true e h =
    let n : b ≡ 48 → ⊥ = eqb-false b 48 e in
    let v : 1 ≤ 0 * 10 + (b - 48) = omega (arith, n, leb-true 48 b h) in
    given_none m (leb b 57) (read_on (0 * 10 + (b - 48)) s) (digits_above m 20 1 (0 * 10 + (b - 48)) s l v q)

number_long : (m : ℕ) (s : List ℕ) → m < 10 ^ 20 → 20 < length s → at_most m (read_number s) ≡ None
unfolding read_number plain read_on is_digit
number_long m [] q l = absurd (omega arith)
number_long m (b ∷ []) q l = absurd (omega arith)
number_long m (b ∷ c ∷ s) q l = first_above m b (c ∷ s) q (omega arith) (eqb b 48) (leb 48 b) refl refl

pub unsigned_long : (s : List ℕ) → 20 < length s → read_unsigned s ≡ None
unfolding read_unsigned
unsigned_long s l = number_long (2 ^ 64 - 1) s (omega arith) l

pub signed_long : (s : List ℕ) → 21 < length s → read_signed s ≡ None
unfolding read_signed read_signed_by plus minus
signed_long s l = (elim (eqb (get_or s 0 0) 45)
    as (λ t. read_signed_by t s ≡ None) [
      | true ↦ ap (λ r. minus r) (number_long (2 ^ 63) (drop 1 s) (omega arith) (omega (arith, length-drop 1 s)))
      | false ↦ ap (λ r. plus r) (number_long (2 ^ 63 - 1) s (omega arith) (omega arith))
    ])

-- ---- printed

one_long : (t : Bool) (n m : ℕ) (ds : List ℕ) → length ds ≤ m → length (one_or t n ds) ≤ suc m
unfolding one_or
one_long true n m ds h = omega arith
one_long false n m ds h = omega (arith, length-append ds ((48 + n % 10) ∷ []))

-- n's digits by k are at most k + 1
digits_most : (k n : ℕ) → length (digits_in k n) ≤ suc k
unfolding digits_in
digits_most zero n = omega arith
digits_most (suc k) n = one_long (ltb n 10) n (suc k) (digits_in k (n / 10)) (digits_most k (n / 10))

one_digit : (n k : ℕ) → n < 10 → length (digits_in (suc k) n) ≤ 1
unfolding digits_in one_or
one_digit n k h = rw (lt-ltb n 10 h) (omega arith)

-- a number below 10^(j + 1) has at most j + 1 digits
digits_long : (j k n : ℕ) → n < 10 ^ suc j → length (digits_in k n) ≤ suc j
unfolding digits_in
digits_long j zero n h = omega arith
digits_long zero (suc k) n h = one_digit n k (omega arith)
digits_long (suc j) (suc k) n h = one_long (ltb n 10) n (suc j) (digits_in k (n / 10)) (digits_long j k (n / 10) (omega arith))

pub printed_long : (n : ℕ) → length (digits_of n) ≤ 20
unfolding digits_of
printed_long n = digits_most 19 n

pub printed_low : (j n : ℕ) → n < 10 ^ suc j → length (digits_of n) ≤ suc j
unfolding digits_of
printed_low j n h = digits_long j 19 n h
