-- Laws of reading: a value that is too large, a field's first byte, two limits at once, and the sign.
use Prim.Native.Nat.{ℕ, ◌+◌, ◌-◌, ◌*◌, ◌^◌, ◌≤◌, ◌<◌}
use mathlib.Core.Path.{◌≡◌, refl}
use mathlib.Core.Bool.{Bool, true, false, not}
use mathlib.Core.List.{List, [], ◌∷◌}
use Rattle.std.specs.Prelude.{Option, None, Some}
use native.Mathlib.Omega.{arith}
use borrow.Author.Tests.{lt-leb, leb-false, eq-eqb, ne_eqb}
use lib.Dec.{leb, eqb}
use lib.ListN.{length, get_or, drop}
use Rattle.decimal.specs.Read.{given, is_digit, read_on, plain, at_most, read_number, read_unsigned, plus, minus, read_signed_by, read_signed}

-- ---- the digits

pub given_none : (m : ℕ) (t : Bool) (r : Option ℕ) → at_most m r ≡ None → at_most m (given t r) ≡ None
unfolding at_most given
given_none m true r h = h
given_none m false r h = refl

-- a value past the limit stays past it
pub read_above : (m v : ℕ) (s : List ℕ) → m < v → at_most m (read_on v s) ≡ None
unfolding read_on at_most given
read_above m v [] h = simp (lt-leb v m h)
read_above m v (b ∷ s) h =
    given_none m (is_digit b) (read_on (v * 10 + (b - 48)) s) (read_above m (v * 10 + (b - 48)) s (omega arith))

-- ---- the first byte

pub plain_none : (s : List ℕ) → length s ≡ 0 → plain s ≡ false
unfolding plain
plain_none [] e = refl
plain_none (b ∷ s) e = absurd (omega arith)

pub plain_one : (s : List ℕ) → length s ≡ 1 → plain s ≡ true
unfolding plain
plain_one [] e = absurd (omega arith)
plain_one (b ∷ []) e = refl
plain_one (b ∷ c ∷ s) e = absurd (omega arith)

pub plain_more : (s : List ℕ) → 1 < length s → plain s ≡ not (eqb (get_or s 0 0) 48)
unfolding plain
plain_more [] h = absurd (omega arith)
plain_more (b ∷ []) h = absurd (omega arith)
plain_more (b ∷ c ∷ s) h = refl

-- ---- limits

at_most_by : (a b n : ℕ) → a ≤ b → (t : Bool) → leb n b ≡ t → at_most a (given t (Some n)) ≡ at_most a (Some n)
unfolding at_most given
at_most_by a b n h true e = refl
at_most_by a b n h false e = simp (lt-leb n a (omega (arith, leb-false n b e)))

-- the lower of two limits is the one that counts
pub at_most_both : (a b : ℕ) (r : Option ℕ) → a ≤ b → at_most a (at_most b r) ≡ at_most a r
unfolding at_most
at_most_both a b None h = refl
at_most_both a b (Some n) h = at_most_by a b n h (leb n b) refl

-- ---- the sign

pub signed_minus : (s : List ℕ) → get_or s 0 0 ≡ 45 → read_signed s ≡ minus (at_most (2 ^ 63) (read_unsigned (drop 1 s)))
unfolding read_signed read_signed_by read_unsigned
signed_minus s e = rw (eq-eqb (get_or s 0 0) 45 e, at_most_both (2 ^ 63) (2 ^ 64 - 1) (read_number (drop 1 s)) (omega arith))

pub signed_plus : (s : List ℕ) → (get_or s 0 0 ≡ 45 → ⊥) → read_signed s ≡ plus (at_most (2 ^ 63 - 1) (read_unsigned s))
unfolding read_signed read_signed_by read_unsigned
signed_plus s e = rw (ne_eqb (get_or s 0 0) 45 e, at_most_both (2 ^ 63 - 1) (2 ^ 64 - 1) (read_number s) (omega arith))
