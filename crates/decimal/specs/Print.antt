-- A number's digits, and bytes put into a list.
use Rattle.std.specs.Prelude.{ℕ, zero, suc, ◌+◌, ◌-◌, ◌/◌, ◌%◌, min, Bool, true, false, List, [], ◌∷◌, ◌++◌, ℤ, pos, negsuc, ltb, length, take, drop}

unfoldable pub one_or : Bool → ℕ → List ℕ → List ℕ
one_or true n ds = (48 + n) ∷ []
one_or false n ds = ds ++ ((48 + n % 10) ∷ [])

-- n's digits, where there are at most suc k
unfoldable pub digits_in : ℕ → ℕ → List ℕ
digits_in zero n = (48 + n) ∷ []
digits_in (suc k) n = one_or (ltb n 10) n (digits_in k (n / 10))

-- n's decimal digits in ASCII, with no zero before others; 20 hold every u64
unfoldable pub digits_of : ℕ → List ℕ
digits_of n = digits_in 19 n

-- a whole number's, with a minus sign, 45, where it is negative
unfoldable pub signed_digits : ℤ → List ℕ
signed_digits (pos n) = digits_of n
signed_digits (negsuc n) = 45 ∷ digits_of (suc n)

-- s put over out's bytes from `at` on, as far as out has room: the place behind what is put, and out
unfoldable pub put : List ℕ → ℕ → List ℕ → ℕ × List ℕ
put out at s = (at + min (length s) (length out - at), take at out ++ (take (length out - at) s ++ drop (at + length s) out))
