-- The number that a field of text spells. A byte is a ℕ, in ASCII: 48 to 57 are the digits, 45 the minus sign.
use Rattle.std.specs.Prelude.{ℕ, ◌+◌, ◌-◌, ◌*◌, ◌^◌, Bool, true, false, not, ◌&&◌, List, [], ◌∷◌, leb, eqb, ℤ, pos, neg_ℤ, cond, get_or, take, drop}
use Rattle.std.specs.Prelude.{Option, None, Some}
use Rattle.std.specs.List.{prefix_len}

unfoldable pub given : Bool → Option ℕ → Option ℕ
given true r = r
given false r = None

unfoldable pub is_digit : ℕ → Bool
is_digit b = leb 48 b && leb b 57

-- the digits s read on from v, which the digits before them spell; none where one is no digit
unfoldable pub read_on : ℕ → List ℕ → Option ℕ
read_on v [] = Some v
read_on v (b ∷ s) = given (is_digit b) (read_on (v * 10 + (b - 48)) s)

-- one byte, or several of which the first is no '0'
unfoldable pub plain : List ℕ → Bool
plain [] = false
plain (b ∷ []) = true
plain (b ∷ c ∷ s) = not (eqb b 48)

unfoldable pub read_number : List ℕ → Option ℕ
read_number s = given (plain s) (read_on 0 s)

unfoldable pub at_most : ℕ → Option ℕ → Option ℕ
at_most m None = None
at_most m (Some n) = given (leb n m) (Some n)

unfoldable pub read_unsigned : List ℕ → Option ℕ
read_unsigned s = at_most (2 ^ 64 - 1) (read_number s)

unfoldable pub plus : Option ℕ → Option ℤ
plus None = None
plus (Some n) = Some (pos n)

unfoldable pub minus : Option ℕ → Option ℤ
minus None = None
minus (Some n) = Some (neg_ℤ (pos n))

-- with a minus sign in front, or without
unfoldable pub read_signed_by : Bool → List ℕ → Option ℤ
read_signed_by true s = minus (at_most (2 ^ 63) (read_number (drop 1 s)))
read_signed_by false s = plus (at_most (2 ^ 63 - 1) (read_number s))

unfoldable pub read_signed : List ℕ → Option ℤ
read_signed s = read_signed_by (eqb (get_or s 0 0) 45) s

-- ---- the number at a text's front: how many bytes it has, and these bytes

unfoldable pub unsigned_len : List ℕ → ℕ
unsigned_len s = prefix_len is_digit s

unfoldable pub unsigned_front : List ℕ → List ℕ
unsigned_front s = take (unsigned_len s) s

-- a minus sign, or none
unfoldable pub sign_len : List ℕ → ℕ
sign_len s = cond (eqb (get_or s 0 0) 45) 1 0

unfoldable pub signed_len : List ℕ → ℕ
signed_len s = sign_len s + unsigned_len (drop (sign_len s) s)

unfoldable pub signed_front : List ℕ → List ℕ
signed_front s = take (signed_len s) s
