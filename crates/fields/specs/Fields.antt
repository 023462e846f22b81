-- The fields of a line of text, and what one spells.
use Rattle.std.specs.Prelude.{ℕ, ◌-◌, ◌^◌, cond, List, [], ◌∷◌, eqb, ℤ, get_or, Option}
use Rattle.decimal.specs.Read.{at_most, read_unsigned, read_signed}

-- one byte more in front of the first field
unfoldable pub lengthen : ℕ → List (List ℕ) → List (List ℕ)
lengthen b [] = (b ∷ []) ∷ []
lengthen b (f ∷ fs) = (b ∷ f) ∷ fs

-- split at each space, 32
unfoldable pub fields_of : List ℕ → List (List ℕ)
fields_of [] = [] ∷ []
fields_of (b ∷ s) = cond (eqb b 32) ([] ∷ fields_of s) (lengthen b (fields_of s))

-- field k, from 0; empty where there are fewer
unfoldable pub field_at : ℕ → List ℕ → List ℕ
field_at k l = get_or (fields_of l) k []

-- the byte of a field of one byte, 0 of any other
unfoldable pub only : List ℕ → ℕ
only [] = 0
only (b ∷ []) = b
only (b ∷ c ∷ s) = 0

-- ---- what field k spells; none where it is bad

unfoldable pub up_to : ℕ → List ℕ → Option ℕ
up_to m s = at_most m (read_unsigned s)

unfoldable pub byte : ℕ → List ℕ → Option ℕ
byte k l = up_to (2 ^ 8 - 1) (field_at k l)

unfoldable pub word : ℕ → List ℕ → Option ℕ
word k l = up_to (2 ^ 32 - 1) (field_at k l)

unfoldable pub long : ℕ → List ℕ → Option ℕ
long k l = read_unsigned (field_at k l)

unfoldable pub number : ℕ → List ℕ → Option ℤ
number k l = read_signed (field_at k l)
