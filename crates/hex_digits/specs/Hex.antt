-- Bytes as text, two hex digits each. A byte of text is in ASCII: 48 to 57 are the digits 0 to 9, 97 to 102 the digits a to f.
use Rattle.std.specs.Prelude.{ℕ, ◌+◌, ◌-◌, ◌*◌, ◌/◌, ◌%◌, Bool, true, false, ◌&&◌, List, [], ◌∷◌, ltb, leb, eqb, length}
use Rattle.std.specs.Prelude.{Option, None, Some}

unfoldable pub digit_by : Bool → ℕ → ℕ
digit_by true n = 48 + n
digit_by false n = 87 + n

-- the digit of a value below 16
unfoldable pub digit_of : ℕ → ℕ
digit_of n = digit_by (ltb n 10) n

-- the text of bytes: of each its high half, then its low half
unfoldable pub hex_of : List ℕ → List ℕ
hex_of [] = []
hex_of (b ∷ s) = digit_of (b / 16) ∷ digit_of (b % 16) ∷ hex_of s

unfoldable pub value_by : Bool → Bool → ℕ → Option ℕ
value_by true l b = Some (b - 48)
value_by false true b = Some (b - 87)
value_by false false b = None

-- a digit's value; none of any other byte
unfoldable pub value_of : ℕ → Option ℕ
value_of b = value_by (leb 48 b && leb b 57) (leb 97 b && leb b 102) b

-- the byte of two halves, before others
unfoldable pub before : Option ℕ → Option ℕ → Option (List ℕ) → Option (List ℕ)
before None l s = None
before (Some h) None s = None
before (Some h) (Some l) None = None
before (Some h) (Some l) (Some s) = Some ((h * 16 + l) ∷ s)

-- the bytes that a text spells; none where a byte is no digit or the last digit stands alone
unfoldable pub unhex : List ℕ → Option (List ℕ)
unhex [] = Some []
unhex (a ∷ []) = None
unhex (a ∷ b ∷ s) = before (value_of a) (value_of b) (unhex s)

unfoldable pub given : Bool → List ℕ → Option (List ℕ)
given true s = Some s
given false s = None

-- what is spelled, where there are at most n bytes of it
unfoldable pub within : ℕ → Option (List ℕ) → Option (List ℕ)
within n None = None
within n (Some s) = given (leb (length s) n) s

unfoldable pub over_by : Bool → List ℕ → List ℕ → Bool × List ℕ
over_by true s l = (true, s)
over_by false s l = (false, l)

-- s over the list l, where there is one as long
unfoldable pub over : Option (List ℕ) → List ℕ → Bool × List ℕ
over None l = (false, l)
over (Some s) l = over_by (eqb (length s) (length l)) s l

-- whether the text spells as many bytes as l has, and these bytes; else l as it was
unfoldable pub unhex_to : List ℕ → List ℕ → Bool × List ℕ
unhex_to text l = over (unhex text) l

-- ---- within the crate

unfoldable pub has : Option ℕ → Bool
has None = false
has (Some n) = true

unfoldable pub are_digits : List ℕ → Bool
are_digits [] = true
are_digits (b ∷ s) = has (value_of b) && are_digits s

unfoldable pub half_by : Bool → ℕ → Option ℕ
half_by true n = Some n
half_by false n = None

-- a value below 16; none of any other
unfoldable pub half : ℕ → Option ℕ
half n = half_by (ltb n 16) n
