-- Bits, the highest first, of numbers, fields and bytes: what the packed bytes are, bit by bit (request U13).
use Rattle.std.specs.Prelude.{ℕ, zero, suc, ◌/◌, ◌%◌, ◌^◌, List, [], ◌∷◌, ◌++◌}
use Rattle.settings.specs.Layout.{Field, Layout}

-- the w bits of a number
abbrev pub bits_of : ℕ → ℕ → List ℕ
bits_of zero n = []
bits_of (suc w) n = (n / 2 ^ w) % 2 ∷ bits_of w n

-- one field's bits behind the other's
abbrev pub field_bits : (Field → ℕ) → Layout → List ℕ
field_bits x [] = []
field_bits x (p ∷ l) = bits_of p.1 (x p.0) ++ field_bits x l

-- one byte's bits behind the other's
abbrev pub byte_bits : List ℕ → List ℕ
byte_bits [] = []
byte_bits (b ∷ bs) = bits_of 8 b ++ byte_bits bs
