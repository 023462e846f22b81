-- Bytes put behind a text, and the text of a release's answer by the places it wrote.
use Rattle.std.specs.Prelude.{ℕ, ◌/◌, ◌%◌, ◌^◌, ◌≡◌, List, [], ◌∷◌, ◌++◌, take}
use Rattle.decimal.specs.Print.{digits_of}

-- s is put behind the text, as far as it has room for n bytes
pub record Said (n : ℕ) (s text text' : List ℕ) : Type 0 where
  pub is : text' ≡ take n (text ++ s)

-- a space, reader:item of a place, reader · 2^32 + item
unfoldable pub place_text : ℕ → List ℕ
place_text p = 32 ∷ digits_of (p / 2 ^ 32) ++ (58 ∷ digits_of (p % 2 ^ 32))

unfoldable pub places_text : List ℕ → List ℕ
places_text [] = []
places_text (p ∷ l) = place_text p ++ places_text l
