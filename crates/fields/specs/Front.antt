-- A text's first line, and its first field. `nl`: a newline, 10, ends the line; where it is false, the text is one line.
use Rattle.std.specs.Prelude.{ℕ, Bool, cond, ◌&&◌, ◌||◌, List, [], ◌∷◌, eqb}

unfoldable pub ends : Bool → ℕ → Bool
ends nl b = nl && eqb b 10

unfoldable pub line_in : Bool → List ℕ → List ℕ
line_in nl [] = []
line_in nl (b ∷ s) = cond (ends nl b) [] (b ∷ line_in nl s)

unfoldable pub field_in : Bool → List ℕ → List ℕ
field_in nl [] = []
field_in nl (b ∷ s) = cond (eqb b 32 || ends nl b) [] (b ∷ field_in nl s)
