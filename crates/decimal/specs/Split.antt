-- Where a line of text ends.
use Rattle.std.specs.Prelude.{ℕ, suc, Bool, true, false, List, [], ◌∷◌, eqb}

unfoldable pub stop_or : Bool → ℕ → ℕ
stop_or true n = 0
stop_or false n = suc n

-- how many bytes stand before the first byte that is `stop`
unfoldable pub before : ℕ → List ℕ → ℕ
before stop [] = 0
before stop (b ∷ s) = stop_or (eqb b stop) (before stop s)
