-- No more bytes stand before a byte than there are.
use Prim.Native.Nat.{ℕ, suc, ◌≤◌}
use mathlib.Core.Bool.{true, false}
use mathlib.Core.List.{List, [], ◌∷◌}
use native.Mathlib.Omega.{arith}
use lib.Dec.{eqb}
use lib.ListN.{length}
use Rattle.decimal.specs.Split.{stop_or, before}

pub before_le : (stop : ℕ) (s : List ℕ) → before stop s ≤ length s
unfolding before stop_or
before_le stop [] = omega arith
before_le stop (b ∷ s) =
    (elim (eqb b stop) as (λ t. stop_or t (before stop s) ≤ suc (length s)) [ true ↦ omega arith | false ↦ omega (arith, before_le stop s) ])
