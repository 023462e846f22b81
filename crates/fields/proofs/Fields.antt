-- A line has a field.
use Prim.Native.Nat.{ℕ, ◌<◌}
use mathlib.Core.Bool.{true, false, cond}
use mathlib.Core.List.{List, [], ◌∷◌}
use native.Mathlib.Omega.{arith}
use lib.Dec.{eqb}
use lib.ListN.{length}
use Rattle.fields.specs.Fields.{lengthen, fields_of}

lengthen_some : (b : ℕ) (fs : List (List ℕ)) → 0 < length (lengthen b fs)
unfolding lengthen
lengthen_some b [] = omega arith
lengthen_some b (f ∷ fs) = omega arith

pub some_field : (s : List ℕ) → 0 < length (fields_of s)
unfolding fields_of
some_field [] = omega arith
some_field (b ∷ s) = (elim (eqb b 32)
    as (λ t. 0 < length (cond t ([] ∷ fields_of s) (lengthen b (fields_of s))))
    [ true ↦ omega arith | false ↦ lengthen_some b (fields_of s) ])
