-- The participant's group.
use Prim.Native.Nat.{ℕ}
use mathlib.Core.Path.{◌≡◌, ap, ◌∙◌}
use mathlib.Core.List.{List, [], ◌∷◌, ◌++◌, append-nil}
use native.Mathlib.Omega.{arith}
use lib.ListN.{length, take, set, drop_of_length-le}
use lib.Seq.{sets-eq}
use Rattle.turn.specs.Items.{participant_key}

pub key_made : (w : List ℕ) → length w ≡ 16 → set (set (set (set w 12 0) 13 0) 14 0) 15 0 ≡ participant_key w
unfolding participant_key
key_made w h = sets-eq (0 ∷ 0 ∷ 0 ∷ 0 ∷ []) w 12 (omega (arith, h)) ∙ ap (λ (r : List ℕ). take 12 w ++ (0 ∷ 0 ∷ 0 ∷ 0 ∷ []) ++ r) (drop_of_length-le w {i = 16} (omega (arith, h))) ∙ append-nil (take 12 w ++ (0 ∷ 0 ∷ 0 ∷ 0 ∷ []))
