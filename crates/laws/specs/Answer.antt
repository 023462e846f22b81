-- What a call answers: a refusal with its number in document 01, or what it gives.
use Prim.{Unit}
use Rattle.std.specs.Prelude.{ℕ, ◌≡◌}

pub data Answer (X : Type 0) : Type 0 where
  refused : ℕ → Answer X
  answered : X → Answer X

-- a refused call leaves its state as it was: the one behind it is the one before
unfoldable pub Kept : {X S : Type 0} → Answer X → S → S → Type 0
Kept (refused n) s t = t ≡ s
Kept (answered x) s t = Unit {0}
