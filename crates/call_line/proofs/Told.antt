-- What a line spells that is neither.
use mathlib.Core.Path.{◌≡◌}
use mathlib.Core.Bool.{Bool, true, false, cond}
use Rattle.std.specs.Prelude.{Option, None}

pub neither : {A : Type 0} {a b : Option A} (t : Bool) → a ≡ None → b ≡ None → cond t a b ≡ None
neither true p q = p
neither false p q = q
