-- Which refusal a call of settings answers: three have the number 15.
use Rattle.std.specs.Prelude.{◌≡◌, Result, IfErr}
use Rattle.refusals.specs.Refusal.{number_of}
use Rattle.refusals.specs.declared.Refusal.{Refusal}

-- a result that is refused 15 is refused with e, and with no other of that number
abbrev pub FifteenIs : {X : Type 0} → Refusal → Result X Refusal → Type 0
FifteenIs e r = IfErr r (λ f. number_of f ≡ 15 → f ≡ e)
