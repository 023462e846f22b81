-- The number that a call is refused by, if it is.
use Rattle.std.specs.Prelude.{ℕ, [], ◌∷◌, Option, Some, None, Result, Ok, Err}
use Rattle.guids.specs.Guid.{Guid}
use Rattle.refusals.specs.declared.Refusal.{Refusal}
use Rattle.refusals.specs.Refusal.{number_of}
use Rattle.rules.specs.State.{State}
use Rattle.rules.specs.Offer.{refusal, ninth, pair33}

abbrev pub refused_by : {X : Type 0} → Result X Refusal → Option ℕ
refused_by (Ok x) = None
refused_by (Err e) = Some (number_of e)

-- of a call that would make the group and the pair known
abbrev pub hearing_refusal : Guid → Guid → State ℕ → Option ℕ
hearing_refusal g w s = refusal ((2, ninth g s) ∷ (3, pair33 g w s) ∷ [])
