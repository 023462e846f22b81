use Rattle.std.proofs.Common.{rules, ◌∙◌, w64}
use Rattle.std.proofs.lemmas.Int.{to_z-of_z}
use mir.Val.{SFits}
use Rattle.call_line.proofs.FieldKinds.{dash_none, there_none, there_some}
use Rattle.call_line.proofs.field.number_if.Goals as goal

pub returns-then-dash-clause-number : goal.returns-then-dash-clause-number
returns-then-dash-clause-number c = dash_none _ _ c.if-dash.ensures.dash

pub returns-in_err-number-clause-number : goal.returns-in_err-number-clause-number
returns-in_err-number-clause-number c = c.from_residual.ensures ∙ there_none _ _ c.if-dash.ensures.dash (rw (← c.if-dash.ensures.other) c.in_err-number.ensures.number)

pub returns-clause-number : goal.returns-clause-number
returns-clause-number c =
    let fits : SFits w64 c.in_ok-number.number = search rules in
    there_some _ _ _ c.if-dash.ensures.dash (rw (← c.if-dash.ensures.other) (simp to_z-of_z c.in_ok-number.ensures.number))
