use Rattle.std.proofs.Common.{◌∙◌}
use Rattle.call_line.proofs.FieldKinds.{dash_none, there_none, there_some}
use Rattle.call_line.proofs.field.word_if.Goals as goal

pub returns-then-dash-clause-number : goal.returns-then-dash-clause-number
returns-then-dash-clause-number c = dash_none _ _ c.if-dash.ensures.dash

pub returns-in_err-word-clause-number : goal.returns-in_err-word-clause-number
returns-in_err-word-clause-number c = c.from_residual.ensures ∙ there_none _ _ c.if-dash.ensures.dash (rw (← c.if-dash.ensures.other) c.in_err-word.ensures.number)

pub returns-clause-number : goal.returns-clause-number
returns-clause-number c = there_some _ _ _ c.if-dash.ensures.dash (rw (← c.if-dash.ensures.other) c.in_ok-word.ensures.number)
