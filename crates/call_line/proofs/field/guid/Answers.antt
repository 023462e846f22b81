use Rattle.call_line.proofs.FieldKinds.{guid_none, guid_some}
use Rattle.std.proofs.Common.{◌∙◌}
use Rattle.call_line.specs.Line.{guid_of}
use Rattle.call_line.proofs.field.guid.Goals as goal

pub returns-in_err-k-clause-guid : goal.returns-in_err-k-clause-guid
returns-in_err-k-clause-guid c = c.from_residual.ensures ∙ guid_none _ c.in_err-k.ensures.number

pub returns-clause-guid : goal.returns-clause-guid
unfolding guid_of
returns-clause-guid c = guid_some _ _ c.in_ok-k.ensures.number
