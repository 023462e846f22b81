-- `tbf::Held::is_due` meets its contract.
use mathlib.Core.Path.{◌∙◌}
use Rattle.filter_hold.proofs.TbfLaws.{before}
use Rattle.filter_hold.proofs.tbf.Held.is_due.Goals as goal

pub returns : goal.returns
returns c = c.le.ensures ∙ before _ _
