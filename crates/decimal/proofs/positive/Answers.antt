use Rattle.std.proofs.Common.{◌∙◌}
use Rattle.decimal.proofs.Fronts.{plus_is}
use Rattle.decimal.proofs.positive.Goals as goal

pub returns : goal.returns
returns c = c.ok.ensures.value ∙ plus_is c.try_from.result c.args.size c.try_from.ensures
