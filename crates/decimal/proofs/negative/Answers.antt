use Rattle.decimal.proofs.Fronts.{minus_is}
use Rattle.decimal.proofs.negative.Goals as goal

pub returns : goal.returns
returns c = minus_is _ _ c.checked_sub_unsigned.ensures
