-- `tbf::TbfHold::supersede` meets its contract.
use Rattle.filter_hold.specs.Tbf.{supersede, is_of}
use Rattle.filter_hold.proofs.tbf.TbfHold.supersede.Goals as goal

pub returns : goal.returns
unfolding supersede is_of
returns c = c.retain.ensures.items
