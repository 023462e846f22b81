use Rattle.line_input.specs.Input.{left}
use Rattle.line_input.proofs.Ends.{left_is}
use Rattle.line_input.proofs.ahead.Ahead.left.Goals as goal

pub returns : goal.returns
unfolding left
returns c = left_is _ _ _ c.args.self.now.ordered
