use Rattle.std.proofs.Common.{arith}
use Rattle.line_input.proofs.Ends.{left_fits}
use Rattle.line_input.proofs.ahead.Ahead.take.Goals as goal

pub overflow_add-self : goal.overflow_add-self
overflow_add-self c = omega (arith, left_fits c.args.self.now c.args.n c.requires, c.args.self.now.within)

pub invariant_of-self-clause-ordered : goal.invariant_of-self-clause-ordered
invariant_of-self-clause-ordered c = left_fits c.args.self.now c.args.n c.requires
