use Rattle.std.proofs.Common.{ap}
use Rattle.calls.proofs.Narrowing.{gap_narrow}
use Rattle.calls.proofs.Running.{ran_from, ran_gap}
use Rattle.calls.proofs.run.Calls.gap.Goals as goal

pub invariant_of-self : goal.invariant_of-self
invariant_of-self g c = rw (ap (λ y. y.1) c.gap-answer.ensures.is) (gap_narrow c.self.inside.order c.args.gap c.self.invariant)

pub returns : goal.returns
returns g c = ran_from c.self.view_is (ran_gap c.args.gap c.gap-answer.ensures.is c.put_done.ensures)
