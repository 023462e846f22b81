use Rattle.std.proofs.Common.{ap}
use Rattle.calls.proofs.Narrowing.{heartbeat_narrow}
use Rattle.calls.proofs.Running.{ran_from, ran_heartbeat}
use Rattle.calls.proofs.run.Calls.heartbeat.Goals as goal

pub invariant_of-self : goal.invariant_of-self
invariant_of-self g c = rw (ap (λ y. y.1) c.heartbeat-answer.ensures.is) (heartbeat_narrow c.self.inside.order c.args.heartbeat c.self.invariant)

pub returns : goal.returns
returns g c = ran_from c.self.view_is (ran_heartbeat c.args.heartbeat c.heartbeat-answer.ensures.is c.put_done.ensures)
