use Rattle.calls.proofs.Narrowing.{fresh_narrow}
use Rattle.calls.proofs.Saying.{said}
use Rattle.calls.proofs.Running.{ran_start}
use Rattle.calls.proofs.run.Calls.start.Goals as goal

pub invariant_of-self : goal.invariant_of-self
invariant_of-self g c = rw c.restart.ensures (fresh_narrow c.args.timeout)

pub returns : goal.returns
returns g c = ran_start (said c.put_bytes.ensures) c.restart.ensures c.clear_counted.ensures c.clear.ensures
