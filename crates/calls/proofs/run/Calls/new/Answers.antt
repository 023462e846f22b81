use Rattle.calls.specs.Run.{afresh}
use Rattle.calls.proofs.Narrowing.{fresh_narrow}
use Rattle.calls.proofs.run.Calls.new.Goals as goal

pub invariant_of-result : goal.invariant_of-result
invariant_of-result c = rw c.new.ensures (fresh_narrow c.args.timeout)

pub returns : goal.returns
unfolding afresh
returns c = rw (c.new.ensures, c.new-2.ensures, c.new-3.ensures)
