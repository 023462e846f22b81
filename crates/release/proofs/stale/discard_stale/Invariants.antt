use Rattle.std.proofs.Common.{◌-◌}
use Rattle.release.proofs.Discarding.{Discarding}
use Rattle.release.proofs.stale.discard_stale.Given as goal

abbrev pub invariant-loop : goal.invariant-loop
invariant-loop l = Discarding l.e l.end (l.end - l.counter) l.initial.sets l.sets
