use Rattle.std.proofs.Common.{length}
use Rattle.calls.proofs.Listing.{Left}
use Rattle.calls.proofs.list.gubrestal_run_list.Given as goal

abbrev pub invariant-loop-rest : goal.invariant-loop-rest
invariant-loop-rest l = Left l.text l.initial.out l.calls l.out l.at l.answers.items l.rest

abbrev pub decreases-loop-rest : goal.decreases-loop-rest
decreases-loop-rest l = length l.rest
