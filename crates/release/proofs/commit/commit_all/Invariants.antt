use Rattle.release.proofs.Committing.{Committing}
use Rattle.release.proofs.commit.commit_all.Given as goal

abbrev pub invariant-loop-i : goal.invariant-loop-i
invariant-loop-i l = Committing l.fn.group l.pending l.places l.i-index l.initial.sets l.initial.out.items l.sets l.out.items l.memory
