use Rattle.fixed_list.proofs.Carried.{Carried}
use Rattle.fixed_list.proofs.list.last_to.Given as goal

abbrev pub invariant-loop-i : goal.invariant-loop-i
invariant-loop-i g l = Carried l.initial.items l.at l.initial.carried l.items l.carried l.i
