-- `tbf::TbfHold::due_at` meets its contract: those due of the first ones.
use Rattle.std.proofs.Common.{◌≡◌, take, filter}
use Rattle.filter_hold.specs.Tbf.{not_after}
use Rattle.filter_hold.proofs.tbf.TbfHold.due_at.Given as goal

abbrev pub invariant-loop-x : goal.invariant-loop-x
invariant-loop-x l = l.due.items ≡ filter (λ x. not_after x.due l.time) (take l.x-index l.self.held.items)
