-- `tbf::TbfHold::take_due` meets its contract. The loop: the first k of the due are written.
use lib.ListN.{take}
use mathlib.Core.Path.{◌≡◌}
use Rattle.filter_hold.specs.Tbf.{written}
use Rattle.filter_hold.proofs.tbf.TbfHold.take_due.Given as goal

abbrev pub invariant-loop-k : goal.invariant-loop-k
invariant-loop-k l = l.out ≡ written (take l.k l.x-items) l.initial.out
