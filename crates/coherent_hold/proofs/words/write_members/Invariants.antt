-- The members before the loop's are written.
use Rattle.std.proofs.Common.{◌≡◌, map, take}
use Rattle.coherent_hold.specs.Gate.{written, member_as}
use Rattle.coherent_hold.proofs.words.write_members.Given as goal

abbrev pub invariant-loop-k : goal.invariant-loop-k
invariant-loop-k l = l.out ≡ written (map (λ m. member_as m) (take l.k l.members)) l.fn.out
