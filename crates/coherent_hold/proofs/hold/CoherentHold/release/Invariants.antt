-- Those released are the members that leave, of those before the loop's place.
use Rattle.std.proofs.Common.{◌≡◌, take, filter}
use Rattle.coherent_hold.specs.Gate.{leaves, member_as}
use Rattle.coherent_hold.proofs.hold.CoherentHold.release.Given as goal

abbrev pub invariant-loop-member : goal.invariant-loop-member
invariant-loop-member l = l.released.items ≡ filter (λ m. leaves l.writer l.new_set (member_as m)) (take l.member-index l.fn.self.held.items)
