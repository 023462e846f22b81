-- `release`: no more are released than are held; those that stay are what `retain` leaves.
use Rattle.std.proofs.Common.{◌≡◌, ◌<◌, ◌∙◌, ap, not, length, map, filter, arith}
use Rattle.std.proofs.lemmas.List.Sums.{length-filter, count_by-le-length}
use Rattle.std.proofs.lemmas.List.{length-take}
use Rattle.std.proofs.lemmas.Grind.{common_steps}
use Rattle.coherent_hold.specs.Gate.{leaves, member_as}
use Rattle.coherent_hold.specs.declared.items.Member.{Member}
use Rattle.coherent_hold.proofs.Members.{kept_members}
use Rattle.coherent_hold.proofs.hold.CoherentHold.release.Goals.{then-leaves, else-leaves}
use Rattle.coherent_hold.proofs.hold.CoherentHold.release.Goals as goal

pub loop-member-preserved : goal.loop-member-preserved
loop-member-preserved c =
    let room : length c.loop-member.released.items < 64 = omega (arith, ap length c.loop-member.invariant, length-filter, count_by-le-length, length-take {A = Member}, c.deref-member-items.ensures.1) in
    elim c.if-leaves.branch [
      | then-leaves w ↦ grind (arith, common_steps, w.push.ensures.items room)
      | else-leaves w ↦ grind (arith, common_steps)
    ]

pub returns-clause-released : goal.returns-clause-released
returns-clause-released c = let a = c.args in
    let e : c.loop-member.released.items ≡ filter (λ m. leaves a.writer a.new_set (member_as m)) a.self.now.held.items = grind (arith, common_steps) in
    ap (map (λ m. member_as m)) e ∙ kept_members (λ h. leaves a.writer a.new_set h) a.self.now.held.items

pub returns-clause-stay : goal.returns-clause-stay
returns-clause-stay c = let a = c.args in
    ap (map (λ m. member_as m)) c.retain.ensures.items ∙ kept_members (λ h. not (leaves a.writer a.new_set h)) a.self.now.held.items
