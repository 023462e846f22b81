-- No more are due than are held.
use Rattle.std.proofs.Common.{◌<◌, ap, length, arith, append-nil}
use Rattle.std.proofs.lemmas.List.Sums.{length-filter, count_by-le-length}
use Rattle.std.proofs.lemmas.List.{length-take}
use Rattle.std.proofs.lemmas.List.Elements.{filter_more}
use Rattle.std.proofs.lemmas.Grind.{common_steps}
use Rattle.filter_hold.specs.declared.tbf.Held.{Held}
use Rattle.filter_hold.specs.Tbf.{due_at, not_after}
use Rattle.filter_hold.proofs.TbfLaws.{free}
use Rattle.filter_hold.proofs.tbf.TbfHold.due_at.Goals.{then-is_due, else-is_due}
use Rattle.filter_hold.proofs.tbf.TbfHold.due_at.Goals as goal

pub loop-x-preserved : goal.loop-x-preserved
loop-x-preserved c =
    let s = c.loop-x in
    let there : s.x-index < length c.args.self.now.held.items = rw (← c.deref-x-items.ensures.0) c.loop-x-test.true in
    let next = filter_more (λ x. not_after x.due c.args.time) c.args.self.now.held.items s.x-index free there in
    let room : length s.due.items < 32 = omega (arith, ap length s.invariant, length-filter, count_by-le-length, length-take {A = Held}, c.deref-x-items.ensures.1) in
    elim c.if-is_due.branch [
      | then-is_due w ↦ rw (w.due-is, w.push.ensures.items room, s.invariant, next, ← c.deref-x-items.ensures.0, ← c.is_due.ensures, w.if-is_due.true)
      | else-is_due w ↦ rw (w.due-is, s.invariant, next, ← c.deref-x-items.ensures.0, ← c.is_due.ensures, w.if-is_due.false, append-nil)
    ]

pub returns : goal.returns
unfolding due_at
returns c = grind (arith, common_steps)
