use Prim.{tt}
use Prim.Native.Nat.{◌/◌, ◌+◌, ◌*◌, ◌≤◌}
use lib.ListN.{length}
use lib.Seq.{take_all}
use mathlib.Core.Path.{◌≡◌, refl, sym, ap, ◌∙◌}
use native.Mathlib.Omega.{arith}
use borrow.Author.Tests.{lt-ltb, le-ltb}
use Rattle.laws.specs.Answer.{Kept}
use Rattle.filter_hold.specs.Tbf.{due_at, not_due_at, words, written, take_due}
use Rattle.filter_hold.proofs.TbfLaws.{free, written_at}
use Rattle.filter_hold.proofs.tbf.TbfHold.take_due.Goals as goal

pub returns-then-out-len : goal.returns-then-out-len
unfolding take_due Kept
returns-then-out-len c =
    let a = c.args in
    let n : c.len.result ≡ length (due_at a.time a.self.now.held.items) = c.len.ensures.value ∙ ap length c.due_at-due.ensures in
    record { is = rw (lt-ltb (length a.out.now / 2) (length (due_at a.time a.self.now.held.items)) (omega arith)); kept = refl }

pub loop-k-init : goal.loop-k-init
unfolding words written
loop-k-init c = refl

pub loop-k-preserved : goal.loop-k-preserved
loop-k-preserved c =
    let s = c.loop-k in
    let l = c.deref-x-items.result.now in
    let n : length l ≡ c.len.result = ap length c.deref-x-items.ensures.0 ∙ sym c.len.ensures.value in
    let h : s.k * 2 + 2 ≤ length c.args.out.now = omega arith in
    rw c.from.ensures (written_at l c.args.out.now s.out s.k free s.invariant c.loop-k-test.true h)

pub returns : goal.returns
unfolding take_due Kept not_due_at
returns c =
    let a = c.args in
    let l = a.self.now.held.items in
    let d = c.due_at-due.ensures in
    let n : c.len.result ≡ length (due_at a.time l) = c.len.ensures.value ∙ ap length d in
    let out : c.loop-k.out ≡ written (due_at a.time l) a.out.now =
    c.loop-k.invariant
    ∙ ap (λ m. written m a.out.now) (take_all c.loop-k.k c.deref-x-items.result.now c.loop-k-test.false ∙ c.deref-x-items.ensures.0 ∙ d) in
    record { is = rw (le-ltb (length a.out.now / 2) (length (due_at a.time l)) (omega arith), c.retain.ensures.items, out, c.len-2.ensures.value, d); kept = tt }
