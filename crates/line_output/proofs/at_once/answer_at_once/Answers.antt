use Rattle.std.proofs.Common.{ℕ, List, Option, Some, Bor, ap, subst, inl, inr, arith}
use Rattle.std.specs.Io.KnownBytes.{Appends}
use Rattle.arrayvec.specs.ArrayVec.{ArrayVec}
use Rattle.line_input.specs.Input.{shown, NextLine}
use Rattle.line_output.specs.AtOnce.{Call}
use Rattle.line_output.proofs.AtOnce.{writing_begun, writing_turned, writing_ended, writing_failed}
use Rattle.line_output.proofs.at_once.answer_at_once.Goals as goal

pub loop-init : goal.loop-init
loop-init g c = writing_begun g.A.Answer.answers g.R.Read.remaining g.W.Write.contents

pub loop-preserved : goal.loop-preserved
unfolding shown
loop-preserved g c = let R = g.R.Read.remaining in
    let W = g.W.Write.contents in
    let next : NextLine R c.loop.lines (Some c.in-Some.line.now) c.next.follows.lender-at-none =
    subst (λ (r : Option (Bor (List ℕ))). NextLine R c.loop.lines (shown r) c.next.follows.lender-at-none) c.in-Some.is c.next.follows.holds-at-none in
    let call : Call g.A.Answer.answers R W c.loop.answers c.loop.lines (c.in-Some.line.now, c.answer.new.text.items) c.answer.new.self c.next.follows.lender-at-none =
    record {
      next = next;
      called = subst (λ (t : ArrayVec ℕ). g.A.Answer.answers c.loop.answers t.items c.in-Some.line.now c.answer.new.text.items c.answer.new.self) (ap (λ (xs : List ℕ). record { items = xs }) c.clear.ensures) c.answer.ensures;
    } in writing_turned g.A.Answer.answers R W c.loop.invariant (c.in-Some.line.now, c.answer.new.text.items) c.answer.new.self c.next.follows.lender-at-none c.write_all.new.self
    (record {
      call = call;
      written = subst (λ (s : List ℕ). Appends (W c.loop.writer) (W c.write_all.new.self) s) c.as_slice.ensures.value c.in_ok-write_all.ensures.bytes;
    })

pub returns-in_err-write_all : goal.returns-in_err-write_all
unfolding shown
returns-in_err-write_all g c = let R = g.R.Read.remaining in
    let W = g.W.Write.contents in
    let next : NextLine R c.loop.lines (Some c.in-Some.line.now) c.next.follows.lender-at-none =
    subst (λ (r : Option (Bor (List ℕ))). NextLine R c.loop.lines (shown r) c.next.follows.lender-at-none) c.in-Some.is c.next.follows.holds-at-none in
    let call : Call g.A.Answer.answers R W c.loop.answers c.loop.lines (c.in-Some.line.now, c.answer.new.text.items) c.answer.new.self c.next.follows.lender-at-none =
    record {
      next = next;
      called = subst (λ (t : ArrayVec ℕ). g.A.Answer.answers c.loop.answers t.items c.in-Some.line.now c.answer.new.text.items c.answer.new.self) (ap (λ (xs : List ℕ). record { items = xs }) c.clear.ensures) c.answer.ensures;
    } in writing_failed g.A.Answer.answers R W c.loop.invariant c.from_residual.result c.from_residual.ensures.0 (c.in-Some.line.now, c.answer.new.text.items) c.answer.new.self c.next.follows.lender-at-none c.write_all.new.self call

pub returns-after-loop : goal.returns-after-loop
returns-after-loop g c = writing_ended g.A.Answer.answers g.R.Read.remaining g.W.Write.contents c.loop.invariant c.loop.lines (inl (omega arith))

pub returns-in_default : goal.returns-in_default
unfolding shown
returns-in_default g c = let R = g.R.Read.remaining in writing_ended g.A.Answer.answers R g.W.Write.contents c.loop.invariant c.next.follows.lender-at-none
    (inr (subst (λ (r : Option (Bor (List ℕ))). NextLine R c.loop.lines (shown r) c.next.follows.lender-at-none) c.in_default.is c.next.follows.holds-at-none))
