use Rattle.std.proofs.Common.{ℕ, List, Option, Some, None, Bor, sym, ap, subst, inl, inr, arith, true≢false, ◌∙◌}
use Rattle.std.specs.Option.{is_some}
use Rattle.arrayvec.specs.ArrayVec.{ArrayVec}
use Rattle.line_input.specs.declared.Lines.{Lines}
use Rattle.line_input.specs.Input.{shown, NextLine}
use Rattle.line_output.specs.declared.Output.{Output}
use Rattle.line_output.specs.Output.{pending, Gathered, Written}
use Rattle.line_output.specs.Answers.{Turn}
use Rattle.line_output.proofs.Running.{Running, run_begun, run_flushed, run_turned, run_ended, before_stays}
use Rattle.line_output.proofs.answers.answer_lines.Goals as goal
use Rattle.line_output.proofs.answers.answer_lines.Goals.{else-loop-test, then-loop-test+then-has_failed, then-loop-test+else-has_failed+in_default}

pub loop-init : goal.loop-init
loop-init g c = run_begun g.A.Answer.answers g.R.Read.remaining g.W.Write.contents

pub loop-preserved : goal.loop-preserved
unfolding shown
loop-preserved g c = let R = g.R.Read.remaining in
    let W = g.W.Write.contents in
    let mid = c.before_line.new.self in
    let t = run_flushed g.A.Answer.answers R W c.loop.invariant mid c.before_line.ensures.written (before_stays _ _ _ c.before_line.ensures.before) in
    let next : NextLine R c.loop.lines (Some c.in-Some.line.now) c.next.follows.lender-at-none =
    subst (λ (r : Option (Bor (List ℕ))). NextLine R c.loop.lines (shown r) c.next.follows.lender-at-none) c.in-Some.is c.next.follows.holds-at-none in
    let turn : Turn g.A.Answer.answers R W (c.loop.answers, c.loop.lines, c.loop.output) (c.in-Some.line.now, c.answer.new.text.items) (c.answer.new.self, c.next.follows.lender-at-none, c.gather.new.self) =
    record {
      mid = mid;
      before = c.before_line.ensures.before;
      next = next;
      called = subst (λ (t : ArrayVec ℕ). g.A.Answer.answers c.loop.answers t.items c.in-Some.line.now c.answer.new.text.items c.answer.new.self) (ap (λ (xs : List ℕ). record { items = xs }) c.clear.ensures) c.answer.ensures;
      gathered = subst (λ (s : List ℕ). Gathered mid s c.gather.new.self) c.as_slice.ensures.value c.gather.ensures.gathered;
    } in run_turned g.A.Answer.answers R W t (c.in-Some.line.now, c.answer.new.text.items) c.answer.new.self c.next.follows.lender-at-none c.gather.new.self turn
    (subst (λ (s : List ℕ). Written (W mid.writer) (W c.gather.new.self.writer) (pending mid) s c.gather.new.self) c.as_slice.ensures.value c.gather.ensures.written)
    c.gather.ensures.gathered.broken

pub returns : goal.returns
unfolding shown
returns g c = let R = g.R.Read.remaining in
    let W = g.W.Write.contents in
    let f = c.flush in
    let run = run_ended g.A.Answer.answers R W in
    elim c.loop-test.branch [
      | else-loop-test w ↦
          let t = subst (λ (o : Output g.row.W.Denot). Running g.A.Answer.answers R W c.args.answers.now c.args.lines.now c.args.output.now c.loop.counter c.loop.answers c.loop.lines c.loop.output o) (sym w.output-is) c.loop.invariant in
          run t c.loop-test.lines f.new.self f.ensures.written f.ensures.flushed (λ _. inl (omega arith))
      | then-loop-test+then-has_failed w ↦
          let mid = w.before_line.new.self in
          let t = subst (λ (o : Output g.row.W.Denot). Running g.A.Answer.answers R W c.args.answers.now c.args.lines.now c.args.output.now c.loop.counter c.loop.answers c.loop.lines c.loop.output o) (sym w.output-is)
          (run_flushed g.A.Answer.answers R W c.loop.invariant mid w.before_line.ensures.written (before_stays _ _ _ w.before_line.ensures.before)) in
          run t c.loop-test.lines f.new.self f.ensures.written f.ensures.flushed (λ h. absurd (true≢false (w.if-has_failed.ensures ∙ sym (ap (λ (o : Output g.row.W.Denot). is_some o.failed) w.output-is) ∙ h)))
      | then-loop-test+else-has_failed+in_default w ↦
          let mid = w.before_line.new.self in
          let t = subst (λ (o : Output g.row.W.Denot). Running g.A.Answer.answers R W c.args.answers.now c.args.lines.now c.args.output.now c.loop.counter c.loop.answers c.loop.lines c.loop.output o) (sym w.output-is)
          (run_flushed g.A.Answer.answers R W c.loop.invariant mid w.before_line.ensures.written (before_stays _ _ _ w.before_line.ensures.before)) in
          run t c.loop-test.lines f.new.self f.ensures.written f.ensures.flushed (λ _. inr (subst (λ (l : Lines g.row.R.Denot). NextLine R c.loop.lines None l) (sym w.lines-is) (subst (λ (r : Option (Bor (List ℕ))). NextLine R c.loop.lines (shown r) w.next.follows.lender-at-none) w.in_default.is w.next.follows.holds-at-none)))
    ]
