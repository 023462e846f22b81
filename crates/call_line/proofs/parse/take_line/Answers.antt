use Rattle.std.proofs.Common.{◌∙◌, arith}
use Rattle.call_line.specs.Line.{line_by}
use Rattle.call_line.specs.Taken.{take_timeout, take_counted, take_digest, take_sample, take_end, take_heartbeat, take_gap, take_release}
use Rattle.call_line.proofs.Numbered.{timeout_same, counted_same, digest_same, sample_same, end_same, heartbeat_same, gap_same, release_same, with_letter, no_letter, other_letter}
use Rattle.call_line.proofs.parse.take_line.Goals as goal

pub returns-in_err-letter-clause-line : goal.returns-in_err-letter-clause-line
returns-in_err-letter-clause-line c l e = c.from_residual.ensures ∙ no_letter _ l e c.in_err-letter.ensures.letter

pub returns-in-84-clause-line : goal.returns-in-84-clause-line
unfolding line_by
returns-in-84-clause-line c l e =
    c.timeout.ensures.line ∙ with_letter _ l e _ (λ fs. take_timeout fs) _ 84 c.in_ok-letter.ensures.next c.in_ok-letter.ensures.letter c.in-84.is (timeout_same l)

pub returns-in-86-clause-line : goal.returns-in-86-clause-line
unfolding line_by
returns-in-86-clause-line c l e =
    c.counted.ensures.line ∙ with_letter _ l e _ (λ fs. take_counted fs) _ 86 c.in_ok-letter.ensures.next c.in_ok-letter.ensures.letter c.in-86.is (counted_same l)

pub returns-in-68-clause-line : goal.returns-in-68-clause-line
unfolding line_by
returns-in-68-clause-line c l e =
    c.digest.ensures.line ∙ with_letter _ l e _ (λ fs. take_digest fs) _ 68 c.in_ok-letter.ensures.next c.in_ok-letter.ensures.letter c.in-68.is (digest_same l)

pub returns-in-83-clause-line : goal.returns-in-83-clause-line
unfolding line_by
returns-in-83-clause-line c l e =
    c.sample.ensures.line ∙ with_letter _ l e _ (λ fs. take_sample fs) _ 83 c.in_ok-letter.ensures.next c.in_ok-letter.ensures.letter c.in-83.is (sample_same l)

pub returns-in-69-clause-line : goal.returns-in-69-clause-line
unfolding line_by
returns-in-69-clause-line c l e =
    c.end.ensures.line ∙ with_letter _ l e _ (λ fs. take_end fs) _ 69 c.in_ok-letter.ensures.next c.in_ok-letter.ensures.letter c.in-69.is (end_same l)

pub returns-in-72-clause-line : goal.returns-in-72-clause-line
unfolding line_by
returns-in-72-clause-line c l e =
    c.heartbeat.ensures.line ∙ with_letter _ l e _ (λ fs. take_heartbeat fs) _ 72 c.in_ok-letter.ensures.next c.in_ok-letter.ensures.letter c.in-72.is (heartbeat_same l)

pub returns-in-71-clause-line : goal.returns-in-71-clause-line
unfolding line_by
returns-in-71-clause-line c l e =
    c.gap.ensures.line ∙ with_letter _ l e _ (λ fs. take_gap fs) _ 71 c.in_ok-letter.ensures.next c.in_ok-letter.ensures.letter c.in-71.is (gap_same l)

pub returns-in-82-clause-line : goal.returns-in-82-clause-line
unfolding line_by
returns-in-82-clause-line c l e =
    c.release.ensures.line ∙ with_letter _ l e _ (λ fs. take_release fs) _ 82 c.in_ok-letter.ensures.next c.in_ok-letter.ensures.letter c.in-82.is (release_same l)

pub returns-in_default-clause-line : goal.returns-in_default-clause-line
returns-in_default-clause-line c l e = other_letter _ l e _ c.in_ok-letter.ensures.letter (λ q. omega (arith, q)) (λ q. omega (arith, q)) (λ q. omega (arith, q)) (λ q. omega (arith, q)) (λ q. omega (arith, q)) (λ q. omega (arith, q)) (λ q. omega (arith, q)) (λ q. omega (arith, q))
