use Rattle.line_output.proofs.Running.{Running}
use Rattle.line_output.proofs.answers.answer_lines.Given as goal

abbrev pub invariant-loop : goal.invariant-loop
invariant-loop g l =
    Running g.A.Answer.answers g.R.Read.remaining g.W.Write.contents l.fn.answers l.fn.lines l.fn.output l.counter l.answers l.lines l.output l.output
