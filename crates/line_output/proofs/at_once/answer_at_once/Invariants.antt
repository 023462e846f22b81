use Rattle.line_output.proofs.AtOnce.{Writing}
use Rattle.line_output.proofs.at_once.answer_at_once.Given as goal

abbrev pub invariant-loop : goal.invariant-loop
invariant-loop g l =
    Writing g.A.Answer.answers g.R.Read.remaining g.W.Write.contents l.fn.answers l.fn.lines l.fn.writer l.counter l.answers l.lines l.writer
