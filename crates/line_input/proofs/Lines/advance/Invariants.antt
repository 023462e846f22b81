use Rattle.line_input.proofs.Reading.{Taking}
use Rattle.line_input.proofs.Lines.advance.Given as goal

abbrev pub invariant-loop : goal.invariant-loop
invariant-loop g l = Taking g.R.Read.remaining l.fn.self l.self
