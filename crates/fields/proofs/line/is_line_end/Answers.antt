use Rattle.std.proofs.Common.{sym, arith}
use Rattle.std.proofs.lemmas.Bool.{eqb-true, eqb-false}
use Rattle.fields.proofs.Left.{line_nothing, line_first_end}
use Rattle.fields.proofs.line.is_line_end.Goals as goal

pub returns-then-is_empty : goal.returns-then-is_empty
returns-then-is_empty c = line_nothing c.args.newlines c.args.s.now (eqb-true _ 0 (sym c.if-is_empty.ensures))

pub returns : goal.returns
returns c = line_first_end c.args.newlines c.args.s.now (omega (arith, eqb-false _ 0 (sym c.if-is_empty.ensures)))
