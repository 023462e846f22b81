use Rattle.std.proofs.Common.{arith}
use Rattle.std.proofs.lemmas.List.{drop_all}
use Rattle.fields.specs.Left.{left, behind}
use Rattle.fields.proofs.Left.{line_whole}
use Rattle.fields.proofs.line.Fields.of_line.Goals as goal

pub returns-clause-fields : goal.returns-clause-fields
unfolding left
returns-clause-fields c = rw (line_whole c.args.line.now)

pub returns-clause-behind : goal.returns-clause-behind
unfolding behind
returns-clause-behind c = rw (line_whole c.args.line.now) (drop_all _ c.args.line.now (omega arith))
