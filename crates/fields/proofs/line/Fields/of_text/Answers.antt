use Rattle.std.proofs.Common.{refl}
use Rattle.fields.specs.Left.{left, behind}
use Rattle.fields.proofs.line.Fields.of_text.Goals as goal

pub returns-clause-fields : goal.returns-clause-fields
unfolding left
returns-clause-fields c = refl

pub returns-clause-behind : goal.returns-clause-behind
unfolding behind
returns-clause-behind c = refl
