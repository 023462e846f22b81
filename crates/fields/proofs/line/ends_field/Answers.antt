use Rattle.std.proofs.Common.{refl}
use Rattle.fields.specs.Front.{ends}
use Rattle.fields.proofs.line.ends_field.Goals as goal

pub returns : goal.returns
unfolding ends
returns c = refl
