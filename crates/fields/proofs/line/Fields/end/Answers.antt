use Rattle.std.proofs.Common.{sym, ne_eqb, arith}
use Rattle.fields.proofs.Left.{none_left, some_left}
use Rattle.fields.proofs.line.Fields.end.Goals as goal

pub returns-then-self : goal.returns-then-self
returns-then-self c = rw (some_left c.args.self.now c.if-self.true) (sym (ne_eqb _ 0 (λ e. omega arith)))

pub returns-else-self : goal.returns-else-self
returns-else-self c = rw (none_left c.args.self.now c.if-self.false)
