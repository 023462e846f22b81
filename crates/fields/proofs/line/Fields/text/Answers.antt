use Rattle.std.proofs.Common.{Some, ap, ◌∙◌}
use Rattle.fields.proofs.Left.{none_left, none_passes, some_left, field_take}
use Rattle.fields.proofs.line.Fields.text.Goals as goal

pub returns-then-not-self-clause-text : goal.returns-then-not-self-clause-text
returns-then-not-self-clause-text c = rw (none_left c.args.self.now c.if-not-self.true)

pub returns-then-not-self-clause-next : goal.returns-then-not-self-clause-next
returns-then-not-self-clause-next c = none_passes c.args.self.now c.if-not-self.true

pub returns-clause-text : goal.returns-clause-text
returns-clause-text c =
    let f = c.args.self.now in
    rw (some_left f c.if-not-self.false) (ap (λ x. Some x) (c.split_at.ensures.front ∙ rw c.field_len-len.ensures.len (field_take f.newlines f.rest.now)))
