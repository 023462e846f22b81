use Rattle.std.proofs.Common.{◌∙◌}
use Rattle.fields.specs.Left.{left, sole}
use Rattle.fields.proofs.Left.{text_none, text_some}
use Rattle.fields.proofs.Dashes.{sole_one, sole_other}
use Rattle.fields.proofs.line.Fields.letter.Goals as goal

pub returns-in_err-field-clause-letter : goal.returns-in_err-field-clause-letter
returns-in_err-field-clause-letter c =
    c.from_residual.ensures ∙ text_none (λ f. sole f) (left c.args.self.now) c.in_err-field.ensures.text

pub returns-then-field-eq1-clause-letter : goal.returns-then-field-eq1-clause-letter
returns-then-field-eq1-clause-letter c =
    sole_one c.in_ok-field.field.now c.if-field-eq1.true ∙ text_some (λ f. sole f) (left c.args.self.now) c.in_ok-field.field.now c.in_ok-field.ensures.text

pub returns-else-field-eq1-clause-letter : goal.returns-else-field-eq1-clause-letter
returns-else-field-eq1-clause-letter c =
    sole_other c.in_ok-field.field.now c.if-field-eq1.false ∙ text_some (λ f. sole f) (left c.args.self.now) c.in_ok-field.field.now c.in_ok-field.ensures.text
