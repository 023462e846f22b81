use Rattle.std.proofs.Common.{◌-◌, ◌^◌, ◌∙◌, sym}
use Rattle.fields.specs.Left.{left}
use Rattle.fields.proofs.Left.{narrow_none, narrowed}
use Rattle.fields.proofs.line.Fields.word.Goals as goal

pub returns-in_err-unsigned-clause-number : goal.returns-in_err-unsigned-clause-number
returns-in_err-unsigned-clause-number c =
    c.from_residual.ensures ∙ narrow_none (2 ^ 32 - 1) (left c.args.self.now) (sym c.in_err-unsigned.ensures.number)

pub returns-clause-number : goal.returns-clause-number
returns-clause-number c =
    c.ok.ensures.value ∙ narrowed (2 ^ 32 - 1) c.in_ok-unsigned.field-0 (left c.args.self.now) c.try_from.result (sym c.in_ok-unsigned.ensures.number) c.try_from.ensures
