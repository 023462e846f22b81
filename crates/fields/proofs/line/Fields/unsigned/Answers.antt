use Rattle.std.proofs.Common.{sym, arith}
use Rattle.std.proofs.lemmas.Bool.{eqb-true, eqb-false}
use Rattle.decimal.specs.Read.{read_unsigned}
use Rattle.fields.proofs.Left.{first_none, none_passes, unsigned_read, unsigned_whole, unsigned_more}
use Rattle.fields.proofs.line.Fields.unsigned.Goals as goal

pub returns-then-not-self-clause-number : goal.returns-then-not-self-clause-number
returns-then-not-self-clause-number c = first_none (λ f. read_unsigned f) c.args.self.now c.if-not-self.true

pub returns-then-not-self-clause-next : goal.returns-then-not-self-clause-next
returns-then-not-self-clause-next c = none_passes c.args.self.now c.if-not-self.true

pub pass-requires : goal.pass-requires
pass-requires c = unsigned_read c.args.self.now c.if-not-self.false _ c.split_unsigned-value.ensures.behind

pub returns-then-pass-clause-number : goal.returns-then-pass-clause-number
returns-then-pass-clause-number c =
    let r = c.split_unsigned-value in
    unsigned_whole c.args.self.now c.if-not-self.false r.result.1.now r.ensures.behind r.result.0 r.ensures.number (eqb-true _ 0 (sym c.if-pass.ensures.whole))

pub returns-else-pass-clause-number : goal.returns-else-pass-clause-number
returns-else-pass-clause-number c =
    let r = c.split_unsigned-value in
    unsigned_more c.args.self.now c.if-not-self.false r.result.1.now r.ensures.behind (omega (arith, eqb-false _ 0 (sym c.if-pass.ensures.whole)))
