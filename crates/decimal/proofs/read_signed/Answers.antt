use Rattle.std.proofs.Common.{sym, arith}
use Rattle.std.proofs.lemmas.Bool.{eqb-true, eqb-false}
use Rattle.decimal.proofs.Fronts.{whole_signed, part_signed}
use Rattle.decimal.proofs.read_signed.Goals as goal

pub returns-then-is_empty : goal.returns-then-is_empty
returns-then-is_empty c =
    let r = c.split_signed-number in
    whole_signed c.args.s.now r.result.1.now r.result.0 r.ensures.number r.ensures.behind (eqb-true _ 0 (sym c.if-is_empty.ensures))

pub returns-else-is_empty : goal.returns-else-is_empty
returns-else-is_empty c =
    let r = c.split_signed-number in
    part_signed c.args.s.now r.result.1.now r.result.0 r.ensures.number r.ensures.behind (omega (arith, eqb-false _ 0 (sym c.if-is_empty.ensures)))
