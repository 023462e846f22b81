use Rattle.std.proofs.Common.{sym, arith}
use Rattle.std.proofs.lemmas.Bool.{eqb-true, eqb-false}
use Rattle.decimal.proofs.Fronts.{whole_number, part_number}
use Rattle.decimal.proofs.read_unsigned.Goals as goal

pub returns-then-is_empty : goal.returns-then-is_empty
returns-then-is_empty c =
    let r = c.split_unsigned-number in
    whole_number c.args.s.now r.result.1.now r.result.0 r.ensures.number r.ensures.behind (eqb-true _ 0 (sym c.if-is_empty.ensures))

pub returns-else-is_empty : goal.returns-else-is_empty
returns-else-is_empty c =
    let r = c.split_unsigned-number in
    part_number c.args.s.now r.result.1.now r.result.0 r.ensures.number r.ensures.behind (omega (arith, eqb-false _ 0 (sym c.if-is_empty.ensures)))
