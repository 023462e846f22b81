use Rattle.std.proofs.Common.{sym, ◌∙◌, arith, rules}
use Rattle.std.proofs.lemmas.Bool.{eqb-true, eqb-false}
use Rattle.std.proofs.lemmas.List.{take_rest}
use Rattle.hex_digits.proofs.Spelled.{value_small, onto_none, one_bad, first_bad, second_bad, read_bad, read_all, read_more, no_room}
use Rattle.hex_digits.proofs.text.read_hex.Goals as goal

pub loop-rest-init : goal.loop-rest-init
loop-rest-init g c = rw c.new-bytes.ensures (omega arith, onto_none _)

pub returns-in_err-value : goal.returns-in_err-value
returns-in_err-value g c =
    rw c.from_residual.ensures
    (read_bad g.row.N c.args.text.now c.loop-rest.bytes.items c.loop-rest.rest.now c.loop-rest.invariant.1 (first_bad c.loop-rest.rest.now c.in-len2-up.len_at_least c.in_err-value.ensures))

pub overflow_mul-byte : goal.overflow_mul-byte
overflow_mul-byte g c = search (rules, value_small _ _ (sym c.in_ok-value.ensures))

pub overflow_add-byte : goal.overflow_add-byte
overflow_add-byte g c = search (rules, value_small _ _ (sym c.in_ok-value.ensures), value_small _ _ (sym c.in_ok-byte.ensures))

pub returns-in_err-byte : goal.returns-in_err-byte
returns-in_err-byte g c =
    let l = c.loop-rest in
    rw c.from_residual-in_err-byte.ensures
    (read_bad g.row.N c.args.text.now l.bytes.items l.rest.now l.invariant.1 (second_bad l.rest.now c.in-len2-up.len_at_least c.in_ok-value.field-0 c.in_ok-value.ensures c.in_err-byte.ensures))

pub returns-then-is_full : goal.returns-then-is_full
returns-then-is_full g c =
    let l = c.loop-rest in
    no_room g.row.N c.args.text.now l.bytes.items l.rest.now l.invariant.1 c.in-len2-up.len_at_least
    c.in_ok-value.field-0 c.in_ok-byte.field-0 c.in_ok-value.ensures c.in_ok-byte.ensures (eqb-true _ g.row.N (sym c.if-is_full.ensures.value))

pub loop-rest-preserved : goal.loop-rest-preserved
loop-rest-preserved g c =
    let l = c.loop-rest in (
      omega (arith, c.push.ensures.len, eqb-false _ g.row.N (sym c.if-is_full.ensures.value)),
      read_more g.row.N c.args.text.now l.bytes.items l.rest.now l.invariant.1 c.in-len2-up.len_at_least
          c.in_ok-value.field-0 c.in_ok-byte.field-0 c.in_ok-value.ensures c.in_ok-byte.ensures
          ∙ rw (c.push.ensures.items, take_rest l.rest.now 2),
    )

pub returns-then-is_empty : goal.returns-then-is_empty
returns-then-is_empty g c =
    let l = c.loop-rest in
    read_all g.row.N c.args.text.now l.bytes.items l.rest.now l.invariant.1 (eqb-true _ 0 (sym c.if-is_empty.ensures)) l.invariant.0

pub returns-else-is_empty : goal.returns-else-is_empty
returns-else-is_empty g c =
    let l = c.loop-rest in
    read_bad g.row.N c.args.text.now l.bytes.items l.rest.now l.invariant.1
    (one_bad l.rest.now (omega (arith, c.in_default.len_below, eqb-false _ 0 (sym c.if-is_empty.ensures))))
