-- `truncate`: a place below the blank ones becomes blank.
use Rattle.std.proofs.Common.{◌≡◌, ◌∙◌, ◌-◌, ◌+◌, sym, subst, drop, replicate, arith, length-set}
use Rattle.std.proofs.lemmas.List.{take-set-le}
use Rattle.fixed_list.proofs.Free.{one_more}
use Rattle.fixed_list.proofs.list.FixedList.truncate.Goals as goal

pub loop-end-preserved : goal.loop-end-preserved
loop-end-preserved g c =
    let at = c.loop-end in
    let places = at.self-inside.places in
    let free = at.invariant.3 in
    let next : at.end - 1 + 1 ≡ at.end = omega (arith, c.loop-end-test.true) in
    let wide = subst (λ n. drop n places ≡ replicate (g.row.N - n) g.T.Blank.blank) (sym next) free in (
      omega (arith, c.loop-end-test.true),
      omega (arith, at.invariant.1),
      length-set places (at.end - 1) c.blank.result ∙ at.invariant.2,
      rw c.blank.ensures (one_more g.row.N g.T.Blank.blank places (at.end - 1) at.invariant.2 (omega (arith, at.invariant.1, c.loop-end-test.true)) wide),
      take-set-le c.args.len places (at.end - 1) c.blank.result (omega (arith, c.loop-end-test.true)) ∙ at.invariant.4,
    )
