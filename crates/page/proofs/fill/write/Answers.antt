use Rattle.std.proofs.Common.{◌≡◌, ◌+◌, ◌-◌, ◌*◌, ◌∙◌, length, take, drop, refl, ap, arith, take_all, option_map, Option, None, sym}
use Rattle.std.proofs.lemmas.List.{length-map, get_or-map}
use Rattle.rules.specs.Page as P
use Rattle.page.specs.declared.row.Row.{Row}
use Rattle.page.specs.Rows.{row_as, rows_as}
use Rattle.page.specs.Words.{words_of, listed}
use Rattle.page.proofs.Writing.{write_more}
use Rattle.page.proofs.fill.write.Goals as goal

pub loop-k-init : goal.loop-k-init
unfolding listed
loop-k-init c = refl

pub loop-k-preserved : goal.loop-k-preserved
loop-k-preserved c =
    let k = c.loop-k.k in
    let as_row : Option Row → Option P.Row = λ o. option_map (λ r. row_as r) o in
    let row = ap (λ o. words_of o) (sym (get_or-map as_row c.args.page.now k None None (omega arith))) in
    let long : length (rows_as c.args.page.now) ≡ length c.args.page.now = length-map c.args.page.now as_row in
    write_more (rows_as c.args.page.now) k (4 * k + 4 - 4 * k) c.args.list.now c.loop-k.list c.copy_from_slice.new.self None (omega arith) (omega arith) (omega arith) c.loop-k.invariant (c.copy_from_slice.ensures.after ∙ c.words_of.ensures ∙ row)

pub returns : goal.returns
returns c =
    let ps = c.args.page.now in
    let rs = rows_as ps in
    let k : c.loop-k.k ≡ length ps = omega arith in
    c.loop-k.invariant ∙ ap (λ j. listed (take j rs) (drop (4 * j) c.args.list.now)) k ∙ ap (λ l. listed l (drop (4 * length ps) c.args.list.now)) (take_all (length ps) rs (omega (arith, length-map ps (λ o. option_map (λ r. row_as r) o))))
