use Rattle.std.proofs.Common.{◌≡◌, refl, ◌∙◌, ◌*◌, ◌-◌, ◌++◌, ap, ap₂, arith, rules, Some, None, replicate, length, drop, length-take}
use Rattle.std.proofs.lemmas.List.{drop-replicate}
use Rattle.std.specs.Prelude.{Option}
use Rattle.rules.specs.Page.{empty_row}
use Rattle.page.specs.Rows.{rows_as}
use Rattle.page.specs.declared.row.Row.{Row}
use Rattle.page.proofs.Starting.{row0, row_is, start_first}
use Rattle.page.proofs.fill.start_page.Goals as goal

pub returns : goal.returns
unfolding empty_row
returns c =
    let gs = c.args.store.now.groups.items in
    let e = row_is c.default.result c.default.ensures in
    let n : c.len.result ≡ length gs = search rules in
    let f : c.fill.new.self ≡ replicate (8 * length gs) (Some row0) = c.fill.ensures.after (λ y h. search rules) ∙ ap₂ (λ k r. replicate k (Some r)) (omega (arith, n, length-take (8 * c.len.result) (replicate {A = Option Row} 64 None))) e in
    let d : drop (8 * c.len.result) (replicate 64 None) ≡ replicate (64 - 8 * length gs) None = ap (λ m. drop {A = Option Row} m (replicate 64 None)) (ap (λ k. 8 * k) n) ∙ drop-replicate (8 * length gs) 64 None in
    ap₂ (λ a b. rows_as (a ++ b)) f d ∙ start_first row0 gs 8 refl (omega arith)
