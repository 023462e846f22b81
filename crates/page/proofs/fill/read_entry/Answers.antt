use Rattle.std.proofs.Common.{◌∙◌, sym, ap}
use Rattle.rules.specs.Page.{counted, at_row}
use Rattle.page.specs.Rows.{rows_as}
use Rattle.page.proofs.Reading.{few_at, read_sample, read_end, at_put, at_none}
use Rattle.page.proofs.fill.read_entry.Goals as goal

pub counted-requires : goal.counted-requires
counted-requires c = few_at 512 c.args.page.now c.row_of-k.result c.in-Some.row c.requires (sym c.in-Some.ensures)

pub returns-in-Some : goal.returns-in-Some
returns-in-Some c =
    let e = c.args.e.now in
    let l = c.args.page.now in
    let f = counted c.args.pending e.time in
    read_sample c.args.pending c.args.store.now.groups.items e l _ (sym c.if-is_sample.ensures)
    (at_put f l c.row_of-k.result c.in-Some.row c.counted.result (sym c.in-Some.ensures) c.counted.ensures ∙ ap (λ k. at_row k f (rows_as l)) c.row_of-k.ensures)

pub returns-in_default : goal.returns-in_default
returns-in_default c =
    let e = c.args.e.now in
    let l = c.args.page.now in
    let f = counted c.args.pending e.time in
    read_sample c.args.pending c.args.store.now.groups.items e l l (sym c.if-is_sample.ensures)
    (at_none f l c.row_of-k.result (sym c.row_at.ensures ∙ c.in_default.is) ∙ ap (λ k. at_row k f (rows_as l)) c.row_of-k.ensures)

pub returns-else-is_sample : goal.returns-else-is_sample
returns-else-is_sample c = read_end c.args.pending c.args.store.now.groups.items c.args.e.now c.args.page.now (sym c.if-is_sample.ensures)
