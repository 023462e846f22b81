use Rattle.std.proofs.Common.{◌≡◌, ◌+◌, true, false, ◌∙◌, sym, ap₂, subst, arith}
use Rattle.rules.specs.Page.{Page, page_of, start_rows, read_all}
use Rattle.page.specs.Rows.{Few}
use Rattle.page.proofs.Reading.{few_mono, few_then, few_start}
use Rattle.page.proofs.fill.page_of.Goals as goal

pub read_all-pending-requires-clause-few : goal.read_all-pending-requires-clause-few
read_all-pending-requires-clause-few c =
    let gs = c.args.store.now.groups.items in
    subst (λ l. Few 256 l) (sym c.start_page-page.ensures) (few_mono 0 256 (start_rows 8 gs) (omega arith) (few_start 8 gs))

pub read_all-held-requires-clause-few : goal.read_all-held-requires-clause-few
read_all-held-requires-clause-few c =
    let s = c.args.store.now in
    let gs = s.groups.items in
    let f : Few 0 _ = subst (λ l. Few 0 l) (sym c.start_page-page.ensures) (few_start 8 gs) in
    few_then true gs 0 256 c.deref.result.now c.start_page-page.result c.read_all-pending.new.page f c.read_all-pending.ensures.rows (omega arith)

pub returns-clause-rows : goal.returns-clause-rows
unfolding page_of
returns-clause-rows c =
    let s = c.args.store.now in
    let gs = s.groups.items in
    let p : Page = record { rows = start_rows 8 gs; read = 0 } in
    let e = c.read_all-pending.ensures.rows p (sym c.start_page-page.ensures) in
    c.read_all-held.ensures.rows (read_all true gs c.deref.result.now p) (sym e) ∙ ap₂ (λ l m. (read_all false gs m (read_all true gs l p)).rows) c.deref.ensures.0 c.deref-2.ensures.0

pub returns-clause-read : goal.returns-clause-read
unfolding page_of
returns-clause-read c =
    let s = c.args.store.now in
    let gs = s.groups.items in
    let p : Page = record { rows = start_rows 8 gs; read = 0 } in
    let a = c.read_all-held.ensures.read (read_all true gs c.deref.result.now p) in
    let b = c.read_all-pending.ensures.read p in
    let n : c.read_all-pending.result + c.read_all-held.result ≡ (read_all false gs c.deref-2.result.now (read_all true gs c.deref.result.now p)).read = omega (arith, a, b) in
    n ∙ ap₂ (λ l m. (read_all false gs m (read_all true gs l p)).read) c.deref.ensures.0 c.deref-2.ensures.0
