use Rattle.std.proofs.Common.{◌∙◌, ap₂, unwrap_or, rules, tests}
use Rattle.std.proofs.lemmas.Iterator.{YieldsList-from_slice}
use Rattle.std.proofs.lemmas.Iterator.Search.{position_from_yields_List}
use Rattle.rules.specs.State.{is_group}
use Rattle.page.proofs.Reading.{index_place}
use Rattle.page.proofs.fill.place_of.Goals as goal

pub returns-clause-place : goal.returns-clause-place
returns-clause-place c =
    let gs = c.args.store.now.groups.items in
    c.unwrap_or.ensures
    ∙ ap₂ (λ o n. unwrap_or o n) (position_from_yields_List (λ g. is_group c.args.group g) _ _ c.position-known.result c.position-known.ensures.ran (YieldsList-from_slice gs cc) (λ x r q k. search (rules, tests))) c.len.ensures.value
    ∙ index_place (λ g. is_group c.args.group g) gs
