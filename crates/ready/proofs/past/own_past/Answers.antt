use Rattle.std.proofs.Common.{◌∙◌, ◌-◌, ◌||◌, not, ap, sym, arith, rules, tests}
use Rattle.std.proofs.lemmas.Iterator.{YieldsList-from_slice}
use Rattle.std.proofs.lemmas.Iterator.Search.{all_from_yields_List}
use Rattle.laws.specs.Lists.{filter, list_all}
use Rattle.guids.specs.Guid.{same_guid}
use Rattle.rules.specs.Commit.{all_from, pair_past}
use Rattle.rules.specs.GroupTurn.{turn_as}
use Rattle.ready.proofs.Walks.{from_all, from_next, all_of}
use Rattle.ready.proofs.past.own_past.Goals as goal

pub returns : goal.returns
returns c =
    let t = turn_as c.args.turn.now in
    let a = c.saturating_add-from.result in
    let n = c.args.number in
    let own = filter (λ p. same_guid t.guid p.group) c.args.counted.now in
    all_from_yields_List (λ p. not (same_guid t.guid p.group) || all_from a (n - a) (λ m. pair_past t p.writer p.reader m)) _ _ _ c.all.ensures.ran (YieldsList-from_slice _ cc) (λ x r q k. search (rules, tests))
    ∙ all_of (λ p. same_guid t.guid p.group) (λ p. all_from a (n - a) (λ m. pair_past t p.writer p.reader m)) c.args.counted.now
    ∙ sym (from_all a (n - a) (λ p m. pair_past t p.writer p.reader m) own)
    ∙ ap (λ b. all_from b (n - b) (λ m. list_all (λ p. pair_past t p.writer p.reader m) own)) c.saturating_add-from.ensures
    ∙ from_next c.args.committed n _ _ (omega arith)
