use Rattle.std.proofs.Common.{◌∙◌, ◌||◌, not, ap, rules, tests}
use Rattle.std.proofs.lemmas.Iterator.{YieldsList-from_slice}
use Rattle.std.proofs.lemmas.Iterator.Search.{all_from_yields_List}
use Rattle.guids.specs.Guid.{same_guid}
use Rattle.rules.specs.Commit.{copies_arrived, pair_past}
use Rattle.rules.specs.GroupTurn.{turn_as}
use Rattle.ready.specs.Own.{turn_for}
use Rattle.ready.specs.Places.{entries_at, copied}
use Rattle.ready.proofs.Walks.{copies_turned, all_of}
use Rattle.ready.proofs.copies_arrived_for.Goals as goal

pub returns : goal.returns
unfolding pair_past
returns c =
    let t = turn_for c.args.counted.now c.args.turn.now in
    let n = c.args.number in
    let h = c.new-heads.result in
    let l = entries_at h.pending.now h.places.now in
    all_from_yields_List (λ p. not (same_guid t.guid p.group) || copied (turn_as c.args.turn.now) n l p) _ _ _ c.all.ensures.ran (YieldsList-from_slice _ cc) (λ x r q k. search (rules, tests))
    ∙ all_of (λ p. same_guid t.guid p.group) (λ p. copied (turn_as c.args.turn.now) n l p) c.args.counted.now
    ∙ copies_turned t n l
    ∙ ap (λ es. copies_arrived t n es) c.new-heads.ensures
