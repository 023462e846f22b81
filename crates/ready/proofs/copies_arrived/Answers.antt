use Rattle.std.proofs.Common.{◌∙◌, ap, rules, tests}
use Rattle.std.proofs.lemmas.Iterator.{YieldsList-from_slice}
use Rattle.std.proofs.lemmas.Iterator.Search.{all_from_yields_List}
use Rattle.rules.specs.Commit.{copies_arrived}
use Rattle.rules.specs.GroupTurn.{turn_as}
use Rattle.ready.specs.Places.{entries_at, copied}
use Rattle.ready.proofs.Walks.{copies_turned}
use Rattle.ready.proofs.copies_arrived.Goals as goal

pub returns : goal.returns
returns c =
    let t = turn_as c.args.turn.now in
    let n = c.args.number in
    let h = c.new-heads.result in
    all_from_yields_List (λ p. copied t n (entries_at h.pending.now h.places.now) p) _ _ _ c.all.ensures.ran (YieldsList-from_slice _ cc) (λ x r q k. search (rules, tests))
    ∙ copies_turned t n _
    ∙ ap (λ l. copies_arrived t n l) c.new-heads.ensures
