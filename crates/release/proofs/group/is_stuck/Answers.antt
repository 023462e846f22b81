use Rattle.std.proofs.Common.{rules, ◌≡◌, ◌∙◌, ◌||◌, ◌-◌, suc, sym, ap, true, false, None, Some, slice_get, eqb, ltb}
use borrow.Author.Tests.{not-true}
use Rattle.laws.specs.Lists.{filter}
use Rattle.rules.specs.Entry.{of_group}
use Rattle.rules.specs.Sets.{lowest_ended}
use Rattle.rules.specs.Commit.{ruled_out}
use Rattle.release.specs.OwnTurn.{own_turn}
use Rattle.release.specs.Order.{by_number}
use Rattle.release.proofs.Repeats.{round_empty, round_young}
use Rattle.release.proofs.group.is_stuck.Goals as goal

pub returns-then-is_young : goal.returns-then-is_young
returns-then-is_young c w p h m e =
    let none : c.lowest_ended.result ≡ None = search rules in
    let q : lowest_ended c.args.turn.now.group.guid w.held ≡ None = ap (lowest_ended c.args.turn.now.group.guid) h ∙ sym c.lowest_ended.ensures ∙ none in
    let f : slice_get (by_number (filter (λ x. of_group c.args.turn.now.group.guid x) w.pending)) 0 ≡ Some c.in-Some.e.now = ap (λ l. slice_get (by_number (filter (λ x. of_group c.args.turn.now.group.guid x) l)) 0) p ∙ search rules in
    let y : ltb (c.args.turn.now.time - c.in-Some.e.now.time) c.args.turn.now.timeout ≡ true = search rules in
    let s : eqb c.in-Some.e.now.number (suc w.committed) || ruled_out (own_turn c.args.turn.now) w.committed c.in-Some.e.now.number ≡ false = rw m (sym c.is_passable_for.ensures ∙ not-true c.is_passable_for.result e) in
    round_young (own_turn c.args.turn.now) w q c.in-Some.e.now f s y

pub returns-in-None : goal.returns-in-None
returns-in-None c w p h m e =
    let none : c.lowest_ended.result ≡ None = search rules in
    let q : lowest_ended c.args.turn.now.group.guid w.held ≡ None = ap (lowest_ended c.args.turn.now.group.guid) h ∙ sym c.lowest_ended.ensures ∙ none in
    let f : slice_get (by_number (filter (λ x. of_group c.args.turn.now.group.guid x) w.pending)) 0 ≡ None = ap (λ l. slice_get (by_number (filter (λ x. of_group c.args.turn.now.group.guid x) l)) 0) p ∙ search rules in
    round_empty (own_turn c.args.turn.now) w q f
