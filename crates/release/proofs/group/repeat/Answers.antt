use Rattle.std.proofs.Common.{rules, ◌≡◌, true, false, not, Some, subst, ℤ, to_z, of_z, w64}
use borrow.Author.Tests.{not-true, not-false}
use Rattle.rules.specs.Sets.{lowest_ended}
use Rattle.rules.specs.Release.{waits, finish}
use Rattle.release.specs.OwnTurn.{own_turn, with_own_rows}
use Rattle.sets.specs.Works.{Goes}
use Rattle.release.proofs.Repeats.{set_finished, set_waiting}
use Rattle.release.proofs.group.repeat.Goals as goal
use Rattle.release.proofs.group.repeat.Goals.{then-at, else-at}

pub returns-then-finish-clause-goes : goal.returns-then-finish-clause-goes
returns-then-finish-clause-goes c v x =
    let e : lowest_ended c.args.turn.now.group.guid c.args.sets.now.held.items ≡ Some c.in-Some.set = elim c.if-at.branch [ then-at w ↦ search rules | else-at w ↦ search rules ] in
    let f : not (waits (own_turn c.args.turn.now) c.in-Some.set c.args.sets.now.held.items) ≡ true = search rules in
    let z : to_z w64 (of_z w64 c.in-Some.set) ≡ c.in-Some.set = search rules in
    let g = subst (λ (k : ℤ). Goes (λ w. finish (own_turn c.args.turn.now) k w) c.args.sets.now c.args.out.now.items c.finish.new.sets c.finish.new.out.items) z (c.finish.ensures.goes c.if-finish.true) in
    set_finished (with_own_rows c.args.turn.now) c.args.entries.now c.args.at.last c.args.sets.now c.args.out.now.items c.in-Some.set e v x c.finish.new.sets c.finish.new.out.items (not-true _ f) g

pub returns-else-finish-clause-goes : goal.returns-else-finish-clause-goes
returns-else-finish-clause-goes c v x =
    let e : lowest_ended c.args.turn.now.group.guid c.args.sets.now.held.items ≡ Some c.in-Some.set = elim c.if-at.branch [ then-at w ↦ search rules | else-at w ↦ search rules ] in
    let f : not (waits (own_turn c.args.turn.now) c.in-Some.set c.args.sets.now.held.items) ≡ false = search rules in
    let s = c.finish.ensures.stays c.if-finish.false in
    (set_waiting (with_own_rows c.args.turn.now) c.args.entries.now c.args.at.last c.args.sets.now c.args.out.now.items c.in-Some.set e v x (not-false _ f), rw (s.0, s.1) x)
