use Rattle.std.proofs.Common.{rules, arith, ℕ, ◌≡◌, ◌+◌, ◌≤◌, sym, ap, subst, length, unwrap_or, List, Option, None, Some}
use Rattle.laws.specs.Lists.{count}
use Rattle.rules.specs.Release.{Work}
use Rattle.release.specs.OwnTurn.{own_turn, with_own_rows}
use Rattle.rules.specs.declared.entry.Entry.{Entry}
use Rattle.release.specs.Order.{by_number, Lists}
use Rattle.release.specs.GroupReleased.{Ended}
use Rattle.release.specs.Progress.{Stands, Repeated}
use Rattle.release.specs.declared.group.Progress.{Progress}
use Rattle.release.proofs.Heads.{own}
use Rattle.release.proofs.Repeats.{reaches_none, reaches_stop, reaches_more, reaches_all}
use Rattle.release.proofs.Heading.{left_room, listed_length, known_nothing}
use Rattle.release.proofs.group.release_group.Goals as goal

pub loop-init : goal.loop-init
unfolding count
loop-init c =
    let l : Lists c.args.pending.now.items (by_number (own (own_turn c.args.turn.now) c.args.pending.now.items)) c.as_slice.result.now =
    subst (λ (is : List ℕ). Lists c.args.pending.now.items (by_number (own (own_turn c.args.turn.now) c.args.pending.now.items)) is) (sym c.as_slice.ensures.value) c.in_order-places.ensures in
    let n = listed_length c.args.pending.now.items (own (own_turn c.args.turn.now) c.args.pending.now.items) c.as_slice.result.now l in
    record {
      stands = record { listed = l; known = known_nothing c.args.turn.now.group.guid c.default.result c.args.sets.now.held.items c.default.ensures.0 c.default.ensures.1.0 };
      room = omega (arith, n);
      reaches = reaches_none (with_own_rows c.args.turn.now) c.args.pending.now.items c.args.sets.now c.args.out.now.items;
    }

pub returns-in_default-clause-goes : goal.returns-in_default-clause-goes
returns-in_default-clause-goes c =
    let e : c.repeat.result ≡ None = search rules in
    let g = subst (λ (es : List (Entry ℕ)). (v : Work ℕ) → Ended (with_own_rows c.args.turn.now) es c.loop.at.last c.loop.sets c.loop.out.items v → Repeated (with_own_rows c.args.turn.now) es c.loop.at.last None c.repeat.new.sets c.repeat.new.out.items v) c.as_slice-entries.ensures.value
    (subst (λ (q : Option Progress). (v : Work ℕ) → Ended (with_own_rows c.args.turn.now) c.as_slice-entries.result.now c.loop.at.last c.loop.sets c.loop.out.items v → Repeated (with_own_rows c.args.turn.now) c.as_slice-entries.result.now c.loop.at.last q c.repeat.new.sets c.repeat.new.out.items v) e c.repeat.ensures.goes) in
    reaches_stop (with_own_rows c.args.turn.now) c.args.pending.now.items c.args.sets.now c.args.out.now.items c.loop.counter c.loop.at.last c.loop.sets c.loop.out.items c.repeat.new.sets c.repeat.new.out.items c.loop.invariant.reaches g

pub returns-in_default-clause-room : goal.returns-in_default-clause-room
returns-in_default-clause-room c =
    let e : c.repeat.result ≡ None = search rules in
    let r = subst (λ (q : Option Progress). length c.repeat.new.sets.held.items + length c.repeat.new.out.items + length (unwrap_or q c.loop.at).rest.now ≤ length c.loop.sets.held.items + length c.loop.out.items + length c.loop.at.rest.now) e c.repeat.ensures.room in
    omega (arith, r, c.loop.invariant.room, left_room (with_own_rows c.args.turn.now) c.args.pending.now.items c.loop.at c.loop.sets c.loop.invariant.stands)

pub loop-preserved : goal.loop-preserved
loop-preserved c =
    let e : c.repeat.result ≡ Some c.in-Some.next = search rules in
    let g = subst (λ (es : List (Entry ℕ)). (v : Work ℕ) → Ended (with_own_rows c.args.turn.now) es c.loop.at.last c.loop.sets c.loop.out.items v → Repeated (with_own_rows c.args.turn.now) es c.loop.at.last (Some c.in-Some.next) c.repeat.new.sets c.repeat.new.out.items v) c.as_slice-entries.ensures.value
    (subst (λ (q : Option Progress). (v : Work ℕ) → Ended (with_own_rows c.args.turn.now) c.as_slice-entries.result.now c.loop.at.last c.loop.sets c.loop.out.items v → Repeated (with_own_rows c.args.turn.now) c.as_slice-entries.result.now c.loop.at.last q c.repeat.new.sets c.repeat.new.out.items v) e c.repeat.ensures.goes) in
    let r = subst (λ (q : Option Progress). length c.repeat.new.sets.held.items + length c.repeat.new.out.items + length (unwrap_or q c.loop.at).rest.now ≤ length c.loop.sets.held.items + length c.loop.out.items + length c.loop.at.rest.now) e c.repeat.ensures.room in
    record {
      stands = subst (λ (es : List (Entry ℕ)). Stands (with_own_rows c.args.turn.now) es c.in-Some.next c.repeat.new.sets) c.as_slice-entries.ensures.value
          (subst (λ (q : Option Progress). Stands (with_own_rows c.args.turn.now) c.as_slice-entries.result.now (unwrap_or q c.loop.at) c.repeat.new.sets) e c.repeat.ensures.stands);
      room = omega (arith, r, c.loop.invariant.room);
      reaches = reaches_more (with_own_rows c.args.turn.now) c.args.pending.now.items c.args.sets.now c.args.out.now.items c.loop.counter c.loop.at.last c.in-Some.next c.loop.sets c.loop.out.items c.repeat.new.sets c.repeat.new.out.items c.loop.invariant.reaches g;
    }

pub returns-clause-goes : goal.returns-clause-goes
returns-clause-goes c =
    reaches_all (with_own_rows c.args.turn.now) c.args.pending.now.items c.args.sets.now c.args.out.now.items c.loop.counter c.loop.at.last c.loop.sets c.loop.out.items (omega (arith, ap length c.as_slice-entries.ensures.value)) c.loop.invariant.reaches

pub returns-clause-room : goal.returns-clause-room
returns-clause-room c = omega (arith, c.loop.invariant.room, left_room (with_own_rows c.args.turn.now) c.args.pending.now.items c.loop.at c.loop.sets c.loop.invariant.stands)
