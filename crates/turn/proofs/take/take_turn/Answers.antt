-- The answer is the first that holds: 9, nothing waits, 5; else the rows' calls and a release.
use mathlib.Core.Path.{◌≡◌, refl, sym, ap, ◌∙◌}
use borrow.Author.Tests.{lt-ltb, le-ltb}
use borrow.Author.Rules.{rules}
use Prim.{tt}
use Rattle.std.specs.Prelude.{Err}
use Rattle.turn.specs.Turn.{since, TurnKept}
use Rattle.release.specs.Released.{view_of}
use Rattle.turn.proofs.TurnCases.{turn_malformed, turn_idle, turn_short, turn_answered, turn_refused}
use Rattle.turn.proofs.TurnKept.{kept_from}
use Rattle.turn.proofs.take.take_turn.Goals as goal

pub returns-then-is_malformed_turn-clause-is : goal.returns-then-is_malformed_turn-clause-is
returns-then-is_malformed_turn-clause-is c = let a = c.args in
    turn_malformed a.order.now a.rows.now (view_of a.counted.now a.digests.now) a.time a.out.now (sym c.is_malformed_turn.ensures ∙ c.if-is_malformed_turn.true)

pub returns-then-is_empty-clause-is : goal.returns-then-is_empty-clause-is
returns-then-is_empty-clause-is c = let a = c.args in
    turn_idle a.order.now a.rows.now (view_of a.counted.now a.digests.now) a.time a.out.now (sym c.is_malformed_turn.ensures ∙ c.if-is_malformed_turn.false)
    (sym c.is_empty.ensures ∙ c.if-is_empty.true)

pub returns-then-short-clause-is : goal.returns-then-short-clause-is
returns-then-short-clause-is c = let a = c.args in
    turn_short a.order.now a.rows.now (view_of a.counted.now a.digests.now) a.time a.out.now (sym c.is_malformed_turn.ensures ∙ c.if-is_malformed_turn.false)
    (sym c.is_empty.ensures ∙ c.if-is_empty.false) (lt-ltb _ _ (rw c.sample_count.ensures at c.if-short.true))

pub returns-in_err-count-clause-is : goal.returns-in_err-count-clause-is
returns-in_err-count-clause-is c = let a = c.args in
    let e : c.from_residual.result ≡ Err c.in_err-count.field-0.0 = search rules in
    rw e
    (turn_refused a.order.now a.rows.now (view_of a.counted.now a.digests.now) a.time a.out.now c.apply_rows.new.order c.release.new.self _ c.release.new.out
    (sym c.is_malformed_turn.ensures ∙ c.if-is_malformed_turn.false) (sym c.is_empty.ensures ∙ c.if-is_empty.false)
    (le-ltb _ _ (rw c.sample_count.ensures at c.if-short.false)) c.apply_rows.ensures (c.in_err-count.ensures {u = tt}).is)

pub returns-clause-is : goal.returns-clause-is
returns-clause-is c = let a = c.args in
    turn_answered a.order.now a.rows.now (view_of a.counted.now a.digests.now) a.time a.out.now c.apply_rows.new.order c.release.new.self _ c.release.new.out c.since-grown.result
    (sym c.is_malformed_turn.ensures ∙ c.if-is_malformed_turn.false) (sym c.is_empty.ensures ∙ c.if-is_empty.false)
    (le-ltb _ _ (rw c.sample_count.ensures at c.if-short.false)) c.apply_rows.ensures (c.in_ok-count.ensures {u = tt}).is
    (c.since-grown.ensures ∙ ap (λ b. since b c.counts.result) c.counts-before.ensures ∙ ap (λ b. since a.order.now.counts b) c.counts.ensures)

pub returns-then-is_malformed_turn-clause-kept : goal.returns-then-is_malformed_turn-clause-kept
unfolding TurnKept
returns-then-is_malformed_turn-clause-kept c = refl

pub returns-then-is_empty-clause-kept : goal.returns-then-is_empty-clause-kept
unfolding TurnKept
returns-then-is_empty-clause-kept c = refl

pub returns-then-short-clause-kept : goal.returns-then-short-clause-kept
unfolding TurnKept
returns-then-short-clause-kept c = refl

pub returns-in_err-count-clause-kept : goal.returns-in_err-count-clause-kept
returns-in_err-count-clause-kept c = let a = c.args in
    let e : c.from_residual.result ≡ Err c.in_err-count.field-0.0 = search rules in
    rw e
    (kept_from a.order.now a.rows.now (view_of a.counted.now a.digests.now) a.time a.out.now _ _ _
    (turn_refused a.order.now a.rows.now (view_of a.counted.now a.digests.now) a.time a.out.now c.apply_rows.new.order c.release.new.self _ c.release.new.out
    (sym c.is_malformed_turn.ensures ∙ c.if-is_malformed_turn.false) (sym c.is_empty.ensures ∙ c.if-is_empty.false)
    (le-ltb _ _ (rw c.sample_count.ensures at c.if-short.false)) c.apply_rows.ensures (c.in_err-count.ensures {u = tt}).is))

pub returns-clause-kept : goal.returns-clause-kept
unfolding TurnKept
returns-clause-kept c = tt
