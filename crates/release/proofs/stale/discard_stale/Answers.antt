use Rattle.std.proofs.Common.{sym, ◌-◌, arith, rules}
use Rattle.release.proofs.Discarding.{discarding_more, discarding_stop, discarding_all}
use Rattle.release.proofs.stale.discard_stale.Goals as goal

pub loop-preserved : goal.loop-preserved
loop-preserved c =
    discarding_more c.args.e.now c.len-end.result c.args.sets.now c.loop.sets (c.len-end.result - c.loop.counter) _ _ c.in-Some.set c.discard.new.self c.loop.invariant (omega (arith, c.loop-test.true)) (sym c.in-Some.ensures) (search rules) c.discard.ensures.held c.discard.ensures.counts

pub returns-in-None-clause-goes : goal.returns-in-None-clause-goes
returns-in-None-clause-goes c =
    discarding_stop c.args.e.now c.len-end.result c.args.sets.now c.loop.sets (c.len-end.result - c.loop.counter) c.len-end.ensures.value c.loop.invariant (sym c.in-None.ensures)

pub returns-clause-goes : goal.returns-clause-goes
returns-clause-goes c =
    discarding_all c.args.e.now c.len-end.result c.args.sets.now c.loop.sets (c.len-end.result - c.loop.counter) c.len-end.ensures.value c.loop.invariant (omega (arith, c.loop-test.false))
