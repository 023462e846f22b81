use Rattle.std.proofs.Common.{sym}
use Rattle.release.proofs.Sorted.{blank}
use Rattle.release.proofs.Heads.{heads_more, heads_end}
use Rattle.release.proofs.group.head_count.Goals as goal

pub returns-then-entries-i-clause-other : goal.returns-then-entries-i-clause-other
returns-then-entries-i-clause-other c = heads_end c.args.entries.now c.args.places.now c.args.number c.loop-k.k blank c.requires c.loop-k-test.true (λ e. c.if-entries-i.true (sym e))

pub loop-k-preserved : goal.loop-k-preserved
loop-k-preserved c = heads_more c.args.entries.now c.args.places.now c.args.number c.loop-k.k blank c.requires c.loop-k-test.true c.loop-k.invariant (sym c.if-entries-i.false)
