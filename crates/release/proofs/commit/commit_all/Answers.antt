use Rattle.release.proofs.Committing.{committing_all, known_here, committing_more}
use Rattle.release.proofs.commit.commit_all.Goals as goal

pub commit_one-requires-clause-clean : goal.commit_one-requires-clause-clean
commit_one-requires-clause-clean c h =
    c.is_clean_for-clean.ensures c.loop-i.sets.held.items
    (known_here c.args.group c.args.pending.now c.args.places.now c.loop-i.i-index c.args.sets.now c.args.out.now.items c.loop-i.sets c.loop-i.out.items c.loop-i.memory c.loop-i.invariant _ c.requires.within c.loop-i-test.true) h

pub loop-i-preserved : goal.loop-i-preserved
loop-i-preserved c =
    committing_more c.args.group c.args.pending.now c.args.places.now c.loop-i.i-index c.args.sets.now c.args.out.now.items c.loop-i.sets c.loop-i.out.items c.loop-i.memory c.loop-i.invariant _ c.requires.within c.loop-i-test.true
    c.commit_one.new.sets c.commit_one.new.out.items c.after-memory.result c.commit_one.ensures.goes c.commit_one.ensures.room c.after-memory.ensures

pub returns-clause-goes : goal.returns-clause-goes
returns-clause-goes c =
    committing_all c.args.group c.args.pending.now c.args.places.now c.loop-i.i-index c.args.sets.now c.args.out.now.items c.loop-i.sets c.loop-i.out.items c.loop-i.memory c.loop-i.invariant c.loop-i-test.false
