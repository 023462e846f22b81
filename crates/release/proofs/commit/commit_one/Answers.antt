use Rattle.release.proofs.Settling.{commit_after, commit_clean}
use Rattle.release.proofs.commit.commit_one.Goals as goal
use Rattle.release.proofs.commit.commit_one.Goals.{then-not-clean, else-not-clean}

pub returns-clause-goes : goal.returns-clause-goes
returns-clause-goes c =
    elim c.if-not-clean.branch [
      | then-not-clean w ↦ commit_after c.args.e c.args.sets.now c.args.out.now.items w.discard_stale.new.sets c.settle.new.sets c.settle.new.out.items w.discard_stale.ensures.goes (rw w.sets-is at c.settle.ensures.goes)
      | else-not-clean w ↦ commit_clean c.args.e c.args.sets.now c.args.out.now.items c.settle.new.sets c.settle.new.out.items (c.requires.clean w.if-not-clean.false) (rw w.sets-is at c.settle.ensures.goes)
    ]
