use Rattle.std.proofs.Common.{rules, tests}
use Rattle.release.proofs.Knowing.{known_sample, known_end}
use Rattle.release.proofs.commit.Memory.after.Goals as goal
use Rattle.release.proofs.commit.Memory.after.Goals.{then-self, else-self}

pub returns-after-self : goal.returns-after-self
returns-after-self c w k =
    known_sample c.args.e.now c.args.self w k _ c.if-self.result c.in-Sample.is
    (elim c.if-self.branch [
      | then-self y ↦ λ h. (y.if-self.true, search (rules, tests))
      | else-self y ↦ λ h. search (rules, tests)
    ])

pub returns-in-End : goal.returns-in-End
returns-in-End c w k = known_end c.args.e.now c.args.self w k _ c.in-End.is
