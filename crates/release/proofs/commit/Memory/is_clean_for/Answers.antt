use Rattle.std.proofs.Common.{rules, tests}
use Rattle.release.proofs.Knowing.{clean_none}
use Rattle.release.proofs.commit.Memory.is_clean_for.Goals as goal

pub returns-then-is_none : goal.returns-then-is_none
returns-then-is_none c l k h = clean_none c.args.e.now c.args.self l k c.if-self.true (search (rules, tests))
