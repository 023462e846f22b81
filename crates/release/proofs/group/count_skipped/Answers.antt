use Rattle.std.proofs.Common.{rules}
use Rattle.rules.specs.State.{plus}
use Rattle.rules.specs.Release.{skip}
use Rattle.release.proofs.group.count_skipped.Goals as goal

pub returns : goal.returns
unfolding skip plus
returns c = search rules
