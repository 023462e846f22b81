use Rattle.std.proofs.Common.{◌≡◌, take, eqb, true}
use Rattle.laws.specs.Lists.{list_all}
use Rattle.ready.specs.Places.{entries_at}
use Rattle.release.proofs.group.head_count.Given as goal

abbrev pub invariant-loop-k : goal.invariant-loop-k
invariant-loop-k l = list_all (λ e. eqb l.number e.number) (entries_at l.entries (take l.k l.places)) ≡ true
