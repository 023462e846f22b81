use Rattle.std.proofs.Common.{◌≤◌, length, take}
use Rattle.laws.specs.Lists.{filter}
use Rattle.guids.specs.Guid.{same_guid}
use Rattle.release.specs.Rows.{SameRows}
use Rattle.release.proofs.rows.rows_of.Given as goal

abbrev pub invariant-loop-p : goal.invariant-loop-p
invariant-loop-p l = record {
  same : SameRows (filter (λ p. same_guid l.group p.group) (take l.p-index l.counted)) l.rows.items;
  few : length l.rows.items ≤ l.p-index;
}
