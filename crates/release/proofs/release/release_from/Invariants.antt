use Rattle.std.proofs.Common.{◌+◌, ◌-◌, ◌≤◌, length}
use Rattle.release.specs.Released.{view_of}
use Rattle.release.specs.GroupSteps.{ReleasedTo}
use Rattle.release.proofs.release.release_from.Given as goal

abbrev pub invariant-loop-i : goal.invariant-loop-i
invariant-loop-i l = record {
  released : ReleasedTo (view_of l.counted l.digests) l.time l.i l.fn.store l.store l.handed.items;
  within : l.i ≤ length l.store.groups.items;
  room : length l.store.sets.held.items + length l.handed.items + length l.store.pending.items ≤ 256;
}

abbrev pub decreases-loop-i : goal.decreases-loop-i
decreases-loop-i l = length l.fn.store.groups.items - l.i
