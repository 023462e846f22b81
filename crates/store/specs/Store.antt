-- What a store stands for.
use Rattle.std.specs.Prelude.{ℕ}
use Rattle.rules.specs.State.{State}
use Rattle.store.specs.declared.Store.{Store}

abbrev pub state_of : Store → State ℕ
state_of s = record {
  groups = s.groups.items;
  writers = s.writers.items;
  pending = s.pending.items;
  held = s.sets.held.items;
  counts = s.sets.counts;
  timeout = s.timeout;
}
