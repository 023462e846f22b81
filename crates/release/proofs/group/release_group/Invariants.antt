use Rattle.std.proofs.Common.{◌+◌, ◌≤◌, length}
use Rattle.laws.specs.Lists.{count}
use Rattle.rules.specs.Entry.{of_group}
use Rattle.release.specs.OwnTurn.{with_own_rows}
use Rattle.release.specs.Progress.{Stands, Reaches}
use Rattle.release.proofs.group.release_group.Given as goal

abbrev pub invariant-loop : goal.invariant-loop
invariant-loop l = record {
  stands : Stands (with_own_rows l.turn) l.pending.items l.at l.sets;
  room : length l.sets.held.items + length l.out.items + length l.at.rest.now ≤ length l.fn.sets.held.items + length l.fn.out.items + count (λ e. of_group l.turn.group.guid e) l.pending.items;
  reaches : Reaches l.counter (with_own_rows l.turn) l.pending.items l.fn.sets l.fn.out.items l.at.last l.sets l.out.items;
}
