-- A group's turn on counted rows of all groups.
use Rattle.std.specs.Prelude.{List}
use Rattle.laws.specs.Lists.{filter}
use Rattle.guids.specs.Guid.{same_guid}
use Rattle.rules.specs.Commit.{Turn}
use Rattle.rules.specs.declared.view.Pair.{Pair}
use Rattle.rules.specs.declared.turn.GroupTurn.{GroupTurn}

-- with the group's own of these rows in place of those that it has
abbrev pub turn_for : List Pair → GroupTurn → Turn
turn_for cs t = record {
  guid = t.group.guid;
  announced = t.group.announced;
  writers = t.writers.now;
  counted = filter (λ p. same_guid t.group.guid p.group) cs;
  digests = t.digests.now;
  now = t.time;
  timeout = t.timeout;
}
