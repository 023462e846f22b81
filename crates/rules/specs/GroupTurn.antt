-- What the record of a group's turn stands for.
use Rattle.rules.specs.Commit.{Turn}
use Rattle.rules.specs.declared.turn.GroupTurn.{GroupTurn}

abbrev pub turn_as : GroupTurn → Turn
turn_as t = record {
  guid = t.group.guid;
  announced = t.group.announced;
  writers = t.writers.now;
  counted = t.counted.now;
  digests = t.digests.now;
  now = t.time;
  timeout = t.timeout;
}
