-- What the release of a group asks, where the turn's counted rows are those of all groups.
use Rattle.laws.specs.Lists.{filter}
use Rattle.guids.specs.Guid.{same_guid}
use Rattle.rules.specs.Commit.{Turn}
use Rattle.rules.specs.declared.turn.GroupTurn.{GroupTurn}
use Rattle.ready.specs.Own.{turn_for}

abbrev pub own_turn : GroupTurn → Turn
own_turn t = turn_for t.counted.now t

-- the turn with the group's own rows alone: `turn_as` of it is `own_turn`
abbrev pub with_own_rows : GroupTurn → GroupTurn
with_own_rows t = record {
  group = t.group;
  writers = t.writers;
  counted = record { ref_ptr = t.counted.ref_ptr; now = filter (λ p. same_guid t.group.guid p.group) t.counted.now };
  digests = t.digests;
  time = t.time;
  timeout = t.timeout;
}
