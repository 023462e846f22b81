-- Where the group and the writer of a call stand.
use Rattle.std.specs.Prelude.{ℕ, ◌≡◌}
use Rattle.std.specs.List.{position}
use Rattle.guids.specs.Guid.{Guid}
use Rattle.rules.specs.State.{State, is_group, is_writer}
use Rattle.offers.specs.declared.sender.Sender.{Sender}

abbrev pub sender_in : Guid → Guid → State ℕ → Sender
sender_in g w s = record {
  group = g;
  writer = w;
  group_at = position (λ x. is_group g x) s.groups;
  writer_at = position (λ x. is_writer g w x) s.writers;
}

-- its places are theirs
abbrev pub Known : Sender → State ℕ → Type 0
Known x s = x ≡ sender_in x.group x.writer s
