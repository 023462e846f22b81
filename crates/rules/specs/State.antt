-- The history's state.
use Rattle.std.specs.Prelude.{ℕ, ◌+◌, ◌-◌, ◌^◌, min, Bool, ◌&&◌, List, [], length, replicate}
use Rattle.std.specs.Prelude.{Option, Some, None}
use Rattle.laws.specs.Lists.{list_any, find}
use Rattle.guids.specs.Guid.{Guid, same_guid}
use Rattle.rules.specs.Entry.{Entry}
-- a known group (document 01, Rules of the history), a known pair of group and writer, and the counts (document 01, One call list)
pub use Rattle.rules.specs.declared.state.Group.{Group}
pub use Rattle.rules.specs.declared.state.Writer.{Writer}
pub use Rattle.rules.specs.declared.state.ReleaseCounts.{ReleaseCounts}

pub record State (X : Type 0) : Type 0 where
  -- in the order of their GUIDs
  pub groups : List Group
  pub writers : List Writer
  -- pending entries, in the order of their offers
  pub pending : List (Entry X)
  -- members and kept ends of the open sets, in the order in which they were committed or joined
  pub held : List (Entry X)
  pub counts : ReleaseCounts
  pub timeout : ℕ

-- counts stop at 2^64 − 1 (document 01, Operations)
unfoldable pub plus : ℕ → ℕ → ℕ
plus a b = min (a + b) (2 ^ 64 - 1)

unfoldable pub no_counts : ReleaseCounts
no_counts = record { skipped_after_timeout = 0; incomplete_sets = 0; discarded_samples = 0; late_samples = 0 }

-- nothing known or stored, counts 0 (document 01, The third demand)
unfoldable pub fresh : {X : Type 0} → ℕ → State X
fresh t = record { groups = []; writers = []; pending = []; held = []; counts = no_counts; timeout = t }

unfoldable pub is_group : Guid → Group → Bool
is_group g x = same_guid g x.guid

unfoldable pub is_writer : Guid → Guid → Writer → Bool
is_writer g w x = same_guid g x.group && same_guid w x.writer

unfoldable pub knows_group : Guid → List Group → Bool
knows_group g gs = list_any (λ x. is_group g x) gs

unfoldable pub knows_writer : Guid → Guid → List Writer → Bool
knows_writer g w ws = list_any (λ x. is_writer g w x) ws

unfoldable pub writer_of : Guid → Guid → List Writer → Option Writer
writer_of g w ws = find (λ x. is_writer g w x) ws

-- committed of a group; 0 of an unknown one (document 01, Rules of the history)
unfoldable pub committed_in : Option Group → ℕ
committed_in None = 0
committed_in (Some x) = x.committed

unfoldable pub committed_of : Guid → List Group → ℕ
committed_of g gs = committed_in (find (λ x. is_group g x) gs)

-- the entries stored, over all groups (document 01, Offer, 4)
unfoldable pub stored : {X : Type 0} → State X → ℕ
stored s = length s.pending + length s.held

-- committed, announced, seen and gap ends start at 0 (document 01, Rules of the history)
unfoldable pub new_group : Guid → Group
new_group g = record { guid = g; committed = 0; announced = 0 }

unfoldable pub new_writer : Guid → Guid → Writer
new_writer g w = record {
  group = g;
  writer = w;
  seen = replicate 8 0;
  gaps = replicate 8 0;
  first = 0;
  last = 0;
  current = 0;
  digest = None;
  secure = None;
}
