-- What a release remembers of a group's held entries from one commit to the next.
use Rattle.std.specs.Prelude.{ℕ, ◌≡◌, true, List, None}
use Rattle.guids.specs.Guid.{Guid}
use Rattle.rules.specs.declared.entry.Entry.{Entry}
use Rattle.rules.specs.Sets.{lowest_ended, lowest_stale}
use Rattle.release.specs.declared.commit.Memory.{Memory}

-- quiet: no set is ended; clean: no set but `own` is open and not ended
pub record Known (g : Guid) (m : Memory) (l : List (Entry ℕ)) : Type 0 where
  pub ended : m.quiet ≡ true → lowest_ended g l ≡ None
  pub stale : m.clean ≡ true → (e : Entry ℕ) → e.group ≡ g → e.set ≡ m.own → lowest_stale e l ≡ None
