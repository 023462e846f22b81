-- Groups released one after the other, as the store holds them.
use Rattle.std.specs.Prelude.{ℕ, ◌≡◌, List, ◌++◌, get_or, slice_set, take, drop}
use Rattle.rules.specs.Commit.{Turn}
use Rattle.rules.specs.Release.{View, Work, turn_of, committed_at, release_group, release_all, work_of}
use Rattle.rules.specs.declared.state.Group.{Group}
use Rattle.store.specs.Store.{state_of}
use Rattle.store.specs.declared.Store.{Store}
use Rattle.sets.specs.Works.{Carries}

-- what the release of a group asks
abbrev pub turn_in : View → ℕ → Store → Group → Turn
turn_in v now s g = turn_of v now s.timeout s.writers.items g

-- the store, with the places written, is what the definition makes of the work, but for the groups
pub record Leaves (s : Store) (o : List ℕ) (w : Work ℕ) : Type 0 where
  pub carries : Carries s.sets o w
  pub pending : s.pending.items ≡ w.pending

-- the group at place i is g, and its release leaves w
pub record GroupStep (i : ℕ) (s u : Store) (p : List ℕ) (g : Group) (w : Work ℕ) : Type 0 where
  pub leaves : Leaves u p w
  pub groups : u.groups.items ≡ slice_set s.groups.items i (committed_at w.committed g)

-- the group at place i is released
pub record Steps (v : View) (now : ℕ) (i : ℕ) (s : Store) (o : List ℕ) (u : Store) (p : List ℕ) : Type 0 where
  pub step : (g : Group) → get_or s.groups.items i g ≡ g → (w : Work ℕ) → Leaves s o w → GroupStep i s u p g (release_group (turn_in v now s g) g w)
  pub writers : u.writers.items ≡ s.writers.items
  pub timeout : u.timeout ≡ s.timeout

-- the first i groups are released, and r is what that leaves
pub record GroupsReleased (i : ℕ) (s u : Store) (p : List ℕ) (r : List Group × Work ℕ) : Type 0 where
  pub leaves : Leaves u p r.1
  pub groups : u.groups.items ≡ r.0 ++ drop i s.groups.items
  pub writers : u.writers.items ≡ s.writers.items
  pub timeout : u.timeout ≡ s.timeout

abbrev pub ReleasedTo : View → ℕ → ℕ → Store → Store → List ℕ → Type 0
ReleasedTo v now i s u p = GroupsReleased i s u p (release_all (λ g. turn_in v now s g) (take i s.groups.items) (work_of (state_of s)))
