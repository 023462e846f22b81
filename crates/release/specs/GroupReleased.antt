-- What the release of one group leaves.
use Rattle.std.specs.Prelude.{ℕ, ◌≡◌, List, Option, unwrap_or}
use Rattle.rules.specs.Release.{Work, rounds, enough}
use Rattle.rules.specs.GroupTurn.{turn_as}
use Rattle.rules.specs.declared.entry.Entry.{Entry}
use Rattle.rules.specs.declared.turn.GroupTurn.{GroupTurn}
use Rattle.sets.specs.declared.Sets.{Sets}
use Rattle.sets.specs.Works.{Carries}
use Rattle.release.specs.Left.{left}

-- it ends where the definition's repetitions end: r is the last number committed, if any, and left of the pending entries ps are those that
-- the definition leaves
pub record Ended (t : GroupTurn) (ps : List (Entry ℕ)) (r : Option ℕ) (s : Sets) (o : List ℕ) (v : Work ℕ) : Type 0 where
  pub carries : Carries s o v
  pub committed : v.committed ≡ unwrap_or r t.group.committed
  pub pending : v.pending ≡ left t.group.guid r ps

abbrev pub GroupReleased : GroupTurn → List (Entry ℕ) → Sets → List ℕ → Option ℕ → Sets → List ℕ → Type 0
GroupReleased t ps s o r u p = (w : Work ℕ) → w.pending ≡ ps → w.committed ≡ t.group.committed → Carries s o w → Ended t ps r u p (rounds (enough w) (turn_as t) w)
