-- How the open sets and the places written stand to the definitions' work.
use Rattle.std.specs.Prelude.{ℕ, ◌≡◌, List, map}
use Rattle.rules.specs.Release.{Work}
use Rattle.rules.specs.Run.{place_of}
use Rattle.sets.specs.declared.Sets.{Sets}

-- the open sets' entries and the counts are the work's, and the places written are those of the samples that it handed out
pub record Carries (s : Sets) (o : List ℕ) (w : Work ℕ) : Type 0 where
  pub held : s.held.items ≡ w.held
  pub counts : s.counts ≡ w.counts
  pub out : o ≡ map (λ e. place_of e) w.out

-- from one such state to the next, the work goes by f
abbrev pub Goes : (Work ℕ → Work ℕ) → Sets → List ℕ → Sets → List ℕ → Type 0
Goes f s o t p = (w : Work ℕ) → Carries s o w → Carries t p (f w)

-- the same where no place is written
abbrev pub GoesSets : (Work ℕ → Work ℕ) → Sets → Sets → Type 0
GoesSets f s t = (o : List ℕ) → Goes f s o t o
