-- Where the release of one group stands between its repetitions, and what one repetition does.
use Rattle.std.specs.Prelude.{ℕ, ◌≡◌, List, Option, None, Some}
use Rattle.laws.specs.Lists.{filter}
use Rattle.rules.specs.Entry.{of_group}
use Rattle.rules.specs.Release.{Work, round, rounds}
use Rattle.rules.specs.GroupTurn.{turn_as}
use Rattle.rules.specs.declared.entry.Entry.{Entry}
use Rattle.rules.specs.declared.turn.GroupTurn.{GroupTurn}
use Rattle.sets.specs.declared.Sets.{Sets}
use Rattle.sets.specs.Works.{Carries}
use Rattle.release.specs.Left.{left}
use Rattle.release.specs.Order.{by_number, Lists}
use Rattle.release.specs.Known.{Known}
use Rattle.release.specs.GroupReleased.{Ended}
use Rattle.release.specs.declared.group.Progress.{Progress}

-- the places are those of the group's entries that are left of ps, in the order of their numbers; and what is remembered is so
pub record Stands (t : GroupTurn) (ps : List (Entry ℕ)) (k : Progress) (s : Sets) : Type 0 where
  pub listed : Lists ps (by_number (filter (λ e. of_group t.group.guid e) (left t.group.guid k.last ps))) k.rest.now
  pub known : Known t.group.guid k.memory s.held.items

-- the definition's repetition stops, and nothing changed; or it goes on, and the state is that behind it
abbrev pub Repeated : GroupTurn → List (Entry ℕ) → Option ℕ → Option Progress → Sets → List ℕ → Work ℕ → Type 0
Repeated t ps r None s o v = (round (turn_as t) v ≡ None) × Ended t ps r s o v
Repeated t ps r (Some k) s o v = (u : Work ℕ) × (round (turn_as t) v ≡ Some u) × Ended t ps k.last s o u

-- what i repetitions of the definition make of the group's beginning is what the state stands for
abbrev pub Reaches : ℕ → GroupTurn → List (Entry ℕ) → Sets → List ℕ → Option ℕ → Sets → List ℕ → Type 0
Reaches i t ps s o r u p = (w : Work ℕ) → w.pending ≡ ps → w.committed ≡ t.group.committed → Carries s o w → Ended t ps r u p (rounds i (turn_as t) w)
