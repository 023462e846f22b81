-- Rows of which the same may be asked.
use Rattle.std.specs.Prelude.{◌≡◌, Bool, ◌&&◌, List, eqb}
use Rattle.laws.specs.Lists.{list_all}
use Rattle.guids.specs.Guid.{same_guid}
use Rattle.rules.specs.declared.view.Pair.{Pair}

-- whatever the test, all of the one list pass it where all of the other do
abbrev pub SameRows : List Pair → List Pair → Type 0
SameRows c d = (p : Pair → Bool) → list_all p c ≡ list_all p d

unfoldable pub same_row : Pair → Pair → Bool
same_row a b = eqb a.reader b.reader && same_guid a.writer b.writer && same_guid a.group b.group
