-- What is left pending of a group once its entries up to a number are committed.
use Rattle.std.specs.Prelude.{ℕ, ◌&&◌, not, List, leb, Option, None, Some}
use Rattle.laws.specs.Lists.{filter}
use Rattle.guids.specs.Guid.{Guid}
use Rattle.rules.specs.Entry.{of_group}
use Rattle.rules.specs.declared.entry.Entry.{Entry}

-- with none committed, all
abbrev pub left : Guid → Option ℕ → List (Entry ℕ) → List (Entry ℕ)
left g None ps = ps
left g (Some n) ps = filter (λ e. not (of_group g e && leb e.number n)) ps
