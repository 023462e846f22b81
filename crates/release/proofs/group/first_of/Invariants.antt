use Rattle.std.proofs.Common.{◌≡◌, take, slice_get, option_copied}
use Rattle.laws.specs.Lists.{filter}
use Rattle.rules.specs.Entry.{of_group}
use Rattle.release.specs.Order.{by_number}
use Rattle.release.proofs.group.first_of.Given as goal

abbrev pub invariant-loop-e : goal.invariant-loop-e
invariant-loop-e l = option_copied l.first ≡ slice_get (by_number (filter (λ e. of_group l.group e) (take l.e-index l.pending))) 0
