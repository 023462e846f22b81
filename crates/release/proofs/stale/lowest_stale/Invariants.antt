use Rattle.std.proofs.Common.{◌≡◌, ℕ, List, ◌++◌}
use Rattle.laws.specs.Lists.{filter}
use Rattle.rules.specs.declared.entry.Entry.{Entry}
use Rattle.rules.specs.Sets.{lowest_set, is_stale}
use Rattle.release.proofs.stale.lowest_stale.Given as goal

-- of the entries behind those still to come
abbrev pub invariant-loop-h : goal.invariant-loop-h
invariant-loop-h l = (ys : List (Entry ℕ)) × (l.held ≡ l.h-iterator.iter.rest.now ++ ys) × (l.low ≡ lowest_set (filter (λ x. is_stale l.e l.held x) ys))
