use Rattle.std.proofs.lemmas.List.Filters.{FiltersInPlace}
use Rattle.fixed_list.proofs.list.to_front.Given as goal

abbrev pub invariant-loop-i : goal.invariant-loop-i
invariant-loop-i g l = FiltersInPlace (g.K.Keep.keeps l.test) l.initial.items l.items l.kept l.i
