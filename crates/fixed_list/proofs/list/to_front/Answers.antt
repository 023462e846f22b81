-- `to_front`: the item at i goes behind those kept, or out.
use Rattle.std.proofs.Common.{◌<◌, ◌∙◌, length, sym, arith}
use Rattle.std.proofs.lemmas.List.Filters.{FiltersInPlace-more_set, FiltersInPlace-more_no, FiltersInPlace-all}
use Rattle.fixed_list.proofs.list.to_front.Goals.{then-keeps, else-keeps}
use Rattle.fixed_list.proofs.list.to_front.Goals as goal

pub loop-i-preserved : goal.loop-i-preserved
loop-i-preserved g c =
    let at = c.loop-i in
    let there : at.i < length at.items = omega (arith, c.loop-i-test.true, at.invariant.long) in
    elim c.if-keeps.branch [
      | then-keeps w ↦ rw (w.items-is, w.kept-is) (FiltersInPlace-more_set at.invariant there (sym c.keeps.ensures ∙ w.if-keeps.true) c.index-items-i.is)
      | else-keeps w ↦ rw (w.items-is, w.kept-is) (FiltersInPlace-more_no at.invariant there (sym c.keeps.ensures ∙ w.if-keeps.false) c.index-items-i.is)
    ]

pub returns-clause-items : goal.returns-clause-items
returns-clause-items g c = FiltersInPlace-all c.loop-i.invariant c.loop-i-test.false
