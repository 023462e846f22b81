use Rattle.std.proofs.Common.{sym, subst, get_or, List, []}
use Rattle.laws.specs.Lists.{filter}
use Rattle.guids.specs.Guid.{same_guid}
use Rattle.rules.specs.declared.state.Group.{Group}
use Rattle.rules.specs.declared.view.Pair.{Pair}
use Rattle.release.specs.Rows.{SameRows}
use Rattle.release.proofs.Gathered.{gathered_steps}
use Rattle.release.proofs.release.release_gathered.Goals as goal

abbrev new : Group
new = record { guid = []; committed = 0; announced = 0 }

pub returns-clause-steps : goal.returns-clause-steps
returns-clause-steps c =
    let a = c.args in
    let own : List Group → List Pair → Type 0 = λ l rows. SameRows (filter (λ p. same_guid (get_or l a.i new).guid p.group) a.counted.now) rows in
    let same = subst (λ (l : List Group). own l c.as_slice-2.result.now) c.as_slice.ensures.value (subst (own c.as_slice.result.now) (sym c.as_slice-2.ensures.value) c.rows_of-rows.ensures) in
    gathered_steps a.i a.time a.store.now c.release_rows.new.store a.out.now.items c.release_rows.new.out.items a.counted.now c.as_slice-2.result.now a.digests.now new c.requires.within same c.release_rows.ensures.steps
