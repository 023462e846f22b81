use Rattle.std.proofs.Common.{rules, ◌≡◌, sym, subst, List, to_z, of_z, w64}
use Rattle.laws.specs.Lists.{filter}
use Rattle.guids.specs.Guid.{same_guid}
use Rattle.rules.specs.declared.view.Pair.{Pair}
use Rattle.release.specs.Rows.{SameRows}
use Rattle.release.proofs.OwnRows.{waits_alike, finish_alike}
use Rattle.release.proofs.group.finish_gathered.Goals as goal

pub returns-clause-waits : goal.returns-clause-waits
returns-clause-waits c =
    let t = c.args.turn.now in
    let h = subst (λ (l : List Pair). SameRows (filter (λ p. same_guid t.group.guid p.group) t.counted.now) l) (sym c.as_slice.ensures.value) c.rows_of-rows.ensures in
    let e : to_z w64 (of_z w64 c.args.set) ≡ c.args.set = search rules in
    waits_alike t c.as_slice.result.now h c.args.set _ e c.finish_own.result c.args.sets.now.held.items c.finish_own.ensures.waits

pub returns-clause-goes : goal.returns-clause-goes
returns-clause-goes c y =
    let t = c.args.turn.now in
    let h = subst (λ (l : List Pair). SameRows (filter (λ p. same_guid t.group.guid p.group) t.counted.now) l) (sym c.as_slice.ensures.value) c.rows_of-rows.ensures in
    let e : to_z w64 (of_z w64 c.args.set) ≡ c.args.set = search rules in
    finish_alike t c.as_slice.result.now h c.args.set _ e c.args.sets.now c.finish_own.new.sets c.args.out.now.items c.finish_own.new.out.items (c.finish_own.ensures.goes y)
