use Rattle.std.proofs.Common.{rules, ◌≡◌, ◌∙◌, sym, ap, to_z, of_z, w64}
use Rattle.laws.specs.Lists.{filter, list_all}
use Rattle.laws.proofs.Lists.{keep_all}
use Rattle.guids.specs.Guid.{same_guid}
use Rattle.release.specs.Rows.{SameRows}
use Rattle.release.proofs.OwnRows.{waits_alike, finish_alike}
use Rattle.release.proofs.group.finish.Goals as goal

pub returns-then-are_of-clause-waits : goal.returns-then-are_of-clause-waits
returns-then-are_of-clause-waits c =
    let t = c.args.turn.now in
    let h : SameRows (filter (λ p. same_guid t.group.guid p.group) t.counted.now) t.counted.now = λ q. ap (λ l. list_all q l) (keep_all (λ p. same_guid t.group.guid p.group) t.counted.now (sym c.are_of.ensures ∙ c.if-are_of.true)) in
    let e : to_z w64 (of_z w64 c.args.set) ≡ c.args.set = search rules in
    waits_alike t t.counted.now h c.args.set _ e c.finish_own.result c.args.sets.now.held.items c.finish_own.ensures.waits

pub returns-then-are_of-clause-goes : goal.returns-then-are_of-clause-goes
returns-then-are_of-clause-goes c y =
    let t = c.args.turn.now in
    let h : SameRows (filter (λ p. same_guid t.group.guid p.group) t.counted.now) t.counted.now = λ q. ap (λ l. list_all q l) (keep_all (λ p. same_guid t.group.guid p.group) t.counted.now (sym c.are_of.ensures ∙ c.if-are_of.true)) in
    let e : to_z w64 (of_z w64 c.args.set) ≡ c.args.set = search rules in
    finish_alike t t.counted.now h c.args.set _ e c.args.sets.now c.finish_own.new.sets c.args.out.now.items c.finish_own.new.out.items (c.finish_own.ensures.goes y)
