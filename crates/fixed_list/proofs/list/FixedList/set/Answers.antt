-- `set`: the place is one of an item, or past the end.
use Rattle.std.proofs.Common.{◌∙◌, ap, length, set, sym, arith}
use Rattle.std.proofs.lemmas.List.{set_past, length-take}
use Rattle.fixed_list.proofs.Free.{take_of_set}
use Rattle.fixed_list.proofs.list.FixedList.set.Goals as goal

pub returns-then-at-self-clause-items : goal.returns-then-at-self-clause-items
returns-then-at-self-clause-items g c =
    let inside = c.self.inside in
    take_of_set inside.len inside.places c.args.at c.args.item ∙ ap (λ v. set v.items c.args.at c.args.item) c.self.view_is

pub returns-else-at-self-clause-items : goal.returns-else-at-self-clause-items
returns-else-at-self-clause-items g c = sym (set_past _ c.args.at c.args.item (omega (arith, c.if-at-self.false, ap (λ v. length v.items) c.self.view_is, length-take c.self.inside.len c.self.inside.places)))
