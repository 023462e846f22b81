-- `insert`: one more item, and the places behind stay blank.
use Rattle.std.proofs.Common.{◌≡◌, ◌+◌, ◌<◌, ◌∙◌, length, take, set, ap, arith, rules, length-set}
use Rattle.std.specs.List.{insert}
use Rattle.std.proofs.lemmas.List.{take_more_set, length-take-le}
use Rattle.fixed_list.proofs.Free.{one_fewer, take_front, drop_front, length_front}
use Rattle.fixed_list.proofs.list.FixedList.insert.Goals as goal

pub invariant_of-self : goal.invariant_of-self
invariant_of-self g c =
    let inside = c.self.inside in
    let places = set inside.places inside.len c.args.item in
    let room : inside.len < g.row.N = search rules in
    let whole = length-set inside.places inside.len c.args.item ∙ c.self.told in
    let long : length c.last_to.new.items ≡ inside.len + 1 = c.last_to.ensures.len ∙ length-take-le (inside.len + 1) places (omega (arith, whole, room)) in (
      omega (arith, room),
      length_front c.last_to.new.items places (inside.len + 1) long (omega (arith, whole, room)) ∙ whole,
      drop_front c.last_to.new.items places (inside.len + 1) long ∙ one_fewer g.row.N g.T.Blank.blank inside.places inside.len c.args.item c.self.invariant.2,
    )

pub returns-then-len-clause-items : goal.returns-then-len-clause-items
returns-then-len-clause-items g c = λ _.
    let inside = c.self.inside in
    let places = set inside.places inside.len c.args.item in
    let room : inside.len < g.row.N = search rules in
    let whole = length-set inside.places inside.len c.args.item ∙ c.self.told in
    let long : length c.last_to.new.items ≡ inside.len + 1 = c.last_to.ensures.len ∙ length-take-le (inside.len + 1) places (omega (arith, whole, room)) in
    take_front c.last_to.new.items places (inside.len + 1) long
    ∙ c.last_to.ensures.items (take inside.len inside.places) c.args.item (take_more_set inside.places inside.len c.args.item (omega (arith, c.self.told, room)))
    ∙ ap (λ v. insert v.items c.args.at c.args.item) c.self.view_is
