-- `try_push`: the places behind the new item stay blank.
use Rattle.std.proofs.Common.{rules}
use Rattle.fixed_list.proofs.Free.{one_fewer}
use Rattle.fixed_list.proofs.list.FixedList.try_push.Goals as goal

pub invariant_of-self : goal.invariant_of-self
invariant_of-self g c =
    let inside = c.self.inside in
    (search rules, search rules, one_fewer g.row.N g.T.Blank.blank inside.places inside.len c.args.item c.self.invariant.2)
