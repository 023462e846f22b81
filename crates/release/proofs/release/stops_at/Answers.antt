use Rattle.std.proofs.Common.{◌∙◌, sym, ap, refl, get_or, []}
use Rattle.rules.specs.declared.state.Group.{Group}
use Rattle.rules.specs.declared.turn.GroupTurn.{GroupTurn}
use Rattle.release.proofs.Groups.{stuck_step}
use Rattle.release.proofs.release.stops_at.Goals as goal

abbrev new : Group
new = record { guid = []; committed = 0; announced = 0 }

pub returns : goal.returns
returns c o e =
    let t : GroupTurn = record { group = get_or c.as_slice.result.now c.args.i new; writers = c.as_slice-2.result; counted = c.args.counted; digests = c.args.digests; time = c.args.time; timeout = c.args.store.now.timeout } in
    stuck_step t c.args.i new c.args.store.now o c.requires (ap (λ l. get_or l c.args.i new) c.as_slice.ensures.value) c.as_slice-2.ensures.value refl (λ w a b d. c.is_stuck.ensures w (a ∙ sym c.as_slice-3.ensures.value) b d e)
