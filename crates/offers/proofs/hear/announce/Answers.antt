use Rattle.std.proofs.Common.{◌≡◌, ◌∙◌, sym, ap, [], get_or}
use Rattle.rules.specs.declared.state.Group.{Group}
use Rattle.rules.specs.State.{is_group}
use Rattle.rules.specs.Marks.{announced_to}
use Rattle.rules.specs.Offer.{with_marks}
use Rattle.store.specs.Store.{state_of}
use Rattle.offers.proofs.Hearing.{change_found}
use Rattle.offers.proofs.hear.announce.Goals as goal

pub returns : goal.returns
unfolding with_marks
returns c g e =
    let s = c.args.store.now in
    let z : Group = record { guid = []; committed = 0; announced = 0 } in
    let h = change_found (λ x. is_group g x) (λ x. announced_to c.args.current x) s.groups.items c.args.at z e in
    let d : c.announce.new.self ≡ announced_to c.args.current (get_or s.groups.items c.args.at z) = rw c.as_slice.ensures.value at c.announce.ensures in
    ap (λ gs. with_marks gs s.writers.items (state_of s)) (c.set.ensures.items ∙ rw d (sym h))
