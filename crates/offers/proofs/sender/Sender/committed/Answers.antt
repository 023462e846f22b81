use Rattle.std.proofs.Common.{◌∙◌, sym, ap, refl, []}
use Rattle.rules.specs.declared.state.Group.{Group}
use Rattle.rules.specs.State.{committed_of, committed_in, is_group}
use Rattle.offers.proofs.Hearing.{find_found, find_none}
use Rattle.offers.proofs.sender.Sender.committed.Goals as goal

pub returns-in-Some : goal.returns-in-Some
unfolding committed_of committed_in
returns-in-Some c =
    let z : Group = record { guid = []; committed = 0; announced = 0 } in
    rw (find_found (λ x. is_group c.args.self.group x) c.args.store.now.groups.items c.in-Some.i z (sym c.in-Some.is ∙ ap (λ x. x.group_at) c.requires), c.as_slice.ensures.value) refl

pub returns-in-None : goal.returns-in-None
unfolding committed_of committed_in
returns-in-None c = rw (find_none (λ x. is_group c.args.self.group x) c.args.store.now.groups.items (sym c.in-None.is ∙ ap (λ x. x.group_at) c.requires)) refl
