use Rattle.std.proofs.Common.{◌∙◌, sym, ap}
use Rattle.std.specs.List.{position}
use Rattle.rules.specs.State.{is_group, is_writer}
use Rattle.rules.specs.Marks.{tell}
use Rattle.rules.specs.Offer.{with_marks, pair33, ninth}
use Rattle.store.specs.Store.{state_of}
use Rattle.offers.proofs.Refusing.{refused_none}
use Rattle.offers.proofs.hear.hear.Goals as goal

pub hear_group-at-requires-clause-room : goal.hear_group-at-requires-clause-room
hear_group-at-requires-clause-room g c = (refused_none 2 (ninth c.args.sender.group (state_of c.args.store.now)) _ c.requires.admitted).0

pub tell-requires-clause-known : goal.tell-requires-clause-known
unfolding with_marks
tell-requires-clause-known g c = ap (λ x. x.writer_at) c.requires.known ∙ ap (λ t. position (λ x. is_writer c.args.sender.group c.args.sender.writer x) t.writers) (sym c.hear_group-at.ensures.heard)

pub tell-requires-clause-room : goal.tell-requires-clause-room
unfolding pair33 with_marks
tell-requires-clause-room g c =
    let s = state_of c.args.store.now in
    let x = c.args.sender in
    ap (λ t. pair33 x.group x.writer t) c.hear_group-at.ensures.heard ∙ (refused_none 3 (pair33 x.group x.writer s) _ (refused_none 2 (ninth x.group s) _ c.requires.admitted).1).0

pub returns-clause-heard : goal.returns-clause-heard
unfolding with_marks
returns-clause-heard g c f h = c.tell.ensures.told f h ∙ ap (λ t. with_marks t.groups (tell c.args.sender.group c.args.sender.writer f t.writers) t) c.hear_group-at.ensures.heard

pub returns-clause-at : goal.returns-clause-at
returns-clause-at g c = c.hear_group-at.ensures.at ∙ ap (λ l. position (λ x. is_group c.args.sender.group x) l) (sym c.tell.ensures.groups)
