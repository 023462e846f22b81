use Rattle.std.proofs.Common.{leb, length, ◌≡◌, ◌∙◌, sym, ap, rules, tests, true, false}
use Rattle.std.specs.Option.{is_none}
use Rattle.rules.specs.State.{is_group, knows_group}
use Rattle.rules.specs.Offer.{ninth}
use Rattle.offers.proofs.Hearing.{none_is}
use Rattle.offers.proofs.sender.Sender.is_ninth.Goals as goal

pub returns-then-is_none : goal.returns-then-is_none
unfolding ninth knows_group
returns-then-is_none c =
    let e : is_none c.args.self.group_at ≡ true = search (rules, tests) in
    let k = sym (none_is (λ x. is_group c.args.self.group x) c.args.store.now.groups.items) ∙ ap (λ x. is_none x.group_at) (sym c.requires) ∙ e in
    let f : c.is_full.result ≡ leb 8 (length c.args.store.now.groups.items) = search (rules, tests) in
    rw k f

pub returns-else-is_none : goal.returns-else-is_none
unfolding ninth knows_group
returns-else-is_none c =
    let e : is_none c.args.self.group_at ≡ false = search (rules, tests) in
    let k = sym (none_is (λ x. is_group c.args.self.group x) c.args.store.now.groups.items) ∙ ap (λ x. is_none x.group_at) (sym c.requires) ∙ e in
    rw k c.if-is_none.false
