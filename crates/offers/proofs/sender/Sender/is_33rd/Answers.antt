use Rattle.std.proofs.Common.{leb, length, ◌≡◌, ◌∙◌, sym, ap, rules, tests, true, false}
use Rattle.std.specs.Option.{is_none}
use Rattle.rules.specs.State.{is_writer, knows_writer}
use Rattle.rules.specs.Offer.{pair33}
use Rattle.offers.proofs.Hearing.{none_is}
use Rattle.offers.proofs.sender.Sender.is_33rd.Goals as goal

pub returns-then-is_none : goal.returns-then-is_none
unfolding pair33 knows_writer
returns-then-is_none c =
    let e : is_none c.args.self.writer_at ≡ true = search (rules, tests) in
    let k = sym (none_is (λ x. is_writer c.args.self.group c.args.self.writer x) c.args.store.now.writers.items) ∙ ap (λ x. is_none x.writer_at) (sym c.requires) ∙ e in
    let f : c.is_full.result ≡ leb 32 (length c.args.store.now.writers.items) = search (rules, tests) in
    rw k f

pub returns-else-is_none : goal.returns-else-is_none
unfolding pair33 knows_writer
returns-else-is_none c =
    let e : is_none c.args.self.writer_at ≡ false = search (rules, tests) in
    let k = sym (none_is (λ x. is_writer c.args.self.group c.args.self.writer x) c.args.store.now.writers.items) ∙ ap (λ x. is_none x.writer_at) (sym c.requires) ∙ e in
    rw k c.if-is_none.false
