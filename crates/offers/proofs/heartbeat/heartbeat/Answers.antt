use Rattle.std.proofs.Common.{◌≡◌, sym, rules, Some}
use Rattle.std.proofs.lemmas.Result.{err_from_is_err_and}
use Rattle.laws.specs.Lists.{change}
use Rattle.std.specs.List.{position}
use Rattle.rules.specs.declared.state.Writer.{Writer}
use Rattle.rules.specs.State.{is_group}
use Rattle.rules.specs.Marks.{number, hear_group, tell, announced, announced_to}
use Rattle.rules.specs.Offer.{heartbeat, with_marks}
use Rattle.store.specs.Store.{state_of}
use Rattle.offers.proofs.Refusing.{is_refused, is_done}
use Rattle.offers.proofs.Hearing.{heard_announced}
use Rattle.offers.proofs.heartbeat.heartbeat.Goals as goal

pub returns-in_err-admit-clause-is : goal.returns-in_err-admit-clause-is
unfolding heartbeat
returns-in_err-admit-clause-is c =
    let p = err_from_is_err_and c.from_residual.result c.from_residual.ensures.1 in
    rw (p.1, p.2) (is_refused _ _ _ _ (sym (rw c.of-sender.ensures at c.in_err-admit.ensures)))

pub announce-requires : goal.announce-requires
announce-requires c = (c.of-sender.result.group, c.hear-group.ensures.at)

pub returns-clause-is : goal.returns-clause-is
unfolding heartbeat
returns-clause-is c =
    let h = c.args.h in
    let s = state_of c.args.store.now in
    let f : Writer → Writer = λ w. announced (number h.first) (number h.last) (number h.current) h.digest h.secure w in
    let heard : state_of c.hear-group.new.store ≡ with_marks (hear_group h.group s.groups) (tell h.group h.writer f s.writers) s = rw c.of-sender.ensures at c.hear-group.ensures.heard f (λ w v k. search rules) in
    let at : Some c.hear-group.result ≡ position (λ x. is_group h.group x) (state_of c.hear-group.new.store).groups = rw c.of-sender.ensures at c.hear-group.ensures.at in
    let n : c.clamp-current.result ≡ number h.current = search rules in
    let told : state_of c.announce.new.store ≡ with_marks (change (λ x. is_group h.group x) (λ x. announced_to (number h.current) x) (state_of c.hear-group.new.store).groups) (state_of c.hear-group.new.store).writers (state_of c.hear-group.new.store) = rw n at c.announce.ensures h.group at in
    let last : state_of c.announce.new.store ≡ with_marks (change (λ x. is_group h.group x) (λ x. announced_to (number h.current) x) (hear_group h.group s.groups)) (tell h.group h.writer f s.writers) s = heard_announced (λ x. is_group h.group x) (λ x. announced_to (number h.current) x) s (state_of c.hear-group.new.store) (state_of c.announce.new.store) (hear_group h.group s.groups) (tell h.group h.writer f s.writers) heard told in
    is_done _ s _ (state_of c.announce.new.store) (sym (rw c.of-sender.ensures at c.in_ok-admit.ensures)) last
