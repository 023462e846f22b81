use Rattle.std.proofs.Common.{◌∙◌, sym, ap, rules, ltb, [], ◌∷◌, leb, ◌&&◌}
use Rattle.std.proofs.lemmas.Result.{err_from_is_err_and}
use Rattle.laws.specs.Answer.{answered}
use Rattle.rules.specs.Marks.{number, saw}
use Rattle.rules.specs.State.{stored}
use Rattle.rules.specs.Offer.{offer, offered, offer_refusal, fate_of, adds, place, entry_of, heard_offer, ninth, pair33}
use Rattle.store.specs.Store.{state_of}
use Rattle.offers.proofs.Refusing.{refused_first, refused_then, refused_none}
use Rattle.offers.proofs.Joining.{same_room}
use Rattle.offers.proofs.offer.offer.Goals as goal

pub returns-in_err-admit_reader-clause-is : goal.returns-in_err-admit_reader-clause-is
unfolding offer offer_refusal
returns-in_err-admit_reader-clause-is c =
    let p = err_from_is_err_and c.from_residual.result c.from_residual.ensures.1 in
    let s = state_of c.args.store.now in
    let o = c.args.o in
    rw (p.1, p.2) (sym (ap (λ r. offered r s o) (refused_first ((1, ltb 7 o.reader) ∷ []) _ _ (sym c.in_err-admit_reader.ensures))))

pub returns-in_err-admit-clause-is : goal.returns-in_err-admit-clause-is
unfolding offer offer_refusal
returns-in_err-admit-clause-is c =
    let p = err_from_is_err_and c.from_residual-in_err-admit.result c.from_residual-in_err-admit.ensures.1 in
    let s = state_of c.args.store.now in
    let o = c.args.o in
    rw (p.1, p.2) (sym (ap (λ r. offered r s o) (refused_then ((1, ltb 7 o.reader) ∷ []) _ (sym c.in_ok-admit_reader.ensures) ∙ refused_first ((2, ninth o.group s) ∷ (3, pair33 o.group o.writer s) ∷ []) _ _ (sym (rw c.of-sender.ensures at c.in_err-admit.ensures)))))

pub returns-in_err-admit_entry-clause-is : goal.returns-in_err-admit_entry-clause-is
unfolding offer offer_refusal
returns-in_err-admit_entry-clause-is c =
    let p = err_from_is_err_and c.from_residual-in_err-admit_entry.result c.from_residual-in_err-admit_entry.ensures.1 in
    let s = state_of c.args.store.now in
    let o = c.args.o in
    let last = rw c.fate_of-fate.ensures at c.in_err-admit_entry.ensures in
    rw (p.1, p.2) (sym (ap (λ r. offered r s o) (refused_then ((1, ltb 7 o.reader) ∷ []) _ (sym c.in_ok-admit_reader.ensures) ∙ refused_then ((2, ninth o.group s) ∷ (3, pair33 o.group o.writer s) ∷ []) _ (sym (rw c.of-sender.ensures at c.in_ok-admit.ensures)) ∙ sym last)))

pub place-requires : goal.place-requires
place-requires c =
    let s = state_of c.args.store.now in
    let o = c.args.o in
    let heard = rw c.of-sender.ensures at c.hear.ensures.heard (λ w. saw o.reader (number o.number) o.digest w) (λ w v k. search rules) in
    ap (λ t. adds c.fate_of-fate.result t o && leb 256 (stored t)) heard ∙ same_room c.fate_of-fate.result _ _ s o ∙ (refused_none 4 (adds c.fate_of-fate.result s o && leb 256 (stored s)) [] (sym c.in_ok-admit_entry.ensures)).0

pub returns-clause-is : goal.returns-clause-is
unfolding offer offer_refusal heard_offer
returns-clause-is c =
    let s = state_of c.args.store.now in
    let o = c.args.o in
    let heard = rw c.of-sender.ensures at c.hear.ensures.heard (λ w. saw o.reader (number o.number) o.digest w) (λ w v k. search rules) in
    let last = rw c.fate_of-fate.ensures at c.in_ok-admit_entry.ensures in
    rw (c.place.ensures, c.fate_of-fate.ensures) (ap (λ t. (answered (fate_of s o), place (fate_of s o) (entry_of o) t)) heard)
    ∙ sym (ap (λ r. offered r s o) (refused_then ((1, ltb 7 o.reader) ∷ []) _ (sym c.in_ok-admit_reader.ensures) ∙ refused_then ((2, ninth o.group s) ∷ (3, pair33 o.group o.writer s) ∷ []) _ (sym (rw c.of-sender.ensures at c.in_ok-admit.ensures)) ∙ sym last))
