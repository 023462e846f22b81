use Rattle.std.proofs.Common.{◌∙◌, sym, rules, ltb, [], ◌∷◌}
use Rattle.std.proofs.lemmas.Result.{err_from_is_err_and}
use Rattle.rules.specs.Marks.{number, gapped}
use Rattle.rules.specs.Offer.{gap}
use Rattle.offers.proofs.Refusing.{refused_first, refused_then, is_refused, is_done}
use Rattle.offers.proofs.gap.gap.Goals as goal

pub returns-in_err-admit_reader-clause-is : goal.returns-in_err-admit_reader-clause-is
unfolding gap
returns-in_err-admit_reader-clause-is c =
    let p = err_from_is_err_and c.from_residual.result c.from_residual.ensures.1 in
    rw (p.1, p.2) (is_refused _ _ _ _ (refused_first ((1, ltb 7 c.args.x.reader) ∷ []) _ _ (sym c.in_err-admit_reader.ensures)))

pub returns-in_err-admit-clause-is : goal.returns-in_err-admit-clause-is
unfolding gap
returns-in_err-admit-clause-is c =
    let p = err_from_is_err_and c.from_residual-in_err-admit.result c.from_residual-in_err-admit.ensures.1 in
    rw (p.1, p.2) (is_refused _ _ _ _ (refused_then ((1, ltb 7 c.args.x.reader) ∷ []) _ (sym c.in_ok-admit_reader.ensures) ∙ sym (rw c.of-sender.ensures at c.in_err-admit.ensures)))

pub returns-clause-is : goal.returns-clause-is
unfolding gap
returns-clause-is c =
    let heard = rw c.of-sender.ensures at c.hear.ensures.heard (λ w. gapped c.args.x.reader (number c.args.x.number) w) (λ w v k. search rules) in
    is_done _ _ _ _ (refused_then ((1, ltb 7 c.args.x.reader) ∷ []) _ (sym c.in_ok-admit_reader.ensures) ∙ sym (rw c.of-sender.ensures at c.in_ok-admit.ensures)) heard
