use Rattle.std.proofs.Common.{◌∙◌, ◌++◌, ◌∷◌, [], ap, take}
use Rattle.rules.specs.Offer.{marked, keep_end}
use Rattle.sets.proofs.Filled.{pushed}
use Rattle.sets.proofs.Sets.keep_end.Goals as goal

pub returns-clause-held : goal.returns-clause-held
unfolding keep_end marked
returns-clause-held c =
    let p = c.try_push in
    pushed 256 c.retain.new.self p.new.self (marked c.args.ended c.args.e) p.result p.ensures.variant p.ensures.ok p.ensures.err p.ensures.full
    ∙ ap (λ l. take 256 (l ++ (marked c.args.ended c.args.e ∷ []))) c.retain.ensures.items
