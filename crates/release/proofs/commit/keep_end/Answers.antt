use Rattle.std.proofs.Common.{◌∙◌, not, ap, arith, length}
use Rattle.laws.proofs.Lists.{length_keep}
use Rattle.rules.specs.Offer.{replaced}
use Rattle.sets.proofs.Keeping.{kept_fits, kept_one}
use Rattle.release.proofs.commit.keep_end.Goals as goal

pub returns-clause-held : goal.returns-clause-held
returns-clause-held c =
    let l = c.args.sets.now.held.items in
    rw (c.mark-ended.ensures, c.as_slice.ensures.value) at (c.keep_end.ensures.held ∙ kept_fits c.mark-ended.result c.args.e l (omega (arith, c.requires, length_keep (λ h. not (replaced c.args.e h)) l)))

pub returns-clause-room : goal.returns-clause-room
returns-clause-room c =
    let l = c.args.sets.now.held.items in
    let e = c.keep_end.ensures.held ∙ kept_fits c.mark-ended.result c.args.e l (omega (arith, c.requires, length_keep (λ h. not (replaced c.args.e h)) l)) in
    omega (arith, ap length e, kept_one c.mark-ended.result c.args.e l)
