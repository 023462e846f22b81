use Rattle.std.proofs.Common.{◌∙◌, ap, arith, ◌++◌, ◌∷◌, [], refl}
use Rattle.release.proofs.Settling.{settle_out, settle_member, settle_end}
use Rattle.release.proofs.commit.settle.Goals as goal

pub returns-in-Sample-None-clause-goes : goal.returns-in-Sample-None-clause-goes
returns-in-Sample-None-clause-goes c = settle_out c.args.e c.args.sets.now c.args.out.now.items _ _ c.in-Sample-None.is-0 c.in-Sample-None.is-1 (c.push.ensures.items ∙ ap (λ x. c.args.out.now.items ++ (x ∷ [])) c.place_of.ensures)

pub returns-in-Sample-Some-clause-goes : goal.returns-in-Sample-Some-clause-goes
returns-in-Sample-Some-clause-goes c =
    let room = c.requires in
    settle_member c.args.e c.args.sets.now c.args.out.now.items _ _ _ c.in-Sample-Some.is-0 c.in-Sample-Some.is-1 (c.push-in-Sample-Some.ensures.items (omega arith)) refl

pub returns-in-End-Some-clause-goes : goal.returns-in-End-Some-clause-goes
returns-in-End-Some-clause-goes c = settle_end c.args.e c.args.sets.now c.args.out.now.items _ _ _ c.in-End-Some.is-0 c.in-End-Some.is-1 c.keep_end.ensures.held c.keep_end.ensures.counts
