use Rattle.std.proofs.Common.{◌≡◌, ◌∙◌, ap, rules, tests, arith}
use Rattle.std.proofs.lemmas.Grind.{common_steps}
use Rattle.std.specs.Option.{option_map}
use Rattle.std.proofs.lemmas.Iterator.{YieldsList-from_slice}
use Rattle.std.proofs.lemmas.Iterator.Search.{find_from_yields_List}
use Rattle.laws.specs.Lists.{find}
use Rattle.rules.specs.Offer.{join, keep_end, replaced, mark_of}
use Rattle.sets.proofs.Keeping.{kept_fits}
use Rattle.offers.proofs.join.join.Goals as goal

pub returns-clause-held : goal.returns-clause-held
unfolding join
returns-clause-held c =
    let e : option_map (λ x. x.now) c.find-earlier.result ≡ find (λ h. replaced c.args.e h) c.args.sets.now.held.items = find_from_yields_List (λ h. replaced c.args.e h) _ _ c.find-earlier.result c.find-earlier.ensures.ran (YieldsList-from_slice _ cc) (λ x b q k. search (rules, tests)) in
    let a : c.and_then-ended.result ≡ mark_of (find (λ h. replaced c.args.e h) c.args.sets.now.held.items) = grind (arith, common_steps) in
    c.keep_end.ensures.held ∙ kept_fits c.and_then-ended.result c.args.e c.args.sets.now.held.items c.requires ∙ ap (λ m. keep_end m c.args.e c.args.sets.now.held.items) a
