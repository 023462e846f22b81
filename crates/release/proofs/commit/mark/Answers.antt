use Rattle.std.proofs.Common.{◌&&◌, rules, tests}
use Rattle.std.proofs.lemmas.Iterator.{YieldsList-from_slice}
use Rattle.std.proofs.lemmas.Iterator.Search.{find_from_yields_List}
use Rattle.laws.specs.Lists.{is_some}
use Rattle.rules.specs.Entry.{marks}
use Rattle.rules.specs.Offer.{shares}
use Rattle.release.proofs.Settling.{mark_is}
use Rattle.release.proofs.commit.mark.Goals as goal

pub returns : goal.returns
unfolding marks is_some
returns c =
    mark_is c.args.e.now.time c.find-first.result c.map_or.result _
    (find_from_yields_List (λ m. shares c.args.e.now m && marks m) _ _ c.find-first.result c.find-first.ensures.ran (YieldsList-from_slice c.args.held.now cc) (λ x b q k. search (rules, tests)))
    (search (rules, tests))
