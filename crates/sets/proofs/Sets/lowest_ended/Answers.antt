use Rattle.std.proofs.Common.{◌&&◌, ◌∙◌, rules, tests}
use Rattle.std.proofs.lemmas.Iterator.{YieldsList-from_slice}
use Rattle.std.proofs.lemmas.Iterator.Consumers.{YieldsList-from_filter, YieldsList-from_filter_map, YieldsList-at, reduce_from_yields_List}
use Rattle.laws.specs.Lists.{is_some}
use Rattle.rules.specs.Entry.{of_group, marks}
use Rattle.rules.specs.Sets.{lowest_ended}
use Rattle.sets.proofs.Lowest.{first_min, lowest_reduce}
use Rattle.sets.proofs.Sets.lowest_ended.Goals as goal

pub returns : goal.returns
unfolding lowest_ended of_group marks is_some
returns c =
    reduce_from_yields_List first_min _ c.min.result c.min.ensures.ran (YieldsList-from_filter_map _ (λ h. h.set) (YieldsList-at c.filter_map.ensures.source (YieldsList-from_filter _ (λ h. of_group c.args.group h && marks h) (YieldsList-from_slice _ cc) c.filter.ensures.closure (λ x r q k. search (rules, tests)))) c.filter_map.ensures.closure (λ x r q k. search (rules, tests)))
    ∙ lowest_reduce _
