use Rattle.std.proofs.Common.{rules, tests}
use Rattle.std.proofs.lemmas.Iterator.{YieldsList-from_slice, YieldsList-from_map, YieldsList-from_take}
use Rattle.std.proofs.lemmas.Iterator.Consumers.{YieldsList-from_filter, YieldsList-at}
use Rattle.rules.specs.Entry.{is_member}
use Rattle.rules.specs.Run.{place_of}
use Rattle.rules.specs.Sets.{members_of}
use Rattle.sets.proofs.Filled.{filled}
use Rattle.sets.proofs.Sets.hand_out.Goals as goal

pub returns-clause-out : goal.returns-clause-out
unfolding members_of
returns-clause-out c = filled _ _ _ _ _ c.extend.result c.extend.ensures.ran c.extend.ensures.full c.remaining_capacity-room.ensures (YieldsList-from_take _ (YieldsList-at c.take.ensures.source (YieldsList-from_map _ (λ h. place_of h) (YieldsList-at c.map.ensures.source (YieldsList-from_filter _ (λ h. is_member c.args.group c.args.set h) (YieldsList-from_slice _ cc) c.filter-members.ensures.closure (λ x r q k. search (rules, tests)))) c.map.ensures.closure (λ x r q k. search rules))) c.take.ensures.count)
