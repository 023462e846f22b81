use Rattle.std.proofs.Common.{rules, ap}
use Rattle.calls.proofs.Narrowing.{offer_narrow}
use Rattle.calls.proofs.Running.{ran_from, ran_offer}
use Rattle.calls.proofs.run.Calls.offer.Goals as goal

pub invariant_of-self : goal.invariant_of-self
invariant_of-self g c = rw (ap (λ y. y.1) c.offer-answer.ensures.is) (offer_narrow c.self.inside.order c.args.offer (search rules) (λ i q. search rules) c.self.invariant)

pub returns : goal.returns
returns g c = ran_from c.self.view_is (ran_offer c.args.offer c.offer-answer.ensures.is c.put_offered.ensures)
