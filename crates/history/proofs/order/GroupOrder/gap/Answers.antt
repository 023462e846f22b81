use Rattle.std.proofs.Common.{sym}
use Rattle.laws.proofs.Answer.{kept_under}
use Rattle.store.specs.Store.{state_of}
use Rattle.history.proofs.order.GroupOrder.gap.Goals as goal

pub returns-clause-kept : goal.returns-clause-kept
returns-clause-kept c = rw (sym c.self.view_is) (kept_under (λ s. state_of s) _ _ _ c.gap.ensures.kept)
