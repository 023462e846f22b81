use Rattle.calls.proofs.Saying.{said_both}
use Rattle.calls.proofs.say.put_released.Goals as goal

pub returns : goal.returns
returns g c = said_both c.put_samples.ensures c.put_counts.ensures
