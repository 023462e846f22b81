use Rattle.calls.specs.Run.{counts_text}
use Rattle.calls.proofs.Saying.{said, said_both}
use Rattle.calls.proofs.say.put_counts.Goals as goal

pub returns : goal.returns
unfolding counts_text
returns g c = said_both (said_both (said_both (said_both (said c.put_bytes.ensures) c.put_spaced.ensures) c.put_spaced-2.ensures) c.put_spaced-3.ensures) c.put_spaced-4.ensures
