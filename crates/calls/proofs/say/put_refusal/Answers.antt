use Rattle.calls.specs.Run.{refused_text}
use Rattle.calls.proofs.Saying.{said, said_both}
use Rattle.calls.proofs.say.put_refusal.Goals as goal

pub returns : goal.returns
unfolding refused_text
returns g c = rw (← c.number.ensures) (said_both (said c.put_bytes.ensures) c.put_spaced.ensures)
