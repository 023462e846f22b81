use Rattle.calls.proofs.Saying.{said, said_both}
use Rattle.calls.proofs.say.put_spaced.Goals as goal

pub returns : goal.returns
returns g c = said_both (said c.put_byte.ensures) (said c.put_unsigned.ensures)
