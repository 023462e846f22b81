-- `setting::pair` meets its contract.
use Rattle.std.proofs.Common.{arith}
use Rattle.settings.proofs.Reading.{two_bytes}
use Rattle.settings.proofs.setting.pair.Goals as goal

pub returns : goal.returns
returns c = rw (two_bytes c.args.bytes.now c.args.at c.requires) (omega (arith, c.from.ensures, c.from_be_bytes.ensures))
