use Rattle.std.proofs.Common.{arith}
use Rattle.std.proofs.lemmas.Bool.{lt-ltb, le-ltb}
use Rattle.hex_digits.specs.Hex.{digit_of, digit_by}
use Rattle.hex_digits.proofs.digit.Goals as goal

pub returns-then-n-lt10 : goal.returns-then-n-lt10
unfolding digit_of digit_by
returns-then-n-lt10 c = rw (lt-ltb c.args.n 10 c.if-n-lt10.true)

pub returns-else-n-lt10 : goal.returns-else-n-lt10
unfolding digit_of digit_by
returns-else-n-lt10 c = rw (le-ltb c.args.n 10 c.if-n-lt10.false) (omega arith)
