use Rattle.std.proofs.Common.{sym, arith}
use Rattle.decimal.proofs.Reading.{plain_none, plain_one, plain_more}
use Rattle.decimal.proofs.is_plain.Goals as goal

pub returns-in-empty : goal.returns-in-empty
returns-in-empty c = sym (plain_none c.args.digits.now (omega arith))

pub returns-in-len1 : goal.returns-in-len1
returns-in-len1 c = sym (plain_one c.args.digits.now (omega arith))

pub returns-in-len1-up : goal.returns-in-len1-up
returns-in-len1-up c = sym (plain_more c.args.digits.now (omega arith))
