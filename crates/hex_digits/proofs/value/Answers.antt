use Rattle.std.proofs.Common.{arith}
use Rattle.hex_digits.proofs.Spelled.{decimal_digit, letter_digit, low_byte, mid_byte, high_byte}
use Rattle.hex_digits.proofs.value.Goals as goal

pub returns-in-48-to-57 : goal.returns-in-48-to-57
returns-in-48-to-57 c = decimal_digit c.args.digit (omega arith) (omega arith)

pub returns-in-97-to-102 : goal.returns-in-97-to-102
returns-in-97-to-102 c = letter_digit c.args.digit (omega arith) (omega arith)

pub returns-in_default : goal.returns-in_default
returns-in_default c = low_byte c.args.digit (omega arith)

pub returns-in_default-2 : goal.returns-in_default-2
returns-in_default-2 c = mid_byte c.args.digit (omega arith) (omega arith)

pub returns-in_default-3 : goal.returns-in_default-3
returns-in_default-3 c = high_byte c.args.digit (omega arith)
