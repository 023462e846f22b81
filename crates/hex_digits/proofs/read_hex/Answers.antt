-- `hex_digits::read_hex` meets its contract: the tests refuse what the definition refuses, and `fill` reads the rest.
use mathlib.Core.Path.{sym, ◌∙◌}
use native.Mathlib.Omega.{arith}
use Rattle.hex_digits.proofs.Steps.{other_length, no_digit, all_read}
use Rattle.hex_digits.proofs.read_hex.Goals as goal

pub returns-then-text-ne0 : goal.returns-then-text-ne0
returns-then-text-ne0 c = let a = c.args in other_length a.text.now a.bytes.now (λ e. omega arith)

pub returns-then-text-bytes : goal.returns-then-text-bytes
returns-then-text-bytes c = let a = c.args in other_length a.text.now a.bytes.now (λ e. omega arith)

pub returns-then-not-are_digits : goal.returns-then-not-are_digits
returns-then-not-are_digits c = let a = c.args in
    let d = c.are_digits in
    no_digit a.text.now a.bytes.now (sym d.ensures ∙ c.if-not-are_digits.true)

pub fill-requires : goal.fill-requires
fill-requires c = let d = c.are_digits in record { text_len = omega arith; text_value = sym d.ensures ∙ c.if-not-are_digits.false }

pub returns : goal.returns
returns c = let a = c.args in
    let f = c.fill in
    all_read a.text.now a.bytes.now f.new.bytes (omega arith) f.ensures
