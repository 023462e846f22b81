use mathlib.Core.Path.{sym, ◌∙◌}
use native.Mathlib.Omega.{arith}
use lib.ListN.{drop_of_length-le}
use Rattle.hex_digits.specs.Hex.{are_digits}
use Rattle.hex_digits.proofs.Steps.{digit_here, none_here}
use Rattle.hex_digits.proofs.are_digits.Goals as goal

pub returns-then-half-gt15 : goal.returns-then-half-gt15
returns-then-half-gt15 c = let v = c.half in
    let l = c.loop-i in
    sym (l.invariant.1 ∙ none_here c.args.text.now l.i v.result c.loop-i-test.true v.ensures (omega arith))

pub loop-i-preserved : goal.loop-i-preserved
loop-i-preserved c = let v = c.half in
    let l = c.loop-i in
    (omega arith, l.invariant.1 ∙ digit_here c.args.text.now l.i v.result c.loop-i-test.true v.ensures (omega arith))

pub returns : goal.returns
unfolding are_digits
returns c = sym (c.loop-i.invariant.1 ∙ rw (drop_of_length-le c.args.text.now c.loop-i-test.false))
