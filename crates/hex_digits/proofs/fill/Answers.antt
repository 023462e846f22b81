use Prim.Native.Nat.{◌+◌, ◌*◌, ◌-◌}
use mathlib.Core.Path.{◌≡◌, refl}
use native.Mathlib.Omega.{arith}
use lib.ListN.{length, length-set, drop_of_length-le}
use Rattle.hex_digits.specs.Hex.{unhex}
use Rattle.hex_digits.proofs.Steps.{value_here, fill_more}
use Rattle.hex_digits.proofs.fill.Goals as goal

pub loop-i-init : goal.loop-i-init
unfolding unhex
loop-i-init c = let a = c.args in
    let n = length a.bytes.now in
    let l : length a.text.now ≡ 2 * n = c.requires.text_len in
    let x = drop_of_length-le a.text.now {i = 2 * n} (omega arith) in
    let y = drop_of_length-le a.bytes.now {i = n} (omega arith) in
    (omega arith, refl, rw (x, y))

pub overflow_mul-bytes : goal.overflow_mul-bytes
overflow_mul-bytes c = let v = value_here c.args.text.now (2 * (c.loop-i.i - 1)) c.half.result (omega arith) c.half.ensures c.requires.text_value in
    omega (arith, v.0)

pub overflow_add-bytes : goal.overflow_add-bytes
overflow_add-bytes c = let l = c.loop-i in
    let s = c.args.text.now in
    let i = l.i - 1 in
    let x = c.half in
    let y = c.half-in-loop-i in
    let v = value_here s (2 * i) x.result (omega arith) x.ensures c.requires.text_value in
    let w = value_here s (2 * i + 1) y.result (omega arith) y.ensures c.requires.text_value in
    omega (arith, v.0, w.0)

pub loop-i-preserved : goal.loop-i-preserved
loop-i-preserved c = let l = c.loop-i in
    let s = c.args.text.now in
    let i = l.i - 1 in
    let x = c.half in
    let y = c.half-in-loop-i in
    let v = value_here s (2 * i) x.result (omega arith) x.ensures c.requires.text_value in
    let w = value_here s (2 * i + 1) y.result (omega arith) y.ensures c.requires.text_value in (
      simp length-set (omega arith),
      simp length-set l.invariant.1,
      fill_more s l.bytes i l.i x.result y.result (omega arith) (omega arith) (omega arith) v.1 w.1 l.invariant.2,
    )

pub returns : goal.returns
returns c = let l = c.loop-i in
    let e : l.i ≡ 0 = omega arith in
    rw e at l.invariant.2
