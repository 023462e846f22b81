use mathlib.Core.Path.{◌≡◌, refl}
use native.Mathlib.Numerals.{add-one}
use native.Mathlib.Omega.{arith}
use lib.ListN.{length, length-set}
use lib.Seq.{paste-zero, paste-suc}
use Rattle.decimal.proofs.Putting.{put_all, put_full}
use Rattle.decimal.proofs.put_bytes.Goals as goal

pub loop-i-init : goal.loop-i-init
loop-i-init c = let a = c.args in (omega arith, omega arith, omega arith, refl, paste-zero a.out.now a.at a.s.now)

pub returns-then-out-next : goal.returns-then-out-next
returns-then-out-next c = let l = c.loop-i in
    let a = c.args in
    rw (l.invariant.2, l.invariant.4) (put_full a.out.now a.at a.s.now l.i (omega arith) (omega arith))

pub loop-i-preserved : goal.loop-i-preserved
loop-i-preserved c = let l = c.loop-i in
    let a = c.args in (
      omega arith,
      omega arith,
      omega arith,
      simp length-set l.invariant.3,
      rw (l.invariant.2, l.invariant.4, add-one) (paste-suc a.out.now a.at a.s.now l.i 0 (omega arith) (omega arith)),
    )

pub returns : goal.returns
returns c = let l = c.loop-i in
    let a = c.args in
    let e : l.i ≡ length a.s.now = omega arith in
    rw (l.invariant.2, l.invariant.4, e) (put_all a.out.now a.at a.s.now (omega arith))
