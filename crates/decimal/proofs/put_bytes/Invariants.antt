-- `decimal::put_bytes` meets its contract: after `i` turns, the first `i` bytes of `s` stand in `out` from `at` on.
use Prim.Native.Nat.{◌+◌, ◌-◌, ◌≤◌}
use mathlib.Core.Path.{◌≡◌}
use lib.ListN.{length}
use lib.Seq.{paste}
use Rattle.decimal.proofs.put_bytes.Given as goal

abbrev pub invariant-loop-i : goal.invariant-loop-i
invariant-loop-i l = (l.i ≤ length l.s) × (l.i ≤ length l.initial.out - l.at) × (l.next ≡ l.at + l.i) × (length l.out ≡ length l.initial.out) × (l.out ≡ paste l.initial.out l.at l.s l.i)

abbrev pub decreases-loop-i : goal.decreases-loop-i
decreases-loop-i l = length l.s - l.i
