-- `tbf::carry` meets its contract: what it took out, in seconds, and what is left make up the nanoseconds.
use Prim.Native.Nat.{◌+◌, ◌*◌}
use mathlib.Core.Path.{◌≡◌}
use Rattle.filter_hold.proofs.tbf.carry.Given as goal

abbrev pub invariant-loop-sec : goal.invariant-loop-sec
invariant-loop-sec l = l.sec * 1000000000 + l.left ≡ l.nanosec
