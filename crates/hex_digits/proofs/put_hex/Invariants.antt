-- `hex_digits::put_hex` meets its contract: after `i` turns the digits of the first `i` bytes are put.
use Prim.Native.Nat.{◌-◌, ◌≤◌}
use mathlib.Core.Path.{◌≡◌}
use lib.ListN.{length, take}
use Rattle.decimal.specs.Print.{put}
use Rattle.hex_digits.specs.Hex.{hex_of}
use Rattle.hex_digits.proofs.put_hex.Given as goal

abbrev pub invariant-loop-i : goal.invariant-loop-i
invariant-loop-i l = (l.i ≤ length l.bytes) × (length l.out ≡ length l.initial.out) × ((l.next, l.out) ≡ put l.initial.out l.at (hex_of (take l.i l.bytes)))

abbrev pub decreases-loop-i : goal.decreases-loop-i
decreases-loop-i l = length l.bytes - l.i
