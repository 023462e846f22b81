-- `hex_digits::fill` meets its contract: from `i` on the bytes are those that the text spells from `2 * i` on.
use Prim.Native.Nat.{◌*◌, ◌≤◌}
use mathlib.Core.Path.{◌≡◌}
use Rattle.std.specs.Prelude.{Some}
use lib.ListN.{length, drop}
use Rattle.hex_digits.specs.Hex.{unhex}
use Rattle.hex_digits.proofs.fill.Given as goal

abbrev pub invariant-loop-i : goal.invariant-loop-i
invariant-loop-i l = (l.i ≤ length l.bytes) × (length l.bytes ≡ length l.initial.bytes) × (unhex (drop (2 * l.i) l.text) ≡ Some (drop l.i l.bytes))

abbrev pub decreases-loop-i : goal.decreases-loop-i
decreases-loop-i l = l.i
