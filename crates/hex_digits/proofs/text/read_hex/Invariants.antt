use Rattle.std.proofs.Common.{◌≡◌, ◌≤◌, length}
use Rattle.hex_digits.specs.Hex.{unhex}
use Rattle.hex_digits.proofs.Spelled.{onto}
use Rattle.hex_digits.proofs.text.read_hex.Given as goal

abbrev pub invariant-loop-rest : goal.invariant-loop-rest
invariant-loop-rest g l = (length l.bytes.items ≤ g.row.N) × (unhex l.text ≡ onto l.bytes.items (unhex l.rest))

abbrev pub decreases-loop-rest : goal.decreases-loop-rest
decreases-loop-rest g l = length l.rest
