use Rattle.std.proofs.Common.{◌≡◌, ◌++◌, take}
use Rattle.hex_digits.specs.Hex.{hex_of}
use Rattle.hex_digits.proofs.text.put_hex.Given as goal

abbrev pub invariant-loop-byte : goal.invariant-loop-byte
invariant-loop-byte g l = l.out.items ≡ take g.row.N (l.initial.out.items ++ hex_of (take l.byte-index l.bytes))
