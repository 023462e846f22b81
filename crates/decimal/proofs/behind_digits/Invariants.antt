use Rattle.std.proofs.Common.{◌≡◌, length, drop}
use Rattle.decimal.specs.Read.{unsigned_len}
use Rattle.decimal.proofs.behind_digits.Given as goal

abbrev pub invariant-loop-first : goal.invariant-loop-first
invariant-loop-first l = drop (unsigned_len l.behind) l.behind ≡ drop (unsigned_len l.s) l.s

abbrev pub decreases-loop-first : goal.decreases-loop-first
decreases-loop-first l = length l.behind
