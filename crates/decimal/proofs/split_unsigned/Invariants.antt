use Rattle.std.proofs.Common.{drop, Some}
use Rattle.decimal.proofs.Fronts.{Digits}
use Rattle.decimal.proofs.split_unsigned.Given as goal

abbrev pub invariant-loop-i : goal.invariant-loop-i
invariant-loop-i l = Digits l.s (Some l.number) (drop l.i l.s)
