-- What is left to apply leads to the same end.
use mathlib.Core.Path.{◌≡◌}
use lib.ListN.{drop}
use Rattle.turn.specs.Turn.{applied}
use Rattle.turn.proofs.rows.apply_rows.Given as goal

abbrev pub invariant-loop-row : goal.invariant-loop-row
invariant-loop-row l = applied l.order (drop l.row-index l.rows) ≡ applied l.initial.order l.rows
