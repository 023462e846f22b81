use mathlib.Core.Path.{◌≡◌, sym, ◌∙◌}
use native.Mathlib.Omega.{arith}
use Rattle.turn.proofs.TurnLaws.{applied_next, applied_end}
use Rattle.turn.proofs.rows.apply_rows.Goals as goal

pub loop-row-preserved : goal.loop-row-preserved
loop-row-preserved c = applied_next c.args.rows.now c.loop-row.row-index _ c.loop-row.order c.apply_row.new.order (omega arith) c.apply_row.ensures ∙ c.loop-row.invariant

pub returns : goal.returns
returns c = sym (applied_end c.args.rows.now c.loop-row.row-index c.loop-row.order (omega arith)) ∙ c.loop-row.invariant
