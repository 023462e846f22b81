-- The heartbeat's calls, then the gap's.
use mathlib.Core.Path.{◌≡◌, sym, ap, ◌∙◌}
use Rattle.rules.specs.Run.{run}
use Rattle.turn.specs.Turn.{beat_calls, gap_calls, row_calls}
use Rattle.turn.proofs.TurnLaws.{run_append}
use Rattle.turn.proofs.rows.apply_row.Goals as goal

pub returns-then-known : goal.returns-then-known
unfolding row_calls
returns-then-known c = let r = c.args.row.now in
    let b = beat_calls r.group r.writer r.heartbeat in
    let e = gap_calls r.group r.writer r.reader r.gap_end in
    rw (sym c.knows-known.ensures ∙ c.if-known.true)
    (c.apply_gap.ensures ∙ ap (λ t. run t e) c.apply_heartbeat.ensures ∙ sym (run_append c.args.order.now b e))
