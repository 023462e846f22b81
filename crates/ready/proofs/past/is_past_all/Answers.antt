use Rattle.std.proofs.Common.{sym, rules}
use Rattle.rules.specs.Marks.{past}
use Rattle.rules.specs.GroupTurn.{turn_as}
use Rattle.ready.proofs.Walks.{past_known, past_unknown}
use Rattle.ready.proofs.past.is_past_all.Goals as goal

pub returns-in-Some : goal.returns-in-Some
unfolding past
returns-in-Some c =
    let m = c.marks_of.ensures in
    past_known (turn_as c.args.turn.now) c.args.p.now.writer c.args.p.now.reader c.args.from c.args.end c.in-Some.w.now c.lowest_open.result (sym c.in-Some.ensures) (rw (← m.seen, ← m.gap_end, ← m.first, ← m.last, ← m.current) c.lowest_open.ensures)

pub returns-in-None : goal.returns-in-None
returns-in-None c = past_unknown (turn_as c.args.turn.now) c.args.p.now.writer c.args.p.now.reader c.args.from c.args.end (search rules)
