use Rattle.std.proofs.Common.{ap, not, subst, sym}
use Rattle.line_input.specs.declared.Lines.{Lines}
use Rattle.line_input.proofs.Reading.{Taking, begun, found_here, read_on, found_later, at_end, line_last}
use Rattle.line_input.proofs.Lines.advance.Goals as goal
use Rattle.line_input.proofs.Lines.advance.Goals.{else-loop-test, then-loop-test+then-not-fill}

pub returns-then-take_part : goal.returns-then-take_part
returns-then-take_part g c = found_here g.R.Read.remaining c.args.self.now c.clear.ensures c.if-take_part.ensures

pub loop-init : goal.loop-init
loop-init g c = begun g.R.Read.remaining c.args.self.now c.clear.ensures c.if-take_part.ensures

pub returns-then-take_part-2 : goal.returns-then-take_part-2
returns-then-take_part-2 g c =
    found_later g.R.Read.remaining c.args.self.now c.loop.invariant _ _ c.fill.ensures.bytes c.fill.ensures.all c.if-take_part-2.ensures

pub loop-preserved : goal.loop-preserved
loop-preserved g c =
    read_on g.R.Read.remaining c.args.self.now c.loop.invariant _ _ c.fill.ensures.bytes c.if-take_part-2.ensures

pub returns : goal.returns
returns g c =
    let T : Lines g.row.R.Denot → Type 0 = λ m. Taking g.R.Read.remaining c.args.self.now m in
    let t : T c.loop-test.self =
    elim c.loop-test.branch [
      | else-loop-test w ↦ subst T (sym w.self-is) c.loop.invariant
      | then-loop-test+then-not-fill w ↦ subst T (sym w.self-is)
          (at_end g.R.Read.remaining c.args.self.now c.loop.invariant _ _ w.fill.ensures.bytes (w.fill.ensures.end w.if-not-fill.true))
    ] in
    line_last g.R.Read.remaining c.args.self.now _ t (ap not c.is_empty.ensures)
