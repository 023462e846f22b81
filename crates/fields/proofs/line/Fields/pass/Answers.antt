use Rattle.std.proofs.Common.{refl, sym, arith}
use Rattle.std.proofs.lemmas.Bool.{eqb-true, eqb-false}
use Rattle.std.proofs.lemmas.List.{get_or_past}
use Rattle.fields.proofs.Left.{space_first, space_whole, space_passes, end_whole, end_passes, unread_whole}
use Rattle.fields.proofs.line.Fields.pass.Goals as goal
use Rattle.fields.proofs.line.Fields.pass.Goals.{else-not-is_empty-via-then-not-is_empty+else-behind-eq32, else-not-is_empty-via-else-not-is_empty}

pub returns-clause-whole : goal.returns-clause-whole
returns-clause-whole c =
    unread_whole c.args.self.now.newlines c.args.behind.now
    (elim c.else-not-is_empty.branch [
      | else-not-is_empty-via-then-not-is_empty+else-behind-eq32 w ↦ w.if-behind-eq32.false
      | else-not-is_empty-via-else-not-is_empty w ↦
          λ e. omega (arith, e, get_or_past c.args.behind.now 0 0 (omega (arith, eqb-true _ 0 (sym w.if-not-is_empty.ensures))))
    ])
    (eqb-false _ 0 (sym c.if-is_line_end.ensures))

pub returns-then-behind-eq32-clause-whole : goal.returns-then-behind-eq32-clause-whole
returns-then-behind-eq32-clause-whole c =
    space_whole c.args.self.now c.args.self.now c.args.behind.now _ c.requires (space_first c.args.behind.now c.if-behind-eq32.true)

pub returns-then-behind-eq32-clause-next : goal.returns-then-behind-eq32-clause-next
returns-then-behind-eq32-clause-next c =
    space_passes c.args.self.now _ c.args.behind.now _ c.requires (space_first c.args.behind.now c.if-behind-eq32.true) refl c.requires.more refl

pub returns-then-is_line_end-clause-whole : goal.returns-then-is_line_end-clause-whole
returns-then-is_line_end-clause-whole c =
    end_whole c.args.self.now c.args.self.now c.args.behind.now c.requires (eqb-true _ 0 (sym c.if-is_line_end.ensures))

pub returns-then-is_line_end-clause-next : goal.returns-then-is_line_end-clause-next
returns-then-is_line_end-clause-next c =
    end_passes c.args.self.now _ c.args.behind.now c.requires (eqb-true _ 0 (sym c.if-is_line_end.ensures)) refl refl refl
