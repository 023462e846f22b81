use Rattle.std.proofs.Common.{◌≡◌, ◌∙◌, eqb, sym, refl, true, false, length, ne_eqb, arith}
use Rattle.std.proofs.lemmas.Bool.{eqb-true}
use Rattle.std.proofs.lemmas.List.{get_or_past}
use Rattle.fields.specs.Left.{left, is_dash}
use Rattle.fields.proofs.Dashes.{no_dash, none_dash, dash_is, dash_read}
use Rattle.fields.proofs.line.Fields.dash.Goals as goal
use Rattle.fields.proofs.line.Fields.dash.Goals.{then-not-self-via-then-not-self, then-not-self-via-else-not-self+then-is_empty, then-not-self-via-else-not-self+else-is_empty+then-self-ne45}

pub returns-then-not-self-clause-dash : goal.returns-then-not-self-clause-dash
returns-then-not-self-clause-dash c = elim c.then-not-self.branch [
  | then-not-self-via-then-not-self w ↦ none_dash c.args.self.now w.if-not-self.true
  | then-not-self-via-else-not-self+then-is_empty w ↦
      no_dash c.args.self.now (λ e. omega (arith, e, get_or_past c.args.self.now.rest.now 0 0 (omega (arith, eqb-true _ 0 (sym w.if-is_empty.ensures)))))
  | then-not-self-via-else-not-self+else-is_empty+then-self-ne45 w ↦ no_dash c.args.self.now w.if-self-ne45.true
]

pub returns-then-field_len-ne0-clause-dash : goal.returns-then-field_len-ne0-clause-dash
returns-then-field_len-ne0-clause-dash c =
    sym (dash_is c.args.self.now c.if-not-self.false c.if-self-ne45.false ∙ ne_eqb _ 0 (λ e. c.if-field_len-ne0.true (c.field_len.ensures.len ∙ e)))

pub pass-requires : goal.pass-requires
pass-requires c = dash_read c.args.self.now c.if-not-self.false c.if-self-ne45.false

pub returns-clause-dash : goal.returns-clause-dash
returns-clause-dash c = c.pass.ensures.whole ∙ sym (dash_is c.args.self.now c.if-not-self.false c.if-self-ne45.false)
