use Rattle.std.proofs.Common.{◌≡◌, get_or, refl, sym, arith}
use Rattle.std.proofs.lemmas.Bool.{eqb-true}
use Rattle.std.proofs.lemmas.List.{get_or_past}
use Rattle.fields.proofs.Left.{space_first, space_fields, space_behind, other_fields, other_behind}
use Rattle.fields.proofs.line.Fields.from_end.Goals as goal
use Rattle.fields.proofs.line.Fields.from_end.Goals.{Joined-else-not-is_empty, else-not-is_empty-via-then-not-is_empty+else-end-eq32, else-not-is_empty-via-else-not-is_empty}

pub returns-then-end-eq32-clause-fields : goal.returns-then-end-eq32-clause-fields
returns-then-end-eq32-clause-fields c = space_fields c.args.newlines c.args.end.now _ refl _ (space_first c.args.end.now c.if-end-eq32.true) refl refl

pub returns-then-end-eq32-clause-behind : goal.returns-then-end-eq32-clause-behind
returns-then-end-eq32-clause-behind c = space_behind c.args.newlines c.args.end.now _ refl _ (space_first c.args.end.now c.if-end-eq32.true) refl refl

no_space : (c : Joined-else-not-is_empty) → get_or c.args.end.now 0 0 ≡ 32 → ⊥
no_space c = elim c.else-not-is_empty.branch [
  | else-not-is_empty-via-then-not-is_empty+else-end-eq32 w ↦ w.if-end-eq32.false
  | else-not-is_empty-via-else-not-is_empty w ↦
      λ e. omega (arith, e, get_or_past c.args.end.now 0 0 (omega (arith, eqb-true _ 0 (sym w.if-not-is_empty.ensures))))
]

pub returns-else-not-is_empty-clause-fields : goal.returns-else-not-is_empty-clause-fields
returns-else-not-is_empty-clause-fields c =
    other_fields c.args.newlines c.args.end.now _ refl (no_space (goal.at.returns-else-not-is_empty-clause-fields c).Joined-else-not-is_empty) c.requires refl refl

pub returns-else-not-is_empty-clause-behind : goal.returns-else-not-is_empty-clause-behind
returns-else-not-is_empty-clause-behind c =
    other_behind c.args.newlines c.args.end.now _ refl (no_space (goal.at.returns-else-not-is_empty-clause-behind c).Joined-else-not-is_empty) c.requires refl refl
