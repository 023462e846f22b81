use Rattle.std.proofs.Common.{◌≡◌, ◌-◌, ◌^◌, get_or, refl, ap, sym, ◌∙◌, arith}
use Rattle.std.proofs.lemmas.Bool.{eqb-true}
use Rattle.std.proofs.lemmas.List.{get_or_past}
use Rattle.decimal.specs.Read.{at_most, plus, minus}
use Rattle.decimal.proofs.Fronts.{by_number, sign_first, minus_number, minus_behind, plus_number, plus_behind}
use Rattle.decimal.proofs.split_signed.Goals as goal
use Rattle.decimal.proofs.split_signed.Goals.{Joined-else-not-is_empty, else-not-is_empty-via-then-not-is_empty+else-s-eq45, else-not-is_empty-via-else-not-is_empty}

pub returns-then-s-eq45-clause-number : goal.returns-then-s-eq45-clause-number
unfolding at_most minus
returns-then-s-eq45-clause-number c =
    let r = c.split_unsigned-size in
    by_number (λ o. minus (at_most (2 ^ 63) o)) r.result.0 c.and_then.result refl c.and_then.ensures
    ∙ ap (λ o. minus (at_most (2 ^ 63) o)) r.ensures.number
    ∙ sym (minus_number c.args.s.now _ (sign_first c.args.s.now c.if-s-eq45.true))

pub returns-then-s-eq45-clause-behind : goal.returns-then-s-eq45-clause-behind
returns-then-s-eq45-clause-behind c =
    c.split_unsigned-size.ensures.behind ∙ minus_behind c.args.s.now _ (sign_first c.args.s.now c.if-s-eq45.true)

no_sign : (c : Joined-else-not-is_empty) → get_or c.args.s.now 0 0 ≡ 45 → ⊥
no_sign c = elim c.else-not-is_empty.branch [
  | else-not-is_empty-via-then-not-is_empty+else-s-eq45 w ↦ w.if-s-eq45.false
  | else-not-is_empty-via-else-not-is_empty w ↦
      λ e. omega (arith, e, get_or_past c.args.s.now 0 0 (omega (arith, eqb-true _ 0 (sym w.if-not-is_empty.ensures))))
]

pub returns-else-not-is_empty-clause-number : goal.returns-else-not-is_empty-clause-number
unfolding at_most plus
returns-else-not-is_empty-clause-number c =
    let r = c.split_unsigned-size-else-not-is_empty in
    by_number (λ o. plus (at_most (2 ^ 63 - 1) o)) r.result.0 c.and_then-else-not-is_empty.result refl c.and_then-else-not-is_empty.ensures
    ∙ ap (λ o. plus (at_most (2 ^ 63 - 1) o)) r.ensures.number
    ∙ sym (plus_number c.args.s.now (no_sign (goal.at.returns-else-not-is_empty-clause-number c).Joined-else-not-is_empty))

pub returns-else-not-is_empty-clause-behind : goal.returns-else-not-is_empty-clause-behind
returns-else-not-is_empty-clause-behind c =
    c.split_unsigned-size-else-not-is_empty.ensures.behind
    ∙ plus_behind c.args.s.now (no_sign (goal.at.returns-else-not-is_empty-clause-behind c).Joined-else-not-is_empty)
