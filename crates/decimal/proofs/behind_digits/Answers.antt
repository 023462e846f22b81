use Rattle.std.proofs.Common.{sym, ◌∙◌}
use Rattle.decimal.specs.Read.{is_digit}
use Rattle.decimal.proofs.Fronts.{behind_one, behind_none, no_byte, no_digit}
use Rattle.decimal.proofs.behind_digits.Goals as goal

pub loop-first-preserved : goal.loop-first-preserved
unfolding is_digit
loop-first-preserved c =
    sym (behind_one _ _ c.in-Some.first.now (sym c.if-not-is_ascii_digit.ensures.value) c.in-Some.ensures.cases.0) ∙ c.loop-first.invariant

pub returns-then-not-is_ascii_digit : goal.returns-then-not-is_ascii_digit
unfolding is_digit
returns-then-not-is_ascii_digit c =
    behind_none c.loop-first.behind.now (no_digit _ _ c.in-Some.first.now c.in-Some.ensures.cases.0 (sym c.if-not-is_ascii_digit.ensures.value))
    ∙ c.loop-first.invariant

pub returns-in_default : goal.returns-in_default
returns-in_default c = behind_none c.loop-first.behind.now (no_byte _ c.in_default.ensures.cases) ∙ c.loop-first.invariant
