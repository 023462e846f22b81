use Rattle.std.proofs.Common.{List, ℕ, refl, sym, subst}
use Rattle.std.specs.Prelude.{Some}
use Rattle.line_input.specs.Input.{shown, line_if, NextLine}
use Rattle.line_input.proofs.Lines.next.Goals as goal

pub returns-then-advance : goal.returns-then-advance
unfolding shown line_if
returns-then-advance g c = (
  (
    refl,
    λ _. tt,
    subst (λ (s : List ℕ). NextLine g.R.Read.remaining c.args.self.now (Some s) c.advance.new.self) (sym c.as_slice.ensures.value) c.if-advance.ensures,
  ),
  record { next = tt },
)

pub returns-else-advance : goal.returns-else-advance
unfolding shown line_if
returns-else-advance g c = ((refl, λ _. tt, c.if-advance.ensures), record { next = tt })
