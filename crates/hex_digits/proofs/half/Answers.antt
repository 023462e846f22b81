use Rattle.std.proofs.Common.{sym, ◌∙◌}
use Rattle.hex_digits.proofs.Spelled.{value_small}
use Rattle.hex_digits.proofs.Steps.{half_or}
use Rattle.hex_digits.proofs.half.Goals as goal

pub returns : goal.returns
returns c =
    rw (c.unwrap_or.ensures, ← c.value.ensures)
    (half_or c.value.result (λ n e. value_small _ _ (sym c.value.ensures ∙ e)))
