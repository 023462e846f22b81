use Rattle.std.proofs.Common.{◌++◌, List, ℕ, take, ap, ◌∙◌}
use Rattle.decimal.proofs.Printing.{printed}
use Rattle.decimal.proofs.text.put_signed.Goals as goal

pub returns : goal.returns
returns g c =
    c.put_bytes.ensures
    ∙ ap (λ (s : List ℕ). take g.row.N (c.args.out.now.items ++ s)) (c.as_bytes.ensures.value ∙ printed c.args.x c.format.result.now c.ranges.x c.format.ensures.text)
