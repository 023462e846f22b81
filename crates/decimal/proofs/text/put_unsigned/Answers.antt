use Rattle.std.proofs.Common.{◌∙◌, ◌++◌, List, ℕ, ap, take, sym, arith}
use Rattle.decimal.proofs.Printing.{digits_decimal, digits_one}
use Rattle.decimal.proofs.text.put_unsigned.Goals as goal

pub returns-then-n-lt10 : goal.returns-then-n-lt10
returns-then-n-lt10 g c = c.put_byte.ensures ∙ ap (λ (s : List ℕ). take g.row.N (c.args.out.now.items ++ s)) (sym (digits_one c.args.n c.if-n-lt10.true))

pub returns : goal.returns
returns g c = rw (digits_decimal c.args.n (omega arith)) (cc)
