use Rattle.std.proofs.Common.{ℕ, List, ◌∙◌, ap, sym, arith}
use Rattle.decimal.specs.Print.{put}
use Rattle.decimal.proofs.Printing.{digits_decimal, digits_one}
use Rattle.decimal.proofs.put_unsigned.Goals as goal

pub returns-then-n-lt10 : goal.returns-then-n-lt10
returns-then-n-lt10 c = c.put_bytes.ensures ∙ ap (λ (s : List ℕ). put c.args.out.now c.args.at s) (sym (digits_one c.args.n c.if-n-lt10.true))

pub returns : goal.returns
returns c = rw (digits_decimal c.args.n (omega arith)) (cc)
