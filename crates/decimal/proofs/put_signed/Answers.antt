use Rattle.std.proofs.Common.{◌≡◌, ℕ, ℤ, List, [], ◌∷◌, ◌∙◌, ap, w64}
use lib.IntN.{nat_abs}
use Rattle.std.proofs.lemmas.Int.{to_z-of_z}
use Rattle.decimal.specs.Print.{digits_of, put}
use Rattle.decimal.proofs.Printing.{minus_digits, plus_digits}
use Rattle.decimal.proofs.Putting.{puts}
use Rattle.decimal.proofs.put_signed.Goals as goal

pub returns-then-x-lt0 : goal.returns-then-x-lt0
returns-then-x-lt0 c =
    let e = to_z-of_z w64 c.args.x c.ranges.x in
    let size : c.unsigned_abs.result ≡ nat_abs c.args.x = c.unsigned_abs.ensures.value ∙ ap (λ (z : ℤ). nat_abs z) e in
    puts c.args.out.now c.args.at (45 ∷ []) (digits_of c.unsigned_abs.result) c.put_bytes-next.ensures c.put_unsigned.ensures
    ∙ ap (λ (s : List ℕ). put c.args.out.now c.args.at s)
    (ap (λ (n : ℕ). 45 ∷ digits_of n) size ∙ minus_digits c.args.x (rw e at c.if-x-lt0.true))

pub returns : goal.returns
returns c =
    let e = to_z-of_z w64 c.args.x c.ranges.x in
    let size : c.unsigned_abs-2.result ≡ nat_abs c.args.x = c.unsigned_abs-2.ensures.value ∙ ap (λ (z : ℤ). nat_abs z) e in
    c.put_unsigned-2.ensures
    ∙ ap (λ (s : List ℕ). put c.args.out.now c.args.at s)
    (ap (λ (n : ℕ). digits_of n) size ∙ plus_digits c.args.x (rw e at c.if-x-lt0.false))
