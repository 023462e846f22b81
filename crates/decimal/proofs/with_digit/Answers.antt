use Rattle.std.proofs.Common.{◌≡◌, ℕ, ◌+◌, ◌-◌, ◌*◌, ◌^◌, ◌<◌, Option, Some, None, SomeIff, ap, ◌∙◌, sym, arith, le-leb}
use Rattle.std.proofs.lemmas.Bool.{lt-leb}
use Rattle.decimal.specs.Read.{at_most, given}
use Rattle.decimal.proofs.with_digit.Goals as goal

limited : (r : Option ℕ) (v n : ℕ) → SomeIff r (n < 2 ^ 64) n → v ≡ n → r ≡ at_most (2 ^ 64 - 1) (Some v)
unfolding at_most given
limited None v n h e = rw (lt-leb v (2 ^ 64 - 1) (omega (arith, h, e)))
limited (Some m) v n h e = rw (le-leb v (2 ^ 64 - 1) (omega (arith, h.0, e))) (ap Some (h.1 ∙ sym e))

pub returns-in_err-checked_mul : goal.returns-in_err-checked_mul
unfolding at_most given
returns-in_err-checked_mul c =
    let a = c.args in
    c.from_residual.ensures ∙ (rw (lt-leb (a.n * 10 + a.digit) (2 ^ 64 - 1) (omega (arith, c.in_err-checked_mul.ensures))))

pub returns : goal.returns
returns c = limited _ _ _ c.checked_add.ensures (omega (arith, c.in_ok-checked_mul.ensures))
