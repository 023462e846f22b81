use Rattle.std.proofs.Common.{◌≡◌, ℕ, ◌+◌, Some, None, length, get_or, drop, ap, sym, ◌∙◌, arith}
use Rattle.std.specs.Bool.{then_some}
use Rattle.std.proofs.lemmas.List.{drop_more, drop_all, take_rest, take_all}
use Rattle.decimal.specs.Read.{is_digit, plain, unsigned_len}
use Rattle.decimal.proofs.Fronts.{Digits, grown, none_read, one_read, large_number, rest_behind, part_front, part_behind, no_byte, no_digit}
use Rattle.decimal.proofs.split_unsigned.Goals as goal
use Rattle.decimal.proofs.split_unsigned.Goals.{Then-not-is_ascii_digit, In-None}

pub loop-i-init : goal.loop-i-init
loop-i-init c = none_read c.args.s.now

pub loop-i-preserved : goal.loop-i-preserved
unfolding grown is_digit
loop-i-preserved c =
    let s = c.args.s.now in
    let i = c.loop-i.i in
    one_read s (drop i s) (drop (i + 1) s) (get_or s i 0) (Some c.loop-i.number) _
    (sym c.if-not-is_ascii_digit.ensures.value)
    (drop_more s i 0 c.loop-i-test.true)
    c.in-Some.ensures
    c.loop-i.invariant

-- no digit stands at i
ended : (c : Then-not-is_ascii_digit) → unsigned_len (drop c.loop-i.i c.args.s.now) ≡ 0
unfolding is_digit
ended c = no_digit _ _ _ (drop_more c.args.s.now c.loop-i.i 0 c.loop-i-test.true) (sym c.if-not-is_ascii_digit.ensures.value)

pub returns-then-not-is_ascii_digit-clause-number : goal.returns-then-not-is_ascii_digit-clause-number
returns-then-not-is_ascii_digit-clause-number c =
    c.then_some.ensures
    ∙ ap (λ b. then_some b c.loop-i.number) c.is_plain.ensures
    ∙ part_front c.args.s.now c.loop-i.i c.loop-i.number c.loop-i.invariant (omega arith)
    (ended (goal.at.returns-then-not-is_ascii_digit-clause-number c).Then-not-is_ascii_digit)

pub returns-then-not-is_ascii_digit-clause-behind : goal.returns-then-not-is_ascii_digit-clause-behind
returns-then-not-is_ascii_digit-clause-behind c =
    take_rest c.args.s.now c.loop-i.i
    ∙ part_behind c.args.s.now c.loop-i.i c.loop-i.number c.loop-i.invariant (omega arith)
    (ended (goal.at.returns-then-not-is_ascii_digit-clause-behind c).Then-not-is_ascii_digit)

-- with the digit at i the number is too large
large : (c : In-None) → Digits c.args.s.now None (drop (c.loop-i.i + 1) c.args.s.now)
unfolding grown is_digit
large c =
    let s = c.args.s.now in
    let i = c.loop-i.i in
    one_read s (drop i s) (drop (i + 1) s) (get_or s i 0) (Some c.loop-i.number) None
    (sym c.if-not-is_ascii_digit.ensures.value)
    (drop_more s i 0 c.loop-i-test.true)
    c.in-None.ensures
    c.loop-i.invariant

pub returns-in-None-clause-number : goal.returns-in-None-clause-number
returns-in-None-clause-number c = large_number _ _ (large (goal.at.returns-in-None-clause-number c).In-None)

pub returns-in-None-clause-behind : goal.returns-in-None-clause-behind
returns-in-None-clause-behind c =
    let t = take_rest c.args.s.now c.loop-i.i in
    c.behind_digits.ensures
    ∙ ap (λ l. drop (unsigned_len l) l) t
    ∙ rest_behind c.args.s.now (drop c.loop-i.i c.args.s.now) (Some c.loop-i.number) c.loop-i.invariant

pub returns-clause-number : goal.returns-clause-number
returns-clause-number c =
    let s = c.args.s.now in
    let i = c.loop-i.i in
    c.then_some-2.ensures
    ∙ ap (λ b. then_some b c.loop-i.number) (c.is_plain-2.ensures ∙ ap (λ l. plain l) (sym (take_all i s (omega arith))))
    ∙ part_front s i c.loop-i.number c.loop-i.invariant (omega arith) (no_byte (drop i s) (ap length (drop_all i s (omega arith))))

pub returns-clause-behind : goal.returns-clause-behind
returns-clause-behind c =
    let s = c.args.s.now in
    let i = c.loop-i.i in
    let l : i ≡ length s = omega arith in
    take_rest s (length s)
    ∙ ap (λ (j : ℕ). drop j s) (sym l)
    ∙ part_behind s i c.loop-i.number c.loop-i.invariant (omega arith) (no_byte (drop i s) (ap length (drop_all i s (omega arith))))
