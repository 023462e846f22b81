use Rattle.std.proofs.Common.{◌≡◌, length, eqb, true, ◌∙◌, rules, tests, arith}
use Rattle.std.proofs.lemmas.Iterator.Search.{position_from_yields_List}
use Rattle.std.proofs.lemmas.Iterator.{YieldsList-from_slice}
use Rattle.fields.specs.Front.{line_in}
use Rattle.fields.proofs.Left.{line_found, line_whole, line_short}
use Rattle.fields.proofs.line.line_len.Goals as goal
use Rattle.fields.proofs.line.line_len.Goals.{After-unwrap_or}

found : (c : After-unwrap_or) → c.unwrap_or.result ≡ length (line_in true c.args.s.now)
found c =
    c.unwrap_or.ensures
    ∙ line_found c.args.s.now c.position.result
    (position_from_yields_List (λ b. eqb b 10) _ _ _ c.position.ensures.ran (YieldsList-from_slice _ c.iter.ensures.rest) (λ x b q k. search (rules, tests)))

pub returns-then-newlines-clause-len : goal.returns-then-newlines-clause-len
returns-then-newlines-clause-len c = rw c.if-newlines.true (found (goal.at.returns-then-newlines-clause-len c).After-unwrap_or)

pub returns-then-newlines-clause-within : goal.returns-then-newlines-clause-within
returns-then-newlines-clause-within c =
    let e = found (goal.at.returns-then-newlines-clause-within c).After-unwrap_or in omega (arith, e, line_short true c.args.s.now)

pub returns-else-newlines-clause-len : goal.returns-else-newlines-clause-len
returns-else-newlines-clause-len c = rw (c.if-newlines.false, line_whole c.args.s.now)
