use Rattle.std.proofs.Common.{◌≡◌, ℕ, MatchOption, length, refl, eqb, ◌||◌, rules, tests}
use Rattle.std.proofs.lemmas.Iterator.Search.{position_from_yields_List}
use Rattle.std.proofs.lemmas.Iterator.{YieldsList-from_slice}
use Rattle.fields.specs.Front.{ends, field_in}
use Rattle.fields.proofs.Left.{field_found}
use Rattle.fields.proofs.line.field_len.Goals as goal
use Rattle.fields.proofs.line.field_len.Goals.{After-position}

found : (c : After-position) (r : ℕ) → MatchOption c.position.result (r ≡ length c.args.s.now) (λ n. r ≡ n) → r ≡ length (field_in c.args.newlines c.args.s.now)
found c r h =
    field_found c.args.newlines c.args.s.now r c.position.result
    (position_from_yields_List (λ b. eqb b 32 || ends c.args.newlines b) _ _ _ c.position.ensures.ran (YieldsList-from_slice _ c.iter.ensures.rest) (λ x b q k. search (rules, tests)))
    h

pub returns-in-Some-clause-len : goal.returns-in-Some-clause-len
returns-in-Some-clause-len c = found (goal.at.returns-in-Some-clause-len c).After-position _ (rw c.in-Some.is refl)

pub returns-in-None-clause-len : goal.returns-in-None-clause-len
returns-in-None-clause-len c = found (goal.at.returns-in-None-clause-len c).After-position _ (rw c.in-None.is refl)
