-- The walk over entries in any order: pending, held and gone ones mixed.
use Rattle.std.specs.Prelude.{ℕ, zero, suc, true, false, List, [], ◌∷◌, map, eqb}
use Rattle.laws.specs.Lists.{filter}
use Rattle.rules.specs.declared.entry.Entry.{Entry}
use Rattle.rules.specs.declared.state.Group.{Group}
use Rattle.rules.specs.Page.{Page, read_entry}

-- stage 0 is pending, 1 held; any other is gone
pub record Row : Type 0 where
  pub stage : ℕ
  pub entry : Entry ℕ

unfoldable pub staged : ℕ → List Row → List (Entry ℕ)
staged k rs = map (λ r. r.entry) (filter (λ r. eqb r.stage k) rs)

abbrev pub of_stage : ℕ → List Group → Entry ℕ → Page → Page
of_stage zero gs e p = read_entry true gs e p
of_stage (suc zero) gs e p = read_entry false gs e p
of_stage (suc (suc k)) gs e p = p

unfoldable pub walk : List Group → List Row → Page → Page
walk gs [] p = p
walk gs (x ∷ l) p = walk gs l (of_stage x.stage gs x.entry p)
