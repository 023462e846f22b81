-- What is answered to the lines of an input, each answer written by itself.
use Rattle.std.specs.Prelude.{ℕ, ◌-◌, ◌^◌, ◌≡◌, ◌⊎◌, List, [], length, Option, None, Some, Result, MatchResult, flat_map}
use Rattle.std.specs.Io.KnownBytes.{Appends}
use Rattle.std.specs.List.{FoldsTo}
use Rattle.line_input.specs.declared.Lines.{Lines}
use Rattle.line_input.specs.Input.{NextLine}

module _
    {A R W : Type 0} (answers : A → List ℕ → List ℕ → List ℕ → A → Type 0)
    (remaining : R → Option (List ℕ)) (contents : W → Option (List ℕ)) where
  -- a call at the next line leaves a text, which is empty before
  pub record Call (a : A) (l : Lines R) (said : List ℕ × List ℕ) (a' : A) (l' : Lines R) : Type 0 where
    pub next : NextLine remaining l (Some said.0) l'
    pub called : answers a [] said.0 said.1 a'

  -- the text is written
  pub record TurnAtOnce (p : A × Lines R × W) (said : List ℕ × List ℕ) (q : A × Lines R × W) : Type 0 where
    pub call : Call p.0 p.1 said q.0 q.1
    pub written : Appends (contents p.2) (contents q.2) said.1

  -- the lines of the input are answered in turn up to a place, and the texts are written, one behind the other; where no write failed, there is
  -- no further line, or there were too many; else it was the write of the text of the line there
  pub record AnsweredAtOnce {E : Type 0} (a : A) (l : Lines R) (w : W) (a' : A) (l' : Lines R) (w' : W) (r : Result (Unit {0}) E) : Type 0 where
    pub said : List (List ℕ × List ℕ)
    pub last : A
    pub at : Lines R
    pub out : W
    pub turns : FoldsTo TurnAtOnce (a, l, w) said (last, at, out)
    pub written : Appends (contents w) (contents out) (flat_map (λ x. x.1) said)
    pub ended :
        MatchResult r (λ _. (a' ≡ last) × (w' ≡ out) × ((length said ≡ 2 ^ 64 - 1) ⊎ NextLine remaining at None l'))
        (λ _. (more : List ℕ × List ℕ) × Call last at more a' l')
