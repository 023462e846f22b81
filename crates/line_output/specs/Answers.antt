-- What is answered to the lines of an input.
use Rattle.std.specs.Prelude.{ℕ, ◌-◌, ◌^◌, ◌≡◌, ◌⊎◌, List, [], length, Option, None, Some, IsNone, flat_map}
use Rattle.std.specs.List.{FoldsTo}
use Rattle.line_input.specs.declared.Lines.{Lines}
use Rattle.line_input.specs.Input.{has_line, NextLine}
use Rattle.line_output.specs.declared.Output.{Output}
use Rattle.line_output.specs.Output.{pending, Gathered, Before, Written}

module _
    {A R W : Type 0} (answers : A → List ℕ → List ℕ → List ℕ → A → Type 0)
    (remaining : R → Option (List ℕ)) (contents : W → Option (List ℕ)) where
  -- what is gathered is written where a read for the next line might wait; a call at that line leaves a text, which is empty before,
  -- and the text is gathered
  pub record Turn (p : A × Lines R × Output W) (said : List ℕ × List ℕ) (q : A × Lines R × Output W) : Type 0 where
    pub mid : Output W
    pub before : Before (has_line p.1.ahead) p.2 mid
    pub next : NextLine remaining p.1 (Some said.0) q.1
    pub called : answers p.0 [] said.0 said.1 q.0
    pub gathered : Gathered mid said.1 q.2

  -- the lines of the input are answered in turn, and the texts are written, one behind the other
  pub record Answered (a : A) (l : Lines R) (o : Output W) (a' : A) (l' : Lines R) (o' : Output W) : Type 0 where
    pub said : List (List ℕ × List ℕ)
    pub at : Lines R
    pub out : Output W
    pub turns : FoldsTo Turn (a, l, o) said (a', at, out)
    pub written : Written (contents o.writer) (contents o'.writer) (pending o) (flat_map (λ x. x.1) said) o'
    -- where no write failed all is written, and there is no further line, or there were too many
    pub flushed : IsNone o'.failed → pending o' ≡ []
    pub ended : IsNone o'.failed → (length said ≡ 2 ^ 64 - 1) ⊎ NextLine remaining at None l'
