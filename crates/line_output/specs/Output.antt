-- What is gathered of an output, and what is written where a writer's bytes are known.
use Rattle.std.specs.Prelude.{ℕ, ◌+◌, ◌≤◌, ◌<◌, ◌≡◌, Bool, true, false, List, [], ◌++◌, length, take, ⊤, Option, None, Some, IsSome, IsNone, Result, Ok, Err}
use Rattle.std.specs.Io.KnownBytes.{Appends}
use Rattle.line_output.specs.declared.Output.{Output}

-- the bytes that are gathered and not written
abbrev pub pending : {W : Type 0} → Output W → List ℕ
pending o = o.room.items

-- after a failed write all stays; a text goes behind what is gathered where it fits, else, once that is written, to the front; one that is
-- longer than the room is written at once
pub record Gathered {W : Type 0} (o : Output W) (text : List ℕ) (r : Output W) : Type 0 where
  pub broken : IsSome o.failed → r ≡ o
  pub fits : IsNone o.failed → length (pending o) + length text ≤ 65536 → IsNone r.failed × (pending r ≡ pending o ++ text)
  pub full : IsNone o.failed → 65536 < length (pending o) + length text → length text ≤ 65536 → IsNone r.failed → pending r ≡ text
  pub long : IsNone o.failed → 65536 < length text → pending r ≡ []

-- nothing is left to write, and a failed write stays
pub record Flushed {W : Type 0} (o r : Output W) : Type 0 where
  pub broken : IsSome o.failed → r ≡ o
  pub none : IsNone o.failed → pending r ≡ []

-- with a line left nothing is written
abbrev pub Before : {W : Type 0} → Bool → Output W → Output W → Type 0
Before true o r = r ≡ o
Before false o r = Flushed o r

-- what a writer held, what was gathered and a text are what it holds then and what is gathered then: no byte is lost, doubled or moved
abbrev pub Passes : Option (List ℕ) → Option (List ℕ) → List ℕ → List ℕ → List ℕ → Type 0
Passes None known' before text after = ⊤
Passes (Some xs) None before text after = ⊥
Passes (Some xs) (Some ys) before text after = ys ++ after ≡ xs ++ (before ++ text)

-- where a write failed, its writer has a front part of it
pub record Written {W : Type 0} (known known' : Option (List ℕ)) (before text : List ℕ) (r : Output W) : Type 0 where
  pub whole : IsNone r.failed → Passes known known' before text (pending r)
  pub front : (n : ℕ) × Appends known known' (take n (before ++ text))

-- the error, where there is one
abbrev pub outcome : {E : Type 0} → Option E → Result (Unit {0}) E
outcome None = Ok tt
outcome (Some error) = Err error
