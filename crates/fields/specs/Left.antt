-- The fields of a line that are left, and what is made of the next one.
use Rattle.std.specs.Prelude.{◌≡◌, ℕ, ◌≤◌, Bool, true, false, cond, List, [], ◌∷◌, eqb, length, drop}
use Rattle.std.specs.Prelude.{Option, None, Some}
use Rattle.fields.specs.Fields.{fields_of, only}
use Rattle.fields.specs.Front.{line_in, field_in}
use Rattle.fields.specs.declared.line.Fields.{Fields}

unfoldable pub left : Fields → List (List ℕ)
left f = cond f.more (fields_of (line_in f.newlines f.rest.now)) []

-- what stands behind the line: nothing, or its newline and what follows
unfoldable pub behind : Fields → List ℕ
behind f = drop (length (line_in f.newlines f.rest.now)) f.rest.now

-- one field is taken
pub record Passes (old new : Fields) : Type 0 where
  pub fields : left new ≡ drop 1 (left old)
  pub behind : behind new ≡ behind old

-- what d makes of the first field; none where there is none
unfoldable pub first_as : {A : Type 0} → (List ℕ → Option A) → List (List ℕ) → Option A
first_as d [] = None
first_as d (f ∷ fs) = d f

-- the byte of a field of one byte
unfoldable pub sole : List ℕ → Option ℕ
sole [] = None
sole (b ∷ []) = Some b
sole (b ∷ c ∷ s) = None

-- whether the first field is `-`, 45
unfoldable pub is_dash : List (List ℕ) → Bool
is_dash [] = false
is_dash (f ∷ fs) = eqb (only f) 45

unfoldable pub behind_newline : List ℕ → Option (List ℕ)
behind_newline [] = None
behind_newline (b ∷ s) = Some s

-- ---- within the crate

-- the next field is read up to s
pub record PartRead (f : Fields) (s : List ℕ) : Type 0 where
  pub more : f.more ≡ true
  pub len : ℕ
  pub within : len ≤ length (field_in f.newlines f.rest.now)
  pub is : s ≡ drop len f.rest.now

-- the fields behind the first, by what stands behind it, and what stands behind the line
unfoldable pub next_fields : Bool → List ℕ → List (List ℕ)
next_fields nl [] = []
next_fields nl (b ∷ s) = cond (eqb b 32) (fields_of (line_in nl s)) []

unfoldable pub next_behind : Bool → List ℕ → List ℕ
next_behind nl [] = []
next_behind nl (b ∷ s) = cond (eqb b 32) (drop (length (line_in nl s)) s) (b ∷ s)
