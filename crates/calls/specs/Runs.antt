-- What the code's calls stand for between lines, and a line or a whole text run on them.
use Prim.{Unit}
use Rattle.std.specs.Prelude.{ℕ, ◌≤◌, ◌≡◌, ◌⊎◌, true, List, ◌++◌, length, take}
use Rattle.std.specs.Prelude.{Option, None, Some}
use Rattle.laws.specs.Answer.{Kept}
use Rattle.decimal.specs.Print.{put}
use Rattle.rules.specs.Offer.{offer, heartbeat, gap}
use Rattle.rules.specs.Release.{malformed, release}
use Rattle.call_line.specs.declared.line.Line.{Line}
use Rattle.call_line.specs.declared.line.Line.TheVariants as L
use Rattle.calls.specs.Run.{Calls, rows_of, run_if, run_text}

-- d stands for c: the histories are the same, and so are the rows, or both are malformed: then it only matters that a release is refused
pub record Stands (c d : Calls) : Type 0 where
  pub history : d.history ≡ c.history
  pub rows : (rows_of d ≡ rows_of c) ⊎ ((malformed (rows_of d) ≡ true) × (malformed (rows_of c) ≡ true))

-- what a line leaves as it was: a bad line all; `T` nothing; `V` and `D` the history; a call the rows, and where it is refused the history
-- too
abbrev pub Leaves : Calls → Option Line → (old new : Calls) → Type 0
Leaves c None s t = t ≡ s
Leaves c (Some (L.Timeout n)) s t = Unit {0}
Leaves c (Some (L.Counted p)) s t = t.history ≡ s.history
Leaves c (Some (L.Digest d)) s t = t.history ≡ s.history
Leaves c (Some (L.Offer o)) s t = Kept (offer c.history o).0 s.history t.history × (rows_of t ≡ rows_of s)
Leaves c (Some (L.Heartbeat h)) s t = Kept (heartbeat c.history h).0 s.history t.history × (rows_of t ≡ rows_of s)
Leaves c (Some (L.Gap g)) s t = Kept (gap c.history g).0 s.history t.history × (rows_of t ≡ rows_of s)
Leaves c (Some (L.Release now)) s t = Kept (release c.history (rows_of c) now 256).0 s.history t.history × (rows_of t ≡ rows_of s)

-- what stands for the calls does so after the line, and those parts of it that the line leaves are unchanged; what it prints is short, and
-- is put behind what out holds, which has room for n bytes
pub record Ran (n : ℕ) (l : Option Line) (old new : Calls) (out out' : List ℕ) : Type 0 where
  pub state : (c : Calls) → Stands c old → Stands (run_if c l).0 new
  pub leaves : (c : Calls) → Stands c old → Leaves c l old new
  pub short : (c : Calls) → Stands c old → length (run_if c l).1 ≤ 3929
  pub text : (c : Calls) → Stands c old → out' ≡ take n (out ++ (run_if c l).1)

-- the answers of a text put at the front of out, as far as out has room: how many bytes of them are there, and out
unfoldable pub ran_text : List ℕ → List ℕ → ℕ × List ℕ
ran_text s out = put out 0 (run_text s)
