-- What is claimed: after every list of calls and turns the turn of the source, as Source.antt has it, and document 01's definition,
-- given the rows that the source asks for, in its order, answer the same.
use Rattle.rules.specs.declared.state.ReleaseCounts.{ReleaseCounts}
use Prim.{Unit}
use Rattle.std.specs.Prelude.{ℕ, ◌≡◌, Bool, true, false, ◌||◌, List, [], ◌∷◌, ◌++◌, map, ltb, length}
use Rattle.std.specs.Prelude.{Option, Some, None}
use Rattle.laws.specs.Lists.{list_any}
use Rattle.guids.specs.Guid.{Guid}
use Rattle.rules.specs.State.{State, fresh}
use Rattle.rules.specs.Release.{View, malformed}
use Rattle.rules.specs.Run.{Call, nothing_waits, waiting}
use Rattle.rules.specs.Run as D
use Rattle.turn.specs.declared.rows.Progress.{Progress}
use Rattle.turn.specs.declared.rows.Beat.{Beat}
use Rattle.turn.specs.Turn.{Turned, idle, not_done, released, since, turn_to}
use Rattle.source_model.specs.Source.{HeartbeatInfo, GroupOrder, new, is_empty, known_writers, held_for}
use Rattle.source_model.specs.Calls.{told_released, view_of, samples, step}
use Rattle.source_model.specs.Claim.{cut_counts, below, as_counts}
use Rattle.sameness.specs.Same.{written}
use Rattle.turn_model.specs.Source.{WriterGroupProgress, Runtime, Report, turn}

-- ---- the rows that the source asks for, in its order: each known writer, each reader

unfoldable pub range_of : HeartbeatInfo → Beat
range_of h = record { first = h.first_gsn; last = h.last_gsn; current = h.current_gsn; digest = h.writer_set; secure = h.secure_writer_set }

abbrev pub range_if : Option HeartbeatInfo → Option Beat
range_if None = None
range_if (Some h) = Some (range_of h)

unfoldable pub row_of : Guid → Guid → ℕ → WriterGroupProgress → Progress
row_of g w r p = record { group = g; writer = w; reader = r; heartbeat = range_if p.heartbeat; gap_end = p.gap_end_gsn }

unfoldable pub rows_at : Runtime → List ℕ → Guid → Guid → List Progress
rows_at rt readers g w = map (λ r. row_of g w r (rt w r)) readers

unfoldable pub rows_for : Runtime → List ℕ → List (Guid × Guid) → List Progress
rows_for rt readers [] = []
rows_for rt readers (x ∷ ws) = rows_at rt readers x.0 x.1 ++ rows_for rt readers ws

unfoldable pub rows_of : {I : Type 0} → Runtime → List ℕ → GroupOrder I → List Progress
rows_of rt readers o = rows_for rt readers (known_writers o)

-- ---- document 01's refusals around the source's turn: 9; nothing waits; 5

-- what it answers: nothing waits, a refusal, or what was released with the counts before and after
pub data Told : Type 0 where
  told_idle : Told
  told_refused : ℕ → Told
  told_report : Report ℕ → Told

abbrev pub reported : Option (Report ℕ) × GroupOrder ℕ → Told × GroupOrder ℕ
reported (None, o) = (told_idle, o)
reported (Some r, o) = (told_report r, o)

-- one turn: what the subscriber's runtime knows, its readers, the view, the time, the lent list
pub record Asked : Type 0 where
  pub runtime : Runtime
  pub readers : List ℕ
  pub view : View
  pub now : ℕ
  pub list : List ℕ

abbrev pub turn_by : Bool → Bool → Bool → ℕ → Asked → GroupOrder ℕ → Told × GroupOrder ℕ
turn_by true i t turns a o = (told_refused 9, o)
turn_by false true t turns a o = reported (turn turns a.runtime a.readers (view_of a.view) a.now o)
turn_by false false true turns a o = (told_refused 5, o)
turn_by false false false turns a o = reported (turn turns a.runtime a.readers (view_of a.view) a.now o)

unfoldable pub turn_or : ℕ → Asked → GroupOrder ℕ → Told × GroupOrder ℕ
turn_or turns a o =
    turn_by (malformed a.view || list_any (λ r. ltb 7 r.reader) (rows_of a.runtime a.readers o)) (is_empty o) (ltb (length a.list) (samples o)) turns a o

-- ---- the definition's answer

-- counts stop at 2^64 − 1 there; the report is their difference
unfoldable pub grown : Report ℕ → ReleaseCounts
grown r = since (cut_counts r.before) (cut_counts r.after)

abbrev pub turned_as : Told → Turned
turned_as told_idle = idle
turned_as (told_refused n) = not_done n
turned_as (told_report r) = released (length r.released) (grown r)

abbrev pub list_as : Told → List ℕ → List ℕ
list_as told_idle l = l
list_as (told_refused n) l = l
list_as (told_report r) l = written (told_released r.released) l

-- the definition's turn on the rows that the source asks for
unfoldable pub turn_of : Asked → GroupOrder ℕ → State ℕ → Turned × State ℕ × List ℕ
turn_of a o s = turn_to s (rows_of a.runtime a.readers o) a.view a.now a.list

-- what lists of calls and turns from a fresh history reach, on both sides
pub data Reaches (turns t : ℕ) : GroupOrder ℕ → State ℕ → Type 0 where
  begins : Reaches turns t (new t) (fresh t)
  calls : {o : GroupOrder ℕ} {s : State ℕ} → Reaches turns t o s → (c : Call ℕ) → Reaches turns t (step turns o c).1 (D.step s c).1
  takes : {o : GroupOrder ℕ} {s : State ℕ} → Reaches turns t o s → (a : Asked) → Reaches turns t (turn_or turns a o).1 (turn_of a o s).1

-- a report whose counts stay below 2^64 is the difference of the source's counts
abbrev pub Exact : Told → Type 0
Exact told_idle = Unit {0}
Exact (told_refused n) = Unit {0}
Exact (told_report r) = below r.after ≡ true → grown r ≡ since (as_counts r.before) (as_counts r.after)

-- the next turn, and the readings
pub record SameTurn (turns : ℕ) (o : GroupOrder ℕ) (s : State ℕ) (a : Asked) : Type 0 where
  pub answer_same : (turn_of a o s).0 ≡ turned_as (turn_or turns a o).0
  pub list_same : (turn_of a o s).2 ≡ list_as (turn_or turns a o).0 a.list
  pub report_exact : Exact (turn_or turns a o).0
  pub empty_is : nothing_waits s ≡ is_empty o
  pub waiting_is : (r : ℕ) → waiting s r ≡ held_for o r
