-- The subscriber turn (document 01, "Operations" and "Forms").
use Prim.{Unit}
use Rattle.std.specs.Prelude.{ℕ, ◌-◌, ◌≡◌, Bool, true, false, ◌||◌, cond, List, [], ◌∷◌, ◌++◌, ℤ, pos, ltb, length, Option, None, Some, Result, Ok, Err}
use Rattle.std.specs.Int.Signed.{lt_z}
use Rattle.laws.specs.Answer.{Answer, refused, answered}
use Rattle.laws.specs.Lists.{list_any}
use Rattle.guids.specs.Guid.{Guid}
use Rattle.refusals.specs.Refusal.{number_of}
use Rattle.refusals.specs.declared.Refusal.{Refusal}
use Rattle.rules.specs.State.{State, knows_writer}
use Rattle.rules.specs.declared.state.ReleaseCounts.{ReleaseCounts}
use Rattle.rules.specs.Release.{View, malformed, samples}
use Rattle.rules.specs.Run.{Call, heartbeats, gaps, releases, step, run, written, nothing_waits}
use Rattle.release.specs.Released.{release_to}
use Rattle.history.specs.Chain.{counted}
use Rattle.turn.specs.declared.rows.Beat.{Beat}
use Rattle.turn.specs.declared.rows.Progress.{Progress}
use Rattle.turn.specs.declared.rows.Report.{Report}

-- ---- rows of a turn

module _ {X : Type 0} where
  unfoldable pub beat_call : Guid → Guid → Beat → Call X
  beat_call g w b = heartbeats (record {
    group = g;
    writer = w;
    first = b.first;
    last = b.last;
    current = b.current;
    digest = b.digest;
    secure = b.secure;
  })

  unfoldable pub beat_calls : Guid → Guid → Option Beat → List (Call X)
  beat_calls g w None = []
  beat_calls g w (Some b) = beat_call g w b ∷ []

  unfoldable pub gap_calls : Guid → Guid → ℕ → ℤ → List (Call X)
  gap_calls g w r e = cond (lt_z (pos 0) e) (gaps (record { group = g; writer = w; reader = r; number = e }) ∷ []) []

  -- the calls of a row: none of an unknown writer; else its heartbeat, if any, and its gap, if the end is above 0
  unfoldable pub row_calls : State X → Progress → List (Call X)
  row_calls s r =
      cond (knows_writer r.group r.writer s.writers)
      (beat_calls r.group r.writer r.heartbeat ++ gap_calls r.group r.writer r.reader r.gap_end) []

  -- the rows in order, each on the state that the last left
  unfoldable pub applied : State X → List Progress → State X
  applied s [] = s
  applied s (r ∷ rs) = applied (run s (row_calls s r)) rs

  -- the calls of all rows, taken from the first state alone
  unfoldable pub rows_calls : State X → List Progress → List (Call X)
  rows_calls s [] = []
  rows_calls s (r ∷ rs) = row_calls s r ++ rows_calls s rs

-- ---- the turn

-- what it answers; where it releases, the number of places written and by how much each count grew
pub data Turned : Type 0 where
  idle : Turned
  not_done : ℕ → Turned
  released : ℕ → ReleaseCounts → Turned

-- the difference of counts
unfoldable pub since : ReleaseCounts → ReleaseCounts → ReleaseCounts
since b a = record {
  skipped_after_timeout = a.skipped_after_timeout - b.skipped_after_timeout;
  incomplete_sets = a.incomplete_sets - b.incomplete_sets;
  discarded_samples = a.discarded_samples - b.discarded_samples;
  late_samples = a.late_samples - b.late_samples;
}

abbrev pub report_of : Answer ℕ → ReleaseCounts → Turned
report_of (refused n) c = not_done n
report_of (answered n) c = released n c

-- a release, with the counts that were there before
unfoldable pub reported : ReleaseCounts → Answer ℕ × State ℕ × List ℕ → Turned × State ℕ × List ℕ
reported b r = (report_of r.0 (since b r.1.counts), r.1, r.2)

-- what it answers where it does not go on, the first that holds: 9; nothing waits; 5
abbrev pub judged : Bool → Bool → Bool → Option Turned
judged true i t = Some (not_done 9)
judged false true t = Some idle
judged false false true = Some (not_done 5)
judged false false false = None

-- the rows and a release where it goes on; else nothing changes
abbrev pub turn_by : Option Turned → State ℕ → List Progress → View → ℕ → List ℕ → Turned × State ℕ × List ℕ
turn_by (Some a) s rows v now l = (a, s, l)
turn_by None s rows v now l = reported s.counts (release_to (applied s rows) v now l)

-- 9: a malformed view, or a row with a reader above 7; 5: the list is shorter than the stored samples
unfoldable pub turn_to : State ℕ → List Progress → View → ℕ → List ℕ → Turned × State ℕ × List ℕ
turn_to s rows v now l =
    turn_by (judged (malformed v || list_any (λ r. ltb 7 r.reader) rows) (nothing_waits s) (ltb (length l) (samples s))) s rows v now l

-- nothing released: the state stays
unfoldable pub TurnKept : Turned → State ℕ → State ℕ → Type 0
TurnKept idle s t = t ≡ s
TurnKept (not_done n) s t = t ≡ s
TurnKept (released n c) s t = Unit {0}

-- a turn that released n places and let the counts grow by c: its rows' calls and a release, all taken from its arguments and the first state
pub record AsCalls (s : State ℕ) (rows : List Progress) (v : View) (now : ℕ) (l : List ℕ) (n : ℕ) (c : ReleaseCounts) : Type 0 where
  pub state : (turn_to s rows v now l).1 ≡ run s (rows_calls s rows ++ (releases now v l ∷ []))
  pub list : (turn_to s rows v now l).2 ≡ written (step (run s (rows_calls s rows)) (releases now v l)).0 l
  pub places : counted (step (run s (rows_calls s rows)) (releases now v l)).0 ≡ answered n
  pub grown : c ≡ since s.counts (run s (rows_calls s rows ++ (releases now v l ∷ []))).counts

-- ---- what the code's answer stands for: document 01's number and value of each case

abbrev pub turn_as : Result (Option Report) Refusal → Turned
turn_as (Ok None) = idle
turn_as (Ok (Some r)) = released r.count r.grown
turn_as (Err e) = not_done (number_of e)
