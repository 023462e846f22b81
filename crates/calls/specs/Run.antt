-- What a line does and prints, and a whole list (document 01, "One call list, whole").
use Prim.{Unit}
use Rattle.std.specs.Prelude.{ℕ, cond, List, [], ◌∷◌, ◌++◌, eqb}
use Rattle.std.specs.Prelude.{Option, None, Some}
use Rattle.laws.specs.Answer.{Answer, refused, answered}
use Rattle.decimal.specs.Print.{digits_of}
use Rattle.rules.specs.declared.entry.What.{What}
use Rattle.rules.specs.declared.entry.What.TheVariants.{Sample, End}
use Rattle.rules.specs.declared.entry.Entry.{Entry}
use Rattle.rules.specs.State.{State, fresh}
use Rattle.rules.specs.declared.state.ReleaseCounts.{ReleaseCounts}
use Rattle.rules.specs.Offer.{offer, heartbeat, gap}
use Rattle.rules.specs.declared.call.Fate.{Fate}
use Rattle.rules.specs.declared.call.Fate.TheVariants.{Stored, Joined, Late}
use Rattle.rules.specs.declared.view.Pair.{Pair}
use Rattle.rules.specs.declared.view.DigestRow.{DigestRow}
use Rattle.rules.specs.Release.{View, Outcome, release}
use Rattle.fields.specs.Fields.{lengthen}
use Rattle.call_line.specs.Line.{line_of}
use Rattle.call_line.specs.declared.line.Line.{Line}
use Rattle.call_line.specs.declared.line.Line.TheVariants as L

-- the history, and the rows for its next releases
pub record Calls : Type 0 where
  pub history : State ℕ
  pub counted : List Pair
  pub digests : List DigestRow

unfoldable pub afresh : ℕ → Calls
afresh t = record { history = fresh t; counted = []; digests = [] }

-- before any `T` the timeout is 1000000000
unfoldable pub begun : Calls
begun = afresh 1000000000

unfoldable pub rows_of : Calls → View
rows_of c = record { counted = c.counted; digests = c.digests }

unfoldable pub with_history : State ℕ → Calls → Calls
with_history s c = record { history = s; counted = c.counted; digests = c.digests }

-- ---- what is printed, in ASCII

-- `bad`
abbrev pub bad : List ℕ
bad = 98 ∷ 97 ∷ 100 ∷ []

-- `ok`
abbrev pub ok : List ℕ
ok = 111 ∷ 107 ∷ []

-- `stored`, `joined`, `late`
abbrev pub fate_text : Fate → List ℕ
fate_text Stored = 115 ∷ 116 ∷ 111 ∷ 114 ∷ 101 ∷ 100 ∷ []
fate_text Joined = 106 ∷ 111 ∷ 105 ∷ 110 ∷ 101 ∷ 100 ∷ []
fate_text Late = 108 ∷ 97 ∷ 116 ∷ 101 ∷ []

-- `refused` and its number
unfoldable pub refused_text : ℕ → List ℕ
refused_text n = 114 ∷ 101 ∷ 102 ∷ 117 ∷ 115 ∷ 101 ∷ 100 ∷ 32 ∷ digits_of n

-- a space, reader:item
abbrev pub item_w : What ℕ → ℕ
item_w (Sample i) = i
item_w (End u) = 0

unfoldable pub sample_text : Entry ℕ → List ℕ
sample_text e = 32 ∷ digits_of e.reader ++ (58 ∷ digits_of (item_w e.what))

unfoldable pub samples_text : List (Entry ℕ) → List ℕ
samples_text [] = []
samples_text (e ∷ l) = sample_text e ++ samples_text l

-- ` |` and skipped, incomplete, discarded, late
unfoldable pub counts_text : ReleaseCounts → List ℕ
counts_text c =
    32 ∷ 124 ∷ 32 ∷ digits_of c.skipped_after_timeout ++ (32 ∷ digits_of c.incomplete_sets) ++ (32 ∷ digits_of c.discarded_samples) ++ (32 ∷ digits_of c.late_samples)

-- `out`, the samples handed out, the counts since the fresh start
unfoldable pub out_text : List (Entry ℕ) → ReleaseCounts → List ℕ
out_text l c = 111 ∷ 117 ∷ 116 ∷ samples_text l ++ counts_text c

abbrev pub offer_text : Answer Fate → List ℕ
offer_text (refused n) = refused_text n
offer_text (answered f) = fate_text f

abbrev pub done_text : Answer (Unit {0}) → List ℕ
done_text (refused n) = refused_text n
done_text (answered u) = ok

abbrev pub release_text : Answer (Outcome ℕ) → ReleaseCounts → List ℕ
release_text (refused n) c = refused_text n
release_text (answered r) c = out_text r.out c

-- ---- a line, and a list of lines

-- a release lends 256 places
unfoldable pub run_call : Calls → Line → Calls × List ℕ
run_call c (L.Timeout t) = (afresh t, ok)
run_call c (L.Counted p) = (record { history = c.history; counted = c.counted ++ (p ∷ []); digests = c.digests }, ok)
run_call c (L.Digest d) = (record { history = c.history; counted = c.counted; digests = c.digests ++ (d ∷ []) }, ok)
run_call c (L.Offer o) = let r = offer c.history o in (with_history r.1 c, offer_text r.0)
run_call c (L.Heartbeat h) = let r = heartbeat c.history h in (with_history r.1 c, done_text r.0)
run_call c (L.Gap g) = let r = gap c.history g in (with_history r.1 c, done_text r.0)
run_call c (L.Release now) =
    let r = release c.history (rows_of c) now 256 in
    (with_history r.1 c, release_text r.0 r.1.counts)

abbrev pub run_if : Calls → Option Line → Calls × List ℕ
run_if c None = (c, bad)
run_if c (Some l) = run_call c l

unfoldable pub run_line : Calls → List ℕ → Calls × List ℕ
run_line c l = run_if c (line_of l)

-- the lines of a text: each ends at a newline, 10, or at the end of the text; nothing after the last newline is no line
unfoldable pub lines_of : List ℕ → List (List ℕ)
lines_of [] = []
lines_of (b ∷ s) = cond (eqb b 10) ([] ∷ lines_of s) (lengthen b (lines_of s))

-- each answer with its newline
unfoldable pub run_lines : Calls → List (List ℕ) → List ℕ
run_lines c [] = []
run_lines c (l ∷ ls) = (run_line c l).1 ++ (10 ∷ run_lines (run_line c l).0 ls)

unfoldable pub run_text : List ℕ → List ℕ
run_text s = run_lines begun (lines_of s)
