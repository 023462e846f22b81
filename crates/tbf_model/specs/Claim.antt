-- What is claimed: on every list of calls the filter hold of the source, as Source.antt has it, and document 01's definitions give the same.
use Prim.{Unit}
use Rattle.std.specs.Prelude.{ℕ, ◌+◌, ◌*◌, ◌/◌, ◌≡◌, ◌&&◌, not, cond, List, [], ◌∷◌, ◌++◌, map, ltb, leb, eqb, length, drop}
use Rattle.laws.specs.Answer.{Answer, refused, answered}
use Rattle.laws.specs.Lists.{is_some}
use Rattle.filter_hold.specs.Tbf as D
use Rattle.filter_hold.specs.declared.tbf.Time.{Time}
use Rattle.filter_hold.specs.declared.tbf.Separation.{Separation}
use Rattle.filter_hold.specs.declared.tbf.Held.{Held}
use Rattle.source_model.specs.Map.{readers, get}
use Rattle.tbf_model.specs.Source.{Hold, new, hold, supersede, take_due, is_empty, clear}

-- a call; take due with its lent list
pub data Call : Type 0 where
  holds : ℕ → ℕ → Time → Separation → Call
  supersedes : ℕ → Call
  takes : Time → List ℕ → Call
  clears : Call

-- what it answers: the number of samples written, and the lent list then
abbrev pub Told : Type 0
Told = Answer ℕ × List ℕ

-- a separation in nanoseconds
unfoldable pub nanos_of : Separation → ℕ
nanos_of s = s.sec * 1000000000 + s.nanosec

-- a sample's two words
unfoldable pub words : List (ℕ × ℕ) → List ℕ
words [] = []
words (x ∷ l) = x.0 ∷ x.1 ∷ words l

-- ---- document 01's refusals around the source's functions: 10, 8; 5

unfoldable pub hold_or : Hold → ℕ → ℕ → Time → Separation → Told × Hold
hold_or held k i arrival s =
    cond (leb 1000000000 s.nanosec) ((refused 10, []), held)
    (cond (not (is_some (get readers k held)) && leb 32 (length held)) ((refused 8, []), held)
    ((answered 0, []), hold held k i arrival (nanos_of s)))

unfoldable pub take_or : Hold → Time → List ℕ → Told × Hold
take_or held now out =
    let r : List (ℕ × ℕ) × Hold = take_due held now in
    cond (ltb (length out / 2) (length r.0)) ((refused 5, out), held)
    ((answered (length r.0), words r.0 ++ drop (length r.0 * 2) out), r.1)

unfoldable pub step : Hold → Call → Told × Hold
step held (holds k i arrival s) = hold_or held k i arrival s
step held (supersedes k) = ((answered 0, []), supersede held k)
step held (takes now out) = take_or held now out
step held clears = ((answered 0, []), clear held)

unfoldable pub run : Hold → List Call → Hold
run held [] = held
run held (c ∷ cs) = run (step held c).1 cs

unfoldable pub answers : Hold → List Call → List Told
answers held [] = []
answers held (c ∷ cs) = (step held c).0 ∷ answers (step held c).1 cs

-- ---- the same by the definitions

abbrev pub told_hold : Answer (Unit {0}) → Told
told_hold (refused n) = (refused n, [])
told_hold (answered u) = (answered 0, [])

unfoldable pub step_by : List Held → Call → Told × List Held
step_by l (holds k i arrival s) = (told_hold (D.hold k i arrival s l).0, (D.hold k i arrival s l).1)
step_by l (supersedes k) = ((answered 0, []), D.supersede k l)
step_by l (takes now out) = (((D.take_due now l out).0, (D.take_due now l out).2), (D.take_due now l out).1)
step_by l clears = ((answered 0, []), D.nothing)

unfoldable pub run_by : List Held → List Call → List Held
run_by l [] = l
run_by l (c ∷ cs) = run_by (step_by l c).1 cs

unfoldable pub answers_by : List Held → List Call → List Told
answers_by l [] = []
answers_by l (c ∷ cs) = (step_by l c).0 ∷ answers_by (step_by l c).1 cs

-- what the map holds, as the definitions have it
unfoldable pub held_as : ℕ × (ℕ × Time) → Held
held_as x = record { instance = x.0; item = x.1.0; due = x.1.1 }

-- and back
unfoldable pub map_of : List Held → Hold
map_of l = map (λ x. (x.instance, (x.item, x.due))) l

-- from nothing held
pub record SameRun (cs : List Call) : Type 0 where
  pub answers_same : answers new cs ≡ answers_by D.nothing cs
  pub hold_same : map (λ x. held_as x) (run new cs) ≡ run_by D.nothing cs
  pub empty_is : is_empty (run new cs) ≡ eqb (length (run_by D.nothing cs)) 0
