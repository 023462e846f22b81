-- Readings, and a list of calls run from a fresh history.
use Prim.{Unit}
use Rattle.std.specs.Prelude.{ℕ, ◌+◌, ◌*◌, ◌^◌, Bool, ◌&&◌, not, cond, List, [], ◌∷◌, ◌++◌, map, ltb, eqb, length, drop}
use Rattle.laws.specs.Answer.{Answer, refused, answered}
use Rattle.laws.specs.Lists.{count, list_any}
use Rattle.rules.specs.Entry.{What, Sample, End, Entry, is_sample}
use Rattle.rules.specs.State.{State}
use Rattle.rules.specs.Offer.{Offer, Fate, Heartbeat, Gap, offer, heartbeat, gap}
use Rattle.rules.specs.Release.{View, Outcome, release}

-- a call of the history; a release brings its time, its rows and the contents of its lent list
pub data Call (X : Type 0) : Type 0 where
  offers : Offer X → Call X
  heartbeats : Heartbeat → Call X
  gaps : Gap → Call X
  releases : ℕ → View → List ℕ → Call X

-- what it answers; a release with the entries that it handed out, in order, and those that it discarded
pub data Said (X : Type 0) : Type 0 where
  is_refused : ℕ → Said X
  is_offered : Fate → Said X
  is_done : Said X
  is_released : List (Entry X) → List (Entry X) → Said X

module _ {X : Type 0} where
  abbrev pub said_offer : Answer Fate → Said X
  said_offer (refused n) = is_refused n
  said_offer (answered f) = is_offered f

  abbrev pub said_done : Answer (Unit {0}) → Said X
  said_done (refused n) = is_refused n
  said_done (answered u) = is_done

  abbrev pub said_release : Answer (Outcome X) → Said X
  said_release (refused n) = is_refused n
  said_release (answered r) = is_released r.out r.lost

  unfoldable pub step : State X → Call X → Said X × State X
  step s (offers o) = (said_offer (offer s o).0, (offer s o).1)
  step s (heartbeats h) = (said_done (heartbeat s h).0, (heartbeat s h).1)
  step s (gaps g) = (said_done (gap s g).0, (gap s g).1)
  step s (releases now v l) = (said_release (release s v now (length l)).0, (release s v now (length l)).1)

  -- the state that a list of calls leaves, and its answers (document 01, The third demand)
  unfoldable pub run : State X → List (Call X) → State X
  run s [] = s
  run s (c ∷ cs) = run (step s c).1 cs

  unfoldable pub answers : State X → List (Call X) → List (Said X)
  answers s [] = []
  answers s (c ∷ cs) = (step s c).0 ∷ answers (step s c).1 cs

  -- the state after each call
  unfoldable pub states_after : State X → List (Call X) → List (State X)
  states_after s [] = []
  states_after s (c ∷ cs) = (step s c).1 ∷ states_after (step s c).1 cs

  -- the samples of a reader that are pending or held; 0 of a reader above 7 (document 01, Operations)
  unfoldable pub waiting : State X → ℕ → ℕ
  waiting s r =
      cond (ltb 7 r) 0
      (count (λ e. is_sample e && eqb r e.reader) s.pending + count (λ e. is_sample e && eqb r e.reader) s.held)

  -- no entry is pending and no member held (document 01, Subscriber turn)
  unfoldable pub nothing_waits : State X → Bool
  nothing_waits s = eqb (length s.pending) 0 && not (list_any (λ e. is_sample e) s.held)

-- what stands in the lent list for a handed-out sample: reader · 2^32 + item
abbrev pub place_w : ℕ → What ℕ → ℕ
place_w r (Sample i) = r * 2 ^ 32 + i
place_w r (End u) = 0

unfoldable pub place_of : Entry ℕ → ℕ
place_of e = place_w e.reader e.what

-- a lent list after a call that answered so: the places up to the count are written, all others stay (document 01, Operations)
abbrev pub written : Said ℕ → List ℕ → List ℕ
written (is_released out lost) l = map (λ e. place_of e) out ++ drop (length out) l
written (is_refused n) l = l
written (is_offered f) l = l
written is_done l = l
