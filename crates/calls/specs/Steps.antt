-- The lines of a call list as calls of the history (`step` and `run` of group_order).
use Rattle.std.specs.Prelude.{ℕ, Bool, true, false, List, [], ◌∷◌, replicate}
use Rattle.std.specs.Prelude.{Option, None, Some}
use Rattle.rules.specs.declared.state.ReleaseCounts.{ReleaseCounts}
use Rattle.rules.specs.Run as R
use Rattle.call_line.specs.Line.{line_of}
use Rattle.call_line.specs.declared.line.Line.{Line}
use Rattle.call_line.specs.declared.line.Line.TheVariants as L
use Rattle.calls.specs.Run.{Calls, rows_of, with_history, fate_text, refused_text, ok, out_text, run_line}

-- what is printed of a call's answer; the counts are those after it
abbrev pub said_text : R.Said ℕ → ReleaseCounts → List ℕ
said_text (R.is_refused n) c = refused_text n
said_text (R.is_offered f) c = fate_text f
said_text R.is_done c = ok
said_text (R.is_released out lost) c = out_text out c

unfoldable pub stepped : Calls → R.Call ℕ → Calls × List ℕ
stepped c k = let r = R.step c.history k in (with_history r.1 c, said_text r.0 r.1.counts)

-- the call that a line makes; none of a bad line, `T`, `V` or `D`
abbrev pub call_of : Calls → Option Line → Option (R.Call ℕ)
call_of c None = None
call_of c (Some (L.Timeout t)) = None
call_of c (Some (L.Counted p)) = None
call_of c (Some (L.Digest d)) = None
call_of c (Some (L.Offer o)) = Some (R.offers o)
call_of c (Some (L.Heartbeat h)) = Some (R.heartbeats h)
call_of c (Some (L.Gap g)) = Some (R.gaps g)
call_of c (Some (L.Release now)) = Some (R.releases now (rows_of c) (replicate 256 0))

abbrev pub is_start : Option Line → Bool
is_start None = false
is_start (Some (L.Timeout t)) = true
is_start (Some (L.Counted p)) = false
is_start (Some (L.Digest d)) = false
is_start (Some (L.Offer o)) = false
is_start (Some (L.Heartbeat h)) = false
is_start (Some (L.Gap g)) = false
is_start (Some (L.Release now)) = false

abbrev pub in_front : Option (R.Call ℕ) → List (R.Call ℕ) → List (R.Call ℕ)
in_front None ks = ks
in_front (Some k) ks = k ∷ ks

-- what lines leave, and the calls that they make
unfoldable pub after : Calls → List (List ℕ) → Calls
after c [] = c
after c (l ∷ ls) = after (run_line c l).0 ls

unfoldable pub calls_of : Calls → List (List ℕ) → List (R.Call ℕ)
calls_of c [] = []
calls_of c (l ∷ ls) = in_front (call_of c (line_of l)) (calls_of (run_line c l).0 ls)
