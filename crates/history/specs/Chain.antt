-- The third demand of the code: a chain of calls from a new history, each with what it was given and answered.
use Rattle.std.specs.Prelude.{ℕ, ◌≡◌, List, [], ◌∷◌, map, length, Result}
use Prim.{Unit}
use Rattle.laws.specs.Answer.{Answer, refused, answered}
use Rattle.refusals.specs.Refusal.{answer_as}
use Rattle.refusals.specs.declared.Refusal.{Refusal}
use Rattle.rules.specs.State.{State, fresh}
use Rattle.rules.specs.Offer as O
use Rattle.rules.specs.Run.{Call, offers, heartbeats, gaps, releases, Said, is_refused, is_offered, is_done, is_released, said_offer, said_done, run, answers, states_after, written, waiting}
use Rattle.rules.specs.Claim.{Demand3}
use Rattle.rules.specs.declared.call.Offer.{Offer}
use Rattle.rules.specs.declared.call.Fate.{Fate}
use Rattle.rules.specs.declared.call.Heartbeat.{Heartbeat}
use Rattle.rules.specs.declared.call.Gap.{Gap}
use Rattle.rules.specs.declared.view.Pair.{Pair}
use Rattle.rules.specs.declared.view.DigestRow.{DigestRow}
use Rattle.release.specs.Released.{release_to, view_of}

-- a call and its answer; a release with its rows, time and lent list, and the list as it left it
pub data Done : Type 0 where
  did_offer : Offer ℕ → Result Fate Refusal → Done
  did_heartbeat : Heartbeat → Result (Unit {0}) Refusal → Done
  did_gap : Gap → Result (Unit {0}) Refusal → Done
  did_release : List Pair → List DigestRow → ℕ → List ℕ → Result ℕ Refusal → List ℕ → Done

-- what the call's contract says of it and of the history before and after
unfoldable pub Meets : State ℕ → Done → State ℕ → Type 0
Meets s (did_offer o r) t = (answer_as r, t) ≡ O.offer s o
Meets s (did_heartbeat h r) t = (answer_as r, t) ≡ O.heartbeat s h
Meets s (did_gap g r) t = (answer_as r, t) ≡ O.gap s g
Meets s (did_release ps ds now o r p) t = (answer_as r, t, p) ≡ release_to s (view_of ps ds) now o

-- each call gets the history that the last one left
pub data Chain : State ℕ → List Done → State ℕ → Type 0 where
  ends : {s : State ℕ} → Chain s [] s
  goes : {s u t : State ℕ} {d : Done} {ds : List Done} → Meets s d u → Chain u ds t → Chain s (d ∷ ds) t

-- the history after each call
unfoldable pub histories_after : {s t : State ℕ} {ds : List Done} → Chain s ds t → List (State ℕ)
histories_after ends = []
histories_after (goes {u = u} x c) = u ∷ histories_after c

-- the call that was made
unfoldable pub call_of : Done → Call ℕ
call_of (did_offer o r) = offers o
call_of (did_heartbeat h r) = heartbeats h
call_of (did_gap g r) = gaps g
call_of (did_release ps ds now o r p) = releases now (view_of ps ds) o

-- a release's answer: the number of places written
abbrev pub counted : Said ℕ → Answer ℕ
counted (is_refused n) = refused n
counted (is_offered f) = answered 0
counted is_done = answered 0
counted (is_released out lost) = answered (length out)

-- the answer, and the lent list, are the definitions'
unfoldable pub Agrees : Said ℕ → Done → Type 0
Agrees a (did_offer o r) = said_offer (answer_as r) ≡ a
Agrees a (did_heartbeat h r) = said_done (answer_as r) ≡ a
Agrees a (did_gap g r) = said_done (answer_as r) ≡ a
Agrees a (did_release ps ds now o r p) = (answer_as r ≡ counted a) × (p ≡ written a o)

pub data AllAgree : List (Said ℕ) → List Done → Type 0 where
  none : AllAgree [] []
  more : {a : Said ℕ} {rest : List (Said ℕ)} {d : Done} {ds : List Done} → Agrees a d → AllAgree rest ds → AllAgree (a ∷ rest) (d ∷ ds)

-- all of the third demand, of a chain from a new history with timeout t to the history s
pub record CodeDemand3 (t : ℕ) (ds : List Done) (s : State ℕ) (c : Chain (fresh t) ds s) : Type 0 where
  -- the answers and lent lists are those that the definitions give from the calls' arguments alone
  pub answers_are : AllAgree (answers (fresh t) (map (λ d. call_of d) ds)) ds
  -- so are the history and each reader's waiting figure after every call
  pub states_are : histories_after c ≡ states_after (fresh t) (map (λ d. call_of d) ds)
  pub waiting_are : (r : ℕ) → map (λ s. waiting s r) (histories_after c) ≡ map (λ s. waiting s r) (states_after (fresh t) (map (λ d. call_of d) ds))
  -- and at the end, with no call too
  pub state_is : s ≡ run (fresh t) (map (λ d. call_of d) ds)
  pub waiting_is : (r : ℕ) → waiting s r ≡ waiting (run (fresh t) (map (λ d. call_of d) ds)) r
  -- names change nothing, one fate each, the sum, the discarded count, the bound, after every call
  pub demand : Demand3 t (map (λ d. call_of d) ds)
