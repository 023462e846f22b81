-- Demand 2 of the history's code: a chain of its calls beside the model of group_order.rs (crates/source_model).
use Rattle.std.specs.Prelude.{ℕ, ◌+◌, ◌*◌, ◌^◌, ◌≡◌, true, List, [], ◌∷◌, ◌++◌, map, length, drop}
use Rattle.laws.specs.Answer.{Answer, refused, answered}
use Rattle.rules.specs.Run.{said_offer, said_done, nothing_waits, waiting}
use Rattle.refusals.specs.Refusal.{answer_as}
use Rattle.rules.specs.State.{State}
use Rattle.history.specs.Chain.{Done, did_offer, did_heartbeat, did_gap, did_release, call_of}
use Rattle.source_model.specs.Source.{new, held_for, is_empty}
use Rattle.source_model.specs.Calls.{Told, told_refused, told_offered, told_done, told_released, told, run, answers}
use Rattle.source_model.specs.Claim.{cut_counts, below, as_counts}

-- what stands in the lent list for a reader and an item
unfoldable pub place_of : ℕ × ℕ → ℕ
place_of x = x.0 * 2 ^ 32 + x.1

-- a release's answer: the number of places written
abbrev pub counted : Told ℕ → Answer ℕ
counted (told_refused n) = refused n
counted (told_offered f) = answered 0
counted told_done = answered 0
counted (told_released out) = answered (length out)

-- the lent list: the samples handed out, in order; all other places stay
abbrev pub written : Told ℕ → List ℕ → List ℕ
written (told_refused n) l = l
written (told_offered f) l = l
written told_done l = l
written (told_released out) l = map (λ x. place_of x) out ++ drop (length out) l

-- a call's answer, and its lent list, are the model's
unfoldable pub Answers : Told ℕ → Done → Type 0
Answers a (did_offer o r) = told (said_offer (answer_as r)) ≡ a
Answers a (did_heartbeat h r) = told (said_done (answer_as r)) ≡ a
Answers a (did_gap g r) = told (said_done (answer_as r)) ≡ a
Answers a (did_release ps ds now o r p) = (answer_as r ≡ counted a) × (p ≡ written a o)

pub data AllAnswer : List (Told ℕ) → List Done → Type 0 where
  none : AllAnswer [] []
  more : {a : Told ℕ} {rest : List (Told ℕ)} {d : Done} {ds : List Done} → Answers a d → AllAnswer rest ds → AllAnswer (a ∷ rest) (d ∷ ds)

-- of a chain from timeout t that left the history s: answers and lent lists, counts (which stop at 2^64 − 1 here), is_empty, waiting figures
pub record CodeSameRun (turns t : ℕ) (ds : List Done) (s : State ℕ) : Type 0 where
  pub answers_are : AllAnswer (answers turns (new t) (map (λ d. call_of d) ds)) ds
  pub counts_are : s.counts ≡ cut_counts (run turns (new t) (map (λ d. call_of d) ds)).counts
  pub counts_exact : below (run turns (new t) (map (λ d. call_of d) ds)).counts ≡ true → s.counts ≡ as_counts (run turns (new t) (map (λ d. call_of d) ds)).counts
  pub empty_is : nothing_waits s ≡ is_empty (run turns (new t) (map (λ d. call_of d) ds))
  pub waiting_is : (r : ℕ) → waiting s r ≡ held_for (run turns (new t) (map (λ d. call_of d) ds)) r
