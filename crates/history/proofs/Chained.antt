-- Every chain of calls from a new history has all of the third demand: each contract is a step of the definitions.
use Prim.Native.Nat.{ℕ}
use mathlib.Core.Path.{◌≡◌, refl, ap, subst, ◌∙◌}
use mathlib.Core.List.{List, ◌∷◌, map}
use lib.ListN.{length}
use Rattle.laws.specs.Answer.{Answer, refused, answered}
use Rattle.rules.specs.State.{State, fresh}
use Rattle.rules.specs.Release.{Outcome, release}
use Rattle.rules.specs.Run.{said_offer, said_done, said_release, step, run, answers, states_after, waiting}
use Rattle.rules.proofs.Demand3.{demand3}
use Rattle.release.specs.Released.{view_of, count_out, release_to}
use Rattle.history.specs.Chain.{Done, did_offer, did_heartbeat, did_gap, did_release, Meets, Chain, ends, goes, histories_after, call_of, counted, Agrees, AllAgree, none, more, CodeDemand3}

-- a release's count is that of what it handed out
count_said : (a : Answer (Outcome ℕ)) → count_out a ≡ counted (said_release a)
count_said (refused n) = refl
count_said (answered r) = refl

-- one call
agrees : (s : State ℕ) (d : Done) (t : State ℕ) → Meets s d t → Agrees (step s (call_of d)).0 d
unfolding Meets Agrees call_of step release_to
agrees s (did_offer o r) t x = ap (λ y. said_offer y.0) x
agrees s (did_heartbeat h r) t x = ap (λ y. said_done y.0) x
agrees s (did_gap g r) t x = ap (λ y. said_done y.0) x
agrees s (did_release ps ds now o r p) t x = (ap (λ y. y.0) x ∙ count_said (release s (view_of ps ds) now (length o)).0, ap (λ y. y.2) x)

steps : (s : State ℕ) (d : Done) (t : State ℕ) → Meets s d t → t ≡ (step s (call_of d)).1
unfolding Meets call_of step release_to
steps s (did_offer o r) t x = ap (λ y. y.1) x
steps s (did_heartbeat h r) t x = ap (λ y. y.1) x
steps s (did_gap g r) t x = ap (λ y. y.1) x
steps s (did_release ps ds now o r p) t x = ap (λ y. y.1) x

-- the whole chain
chain_answers : {s t : State ℕ} {ds : List Done} → Chain s ds t → AllAgree (answers s (map (λ d. call_of d) ds)) ds
unfolding answers
chain_answers ends = none
chain_answers {s = s} (goes {u = u} {d = d} {ds = ds} x c) =
    more (agrees s d u x) (subst (λ a. AllAgree (answers a (map (λ d. call_of d) ds)) ds) (steps s d u x) (chain_answers c))

chain_state : {s t : State ℕ} {ds : List Done} → Chain s ds t → t ≡ run s (map (λ d. call_of d) ds)
unfolding run
chain_state ends = refl
chain_state {s = s} (goes {u = u} {d = d} {ds = ds} x c) = chain_state c ∙ ap (λ a. run a (map (λ d. call_of d) ds)) (steps s d u x)

chain_states : {s t : State ℕ} {ds : List Done} → (c : Chain s ds t) → histories_after c ≡ states_after s (map (λ d. call_of d) ds)
unfolding histories_after states_after
chain_states ends = refl
chain_states {s = s} (goes {u = u} {d = d} {ds = ds} x c) =
    ap (λ l. u ∷ l) (chain_states c) ∙ ap (λ a. a ∷ states_after a (map (λ d. call_of d) ds)) (steps s d u x)

pub code_demand3 : (t : ℕ) (s : State ℕ) (ds : List Done) → (c : Chain (fresh t) ds s) → CodeDemand3 t ds s c
code_demand3 t s ds c = record {
  answers_are = chain_answers c;
  states_are = chain_states c;
  waiting_are = λ r. ap (λ l. map (λ s. waiting s r) l) (chain_states c);
  state_is = chain_state c;
  waiting_is = λ r. ap (λ a. waiting a r) (chain_state c);
  demand = demand3 t (map (λ x. call_of x) ds);
}
