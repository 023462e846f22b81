-- Naming samples changes nothing, part four: every call, a whole run, and demand 3's fields for a run from a fresh start.
use Prim.Native.Nat.{ℕ, suc}
use mathlib.Core.Path.{◌≡◌, refl, sym, ap, ◌∙◌}
use mathlib.Core.List.{List, [], ◌∷◌, map}
use Prim.{Unit}
use Rattle.laws.specs.Answer.{Answer, refused, answered}
use Rattle.rules.specs.Entry.{What, Sample, End}
use Rattle.rules.specs.State.{State, fresh}
use Rattle.rules.specs.Offer.{Fate}
use Rattle.rules.specs.Release.{Outcome}
use Rattle.rules.specs.Run.{Call, offers, heartbeats, gaps, releases, said_offer, said_done, said_release, step, run, answers, waiting}
use Rattle.rules.specs.Names.{map_what, map_state, map_offer, map_call, map_said, named, unname}
use Rattle.rules.specs.Claim.{Story, follow, story, begun, final}
use Rattle.laws.proofs.Lists.{count_map}
use Rattle.rules.proofs.Names.{is_sample_map, reader_map}
use Rattle.rules.proofs.NamesOffer.{offer_map, heartbeat_map, gap_map}
use Rattle.rules.proofs.NamesRelease.{map_answer, release_map}

module _ {X Y : Type 0} (f : X → Y) where
  said_offer_map : (a : Answer Fate) → map_said f (said_offer a) ≡ said_offer a
  unfolding map_said
  said_offer_map (refused n) = refl
  said_offer_map (answered a) = refl

  said_done_map : (a : Answer (Unit {0})) → map_said f (said_done a) ≡ said_done a
  unfolding map_said
  said_done_map (refused n) = refl
  said_done_map (answered a) = refl

  said_release_map : (a : Answer (Outcome X)) → said_release (map_answer f a) ≡ map_said f (said_release a)
  unfolding map_said
  said_release_map (refused n) = refl
  said_release_map (answered a) = refl

  -- a call's answer and state
  pub step_map : (s : State X) (c : Call X) → step (map_state f s) (map_call f c) ≡ (map_said f (step s c).0, map_state f (step s c).1)
  unfolding step map_call
  step_map s (offers o) = simp (offer_map f, said_offer_map)
  step_map s (heartbeats h) = simp (heartbeat_map f, said_done_map)
  step_map s (gaps g) = simp (gap_map f, said_done_map)
  step_map s (releases now v l) = simp (release_map f, said_release_map)

  pub step_said : (s : State X) (c : Call X) → (step (map_state f s) (map_call f c)).0 ≡ map_said f (step s c).0
  step_said s c = ap (λ r. r.0) (step_map s c)

  pub step_state : (s : State X) (c : Call X) → (step (map_state f s) (map_call f c)).1 ≡ map_state f (step s c).1
  step_state s c = ap (λ r. r.1) (step_map s c)

  -- a list of calls
  pub run_map : (s : State X) (cs : List (Call X)) → run (map_state f s) (map (λ c. map_call f c) cs) ≡ map_state f (run s cs)
  unfolding run
  run_map s [] = refl
  run_map s (c ∷ cs) = ap (λ x. run x (map (λ c. map_call f c) cs)) (step_state s c) ∙ run_map (step s c).1 cs

  pub answers_map : (s : State X) (cs : List (Call X)) → answers (map_state f s) (map (λ c. map_call f c) cs) ≡ map (λ a. map_said f a) (answers s cs)
  unfolding answers
  answers_map s [] = refl
  answers_map s (c ∷ cs) = rw (step_said s c, step_state s c, answers_map (step s c).1 cs)

  pub waiting_map : (s : State X) (r : ℕ) → waiting (map_state f s) r ≡ waiting s r
  unfolding waiting map_state
  waiting_map s r = simp (count_map, is_sample_map f, reader_map f)

-- ---- names

what_unname : (k : ℕ) (w : What ℕ) → map_what unname (map_what (λ i. (k, i)) w) ≡ w
what_unname k (Sample i) = refl
what_unname k (End u) = refl

pub call_unname : (k : ℕ) (c : Call ℕ) → map_call unname (map_call (λ i. (k, i)) c) ≡ c
unfolding map_call map_offer
call_unname k (offers o) = simp what_unname
call_unname k (heartbeats h) = refl
call_unname k (gaps g) = refl
call_unname k (releases t v l) = refl

-- the names forgotten, the calls are the ones named
pub named_unname : (k : ℕ) (cs : List (Call ℕ)) → map (λ c. map_call unname c) (named k cs) ≡ cs
unfolding named
named_unname k [] = refl
named_unname k (c ∷ cs) = rw (call_unname k c, named_unname (suc k) cs)

pub story_state : {X : Type 0} (y : Story X) (cs : List (Call X)) → (story y cs).state ≡ run y.state cs
unfolding story run follow
story_state y [] = refl
story_state y (c ∷ cs) = story_state (follow y c) cs

-- from any start and any place, the names forgotten afterwards
pub answers_named : (k : ℕ) (s : State (ℕ × ℕ)) (cs : List (Call ℕ)) → map (λ a. map_said unname a) (answers s (named k cs)) ≡ answers (map_state unname s) cs
answers_named k s cs = sym (answers_map unname s (named k cs)) ∙ rw named_unname

pub run_named : (k : ℕ) (s : State (ℕ × ℕ)) (cs : List (Call ℕ)) → map_state unname (run s (named k cs)) ≡ run (map_state unname s) cs
run_named k s cs = sym (run_map unname s (named k cs)) ∙ rw named_unname

-- ---- demand 3

pub answers_same : (t : ℕ) (cs : List (Call ℕ)) → map (λ a. map_said unname a) (answers (fresh t) (named 0 cs)) ≡ answers (fresh t) cs
unfolding map_state fresh
answers_same t cs = answers_named 0 (fresh t) cs

pub state_same : (t : ℕ) (cs : List (Call ℕ)) → map_state unname (final t cs).state ≡ run (fresh t) cs
unfolding final begun map_state fresh
state_same t cs = ap (λ s. map_state unname s) (story_state (begun t) (named 0 cs)) ∙ run_named 0 (fresh t) cs

pub waiting_same : (t : ℕ) (cs : List (Call ℕ)) (r : ℕ) → waiting (final t cs).state r ≡ waiting (run (fresh t) cs) r
waiting_same t cs r = sym (waiting_map unname (final t cs).state r) ∙ ap (λ s. waiting s r) (state_same t cs)
