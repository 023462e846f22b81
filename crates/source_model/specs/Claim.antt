-- What is claimed: on every list of calls the source, as Source.antt has it, and document 01's definitions give the same.
use Rattle.std.specs.Prelude.{ℕ, ◌-◌, ◌^◌, min, ◌≡◌, Bool, true, ◌&&◌, not, List, [], ◌∷◌, map, ltb}
use Rattle.laws.specs.Lists.{is_some}
use Rattle.guids.specs.Guid.{Guid}
use Rattle.rules.specs.State.{State, fresh}
use Rattle.rules.specs.declared.state.ReleaseCounts.{ReleaseCounts}
use Rattle.rules.specs.Run.{Call, offers, heartbeats, gaps, releases, waiting, nothing_waits}
use Rattle.rules.specs.Run as D
use Rattle.source_model.specs.Source.{Group, GroupView, GroupOrder, new, held_for, is_empty, Loop, turn, release_group}
use Rattle.source_model.specs.Calls.{view_of, told, step, run, answers}

-- counts stop at 2^64 − 1
unfoldable pub cut : ℕ → ℕ
cut n = min n (2 ^ 64 - 1)

unfoldable pub cut_counts : ReleaseCounts → ReleaseCounts
cut_counts c = record { skipped_after_timeout = cut c.skipped_after_timeout; incomplete_sets = cut c.incomplete_sets; discarded_samples = cut c.discarded_samples; late_samples = cut c.late_samples }

-- counts below 2^64
unfoldable pub below : ReleaseCounts → Bool
below c = ltb c.skipped_after_timeout (2 ^ 64) && ltb c.incomplete_sets (2 ^ 64) && ltb c.discarded_samples (2 ^ 64) && ltb c.late_samples (2 ^ 64)

unfoldable pub as_counts : ReleaseCounts → ReleaseCounts
as_counts c = record { skipped_after_timeout = c.skipped_after_timeout; incomplete_sets = c.incomplete_sets; discarded_samples = c.discarded_samples; late_samples = c.late_samples }

-- a test of a call and the state that it meets, asked of every call of the definitions' run
unfoldable pub along : {X : Type 0} → (State X → Call X → Bool) → State X → List (Call X) → Bool
along p s [] = true
along p s (c ∷ cs) = p s c && along p (D.step s c).1 cs

-- every group's loop of a release has returned within its turns: one turn more would return at once
unfoldable pub each_returns : {X : Type 0} → ℕ → GroupView → ℕ → ℕ → List (Guid × Group X) → List (ℕ × X) → ReleaseCounts → Bool
each_returns turns view now timeout [] out counts = true
each_returns {X = X} turns view now timeout (x ∷ gs) out counts =
    let l : Loop X = release_group x.0 view now timeout turns (record { group = x.1; out = out; counts = counts }) in
    not (is_some (turn x.0 view now timeout l)) && each_returns turns view now timeout gs l.out l.counts

unfoldable pub step_returns : {X : Type 0} → ℕ → GroupOrder X → Call X → Bool
step_returns turns o (offers x) = true
step_returns turns o (heartbeats h) = true
step_returns turns o (gaps x) = true
step_returns turns o (releases now v l) = each_returns turns (view_of v) now o.timeout o.groups [] o.counts

unfoldable pub run_returns : {X : Type 0} → ℕ → GroupOrder X → List (Call X) → Bool
run_returns turns o [] = true
run_returns turns o (c ∷ cs) = step_returns turns o c && run_returns turns (step turns o c).1 cs

-- For every list of calls from a fresh history, and so after each of its calls: the answers (refusals, offers' fates, and of each release the
-- readers and items handed out, in order), the counts (which stop at 2^64 − 1 in the definitions), is_empty, and every waiting figure.
pub record SameRun {X : Type 0} (turns t : ℕ) (cs : List (Call X)) : Type 0 where
  pub answers_same : answers turns (new t) cs ≡ map (λ a. told a) (D.answers (fresh t) cs)
  pub counts_same : (D.run (fresh t) cs).counts ≡ cut_counts (run turns (new t) cs).counts
  pub counts_exact : below (run turns (new t) cs).counts ≡ true → (D.run (fresh t) cs).counts ≡ as_counts (run turns (new t) cs).counts
  pub empty_is : nothing_waits (D.run (fresh t) cs) ≡ is_empty (run turns (new t) cs)
  pub waiting_is : (r : ℕ) → waiting (D.run (fresh t) cs) r ≡ held_for (run turns (new t) cs) r
  pub returns : run_returns turns (new t) cs ≡ true
