-- Lines run as steps of the history's definitions: from its last `T`, or from its start, a list is a run of calls from a fresh history.
use Prim.{Unit}
use Prim.Native.Nat.{ℕ}
use mathlib.Core.Path.{◌≡◌, refl, ap, ◌∙◌}
use mathlib.Core.Bool.{false, true≢false}
use mathlib.Core.List.{List, [], ◌∷◌, ◌++◌}
use lib.ListN.{replicate, length-replicate}
use Rattle.std.specs.Prelude.{Option, None, Some}
use Rattle.laws.specs.Answer.{Answer, refused, answered}
use Rattle.rules.specs.State.{fresh}
use Rattle.rules.specs.declared.state.ReleaseCounts.{ReleaseCounts}
use Rattle.rules.specs.Offer as O
use Rattle.rules.specs.declared.call.Fate.{Fate}
use Rattle.rules.specs.declared.call.Offer.{Offer}
use Rattle.rules.specs.declared.call.Heartbeat.{Heartbeat}
use Rattle.rules.specs.declared.call.Gap.{Gap}
use Rattle.laws.specs.Lists.{list_any}
use Rattle.laws.proofs.Lists.{or_left, or_right}
use Rattle.rules.specs.Release.{Outcome, release}
use Rattle.rules.specs.Run as R
use Rattle.call_line.specs.Line.{line_of}
use Rattle.call_line.specs.declared.line.Line.{Line}
use Rattle.call_line.specs.declared.line.Line.TheVariants as L
use Rattle.calls.specs.Run.{Calls, afresh, begun, rows_of, with_history, offer_text, done_text, release_text, run_if, run_call, run_line}
use Rattle.calls.specs.Steps.{said_text, stepped, call_of, is_start, in_front, after, calls_of}

offer_said : (a : Answer Fate) (c : ReleaseCounts) → offer_text a ≡ said_text (R.said_offer a) c
offer_said (refused n) c = refl
offer_said (answered f) c = refl

done_said : (a : Answer (Unit {0})) (c : ReleaseCounts) → done_text a ≡ said_text (R.said_done a) c
done_said (refused n) c = refl
done_said (answered u) c = refl

release_said : (a : Answer (Outcome ℕ)) (c : ReleaseCounts) → release_text a c ≡ said_text (R.said_release a) c
release_said (refused n) c = refl
release_said (answered r) c = refl

-- ---- a line that is a call of the history is a step of its definitions

module _ (c : Calls) where
  pub offers_step : (o : Offer ℕ) → run_call c (L.Offer o) ≡ stepped c (R.offers o)
  unfolding run_call stepped R.step
  offers_step o = let r = O.offer c.history o in ap (λ (s : List ℕ). (with_history r.1 c, s)) (offer_said r.0 r.1.counts)

  pub heartbeats_step : (h : Heartbeat) → run_call c (L.Heartbeat h) ≡ stepped c (R.heartbeats h)
  unfolding run_call stepped R.step
  heartbeats_step h = let r = O.heartbeat c.history h in ap (λ (s : List ℕ). (with_history r.1 c, s)) (done_said r.0 r.1.counts)

  pub gaps_step : (g : Gap) → run_call c (L.Gap g) ≡ stepped c (R.gaps g)
  unfolding run_call stepped R.step
  gaps_step g = let r = O.gap c.history g in ap (λ (s : List ℕ). (with_history r.1 c, s)) (done_said r.0 r.1.counts)

  pub releases_step : (now : ℕ) → run_call c (L.Release now) ≡ stepped c (R.releases now (rows_of c) (replicate 256 0))
  unfolding run_call stepped R.step
  releases_step now =
      rw (length-replicate {A = ℕ} 256 0)
      (let r = release c.history (rows_of c) now 256 in ap (λ (s : List ℕ). (with_history r.1 c, s)) (release_said r.0 r.1.counts))

-- ---- lines from a fresh start on

line_run : (c : Calls) (l : Option Line) (ks : List (R.Call ℕ)) → is_start l ≡ false → R.run (run_if c l).0.history ks ≡ R.run c.history (in_front (call_of c l) ks)
unfolding R.run run_call stepped with_history
line_run c None ks h = refl
line_run c (Some (L.Timeout t)) ks h = absurd (true≢false h)
line_run c (Some (L.Counted p)) ks h = refl
line_run c (Some (L.Digest d)) ks h = refl
line_run c (Some (L.Offer o)) ks h = ap (λ (y : Calls × List ℕ). R.run y.0.history ks) (offers_step c o)
line_run c (Some (L.Heartbeat b)) ks h = ap (λ (y : Calls × List ℕ). R.run y.0.history ks) (heartbeats_step c b)
line_run c (Some (L.Gap g)) ks h = ap (λ (y : Calls × List ℕ). R.run y.0.history ks) (gaps_step c g)
line_run c (Some (L.Release now)) ks h = ap (λ (y : Calls × List ℕ). R.run y.0.history ks) (releases_step c now)

-- up to the next `T` the history is the run of the calls that the lines make
pub lines_run : (c : Calls) (ls : List (List ℕ)) → list_any (λ l. is_start (line_of l)) ls ≡ false → (after c ls).history ≡ R.run c.history (calls_of c ls)
unfolding after calls_of R.run run_line
lines_run c [] h = refl
lines_run c (l ∷ ls) h =
    lines_run (run_line c l).0 ls (or_right (is_start (line_of l)) _ h)
    ∙ line_run c (line_of l) (calls_of (run_line c l).0 ls) (or_left _ _ h)

-- from a `T` on, whatever was before, and from the start of a list
pub list_run : (c : Calls) (l : List ℕ) (ls : List (List ℕ)) (t : ℕ) → line_of l ≡ Some (L.Timeout t) → list_any (λ m. is_start (line_of m)) ls ≡ false
    → (after c (l ∷ ls)).history ≡ R.run (fresh t) (calls_of (afresh t) ls)
unfolding after run_line run_call afresh
list_run c l ls t e h = ap (λ (k : Option Line). (after (run_if c k).0 ls).history) e ∙ lines_run (afresh t) ls h

pub begun_run : (ls : List (List ℕ)) → list_any (λ m. is_start (line_of m)) ls ≡ false → (after begun ls).history ≡ R.run (fresh 1000000000) (calls_of begun ls)
unfolding begun afresh
begun_run ls h = lines_run begun ls h

-- a list in two parts, as before its last `T` and from there on
pub after_append : (c : Calls) (ks ls : List (List ℕ)) → after c (ks ++ ls) ≡ after (after c ks) ls
unfolding after
after_append c [] ls = refl
after_append c (k ∷ ks) ls = after_append (run_line c k).0 ks ls
