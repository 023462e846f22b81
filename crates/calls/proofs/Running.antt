-- Laws of a line run.
use Prim.{Unit, tt}
use Prim.Native.Nat.{ℕ, ◌≤◌}
use mathlib.Core.Path.{◌≡◌, refl, sym, ap, ◌∙◌, subst}
use mathlib.Core.Logic.{inl}
use mathlib.Core.List.{List, [], ◌++◌}
use Rattle.std.specs.Prelude.{Option, None, Some}
use native.Mathlib.Omega.{arith}
use lib.ListN.{length, take}
use Rattle.laws.specs.Answer.{Answer, refused, answered, Kept}
use Rattle.decimal.proofs.Lengths.{printed_long}
use Rattle.rules.specs.State.{State, fresh}
use Rattle.rules.specs.declared.call.Offer.{Offer}
use Rattle.rules.specs.declared.call.Heartbeat.{Heartbeat}
use Rattle.rules.specs.declared.call.Gap.{Gap}
use Rattle.rules.specs.declared.call.Fate.{Fate}
use Rattle.rules.specs.declared.call.Fate.TheVariants.{Stored, Joined, Late}
use Rattle.rules.specs.declared.view.Pair.{Pair}
use Rattle.rules.specs.declared.view.DigestRow.{DigestRow}
use Rattle.rules.specs.Offer as O
use Rattle.call_line.specs.declared.line.Line.{Line}
use Rattle.call_line.specs.declared.line.Line.TheVariants as L
use Rattle.calls.specs.Run.{Calls, afresh, rows_of, with_history, bad, ok, refused_text, offer_text, done_text, run_call, run_if}
use Rattle.calls.specs.Said.{Said}
use Rattle.calls.specs.Runs.{Stands, Leaves, Ran}
use Rattle.calls.proofs.Standing.{calls_of, history_stands, Pushed, counted_stands, digest_stands}

-- ---- how long a text is

pub refused_long : (n : ℕ) → length (refused_text n) ≤ 28
unfolding refused_text
refused_long n = omega (arith, printed_long n)

pub offer_long : (a : Answer Fate) → length (offer_text a) ≤ 28
offer_long (refused n) = refused_long n
offer_long (answered Stored) = omega arith
offer_long (answered Joined) = omega arith
offer_long (answered Late) = omega arith

pub done_long : (a : Answer (Unit {0})) → length (done_text a) ≤ 28
done_long (refused n) = refused_long n
done_long (answered u) = omega arith

-- ---- a line is run: its text is said

pub ran_said : {n : ℕ} {l : Option Line} {d d' : Calls} {s out out' : List ℕ}
    → Said n s out out' → length s ≤ 3929
    → ((c : Calls) → Stands c d → Stands (run_if c l).0 d') → ((c : Calls) → Stands c d → Leaves c l d d')
    → ((c : Calls) → Stands c d → s ≡ (run_if c l).1)
    → Ran n l d d' out out'
ran_said {n} {out = out} x h f k g = record {
  state = f;
  leaves = k;
  short = λ c t. omega (arith, h, ap length (g c t));
  text = λ c t. x.is ∙ ap (λ k. take n (out ++ k)) (g c t);
}

-- the calls before it as their view
pub ran_from : {n : ℕ} {l : Option Line} {d e d' : Calls} {out out' : List ℕ} → d ≡ e → Ran n l d d' out out' → Ran n l e d' out out'
ran_from {n} {l} {d} {e} {d'} {out} {out'} q x = subst (λ y. Ran n l y d' out out') q x

-- ---- a call of the history, which leaves the rows

abbrev Call : Type 0 → Type 0
Call A = State ℕ → Answer A × State ℕ

kept_by : {A : Type 0} (f : Call A) (keeps : (s : State ℕ) → Kept (f s).0 s (f s).1) {a : Answer A} {h h' s : State ℕ}
    → ◌≡◌ {A = Answer A × State ℕ} (a, h') (f h) → h ≡ s → Kept (f s).0 h h'
kept_by {A} f keeps {a} {h} {h'} {s} e q =
    subst (λ y. Kept (f y).0 h h') q (subst (λ t. Kept (f h).0 h t) (sym (ap (λ (y : Answer A × State ℕ). y.1) e)) (keeps h))

ran_history : {A : Type 0} (l : Line) (f : Call A) (text : Answer A → List ℕ)
    → ((c : Calls) → run_call c l ≡ (with_history (f c.history).1 c, text (f c.history).0))
    → ((c d d' : Calls) → Kept (f c.history).0 d.history d'.history → rows_of d' ≡ rows_of d → Leaves c (Some l) d d')
    → ((s : State ℕ) → Kept (f s).0 s (f s).1) → ((a : Answer A) → length (text a) ≤ 28)
    → {n : ℕ} {a : Answer A} {h h' : State ℕ} {ps : List Pair} {ds : List DigestRow} {out out' : List ℕ}
    → ◌≡◌ {A = Answer A × State ℕ} (a, h') (f h) → Said n (text a) out out' → Ran n (Some l) (calls_of h ps ds) (calls_of h' ps ds) out out'
unfolding rows_of
ran_history {A} l f text runs leaves keeps long {n} {a} {h} {h'} {ps} {ds} e x =
    ran_said x (omega (arith, long a))
    (λ c s. subst (λ (y : Calls × List ℕ). Stands y.0 (calls_of h' ps ds)) (sym (runs c)) (history_stands (ap (λ (y : Answer A × State ℕ). y.1) e ∙ ap (λ y. (f y).1) s.history) s))
    (λ c s. leaves c (calls_of h ps ds) (calls_of h' ps ds) (kept_by f keeps e s.history) refl)
    (λ c s. ap text (ap (λ (y : Answer A × State ℕ). y.0) e ∙ ap (λ y. (f y).0) s.history) ∙ sym (ap (λ (y : Calls × List ℕ). y.1) (runs c)))

offer_kept : (o : Offer ℕ) (s : State ℕ) → Kept (O.offer s o).0 s (O.offer s o).1
unfolding O.offer Kept
offer_kept o s = elim (O.offer_refusal s o) as (λ r. Kept (O.offered r s o).0 s (O.offered r s o).1) [ Some n ↦ refl | None ↦ tt ]

done_kept : (r : Option ℕ) (s t : State ℕ) → Kept (O.done r s t).0 s (O.done r s t).1
unfolding Kept
done_kept (Some n) s t = refl
done_kept None s t = tt

heartbeat_kept : (b : Heartbeat) (s : State ℕ) → Kept (O.heartbeat s b).0 s (O.heartbeat s b).1
unfolding O.heartbeat
heartbeat_kept b s = done_kept _ s _

gap_kept : (g : Gap) (s : State ℕ) → Kept (O.gap s g).0 s (O.gap s g).1
unfolding O.gap
gap_kept g s = done_kept _ s _

module _ {n : ℕ} {h h' : State ℕ} {ps : List Pair} {ds : List DigestRow} {out out' : List ℕ} where
  pub ran_offer : (o : Offer ℕ) {a : Answer Fate} → ◌≡◌ {A = Answer Fate × State ℕ} (a, h') (O.offer h o) → Said n (offer_text a) out out'
      → Ran n (Some (L.Offer o)) (calls_of h ps ds) (calls_of h' ps ds) out out'
  unfolding run_call
  ran_offer o e x = ran_history (L.Offer o) (λ s. O.offer s o) (λ a. offer_text a) (λ c. refl) (λ c d d' k q. (k, q)) (offer_kept o) offer_long e x

  pub ran_heartbeat : (b : Heartbeat) {a : Answer (Unit {0})} → ◌≡◌ {A = Answer (Unit {0}) × State ℕ} (a, h') (O.heartbeat h b) → Said n (done_text a) out out'
      → Ran n (Some (L.Heartbeat b)) (calls_of h ps ds) (calls_of h' ps ds) out out'
  unfolding run_call
  ran_heartbeat b e x = ran_history (L.Heartbeat b) (λ s. O.heartbeat s b) (λ a. done_text a) (λ c. refl) (λ c d d' k q. (k, q)) (heartbeat_kept b) done_long e x

  pub ran_gap : (g : Gap) {a : Answer (Unit {0})} → ◌≡◌ {A = Answer (Unit {0}) × State ℕ} (a, h') (O.gap h g) → Said n (done_text a) out out'
      → Ran n (Some (L.Gap g)) (calls_of h ps ds) (calls_of h' ps ds) out out'
  unfolding run_call
  ran_gap g e x = ran_history (L.Gap g) (λ s. O.gap s g) (λ a. done_text a) (λ c. refl) (λ c d d' k q. (k, q)) (gap_kept g) done_long e x

-- ---- the rows

module _ {n : ℕ} {h : State ℕ} {ps : List Pair} {ds : List DigestRow} {out out' : List ℕ} (x : Said n ok out out') where
  pub ran_start : {d : Calls} {t : ℕ} → h ≡ fresh t → ps ≡ [] → ds ≡ [] → Ran n (Some (L.Timeout t)) d (calls_of h ps ds) out out'
  unfolding run_call afresh rows_of
  ran_start e p q = ran_said x (omega arith) (λ c s. record { history = e; rows = inl (rw (p, q)) }) (λ c s. tt) (λ c s. refl)

  pub ran_counted : (p : Pair) (ps' : List Pair) → Pushed 257 p ps ps' → Ran n (Some (L.Counted p)) (calls_of h ps ds) (calls_of h ps' ds) out out'
  unfolding run_call
  ran_counted p ps' q = ran_said x (omega arith) (λ c s. counted_stands p ps' q s) (λ c s. refl) (λ c s. refl)

  pub ran_digest : (d : DigestRow) (ds' : List DigestRow) → Pushed 9 d ds ds' → Ran n (Some (L.Digest d)) (calls_of h ps ds) (calls_of h ps ds') out out'
  unfolding run_call
  ran_digest d ds' q = ran_said x (omega arith) (λ c s. digest_stands d ds' q s) (λ c s. refl) (λ c s. refl)
