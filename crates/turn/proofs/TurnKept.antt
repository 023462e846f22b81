-- A turn that releases nothing changes nothing.
use Prim.{tt}
use Prim.Native.Nat.{ℕ}
use mathlib.Core.Path.{◌≡◌, refl, sym, subst, ap, ◌∙◌}
use mathlib.Core.Bool.{Bool, true, false, ◌||◌}
use mathlib.Core.List.{List}
use Rattle.std.specs.Prelude.{ltb, length, Option, None, Some}
use Rattle.laws.specs.Lists.{list_any}
use Rattle.laws.proofs.Lists.{or_left}
use Rattle.rules.specs.Offer.{refusal}
use Rattle.rules.specs.State.{State}
use Rattle.rules.specs.declared.state.ReleaseCounts.{ReleaseCounts}
use Rattle.rules.specs.Release.{View, malformed, samples, release_refusal, released_if, release}
use Rattle.rules.specs.Run.{nothing_waits}
use Rattle.release.specs.Released.{release_to, count_out}
use Rattle.turn.specs.declared.rows.Progress.{Progress}
use Rattle.turn.specs.Turn.{Turned, applied, judged, report_of, reported, turn_by, turn_to, TurnKept}
use Rattle.turn.proofs.TurnLaws.{rows_quiet}

-- a release that is not refused
none_kept : (s u t : State ℕ) (v : View) (now : ℕ) (x : Option ℕ) (c : ReleaseCounts) → x ≡ None → TurnKept (report_of (count_out (released_if x u v now).0) c) s t
unfolding TurnKept
none_kept s u t v now None c e = tt
none_kept s u t v now (Some n) c e = cc

module _ (s : State ℕ) (rows : List Progress) (v : View) (now : ℕ) (l : List ℕ) where
  -- what was judged of the first state holds behind the rows
  not_refused : malformed v ≡ false → ltb (length l) (samples s) ≡ false → release_refusal (applied s rows) v (length l) ≡ None
  unfolding release_refusal refusal
  not_refused m r = rw (m, ap (λ n. ltb (length l) n) (rows_quiet s rows).0 ∙ r) refl

  by_cases : (b i t : Bool) → malformed v || list_any (λ r. ltb 7 r.reader) rows ≡ b → ltb (length l) (samples s) ≡ t
      → TurnKept (turn_by (judged b i t) s rows v now l).0 s (turn_by (judged b i t) s rows v now l).1
  unfolding TurnKept reported release_to release
  by_cases true i t e f = refl
  by_cases false true t e f = refl
  by_cases false false true e f = refl
  by_cases false false false e f = none_kept s (applied s rows) _ v now (release_refusal (applied s rows) v (length l)) _ (not_refused (or_left (malformed v) _ e) f)

  pub turn_kept : TurnKept (turn_to s rows v now l).0 s (turn_to s rows v now l).1
  unfolding turn_to
  turn_kept = by_cases (malformed v || list_any (λ r. ltb 7 r.reader) rows) (nothing_waits s) (ltb (length l) (samples s)) refl refl

  pub kept_from : (a : Turned) (t : State ℕ) (o : List ℕ) → (a, t, o) ≡ turn_to s rows v now l → TurnKept a s t
  kept_from a t o e = subst (λ (r : Turned × State ℕ × List ℕ). TurnKept r.0 s r.1) (sym e) turn_kept
