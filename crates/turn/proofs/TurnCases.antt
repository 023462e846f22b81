-- What a turn answers, by what its code tests in order.
use Prim.Native.Nat.{ℕ}
use mathlib.Core.Path.{◌≡◌, refl, ap, ◌∙◌}
use mathlib.Core.Bool.{Bool, true, false, ◌||◌}
use mathlib.Core.List.{List}
use Rattle.std.specs.Prelude.{ltb, length}
use Rattle.laws.specs.Answer.{Answer, refused, answered}
use Rattle.laws.specs.Lists.{list_any}
use Rattle.rules.specs.State.{State}
use Rattle.rules.specs.declared.state.ReleaseCounts.{ReleaseCounts}
use Rattle.rules.specs.Release.{View, malformed, samples}
use Rattle.rules.specs.Run.{nothing_waits}
use Rattle.release.specs.Released.{release_to}
use Rattle.turn.specs.declared.rows.Progress.{Progress}
use Rattle.turn.specs.Turn.{Turned, idle, not_done, released, applied, since, reported, turn_to}

module _ (s : State ℕ) (rows : List Progress) (v : View) (now : ℕ) (l : List ℕ) where
  abbrev bad : Bool
  bad = malformed v || list_any (λ r. ltb 7 r.reader) rows

  pub turn_malformed : bad ≡ true → (not_done 9, s, l) ≡ turn_to s rows v now l
  unfolding turn_to
  turn_malformed b = rw b refl

  pub turn_idle : bad ≡ false → nothing_waits s ≡ true → (idle, s, l) ≡ turn_to s rows v now l
  unfolding turn_to
  turn_idle b i = rw (b, i) refl

  pub turn_short : bad ≡ false → nothing_waits s ≡ false → ltb (length l) (samples s) ≡ true → (not_done 5, s, l) ≡ turn_to s rows v now l
  unfolding turn_to
  turn_short b i t = rw (b, i, t) refl

  -- where it releases
  pub turn_answered : (u t : State ℕ) (n : ℕ) (o : List ℕ) (c : ReleaseCounts) → bad ≡ false → nothing_waits s ≡ false → ltb (length l) (samples s) ≡ false
      → u ≡ applied s rows → (answered n, t, o) ≡ release_to u v now l → c ≡ since s.counts t.counts → (released n c, t, o) ≡ turn_to s rows v now l
  unfolding turn_to reported
  turn_answered u t n o c b i r e f g =
      rw (b, i, r) (ap (λ d. (released n d, t, o)) g ∙ ap (λ q. reported s.counts q) (f ∙ ap (λ w. release_to w v now l) e))

  pub turn_refused : (u t : State ℕ) (n : ℕ) (o : List ℕ) → bad ≡ false → nothing_waits s ≡ false → ltb (length l) (samples s) ≡ false
      → u ≡ applied s rows → (refused n, t, o) ≡ release_to u v now l → (not_done n, t, o) ≡ turn_to s rows v now l
  unfolding turn_to reported
  turn_refused u t n o b i r e f = rw (b, i, r) (ap (λ q. reported s.counts q) (f ∙ ap (λ w. release_to w v now l) e))
