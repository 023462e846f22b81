-- Stale sets: the lowest of them, and their discards.
use Rattle.std.proofs.Common.{◌≡◌, ℕ, zero, suc, ◌+◌, ◌≤◌, true, false, not, List, [], ◌∷◌, ◌++◌, length, refl, sym, ap, ◌∙◌, add-one, arith}
use Rattle.std.specs.Prelude.{ℤ, Option, Some, None}
use Rattle.laws.specs.Lists.{filter}
use Rattle.laws.proofs.Lists.{length_keep}
use Rattle.rules.specs.declared.entry.Entry.{Entry}
use Rattle.rules.specs.Entry.{in_set}
use Rattle.rules.specs.Sets.{lesser, lowest_set, is_stale, lowest_stale, without, members_of}
use Rattle.rules.specs.Release.{Work, discard, discard_or, discard_stale, discards}
use Rattle.sets.specs.declared.Sets.{Sets}
use Rattle.sets.specs.Works.{Carries, GoesSets}

-- ---- the lowest

module _ (e h : Entry ℕ) (l ys : List (Entry ℕ)) where
  -- one more in front
  pub lowest-stale : is_stale e l h ≡ true → lesser h.set (lowest_set (filter (λ x. is_stale e l x) ys)) ≡ lowest_set (filter (λ x. is_stale e l x) (h ∷ ys))
  unfolding lowest_set
  lowest-stale q = rw q

  pub lowest-other : is_stale e l h ≡ false → lowest_set (filter (λ x. is_stale e l x) ys) ≡ lowest_set (filter (λ x. is_stale e l x) (h ∷ ys))
  unfolding lowest_set
  lowest-other q = rw q

-- of all
pub lowest-all : (e : Entry ℕ) (l m rest ys : List (Entry ℕ)) (low : Option ℤ) → l ≡ m → l ≡ rest ++ ys → length rest ≡ 0 → low ≡ lowest_set (filter (λ x. is_stale e l x) ys) → low ≡ lowest_stale e m
unfolding lowest_stale
lowest-all e l m [] ys low is all none q = q ∙ rw (← is, ← all)
lowest-all e l m (x ∷ rest) ys low is all none q = absurd (omega arith)

-- ---- the discards

-- with none, nothing is discarded
pub stale_stop : (e : Entry ℕ) (k : ℕ) (w : Work ℕ) → lowest_stale e w.held ≡ None → discard_stale k e w ≡ w
unfolding discard_stale
stale_stop e zero w h = refl
stale_stop e (suc k) w h = rw h

-- where n turns of the definition lead from s, k of them lead from t
pub record Discarding (e : Entry ℕ) (n k : ℕ) (s t : Sets) : Type 0 where
  pub fewer : length t.held.items ≤ length s.held.items
  pub goes : (o : List ℕ) (w : Work ℕ) → Carries s o w → (v : Work ℕ) × Carries t o v × (discard_stale n e w ≡ discard_stale k e v)

module _ (e : Entry ℕ) (n : ℕ) (s t : Sets) where
  pub discarding_more : (k j : ℕ) (z y : ℤ) (u : Sets) → Discarding e n k s t → k ≡ j + 1 → lowest_stale e t.held.items ≡ Some y → y ≡ z
      → u.held.items ≡ without e.group z t.held.items → u.counts ≡ discards (length (members_of e.group z t.held.items)) t.counts → Discarding e n j s u
  unfolding discard_stale discard without
  discarding_more k j z y u d a b q h c = record {
    fewer = omega (arith, ap length h, length_keep (λ x. not (in_set e.group z x)) t.held.items, d.fewer);
    goes = λ o w x.
        let r = d.goes o w x in
        let v = r.0 in
        let turn : discard_stale k e v ≡ discard_stale j e (discard e.group z v) = rw (a, add-one) (ap (discard_or (λ y. discard_stale j e y) e.group v) (ap (lowest_stale e) (sym r.1.held) ∙ b ∙ ap Some q)) in
        (discard e.group z v, record { held = h ∙ ap (without e.group z) r.1.held; counts = c ∙ rw (r.1.held, r.1.counts); out = r.1.out }, r.2 ∙ turn);
  }

  -- none is left
  pub discarding_stop : (k : ℕ) → n ≡ length s.held.items → Discarding e n k s t → lowest_stale e t.held.items ≡ None → GoesSets (λ w. discard_stale (length w.held) e w) s t
  discarding_stop k m d h o w x =
      let r = d.goes o w x in
      rw (← ap length x.held, ← m, r.2, stale_stop e k r.0 (ap (lowest_stale e) (sym r.1.held) ∙ h)) r.1

  -- all turns are made
  pub discarding_all : (k : ℕ) → n ≡ length s.held.items → Discarding e n k s t → k ≡ 0 → GoesSets (λ w. discard_stale (length w.held) e w) s t
  unfolding discard_stale
  discarding_all k m d h o w x =
      let r = d.goes o w x in
      let last : discard_stale k e r.0 ≡ r.0 = rw h in
      rw (← ap length x.held, ← m, r.2, last) r.1
