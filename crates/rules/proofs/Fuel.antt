-- The fuel of a release never runs out: every discard takes an entry from held, every round a set's from held or a number's from pending.
use Prim.Native.Nat.{ℕ, zero, suc, ◌+◌, ◌*◌, ◌≤◌, ◌<◌}
use mathlib.Core.Path.{◌≡◌, refl, ap}
use mathlib.Core.Bool.{true, false, ◌&&◌, not}
use mathlib.Core.List.{List, [], ◌∷◌}
use Rattle.std.specs.Prelude.{Option, Some, None}
use native.Mathlib.Omega.{arith}
use lib.IntN.{ℤ}
use lib.ListN.{length, length-append}
use Rattle.laws.specs.Lists.{filter, list_any, count, find}
use Rattle.guids.specs.Guid.{Guid}
use Rattle.rules.specs.Entry.{What, Sample, End, Entry, in_set, marks}
use Rattle.rules.specs.Offer.{shares, replaced, marked, keep_end}
use Rattle.rules.specs.Sets.{lowest_set, lowest_ended, whole, without, is_stale, lowest_stale}
use Rattle.rules.specs.Commit.{Turn, is_head, head_of, next}
use Rattle.rules.specs.Release.{Work, discard, hand_out, finish_if, finish, discard_or, discard_stale, with_held, with_out, mark_or, settle, commit, round, or_stop, rounds, enough}
use Rattle.laws.proofs.Lists.{and_left, length_keep, length_split, count_any, any_imp}
use Rattle.rules.proofs.Minima.{next_head, ended_there, stale_there}
use Rattle.rules.proofs.Turns.{stale_keeps, round_keeps, taken, Keeps, commit_keeps}

module _ {X : Type 0} where
  -- ---- discards

  -- what leaves shortens the list
  pub without_shorter : (g : Guid) (z : ℤ) (l : List (Entry X)) → list_any (λ h. in_set g z h) l ≡ true → length (without g z l) < length l
  unfolding without count
  without_shorter g z l h = omega (arith, count_any (λ h. in_set g z h) l h, length_split (λ h. in_set g z h) l)

  stale_shorter : (e : Entry X) (w : Work X) (z : ℤ) → lowest_stale e w.held ≡ Some z → length (discard e.group z w).held < length w.held
  unfolding discard
  stale_shorter e w z h = without_shorter e.group z w.held (any_imp (λ x. in_set e.group z x && is_stale e w.held x) (λ x. in_set e.group z x) (λ x p. and_left (in_set e.group z x) _ p) w.held (stale_there e w.held z h))

  none_stale : (e : Entry X) (l : List (Entry X)) → length l ≤ 0 → lowest_stale e l ≡ None
  unfolding lowest_stale lowest_set
  none_stale e [] h = refl
  none_stale e (x ∷ l) h = absurd (omega arith)

  -- with fuel for every held entry no stale set is left
  pub stale_fuel : (e : Entry X) (w : Work X) (k : ℕ) → length w.held ≤ k → lowest_stale e (discard_stale k e w).held ≡ None
  unfolding discard_stale
  stale_fuel e w zero h = none_stale e w.held h
  stale_fuel e w (suc k) h = (elim (lowest_stale e w.held) as (λ o. lowest_stale e w.held ≡ o → lowest_stale e (discard_or (λ v. discard_stale k e v) e.group w o).held ≡ None) [ None ↦ λ d. d | Some z ↦ λ d. stale_fuel e (discard e.group z w) k (omega (arith, stale_shorter e w z d)) ]) refl

  -- and more changes nothing
  stale_same : (e : Entry X) (m n : ℕ) (w : Work X) → length w.held ≤ m → length w.held ≤ n → discard_stale m e w ≡ discard_stale n e w
  unfolding discard_stale
  stale_same e zero zero w h k = refl
  stale_same e zero (suc n) w h k = rw (none_stale e w.held h)
  stale_same e (suc m) zero w h k = rw (none_stale e w.held k)
  stale_same e (suc m) (suc n) w h k = (elim (lowest_stale e w.held) as (λ o. lowest_stale e w.held ≡ o → discard_or (λ v. discard_stale m e v) e.group w o ≡ discard_or (λ v. discard_stale n e v) e.group w o) [ None ↦ λ d. refl | Some z ↦ λ d. stale_same e m n (discard e.group z w) (omega (arith, stale_shorter e w z d)) (omega (arith, stale_shorter e w z d)) ]) refl

  -- ---- commits

  pub keep_end_length : (m : Option ℕ) (e : Entry X) (l : List (Entry X)) → length (keep_end m e l) ≤ suc (length l)
  unfolding keep_end
  keep_end_length m e l = omega (arith, length-append (filter (λ h. not (replaced e h)) l) (marked m e ∷ []), length_keep (λ h. not (replaced e h)) l)

  pub settle_length : (e : Entry X) (w : Work X) (x : What X) (s : Option ℤ) → length (settle e w x s).held ≤ suc (length w.held)
  unfolding with_held with_out
  settle_length e w (Sample x) None = omega arith
  settle_length e w (Sample x) (Some z) = omega (arith, length-append w.held (e ∷ []))
  settle_length e w (End u) None = omega arith
  settle_length e w (End u) (Some z) = keep_end_length (mark_or e.time (find (λ m. shares e m && marks m) w.held)) e w.held

  pub settle_pending : (e : Entry X) (w : Work X) (x : What X) (s : Option ℤ) → (settle e w x s).pending ≡ w.pending
  unfolding with_held with_out
  settle_pending e w (Sample x) None = refl
  settle_pending e w (Sample x) (Some z) = refl
  settle_pending e w (End u) None = refl
  settle_pending e w (End u) (Some z) = refl

  pub stale_pending : (e : Entry X) (k : ℕ) (w : Work X) → (discard_stale k e w).pending ≡ w.pending
  unfolding discard
  stale_pending e k w = stale_keeps (λ v. v.pending ≡ w.pending) e (λ z v h. h) k w refl

  -- ---- rounds

  -- what falls at every round
  size : Work X → ℕ
  size w = 2 * length w.pending + length w.held

  finish_falls : (t : Turn) (z : ℤ) (w : Work X) → lowest_ended t.guid w.held ≡ Some z → size (finish t z w) < size w
  unfolding finish size discard hand_out
  finish_falls t z w h =
      let s = without_shorter t.guid z w.held (any_imp (λ x. in_set t.guid z x && marks x) (λ x. in_set t.guid z x) (λ x p. and_left (in_set t.guid z x) _ p) w.held (ended_there t.guid w.held z h)) in
      elim (whole t.guid z t.counted w.held) as (λ b. size (finish_if b t.guid z w) < size w) [ true ↦ omega arith | false ↦ omega arith ]

  -- with one for each entry still to be committed it never grows
  sized : (m : ℕ) (t : Turn) → Keeps t (λ l w. length l + size w ≤ m)
  unfolding size discard hand_out without head_of
  sized m t = record {
    at_discard = λ l z w r. omega (arith, length_keep (λ x. not (in_set t.guid z x)) w.held);
    at_hand_out = λ z w r. omega (arith, length_keep (λ x. not (in_set t.guid z x)) w.held);
    at_settle = λ e l w x y i o r. omega (arith, ap length (settle_pending e w x y), settle_length e w x y);
    at_taken = λ n k w d r. omega (arith, length_split (λ e. is_head t n e) w.pending);
  }

  commit_falls : (t : Turn) (n k : ℕ) (w : Work X) → next t w.pending ≡ Some n → size (commit t n k w) < size w
  unfolding size head_of count
  commit_falls t n k w h =
      let r = commit_keeps (sized (length (head_of t n w.pending) + size (taken t n k w)) t) n k w (omega arith) in
      omega (arith, length_split (λ e. is_head t n e) w.pending, count_any (λ e. is_head t n e) w.pending (next_head t w.pending n h))

  falls : (t : Turn) (w v : Work X) → round t w ≡ Some v → size v < size w
  falls t w v h = round_keeps (λ u. size u < size w) t w v h (λ z e. finish_falls t z w e) (λ n k d e. commit_falls t n k w e)

  stops_with : (k : ℕ) (t : Turn) (w : Work X) → size w < k → round t (rounds k t w) ≡ None
  unfolding rounds
  stops_with zero t w h = absurd (omega arith)
  stops_with (suc k) t w h = (elim (round t w) as (λ o. round t w ≡ o → round t (or_stop (λ v. rounds k t v) w o) ≡ None) [ None ↦ λ e. e | Some v ↦ λ e. stops_with k t v (omega (arith, falls t w v e)) ]) refl

  same_rounds : (m n : ℕ) (t : Turn) (w : Work X) → size w < m → size w < n → rounds m t w ≡ rounds n t w
  unfolding rounds
  same_rounds zero n t w h k = absurd (omega arith)
  same_rounds (suc m) zero t w h k = absurd (omega arith)
  same_rounds (suc m) (suc n) t w h k = (elim (round t w) as (λ o. round t w ≡ o → or_stop (λ v. rounds m t v) w o ≡ or_stop (λ v. rounds n t v) w o) [ None ↦ λ e. refl | Some v ↦ λ e. same_rounds m n t v (omega (arith, falls t w v e)) (omega (arith, falls t w v e)) ]) refl

  -- enough rounds go on until one stops, and more change nothing
  pub stops : (t : Turn) (w : Work X) → round t (rounds (enough w) t w) ≡ None
  unfolding size enough
  stops t w = stops_with (enough w) t w (omega arith)

  pub more : (t : Turn) (w : Work X) (k : ℕ) → enough w ≤ k → rounds k t w ≡ rounds (enough w) t w
  unfolding size enough
  more t w k h = same_rounds k (enough w) t w (omega arith) (omega arith)
