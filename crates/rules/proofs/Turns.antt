-- What a round does, by cases; and what each step of a group's rounds keeps, its rounds and a release keep.
use Prim.Native.Nat.{ℕ, zero, suc, ◌-◌}
use mathlib.Core.Path.{◌≡◌, refl, ap, subst}
use mathlib.Core.Bool.{Bool, true, false, not}
use mathlib.Core.List.{List, [], ◌∷◌}
use Rattle.std.specs.Prelude.{Option, Some, None}
use mathlib.Core.Logic.{◌⊎◌, inl, inr}
use lib.IntN.{ℤ}
use lib.ListN.{length}
use Rattle.laws.specs.Lists.{filter, list_all, find}
use Rattle.rules.specs.Entry.{What, Entry, of_group}
use Rattle.rules.specs.State.{Group}
use Rattle.rules.specs.Sets.{lowest_ended, whole, lowest_stale}
use Rattle.rules.specs.Commit.{Turn, is_head, head_of, next, ready}
use Rattle.rules.specs.Release.{Work, skip, young, discard, hand_out, finish_if, finish, discard_or, discard_stale, settle, commit_one, commit_all, commit, commit_if, head_step, finish_or, waits, end_step, round, or_stop, rounds, enough, at_group, release_group, release_all}
use Rattle.laws.proofs.Lists.{and_left, and_right, none_not_some, all_kept, all_imp}
use Rattle.guids.proofs.Guids.{same_eq}

-- ---- what a round does

-- the answer of a round, with the tests that led to it
pub data Turned {X : Type 0} (t : Turn) (w : Work X) : Option (Work X) → Type 0 where
  finishes : (z : ℤ) → lowest_ended t.guid w.held ≡ Some z → waits t z w.held ≡ false
      → Turned t w (Some (finish t z w))
  set_waits : (z : ℤ) → lowest_ended t.guid w.held ≡ Some z → waits t z w.held ≡ true → Turned t w None
  nothing_next : lowest_ended t.guid w.held ≡ None → next t w.pending ≡ None → Turned t w None
  commits_ready : (n : ℕ) → lowest_ended t.guid w.held ≡ None → next t w.pending ≡ Some n
      → ready t w.committed n w.pending ≡ true → Turned t w (Some (commit t n 0 w))
  commits_old : (n : ℕ) → lowest_ended t.guid w.held ≡ None → next t w.pending ≡ Some n
      → ready t w.committed n w.pending ≡ false → young t (find (λ e. is_head t n e) w.pending) ≡ false
      → Turned t w (Some (commit t n (n - suc w.committed) w))
  head_waits : (n : ℕ) → lowest_ended t.guid w.held ≡ None → next t w.pending ≡ Some n
      → ready t w.committed n w.pending ≡ false → young t (find (λ e. is_head t n e) w.pending) ≡ true
      → Turned t w None

module _ {X : Type 0} where
  set_turns : (t : Turn) (w : Work X) (z : ℤ) (b : Bool) → lowest_ended t.guid w.held ≡ Some z → waits t z w.held ≡ b → Turned t w (finish_or b t z w)
  set_turns t w z true d e = set_waits z d e
  set_turns t w z false d e = finishes z d e

  head_turns : (t : Turn) (w : Work X) (n : ℕ) (b y : Bool) → lowest_ended t.guid w.held ≡ None → next t w.pending ≡ Some n
      → ready t w.committed n w.pending ≡ b → young t (find (λ e. is_head t n e) w.pending) ≡ y → Turned t w (commit_if b y t n w)
  head_turns t w n true y c d e f = commits_ready n c d e
  head_turns t w n false true c d e f = head_waits n c d e f
  head_turns t w n false false c d e f = commits_old n c d e f

  next_turns : (t : Turn) (w : Work X) (o : Option ℕ) → lowest_ended t.guid w.held ≡ None → next t w.pending ≡ o → Turned t w (head_step t w o)
  next_turns t w None c d = nothing_next c d
  next_turns t w (Some n) c d = head_turns t w n (ready t w.committed n w.pending) (young t (find (λ e. is_head t n e) w.pending)) c d refl refl

  end_turns : (t : Turn) (w : Work X) (o : Option ℤ) → lowest_ended t.guid w.held ≡ o → Turned t w (end_step t w o)
  end_turns t w (Some z) c = set_turns t w z (waits t z w.held) c refl
  end_turns t w None c = next_turns t w (next t w.pending) c refl

  pub turned : (t : Turn) (w : Work X) → Turned t w (round t w)
  unfolding round
  turned t w = end_turns t w (lowest_ended t.guid w.held) refl

  -- ---- laws for code

  pub goes_on : (t : Turn) (w v : Work X) (k : ℕ) → round t w ≡ Some v → rounds (suc k) t w ≡ rounds k t v
  unfolding rounds
  goes_on t w v k e = ap (λ o. or_stop (λ u. rounds k t u) w o) e

  pub stopped : (t : Turn) (w : Work X) (k : ℕ) → round t w ≡ None → rounds k t w ≡ w
  unfolding rounds
  stopped t w zero e = refl
  stopped t w (suc k) e = ap (λ o. or_stop (λ u. rounds k t u) w o) e

  -- why a round stops: an ended set waits, or there is no number, or its first entry waits
  abbrev pub SetWaits : Turn → Work X → Type 0
  SetWaits t w = (z : ℤ) × (lowest_ended t.guid w.held ≡ Some z) × (waits t z w.held ≡ true)

  abbrev pub HeadWaits : Turn → Work X → Type 0
  HeadWaits t w = (n : ℕ) × (next t w.pending ≡ Some n) × (ready t w.committed n w.pending ≡ false) × (young t (find (λ e. is_head t n e) w.pending) ≡ true)

  abbrev pub Stopped : Turn → Work X → Type 0
  Stopped t w = SetWaits t w ⊎ ((lowest_ended t.guid w.held ≡ None) × ((next t w.pending ≡ None) ⊎ HeadWaits t w))

  pub why_stopped : (t : Turn) (w : Work X) → round t w ≡ None → Stopped t w
  why_stopped t w e = go (round t w) (turned t w) e
    where
      go : (o : Option (Work X)) → Turned t w o → o ≡ None → Stopped t w
      go o (finishes z c d) e = none_not_some o (finish t z w) e refl
      go o (set_waits z c d) e = inl (z, c, d)
      go o (nothing_next c d) e = inr (c, inl d)
      go o (commits_ready n c d f) e = none_not_some o (commit t n 0 w) e refl
      go o (commits_old n c d f y) e = none_not_some o (commit t n (n - suc w.committed) w) e refl
      go o (head_waits n c d f y) e = inr (c, inr (n, d, f, y))

-- ---- what every step keeps

module _ {X : Type 0} (P : Work X → Type 0) where
  pub stale_keeps : (e : Entry X) → ((z : ℤ) (w : Work X) → P w → P (discard e.group z w)) → (k : ℕ) (w : Work X) → P w → P (discard_stale k e w)
  unfolding discard_stale
  stale_keeps e f zero w h = h
  stale_keeps e f (suc k) w h = (elim (lowest_stale e w.held) as (λ o. P (discard_or (λ v. discard_stale k e v) e.group w o)) [ None ↦ h | Some z ↦ stale_keeps e f k (discard e.group z w) (f z w h) ])

  pub rounds_keep : (t : Turn) → ((w v : Work X) → round t w ≡ Some v → P w → P v) → (k : ℕ) (w : Work X) → P w → P (rounds k t w)
  unfolding rounds
  rounds_keep t f zero w h = h
  rounds_keep t f (suc k) w h = (elim (round t w) as (λ o. round t w ≡ o → P (or_stop (λ v. rounds k t v) w o)) [ None ↦ λ e. h | Some v ↦ λ e. rounds_keep t f k v (f w v e h) ]) refl

  -- a round finishes a set or commits a number
  pub round_keeps : (t : Turn) (w v : Work X) → round t w ≡ Some v
      → ((z : ℤ) → lowest_ended t.guid w.held ≡ Some z → P (finish t z w))
      → ((n k : ℕ) → lowest_ended t.guid w.held ≡ None → next t w.pending ≡ Some n → P (commit t n k w))
      → P v
  round_keeps t w v e f g = go (round t w) (turned t w) e
    where
      go : (o : Option (Work X)) → Turned t w o → o ≡ Some v → P v
      go o (finishes z c d) e = let i : finish t z w ≡ v = cc in subst P i (f z c)
      go o (set_waits z c d) e = none_not_some o v refl e
      go o (nothing_next c d) e = none_not_some o v refl e
      go o (commits_ready n c d r) e = let i : commit t n 0 w ≡ v = cc in subst P i (g n 0 c d)
      go o (commits_old n c d r y) e = let i : commit t n (n - suc w.committed) w ≡ v = cc in subst P i (g n (n - suc w.committed) c d)
      go o (head_waits n c d r y) e = none_not_some o v refl e

-- the work when number n has left pending and nothing of it is committed yet
abbrev pub taken : {X : Type 0} → Turn → ℕ → ℕ → Work X → Work X
taken t n k w = record {
  committed = n;
  pending = filter (λ e. not (is_head t n e)) w.pending;
  held = w.held;
  out = w.out;
  lost = w.lost;
  counts = skip k w.counts;
}

-- a claim about the entries that left pending and are still to be committed, and the work: the steps of a group's rounds keep it
pub record Keeps {X : Type 0} (t : Turn) (P : List (Entry X) → Work X → Type 0) : Type 0 where
  pub at_discard : (l : List (Entry X)) (z : ℤ) (w : Work X) → P l w → P l (discard t.guid z w)
  pub at_hand_out : (z : ℤ) (w : Work X) → P [] w → P [] (hand_out t.guid z w)
  pub at_settle : (e : Entry X) (l : List (Entry X)) (w : Work X) (x : What X) (y : Option ℤ) → e.what ≡ x → of_group t.guid e ≡ true → P (e ∷ l) w → P l (settle e w x y)
  pub at_taken : (n k : ℕ) (w : Work X) → next t w.pending ≡ Some n → P [] w → P (head_of t n w.pending) (taken t n k w)

module _ {X : Type 0} {P : List (Entry X) → Work X → Type 0} where
  module _ {t : Turn} (k : Keeps t P) where
    commit_all_keeps : (l : List (Entry X)) (w : Work X) → list_all (λ e. of_group t.guid e) l ≡ true → P l w → P [] (commit_all l w)
    unfolding commit_all commit_one of_group
    commit_all_keeps [] w a h = h
    commit_all_keeps (e ∷ l) w a h =
        let o : of_group t.guid e ≡ true = and_left (of_group t.guid e) _ a in
        let d : (z : ℤ) (v : Work X) → P (e ∷ l) v → P (e ∷ l) (discard e.group z v) = λ z v q. subst (λ g. P (e ∷ l) (discard g z v)) (same_eq t.guid e.group o) (k.at_discard (e ∷ l) z v q) in
        commit_all_keeps l (commit_one e w) (and_right (of_group t.guid e) _ a)
        (k.at_settle e l (discard_stale (length w.held) e w) e.what e.set refl o (stale_keeps (λ v. P (e ∷ l) v) e d (length w.held) w h))

    pub commit_keeps : (n j : ℕ) (w : Work X) → P (head_of t n w.pending) (taken t n j w) → P [] (commit t n j w)
    unfolding commit head_of is_head
    commit_keeps n j w h = commit_all_keeps (head_of t n w.pending) (taken t n j w) (all_imp (λ e. is_head t n e) (λ e. of_group t.guid e) (λ e i. and_left (of_group t.guid e) _ i) (head_of t n w.pending) (all_kept (λ e. is_head t n e) w.pending)) h

    finish_keeps : (z : ℤ) (w : Work X) → P [] w → P [] (finish t z w)
    unfolding finish
    finish_keeps z w h = elim (whole t.guid z t.counted w.held) as (λ b. P [] (finish_if b t.guid z w)) [ true ↦ k.at_hand_out z w h | false ↦ k.at_discard [] z w h ]

    pub all_rounds_keep : (j : ℕ) (w : Work X) → P [] w → P [] (rounds j t w)
    all_rounds_keep j w h = rounds_keep (λ v. P [] v) t (λ u v e q. round_keeps (λ v. P [] v) t u v e (λ z d. finish_keeps z u q) (λ n i c d. commit_keeps n i u (k.at_taken n i u d q))) j w h

  -- through a release, if the rounds of each group keep it, and the change to a group
  pub release_all_keeps : (t : Group → Turn) (ok : Group → Bool) → ((g : Group) → ok g ≡ true → Keeps (t g) P) → ((g : Group) (w : Work X) → P [] w → P [] (at_group g w))
      → (gs : List Group) → list_all ok gs ≡ true → (w : Work X) → P [] w → P [] (release_all t gs w).1
  unfolding release_all release_group
  release_all_keeps t ok k c [] a w h = h
  release_all_keeps t ok k c (g ∷ gs) a w h = release_all_keeps t ok k c gs (and_right (ok g) _ a) (release_group (t g) g w) (all_rounds_keep (k g (and_left (ok g) _ a)) (enough w) (at_group g w) (c g w h))
