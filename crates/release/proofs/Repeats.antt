-- What a repetition does, by the first entry of the lowest number; and repetitions one after the other.
use Prim.Native.Nat.{ℕ, zero, suc, ◌+◌, ◌-◌, ◌*◌}
use mathlib.Core.Path.{◌≡◌, refl, sym, ap, subst, ◌∙◌}
use mathlib.Core.Bool.{true, false, ◌||◌}
use mathlib.Core.List.{List}
use Rattle.std.specs.Prelude.{Option, Some, None, slice_get}
use native.Mathlib.Omega.{arith}
use lib.IntN.{ℤ}
use lib.Dec.{eqb, ltb}
use lib.ListN.{length}
use Rattle.rules.specs.declared.entry.Entry.{Entry}
use Rattle.rules.specs.Sets.{lowest_ended, whole}
use Rattle.rules.specs.GroupTurn.{turn_as}
use Rattle.rules.specs.declared.turn.GroupTurn.{GroupTurn}
use Rattle.sets.specs.declared.Sets.{Sets}
use Rattle.sets.specs.Works.{Goes}
use Rattle.release.specs.GroupReleased.{Ended, GroupReleased}
use Rattle.release.specs.Progress.{Repeated, Reaches}
use Rattle.release.specs.declared.group.Progress.{Progress}
use Rattle.release.proofs.Sorted.{Entries}
use Rattle.rules.specs.Commit.{Turn, ruled_out, ready}
use Rattle.rules.specs.Release.{Work, young, commit_if, head_step, end_step, waits, finish, finish_or, finish_if, hand_out, discard, round, or_stop, rounds, enough}
use Rattle.release.specs.Order.{by_number}
use Rattle.release.proofs.Heads.{own, next_first, next_empty, find_first}
use Rattle.rules.proofs.Turns.{stopped}
use Rattle.rules.proofs.Fuel.{more}

-- ---- one repetition

module _ (t : Turn) (w : Work ℕ) (q : lowest_ended t.guid w.held ≡ None) where
  pub round_empty : slice_get (by_number (own t w.pending)) 0 ≡ None → round t w ≡ None
  unfolding round
  round_empty e = ap (end_step t w) q ∙ ap (head_step t w) (next_empty t w.pending e)

  module _ (h : Entry ℕ) (e : slice_get (by_number (own t w.pending)) 0 ≡ Some h) where
    pub round_head : round t w ≡ commit_if (ready t w.committed h.number w.pending) (young t (Some h)) t h.number w
    unfolding round
    round_head =
        ap (end_step t w) q ∙ ap (head_step t w) (next_first t w.pending h e)
        ∙ ap (λ o. commit_if (ready t w.committed h.number w.pending) (young t o) t h.number w) (find_first t w.pending h e)

    pub round_young : eqb h.number (suc w.committed) || ruled_out t w.committed h.number ≡ false → ltb (t.now - h.time) t.timeout ≡ true → round t w ≡ None
    unfolding ready young
    round_young p y = round_head ∙ rw (p, y)

-- ---- repetitions

module _ (t : Turn) where
  pub rounds_last : (k : ℕ) (w : Work ℕ) → rounds (suc k) t w ≡ or_stop (λ v. v) (rounds k t w) (round t (rounds k t w))
  unfolding rounds
  rounds_last zero w = refl
  rounds_last (suc k) w = (elim (round t w) as (λ o. round t w ≡ o → or_stop (λ v. rounds (suc k) t v) w o ≡ or_stop (λ v. v) (or_stop (λ v. rounds k t v) w o) (round t (or_stop (λ v. rounds k t v) w o))) [
    | None ↦ λ e. sym (ap (λ o. or_stop (λ v. v) w o) e)
    | Some v ↦ λ e. rounds_last k v
  ]) refl

  rounds_more : (a b : ℕ) (w : Work ℕ) → rounds (a + b) t w ≡ rounds b t (rounds a t w)
  unfolding rounds
  rounds_more zero b w = let z : zero + b ≡ b = omega arith in ap (λ m. rounds m t w) z
  rounds_more (suc a) b w = let z : suc a + b ≡ suc (a + b) = omega arith in ap (λ m. rounds m t w) z ∙ (elim (round t w) as (λ o. round t w ≡ o → or_stop (λ v. rounds (a + b) t v) w o ≡ rounds b t (or_stop (λ v. rounds a t v) w o)) [
    | None ↦ λ e. sym (stopped t w b e)
    | Some v ↦ λ e. rounds_more a b v
  ]) refl

  -- a work at which no repetition goes on is the last one
  pub rounds_done : (k : ℕ) (w : Work ℕ) → round t (rounds k t w) ≡ None → rounds k t w ≡ rounds (enough w) t w
  rounds_done k w e = sym (stopped t (rounds k t w) (enough w) e) ∙ sym (rounds_more k (enough w) w) ∙ more t w (k + enough w) (omega arith)

-- ---- an ended set

finish_or_not : (t : Turn) (w : Work ℕ) (z : ℤ) → lowest_ended t.guid w.held ≡ Some z → round t w ≡ finish_or (waits t z w.held) t z w
unfolding round
finish_or_not t w z e = ap (end_step t w) e

finish_stays : (t : Turn) (z : ℤ) (w : Work ℕ) → ((finish t z w).pending ≡ w.pending) × ((finish t z w).committed ≡ w.committed)
unfolding finish hand_out discard
finish_stays t z w = elim (whole t.guid z t.counted w.held) as (λ b. ((finish_if b t.guid z w).pending ≡ w.pending) × ((finish_if b t.guid z w).committed ≡ w.committed)) [ true ↦ (refl, refl) | false ↦ (refl, refl) ]

module _ (t : GroupTurn) (ps : Entries) (r : Option ℕ) (s : Sets) (o : List ℕ) (z : ℤ) (e : lowest_ended t.group.guid s.held.items ≡ Some z) (v : Work ℕ) (x : Ended t ps r s o v) where
  here : round (turn_as t) v ≡ finish_or (waits (turn_as t) z s.held.items) (turn_as t) z v
  here = finish_or_not (turn_as t) v z (ap (lowest_ended t.group.guid) (sym x.carries.held) ∙ e) ∙ ap (λ l. finish_or (waits (turn_as t) z l) (turn_as t) z v) (sym x.carries.held)

  pub set_finished : (u : Sets) (p : List ℕ) → waits (turn_as t) z s.held.items ≡ false → Goes (λ w. finish (turn_as t) z w) s o u p → (y : Work ℕ) × (round (turn_as t) v ≡ Some y) × Ended t ps r u p y
  set_finished u p h g =
      let f = finish_stays (turn_as t) z v in
      (finish (turn_as t) z v, here ∙ ap (λ b. finish_or b (turn_as t) z v) h, record { carries = g v x.carries; committed = f.1 ∙ x.committed; pending = f.0 ∙ x.pending })

  pub set_waiting : waits (turn_as t) z s.held.items ≡ true → round (turn_as t) v ≡ None
  set_waiting h = here ∙ ap (λ b. finish_or b (turn_as t) z v) h

-- ---- the release of a group as far as its repetitions have come

module _ (t : GroupTurn) (ps : Entries) (s : Sets) (o : List ℕ) where
  pub reaches_none : Reaches 0 t ps s o None s o
  unfolding rounds
  reaches_none w p c x = record { carries = x; committed = c; pending = p }

  -- no repetition goes on from there
  pub reaches_stop : (i : ℕ) (r : Option ℕ) (u : Sets) (p : List ℕ) (u' : Sets) (p' : List ℕ) → Reaches i t ps s o r u p → ((v : Work ℕ) → Ended t ps r u p v → Repeated t ps r None u' p' v) → GroupReleased t ps s o r u' p'
  reaches_stop i r u p u' p' x f w a b c =
      let z = f (rounds i (turn_as t) w) (x w a b c) in
      subst (λ v. Ended t ps r u' p' v) (rounds_done (turn_as t) i w z.0) z.1

  pub reaches_more : (i : ℕ) (r : Option ℕ) (k : Progress) (u : Sets) (p : List ℕ) (u' : Sets) (p' : List ℕ) → Reaches i t ps s o r u p → ((v : Work ℕ) → Ended t ps r u p v → Repeated t ps r (Some k) u' p' v) → Reaches (i + 1) t ps s o k.last u' p'
  reaches_more i r k u p u' p' x f w a b c =
      let z = f (rounds i (turn_as t) w) (x w a b c) in
      let n : i + 1 ≡ suc i = omega arith in
      let e : z.0 ≡ rounds (i + 1) (turn_as t) w = sym (ap (λ m. rounds m (turn_as t) w) n ∙ rounds_last (turn_as t) i w ∙ ap (λ y. or_stop (λ v. v) (rounds i (turn_as t) w) y) z.1) in
      subst (λ v. Ended t ps k.last u' p' v) e z.2

  -- as many repetitions as any work needs
  pub reaches_all : (i : ℕ) (r : Option ℕ) (u : Sets) (p : List ℕ) → i ≡ 2 * length ps + length s.held.items + 1 → Reaches i t ps s o r u p → GroupReleased t ps s o r u p
  unfolding enough
  reaches_all i r u p e x w a b c =
      let n : i ≡ enough w = omega (arith, ap length a, ap length c.held) in
      subst (λ m. Ended t ps r u p (rounds m (turn_as t) w)) n (x w a b c)

  pub stuck_released : ((w : Work ℕ) → w.pending ≡ ps → w.held ≡ s.held.items → w.committed ≡ t.group.committed → round (turn_as t) w ≡ None) → GroupReleased t ps s o None s o
  stuck_released f = reaches_stop 0 None s o s o reaches_none (λ v x. (f v x.pending (sym x.carries.held) x.committed, x))
