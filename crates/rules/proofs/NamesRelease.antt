-- Naming samples changes nothing, part three: a release answers the same and does the same.
use Prim.Native.Nat.{ℕ, zero, suc}
use mathlib.Core.Path.{◌≡◌, refl, ap, ◌∙◌}
use mathlib.Core.Bool.{Bool, true, false}
use mathlib.Core.List.{List, [], ◌∷◌, map-append}
use Rattle.std.specs.Prelude.{Option, Some, None}
use lib.IntN.{ℤ}
use lib.ListN.{length-map}
use Rattle.laws.specs.Answer.{Answer, refused, answered}
use Rattle.guids.specs.Guid.{Guid}
use Rattle.rules.specs.Entry.{What, Sample, End, Entry}
use Rattle.rules.specs.State.{State, Group}
use Rattle.rules.specs.Commit.{Turn}
use Rattle.rules.specs.Release.{Work, discard, hand_out, finish_if, finish, discard_or, discard_stale, with_held, with_out, mark_or, settle, commit_one, commit_all, commit, commit_if, head_step, finish_or, waits, end_step, round, or_stop, rounds, enough, Outcome, View, at_group, release_group, release_all, work_of, back_to, released, samples, release_refusal, released_if, release}
use Rattle.rules.specs.Names.{map_what, map_entry, map_state}
use Rattle.laws.proofs.Lists.{keep_map, find_map, count_map, map_o}
use Rattle.rules.proofs.Names.{maps, map_found, group_map, set_map, what_map, time_map, is_sample_map, marks_map, shares_map, is_member_map, is_head_map, lowest_ended_map, end_missing_map, members_of_map, whole_map, without_map, lowest_stale_map, keep_end_map, next_map, head_of_map, ready_map, young_map}

module _ {X Y : Type 0} (f : X → Y) where
  unfoldable pub map_work : Work X → Work Y
  map_work w = record {
    committed = w.committed;
    pending = maps f w.pending;
    held = maps f w.held;
    out = maps f w.out;
    lost = maps f w.lost;
    counts = w.counts;
  }

  abbrev pub map_step : Option (Work X) → Option (Work Y)
  map_step o = map_o (λ w. map_work w) o

  abbrev pub map_outcome : Outcome X → Outcome Y
  map_outcome r = record { out = maps f r.out; lost = maps f r.lost }

  pending_map : (w : Work X) → (map_work w).pending ≡ maps f w.pending
  unfolding map_work
  pending_map w = refl

  held_map : (w : Work X) → (map_work w).held ≡ maps f w.held
  unfolding map_work
  held_map w = refl

  committed_map : (w : Work X) → (map_work w).committed ≡ w.committed
  unfolding map_work
  committed_map w = refl

  -- ---- a set leaves

  pub discard_map : (g : Guid) (z : ℤ) (w : Work X) → discard g z (map_work w) ≡ map_work (discard g z w)
  unfolding discard map_work
  discard_map g z w = simp (without_map f, members_of_map f, map-append, length-map)

  pub hand_out_map : (g : Guid) (z : ℤ) (w : Work X) → hand_out g z (map_work w) ≡ map_work (hand_out g z w)
  unfolding hand_out map_work
  hand_out_map g z w = simp (without_map f, members_of_map f, map-append)

  finish_if_map : (b : Bool) (g : Guid) (z : ℤ) (w : Work X) → finish_if b g z (map_work w) ≡ map_work (finish_if b g z w)
  finish_if_map true g z w = hand_out_map g z w
  finish_if_map false g z w = discard_map g z w

  pub finish_map : (t : Turn) (z : ℤ) (w : Work X) → finish t z (map_work w) ≡ map_work (finish t z w)
  unfolding finish
  finish_map t z w = simp (held_map, whole_map f, finish_if_map)

  discard_or_map : (go : Work Y → Work Y) (go' : Work X → Work X) → ((w : Work X) → go (map_work w) ≡ map_work (go' w))
      → (g : Guid) (w : Work X) (o : Option ℤ) → discard_or go g (map_work w) o ≡ map_work (discard_or go' g w o)
  discard_or_map go go' h g w None = refl
  discard_or_map go go' h g w (Some z) = ap go (discard_map g z w) ∙ h (discard g z w)

  pub discard_stale_map : (k : ℕ) (e : Entry X) (w : Work X) → discard_stale k (map_entry f e) (map_work w) ≡ map_work (discard_stale k e w)
  unfolding discard_stale
  discard_stale_map zero e w = refl
  discard_stale_map (suc k) e w =
      simp (group_map f, held_map, lowest_stale_map f e, discard_or_map (λ v. discard_stale k (map_entry f e) v) (λ v. discard_stale k e v) (λ v. discard_stale_map k e v))

  -- ---- a number is committed

  mark_or_map : (t : ℕ) (o : Option (Entry X)) → mark_or t (map_found f o) ≡ mark_or t o
  mark_or_map t None = refl
  mark_or_map t (Some e) = unfold map_entry in refl

  pub settle_map : (e : Entry X) (w : Work X) (a : What X) (s : Option ℤ) → settle (map_entry f e) (map_work w) (map_what f a) s ≡ map_work (settle e w a s)
  unfolding with_held with_out map_work
  settle_map e w (Sample x) None = simp map-append
  settle_map e w (Sample x) (Some z) = simp map-append
  settle_map e w (End u) None = refl
  settle_map e w (End u) (Some z) = simp (time_map f, find_map, shares_map f, marks_map f, mark_or_map, keep_end_map f)

  pub commit_one_map : (e : Entry X) (w : Work X) → commit_one (map_entry f e) (map_work w) ≡ map_work (commit_one e w)
  unfolding commit_one
  commit_one_map e w = simp (held_map, length-map, discard_stale_map, what_map f, set_map f, settle_map)

  pub commit_all_map : (l : List (Entry X)) (w : Work X) → commit_all (maps f l) (map_work w) ≡ map_work (commit_all l w)
  unfolding commit_all
  commit_all_map [] w = refl
  commit_all_map (e ∷ l) w = ap (commit_all (maps f l)) (commit_one_map e w) ∙ commit_all_map l (commit_one e w)

  pub commit_map : (t : Turn) (n k : ℕ) (w : Work X) → commit t n k (map_work w) ≡ map_work (commit t n k w)
  unfolding commit map_work
  commit_map t n k w = simp (head_of_map f, keep_map, is_head_map f) (commit_all_map _ _)

  commit_if_map : (b y : Bool) (t : Turn) (n : ℕ) (w : Work X) → commit_if b y t n (map_work w) ≡ map_step (commit_if b y t n w)
  commit_if_map true y t n w = simp commit_map
  commit_if_map false true t n w = refl
  commit_if_map false false t n w = simp (committed_map, commit_map)

  head_step_map : (t : Turn) (w : Work X) (o : Option ℕ) → head_step t (map_work w) o ≡ map_step (head_step t w o)
  head_step_map t w None = refl
  head_step_map t w (Some n) = simp (committed_map, pending_map, ready_map f, find_map, is_head_map f, young_map f, commit_if_map)

  finish_or_map : (b : Bool) (t : Turn) (z : ℤ) (w : Work X) → finish_or b t z (map_work w) ≡ map_step (finish_or b t z w)
  finish_or_map true t z w = refl
  finish_or_map false t z w = simp finish_map

  pub waits_map : (t : Turn) (z : ℤ) (l : List (Entry X)) → waits t z (maps f l) ≡ waits t z l
  unfolding waits
  waits_map t z l = simp (end_missing_map f, find_map, is_member_map f, young_map f)

  end_step_map : (t : Turn) (w : Work X) (o : Option ℤ) → end_step t (map_work w) o ≡ map_step (end_step t w o)
  end_step_map t w None = simp (pending_map, next_map f, head_step_map)
  end_step_map t w (Some z) = simp (held_map, waits_map, finish_or_map)

  pub round_map : (t : Turn) (w : Work X) → round t (map_work w) ≡ map_step (round t w)
  unfolding round
  round_map t w = simp (held_map, lowest_ended_map f, end_step_map)

  or_stop_map : (go : Work Y → Work Y) (go' : Work X → Work X) → ((w : Work X) → go (map_work w) ≡ map_work (go' w))
      → (w : Work X) (o : Option (Work X)) → or_stop go (map_work w) (map_step o) ≡ map_work (or_stop go' w o)
  or_stop_map go go' h w None = refl
  or_stop_map go go' h w (Some v) = h v

  pub rounds_map : (k : ℕ) (t : Turn) (w : Work X) → rounds k t (map_work w) ≡ map_work (rounds k t w)
  unfolding rounds
  rounds_map zero t w = refl
  rounds_map (suc k) t w = ap (or_stop (λ v. rounds k t v) (map_work w)) (round_map t w) ∙ or_stop_map (λ v. rounds k t v) (λ v. rounds k t v) (λ v. rounds_map k t v) w (round t w)

  -- ---- the groups

  pub enough_map : (w : Work X) → enough (map_work w) ≡ enough w
  unfolding enough map_work
  enough_map w = simp length-map

  pub at_group_map : (g : Group) (w : Work X) → at_group g (map_work w) ≡ map_work (at_group g w)
  unfolding at_group map_work
  at_group_map g w = refl

  pub release_group_map : (t : Turn) (g : Group) (w : Work X) → release_group t g (map_work w) ≡ map_work (release_group t g w)
  unfolding release_group
  release_group_map t g w = simp (enough_map, at_group_map, rounds_map)

  -- the groups and the work after a release
  abbrev pub map_done : List Group × Work X → List Group × Work Y
  map_done r = (r.0, map_work r.1)

  pub release_all_map : (t : Group → Turn) (gs : List Group) (w : Work X) → release_all t gs (map_work w) ≡ map_done (release_all t gs w)
  unfolding release_all
  release_all_map t [] w = refl
  release_all_map t (g ∷ gs) w = simp (release_group_map, release_all_map t gs, committed_map)

  pub work_of_map : (s : State X) → work_of (map_state f s) ≡ map_work (work_of s)
  unfolding work_of map_state map_work
  work_of_map s = refl

  pub back_to_map : (s : State X) (r : List Group × Work X) → back_to (map_state f s) (map_done r) ≡ map_state f (back_to s r)
  unfolding back_to map_state map_work
  back_to_map s r = refl

  pub released_map : (s : State X) (v : View) (now : ℕ) → released (map_state f s) v now ≡ map_done (released s v now)
  unfolding released
  released_map s v now = unfold map_state in simp (work_of_map, release_all_map)

  pub samples_map : (s : State X) → samples (map_state f s) ≡ samples s
  unfolding samples map_state
  samples_map s = simp (count_map, is_sample_map f)

  pub release_refusal_map : (s : State X) (v : View) (room : ℕ) → release_refusal (map_state f s) v room ≡ release_refusal s v room
  unfolding release_refusal
  release_refusal_map s v room = simp samples_map

  -- a release's answer and state
  abbrev pub map_answer : Answer (Outcome X) → Answer (Outcome Y)
  map_answer (refused n) = refused n
  map_answer (answered r) = answered (map_outcome r)

  released_if_map : (o : Option ℕ) (s : State X) (v : View) (now : ℕ) → released_if o (map_state f s) v now ≡ (map_answer (released_if o s v now).0, map_state f (released_if o s v now).1)
  released_if_map None s v now = simp (released_map, back_to_map) (unfold map_work in refl)
  released_if_map (Some n) s v now = refl

  pub release_map : (s : State X) (v : View) (now room : ℕ) → release (map_state f s) v now room ≡ (map_answer (release s v now room).0, map_state f (release s v now room).1)
  unfolding release
  release_map s v now room = simp (release_refusal_map, released_if_map)
