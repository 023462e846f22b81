-- Groups released one after the other, as the store holds them.
use Prim.Native.Nat.{ℕ, suc, ◌+◌, ◌≤◌, ◌<◌}
use mathlib.Core.Path.{◌≡◌, refl, sym, ap, subst, ◌∙◌}
use mathlib.Core.Bool.{Bool, true, false, ◌&&◌, ◌||◌, not}
use mathlib.Core.List.{List, [], ◌∷◌, ◌++◌, map, append_assoc, append-nil}
use Rattle.std.specs.Prelude.{Option, Some, None, unwrap_or, slice_set}
use native.Mathlib.Omega.{arith}
use lib.Dec.{leb, ltb}
use lib.ListN.{length, get_or, take, drop}
use borrow.Author.Tests.{leb-true, leb-false, lt-ltb, le-ltb, ltb-false}
use Rattle.std.proofs.Common.{take_all, drop_of_length-le}
use Rattle.std.proofs.lemmas.List.{set-get_or, get_or_default, take_more, length-take, length-take-le, length-append, length-drop}
use Rattle.std.proofs.Math.Seq.{drop-cons, get_or_at, set_at}
use Rattle.laws.specs.Answer.{answered}
use Rattle.laws.specs.Lists.{filter, count}
use Rattle.guids.specs.Guid.{Guid, same_guid}
use Rattle.rules.specs.declared.view.Pair.{Pair}
use Rattle.rules.specs.declared.view.DigestRow.{DigestRow}
use Rattle.rules.proofs.SameRows.{with_counted, rounds_same}
use Rattle.release.specs.Rows.{SameRows}
use Rattle.rules.specs.Entry.{of_group, is_sample}
use Rattle.rules.specs.Offer.{refusal}
use Rattle.rules.specs.Run.{place_of}
use Rattle.rules.specs.declared.entry.Entry.{Entry}
use Rattle.rules.specs.declared.state.Group.{Group}
use Rattle.rules.specs.Commit.{Turn}
use Rattle.rules.specs.Release.{View, Work, enough, round, turn_of, committed_at, at_group, release_group, release_all, work_of, back_to, released, samples, malformed, release_refusal, release}
use Rattle.rules.specs.GroupTurn.{turn_as}
use Rattle.release.specs.OwnTurn.{own_turn, with_own_rows}
use Rattle.rules.specs.declared.turn.GroupTurn.{GroupTurn}
use Rattle.store.specs.Store.{state_of}
use Rattle.store.specs.declared.Store.{Store}
use Rattle.release.specs.Left.{left}
use Rattle.release.specs.GroupReleased.{GroupReleased}
use Rattle.release.specs.Released.{view_of, release_to}
use Rattle.release.specs.GroupSteps.{turn_in, Leaves, GroupStep, Steps, GroupsReleased, ReleasedTo}
use Rattle.laws.proofs.Lists.{keep_same, count_le, count_all}
use Rattle.rules.proofs.Stays.{released_stays}
use Rattle.rules.proofs.Conserve.{stock, OnlySamples, only_samples, released_stock}
use Rattle.release.proofs.Sorted.{Entries}
use Rattle.release.proofs.Repeats.{stuck_released}
use Rattle.release.proofs.Finishing.{placed}

-- ---- one group

module _ (t : GroupTurn) (i : ℕ) (d : Group) (s u : Store) (o p : List ℕ) (r : Option ℕ) where
  group_step : GroupReleased t s.pending.items s.sets o r u.sets p → u.pending.items ≡ left t.group.guid r s.pending.items
      → u.groups.items ≡ slice_set s.groups.items i (committed_at (unwrap_or r t.group.committed) t.group) → (w : Work ℕ) → Leaves s o w → GroupStep i s u p t.group (release_group (turn_as t) t.group w)
  unfolding release_group at_group enough
  group_step f q h w x =
      let e = f (at_group t.group w) (sym x.pending) refl (record { held = x.carries.held; counts = x.carries.counts; out = x.carries.out }) in
      record {
        leaves = record { carries = e.carries; pending = q ∙ sym e.pending };
        groups = h ∙ ap (λ n. slice_set s.groups.items i (committed_at n t.group)) (sym e.committed);
      }

  module _ (cs : List Pair) (same_rows : SameRows (filter (λ q. same_guid t.group.guid q.group) cs) t.counted.now) where
    turn_is : t.writers.now ≡ s.writers.items → t.timeout ≡ s.timeout
        → with_counted (filter (λ q. same_guid t.group.guid q.group) cs) (turn_as t) ≡ turn_in (view_of cs t.digests.now) t.time s t.group
    unfolding turn_of with_counted
    turn_is a b = ap (λ ws. turn_of (view_of cs t.digests.now) t.time t.timeout ws t.group) a ∙ ap (λ k. turn_of (view_of cs t.digests.now) t.time k s.writers.items t.group) b

    -- rows that stand several times change nothing
    alike : t.writers.now ≡ s.writers.items → t.timeout ≡ s.timeout → (w : Work ℕ) → release_group (turn_as t) t.group w ≡ release_group (turn_in (view_of cs t.digests.now) t.time s t.group) t.group w
    unfolding release_group with_counted enough at_group
    alike a b w =
        sym (rounds_same _ t.counted.now same_rows (enough (at_group t.group w)) (turn_as t) (at_group t.group w))
        ∙ ap (λ T. release_group T t.group w) (turn_is a b)

    pub stepped : i < length s.groups.items → t.group ≡ get_or s.groups.items i d → t.writers.now ≡ s.writers.items → t.timeout ≡ s.timeout
        → GroupReleased t s.pending.items s.sets o r u.sets p → u.pending.items ≡ left t.group.guid r s.pending.items
        → u.groups.items ≡ slice_set s.groups.items i (committed_at (unwrap_or r t.group.committed) t.group) → u.writers.items ≡ s.writers.items → u.timeout ≡ s.timeout
        → Steps (view_of cs t.digests.now) t.time i s o u p
    stepped l g ws k f q h a b = record {
      step = λ y e w x.
          let same : t.group ≡ y = g ∙ get_or_default s.groups.items i d y l ∙ e in
          subst (λ z. GroupStep i s u p z (release_group (turn_in (view_of cs t.digests.now) t.time s z) z w)) same
          (subst (λ v. GroupStep i s u p t.group v) (alike ws k w) (group_step f q h w x));
      writers = a;
      timeout = b;
    }

-- a group at which no repetition goes on is left as it is
module _ (t : GroupTurn) (i : ℕ) (d : Group) (s : Store) (o : List ℕ) (l : i < length s.groups.items) (g : t.group ≡ get_or s.groups.items i d) (ws : t.writers.now ≡ s.writers.items) (k : t.timeout ≡ s.timeout)
    (stuck : (w : Work ℕ) → w.pending ≡ s.pending.items → w.held ≡ s.sets.held.items → w.committed ≡ t.group.committed → round (own_turn t) w ≡ None) where
  pub stuck_step : Steps (view_of t.counted.now t.digests.now) t.time i s o s o
  unfolding committed_at
  stuck_step =
      let same : s.groups.items ≡ slice_set s.groups.items i t.group = sym (ap (λ y. slice_set s.groups.items i y) g ∙ set-get_or s.groups.items i d) in
      stepped (with_own_rows t) i d s s o o None t.counted.now (λ q. refl) l g ws k (stuck_released (with_own_rows t) s.pending.items s.sets o stuck) refl same refl refl

up_to : (o : Bool) (n k : ℕ) → not o || ltb n k ≡ not (o && leb k n)
up_to false n k = refl
up_to true n k = (elim (leb k n) as (λ b. leb k n ≡ b → ltb n k ≡ not b) [ true ↦ λ e. le-ltb n k (leb-true k n e) | false ↦ λ e. lt-ltb n k (leb-false k n e) ]) refl

pub left_above : (g : Guid) (n : ℕ) (ps : Entries) → filter (λ e. not (of_group g e) || ltb n e.number) ps ≡ left g (Some n) ps
left_above g n ps = keep_same (λ e. not (of_group g e) || ltb n e.number) (λ e. not (of_group g e && leb e.number n)) (λ e. up_to (of_group g e) n e.number) ps

pub fits_count : (q : Entry ℕ → Bool) (l : Entries) (a b : ℕ) → a + b + length l ≤ 256 → a + b + count q l ≤ 256
fits_count q l a b h = omega (arith, count_le q l, h)

-- ---- groups one after the other

module _ (t : Group → Turn) where
  released_length : (gs : List Group) (w : Work ℕ) → length (release_all t gs w).0 ≡ length gs
  unfolding release_all
  released_length [] w = refl
  released_length (g ∷ gs) w = ap (λ n. suc n) (released_length gs (release_group (t g) g w))

  released_last : (gs : List Group) (g : Group) (w : Work ℕ)
      → release_all t (gs ++ (g ∷ [])) w
      ≡ ((release_all t gs w).0 ++ (committed_at (release_group (t g) g (release_all t gs w).1).committed g ∷ []), release_group (t g) g (release_all t gs w).1)
  unfolding release_all
  released_last [] g w = refl
  released_last (x ∷ gs) g w =
      let v : Work ℕ = release_group (t x) x w in
      ap (λ r. (committed_at v.committed x ∷ r.0, r.1)) (released_last gs g v)

module _ (v : View) (now : ℕ) (s : Store) where
  abbrev gs : List Group
  gs = s.groups.items

  abbrev turns : Group → Turn
  turns g = turn_in v now s g

  abbrev upto : ℕ → List Group × Work ℕ
  upto i = release_all turns (take i gs) (work_of (state_of s))

  pub released_none : ReleasedTo v now 0 s s []
  unfolding release_all work_of
  released_none = record { leaves = record { carries = record { held = refl; counts = refl; out = refl }; pending = refl }; groups = refl; writers = refl; timeout = refl }

  module _ (i : ℕ) (d : Group) (u x : Store) (p q : List ℕ) (h : i < length s.groups.items) (r : ReleasedTo v now i s u p) (n : Steps v now i u p x q) where
    abbrev g : Group
    g = get_or gs i d

    abbrev left_work : Work ℕ
    left_work = release_group (turns g) g (upto i).1

    long : length (upto i).0 ≡ i
    long = released_length turns (take i gs) (work_of (state_of s)) ∙ length-take-le i gs (omega (arith, h))

    here : u.groups.items ≡ (upto i).0 ++ g ∷ drop (suc i) gs
    here = r.groups ∙ ap (λ l. (upto i).0 ++ l) (drop-cons gs i d h)

    next : upto (i + 1) ≡ ((upto i).0 ++ (committed_at left_work.committed g ∷ []), left_work)
    next = ap (λ l. release_all turns l (work_of (state_of s))) (take_more gs i d h) ∙ released_last turns (take i gs) g (work_of (state_of s))

    same_turn : turn_in v now u g ≡ turns g
    same_turn = ap (λ ws. turn_of v now u.timeout ws g) r.writers ∙ ap (λ k. turn_of v now k s.writers.items g) r.timeout

    at_end : GroupStep i u x q g left_work
    at_end = subst (λ T. GroupStep i u x q g (release_group T g (upto i).1)) same_turn (n.step g (ap (λ l. get_or l i g) here ∙ get_or_at (upto i).0 g (drop (suc i) gs) g i long) (upto i).1 r.leaves)

    pub released_more : ReleasedTo v now (i + 1) s x q
    released_more =
        let m : i + 1 ≡ suc i = omega arith in
        let f : GroupsReleased (i + 1) s x q ((upto i).0 ++ (committed_at left_work.committed g ∷ []), left_work) = record {
          leaves = at_end.leaves;
          groups =
              at_end.groups
              ∙ ap (λ l. slice_set l i (committed_at left_work.committed g)) here
              ∙ set_at (upto i).0 g (drop (suc i) gs) (committed_at left_work.committed g) i long
              ∙ sym (append_assoc (upto i).0 (committed_at left_work.committed g ∷ []) (drop (suc i) gs))
              ∙ ap (λ k. ((upto i).0 ++ (committed_at left_work.committed g ∷ [])) ++ drop k gs) (sym m);
          writers = n.writers ∙ r.writers;
          timeout = n.timeout ∙ r.timeout;
        } in
        subst (λ a. GroupsReleased (i + 1) s x q a) (sym next) f

  pub same_count : (i : ℕ) (u : Store) (p : List ℕ) → ReleasedTo v now i s u p → length u.groups.items ≡ length s.groups.items
  same_count i u p r =
      omega (arith, ap length r.groups, length-append (upto i).0 (drop i gs), length-drop i gs, released_length turns (take i gs) (work_of (state_of s)), length-take i gs)

  pub still_within : (i : ℕ) (u : Store) (p : List ℕ) → i < length s.groups.items → ReleasedTo v now i s u p → i < length u.groups.items
  still_within i u p h r = omega (arith, same_count i u p r, h)

  -- ---- all of them

  module _ (i : ℕ) (u : Store) (p : List ℕ) (e : i ≡ length s.groups.items) (r : ReleasedTo v now i s u p) where
    abbrev done : List Group × Work ℕ
    done = released (state_of s) v now

    all : GroupsReleased i s u p done
    unfolding released
    all = subst (λ l. GroupsReleased i s u p (release_all turns l (work_of (state_of s)))) (take_all i gs (omega (arith, e))) r

    pub state_left : state_of u ≡ back_to (state_of s) done
    unfolding back_to
    state_left =
        let a : u.groups.items ≡ done.0 = all.groups ∙ ap (λ l. done.0 ++ l) (drop_of_length-le gs {i = i} (omega (arith, e))) ∙ append-nil done.0 in
        λ j. record { groups = a j; writers = all.writers j; pending = all.leaves.pending j; held = all.leaves.carries.held j; counts = all.leaves.carries.counts j; timeout = all.timeout j }

    pub places_are : p ≡ map (λ e. place_of e) done.1.out
    places_are = all.leaves.carries.out

    pub places_fit : length p ≤ samples (state_of s)
    unfolding samples stock OnlySamples work_of
    places_fit =
        let n = released_stock (λ e. is_sample e) (λ e h. h) (state_of s) v now in
        let o : OnlySamples [] (released (state_of s) v now).1 = released_stays (λ l w. OnlySamples l w) only_samples (state_of s) v now (refl, refl) in
        omega (arith, n, count_all (λ e. is_sample e) done.1.out o.0, ap length places_are, placed done.1.out)

    pub answers : (l : List ℕ) → malformed v ≡ false → samples (state_of s) ≤ length l → (answered (length p), state_of u, p ++ drop (length p) l) ≡ release_to (state_of s) v now l
    unfolding release_to release release_refusal refusal
    answers l m k =
        let n : length p ≡ length done.1.out = ap length places_are ∙ placed done.1.out in
        rw (m, le-ltb (length l) (samples (state_of s)) k) (ap (λ a. (answered a, state_of u, p ++ drop a l)) n ∙ ap (λ a. (answered (length done.1.out), a, p ++ drop (length done.1.out) l)) state_left ∙ ap (λ a. (answered (length done.1.out), back_to (state_of s) done, a ++ drop (length done.1.out) l)) places_are)

neither : (a b : Bool) → a || b ≡ false → a ≡ false
neither true b e = e
neither false b e = refl

-- rows that are not malformed are at most 256
pub few_counted : (ps : List Pair) (ds : List DigestRow) → malformed (view_of ps ds) ≡ false → length ps ≤ 256
unfolding malformed
few_counted ps ds e = ltb-false 256 (length ps) (neither _ _ (neither _ _ (neither _ _ e)))
