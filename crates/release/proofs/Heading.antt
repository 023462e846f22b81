-- The lowest pending number of a group committed: what the repetition makes of the work, and what is left in order.
use Prim.Native.Nat.{ℕ, suc, ◌+◌, ◌-◌, ◌≤◌}
use mathlib.Core.Path.{◌≡◌, refl, sym, ap, subst, ◌∙◌}
use mathlib.Core.Bool.{Bool, true, false, ◌&&◌, ◌||◌, not}
use mathlib.Core.List.{List, [], ◌∷◌, ◌++◌}
use Rattle.std.specs.Prelude.{Option, Some, None, slice_get, unwrap_or}
use native.Mathlib.Omega.{arith}
use lib.IntN.{ℤ}
use lib.Dec.{leb, eqb, ltb}
use lib.ListN.{length, get_or, take, drop}
use Rattle.laws.specs.Lists.{filter, list_all, count}
use Rattle.guids.specs.Guid.{Guid}
use Rattle.rules.specs.Entry.{of_group}
use Rattle.rules.specs.declared.entry.Entry.{Entry}
use Rattle.rules.specs.declared.entry.What.{What}
use Rattle.rules.specs.declared.entry.What.TheVariants.{Sample, End}
use Rattle.rules.specs.Sets.{lowest_ended}
use Rattle.rules.specs.Commit.{ruled_out, ready, next, is_head, head_of, copies_arrived}
use Rattle.rules.specs.Release.{Work, skip, young, discard, discard_stale, with_held, with_out, settle, commit_one, commit_all, commit, commit_if, round}
use Rattle.rules.specs.GroupTurn.{turn_as}
use Rattle.rules.specs.declared.turn.GroupTurn.{GroupTurn}
use Rattle.sets.specs.declared.Sets.{Sets}
use Rattle.sets.specs.Works.{Goes}
use Rattle.ready.specs.Places.{entries_at}
use Rattle.release.specs.Order.{by_number, AllBelow, Lists}
use Rattle.release.specs.Left.{left}
use Rattle.release.specs.Known.{Known}
use Rattle.release.specs.GroupReleased.{Ended}
use Rattle.release.specs.Progress.{Stands}
use Rattle.release.specs.declared.group.Progress.{Progress}
use Rattle.release.specs.declared.commit.Memory.{Memory}
use Rattle.laws.proofs.Lists.{all_kept, all_keep, not_both, length_split, count_keep}
use Rattle.rules.proofs.Turns.{stale_keeps, taken}
use Rattle.rules.proofs.Fuel.{settle_pending, stale_pending}
use Rattle.release.proofs.Sorted.{Entries, blank, first_is, front_is, back_is, length_sorted}
use Rattle.release.proofs.Heads.{own, entries_split, entries_cons, entries_length, below_head, below_drop, next_first, head_of_own, own_left, left_next}
use Rattle.release.proofs.Repeats.{round_empty, round_head}

-- ---- commits leave the pending entries and the committed number

settle_committed : (e : Entry ℕ) (w : Work ℕ) (x : What ℕ) (s : Option ℤ) → (settle e w x s).committed ≡ w.committed
unfolding with_held with_out
settle_committed e w (Sample x) None = refl
settle_committed e w (Sample x) (Some z) = refl
settle_committed e w (End u) None = refl
settle_committed e w (End u) (Some z) = refl

stale_committed : (e : Entry ℕ) (k : ℕ) (w : Work ℕ) → (discard_stale k e w).committed ≡ w.committed
unfolding discard
stale_committed e k w = stale_keeps (λ v. v.committed ≡ w.committed) e (λ z v h. h) k w refl

commits_stay : (l : Entries) (w : Work ℕ) → ((commit_all l w).pending ≡ w.pending) × ((commit_all l w).committed ≡ w.committed)
unfolding commit_all commit_one
commits_stay [] w = (refl, refl)
commits_stay (e ∷ l) w =
    let k = length w.held in
    let v : Work ℕ = discard_stale (length w.held) e w in
    let r = commits_stay l (settle e v e.what e.set) in
    (r.0 ∙ settle_pending e v e.what e.set ∙ stale_pending e (length w.held) w, r.1 ∙ settle_committed e v e.what e.set ∙ stale_committed e (length w.held) w)

-- ---- the first place

nothing : (l : List ℕ) → slice_get l 0 ≡ None → l ≡ []
nothing [] h = refl
nothing (i ∷ l) h = cc

first_at : (ps : Entries) (is : List ℕ) (i : ℕ) → AllBelow (length ps) is → slice_get is 0 ≡ Some i → slice_get (entries_at ps is) 0 ≡ Some (get_or ps i blank)
first_at ps [] i b h = cc
first_at ps (j ∷ is) i b h =
    let e : j ≡ i = cc in
    ap (λ l. slice_get l 0) (entries_cons ps j is blank (below_head ps (length ps) j is b)) ∙ ap (λ k. Some (get_or ps k blank)) e

module _ (t : GroupTurn) (ps : Entries) (k : Progress) (s : Sets) (st : Stands t ps k s) (q : lowest_ended t.group.guid s.held.items ≡ None) (o : List ℕ) where
  abbrev pub rest : Entries
  rest = left t.group.guid k.last ps

  abbrev pub listed : Entries
  listed = by_number (own (turn_as t) rest)

  none_ended : (v : Work ℕ) → Ended t ps k.last s o v → lowest_ended t.group.guid v.held ≡ None
  none_ended v x = ap (lowest_ended t.group.guid) (sym x.carries.held) ∙ q

  pub head_none : slice_get k.rest.now 0 ≡ None → (v : Work ℕ) → Ended t ps k.last s o v → round (turn_as t) v ≡ None
  head_none e v x =
      let f : slice_get listed 0 ≡ None = ap (λ l. slice_get l 0) (sym st.listed.entries) ∙ ap (λ l. slice_get (entries_at ps l) 0) (nothing k.rest.now e) in
      round_empty (turn_as t) v (none_ended v x) (ap (λ l. slice_get (by_number (own (turn_as t) l)) 0) x.pending ∙ f)

  module _ (i : ℕ) (f : slice_get k.rest.now 0 ≡ Some i) where
    abbrev pub head : Entry ℕ
    head = get_or ps i blank

    first : slice_get listed 0 ≡ Some head
    first = ap (λ l. slice_get l 0) (sym st.listed.entries) ∙ first_at ps k.rest.now i st.listed.within f

    module _ (a b : List ℕ) (m : ℕ) (front : a ≡ take m k.rest.now) (back : b ≡ drop m k.rest.now) (at_front : list_all (λ e. eqb head.number e.number) (entries_at ps (take m k.rest.now)) ≡ true)
        (behind_front : (e : Entry ℕ) → slice_get (entries_at ps (drop m k.rest.now)) 0 ≡ Some e → eqb head.number e.number ≡ false) where
      heads : list_all (λ e. eqb head.number e.number) (entries_at ps a) ≡ true
      heads = ap (λ l. list_all (λ e. eqb head.number e.number) (entries_at ps l)) front ∙ at_front

      other : (e : Entry ℕ) → slice_get (entries_at ps b) 0 ≡ Some e → eqb head.number e.number ≡ false
      other e h = behind_front e (ap (λ l. slice_get (entries_at ps l) 0) (sym back) ∙ h)

      both : entries_at ps a ++ entries_at ps b ≡ listed
      both = ap (λ l. entries_at ps l ++ entries_at ps b) front ∙ ap (λ l. entries_at ps (take m k.rest.now) ++ entries_at ps l) back ∙ entries_split ps m k.rest.now ∙ st.listed.entries

      heads_are : head_of (turn_as t) head.number rest ≡ entries_at ps a
      heads_are = head_of_own (turn_as t) rest head.number ∙ front_is head.number (own (turn_as t) rest) (entries_at ps a) (entries_at ps b) both (first_is (own (turn_as t) rest) head first).0 heads other

      next_is : next (turn_as t) rest ≡ Some head.number
      next_is = next_first (turn_as t) rest head first

      -- what is left, in order
      pub left_listed : Lists ps (by_number (own (turn_as t) (left t.group.guid (Some head.number) ps))) b
      left_listed = record {
        entries =
            sym (back_is head.number (own (turn_as t) rest) (entries_at ps a) (entries_at ps b) both (first_is (own (turn_as t) rest) head first).0 heads other)
            ∙ ap by_number (sym (own_left (turn_as t) rest head.number))
            ∙ ap (λ l. by_number (own (turn_as t) l)) (left_next (turn_as t) k.last ps head.number next_is);
        within = subst (λ l. AllBelow (length ps) l) (sym back) (below_drop ps (length ps) m k.rest.now st.listed.within);
      }

      pub heads_own : list_all (λ e. of_group t.group.guid e) (entries_at ps a) ≡ true
      unfolding head_of
      heads_own =
          subst (λ l. list_all (λ e. of_group t.group.guid e) l ≡ true) (sym (head_of_own (turn_as t) rest head.number) ∙ heads_are)
          (all_keep (λ e. of_group t.group.guid e) (λ e. eqb head.number e.number) (own (turn_as t) rest) (all_kept (λ e. of_group t.group.guid e) rest))

      module _ (v : Work ℕ) (x : Ended t ps k.last s o v) where
        abbrev pub committed : ℕ
        committed = unwrap_or k.last t.group.committed

        abbrev pub is_ready : Bool
        is_ready = (eqb head.number (suc committed) || ruled_out (turn_as t) committed head.number) && copies_arrived (turn_as t) head.number (entries_at ps a)

        ready_is : ready (turn_as t) v.committed head.number v.pending ≡ is_ready
        unfolding ready
        ready_is =
            ap (λ c. (eqb head.number (suc c) || ruled_out (turn_as t) c head.number) && copies_arrived (turn_as t) head.number (head_of (turn_as t) head.number v.pending)) x.committed
            ∙ ap (λ l. (eqb head.number (suc committed) || ruled_out (turn_as t) committed head.number) && copies_arrived (turn_as t) head.number (head_of (turn_as t) head.number l)) x.pending
            ∙ ap (λ l. (eqb head.number (suc committed) || ruled_out (turn_as t) committed head.number) && copies_arrived (turn_as t) head.number l) heads_are

        round_is : round (turn_as t) v ≡ commit_if is_ready (ltb (t.time - head.time) t.timeout) (turn_as t) head.number v
        unfolding young
        round_is =
            round_head (turn_as t) v (none_ended v x) head (ap (λ l. slice_get (by_number (own (turn_as t) l)) 0) x.pending ∙ first)
            ∙ ap (λ r. commit_if r (ltb (t.time - head.time) t.timeout) (turn_as t) head.number v) ready_is

        pub head_waits : is_ready ≡ false → ltb (t.time - head.time) t.timeout ≡ true → round (turn_as t) v ≡ None
        head_waits r y = round_is ∙ rw (r, y)

        module _ (u : Sets) (p : List ℕ) (j : ℕ) (c : Sets) (same : c.held.items ≡ s.held.items) (counted : c.counts ≡ skip j s.counts) (goes : Goes (λ w. commit_all (entries_at ps a) w) c o u p) where
          behind : Ended t ps (Some head.number) u p (commit (turn_as t) head.number j v)
          unfolding commit
          behind =
              let w : Work ℕ = taken (turn_as t) head.number j v in
              let l : head_of (turn_as t) head.number v.pending ≡ entries_at ps a = ap (head_of (turn_as t) head.number) x.pending ∙ heads_are in
              subst (λ es. Ended t ps (Some head.number) u p (commit_all es (taken (turn_as t) head.number j v))) (sym l)
              (record {
                carries = goes (taken (turn_as t) head.number j v) (record { held = same ∙ x.carries.held; counts = counted ∙ ap (skip j) x.carries.counts; out = x.carries.out });
                committed = (commits_stay (entries_at ps a) (taken (turn_as t) head.number j v)).1;
                pending = (commits_stay (entries_at ps a) (taken (turn_as t) head.number j v)).0 ∙ ap (filter (λ e. not (is_head (turn_as t) head.number e))) x.pending ∙ left_next (turn_as t) k.last ps head.number next_is;
              })

          pub head_ready : is_ready ≡ true → j ≡ 0 → (y : Work ℕ) × (round (turn_as t) v ≡ Some y) × Ended t ps (Some head.number) u p y
          head_ready r e = (commit (turn_as t) head.number j v, round_is ∙ rw (r, e), behind)

          pub head_old : is_ready ≡ false → ltb (t.time - head.time) t.timeout ≡ false → j ≡ head.number - suc committed → (y : Work ℕ) × (round (turn_as t) v ≡ Some y) × Ended t ps (Some head.number) u p y
          head_old r y e = (commit (turn_as t) head.number j v, round_is ∙ rw (r, y, e, x.committed), behind)

-- ---- how many are left

pub listed_length : (ps l : Entries) (is : List ℕ) → Lists ps (by_number l) is → length is ≡ length l
listed_length ps l is h = sym (entries_length ps is h.within) ∙ ap length h.entries ∙ length_sorted l

left_length : (g : Guid) (r : Option ℕ) (ps : Entries) → length (left g r ps) + count (λ e. of_group g e) ps ≤ length (filter (λ e. of_group g e) (left g r ps)) + length ps
unfolding count
left_length g None ps = omega arith
left_length g (Some n) ps =
    let p : Entry ℕ → Bool = λ e. not (of_group g e && leb e.number n) in
    omega (arith, length_split (λ e. of_group g e) (left g (Some n) ps), length_split (λ e. of_group g e) ps, count_keep (λ e. not (of_group g e && leb e.number n)) (λ e. not (of_group g e)) ps)

pub left_room : (t : GroupTurn) (ps : Entries) (k : Progress) (s : Sets) → Stands t ps k s → length (left t.group.guid k.last ps) + count (λ e. of_group t.group.guid e) ps ≤ length k.rest.now + length ps
left_room t ps k s h = omega (arith, listed_length ps (own (turn_as t) (left t.group.guid k.last ps)) k.rest.now h.listed, left_length t.group.guid k.last ps)

pub known_nothing : (g : Guid) (m : Memory) (l : Entries) → m.quiet ≡ false → m.clean ≡ false → Known g m l
known_nothing g m l q c = record { ended = λ h. not_both m.quiet h q; stale = λ h e o p. not_both m.clean h c }
