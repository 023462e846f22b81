-- A release of all groups is alike on both sides.
use Prim.Native.Nat.{ℕ, ◌+◌, ◌*◌, ◌≤◌}
use mathlib.Core.Path.{◌≡◌, refl, sym, ap, ◌∙◌, subst}
use mathlib.Core.Bool.{Bool, true, false, ◌&&◌, not, cond}
use mathlib.Core.List.{List, [], ◌∷◌, map}
use Rattle.std.specs.Prelude.{Option, Some, None}
use native.Mathlib.Omega.{arith}
use lib.IntN.{ℤ, pos}
use lib.ListN.{length}
use Rattle.laws.specs.Lists.{filter, list_all, count, is_some}
use Rattle.guids.specs.Guid.{Guid, same_guid}
use Rattle.rules.specs.Entry.{of_group, in_set}
use Rattle.rules.specs.declared.entry.Entry.{Entry}
use Rattle.rules.specs.State.{State, is_group}
use Rattle.rules.specs.declared.state.Group.{Group}
use Rattle.rules.specs.declared.state.Writer.{Writer}
use Rattle.rules.specs.Marks.{number}
use Rattle.rules.specs.Commit.{Turn}
use Rattle.rules.specs.Release.{Work, View, turn_of, committed_at, round, rounds, enough, at_group, release_all, work_of, back_to, released}
use Rattle.rules.specs.Release as R
use Rattle.laws.proofs.Lists.{and_true, not_both, and_left, and_right, all_imp, all_map, keep_under, count_all, all_yes, true_or_false, none_some}
use Rattle.guids.proofs.Guids.{same_eq, same_refl}
use Rattle.rules.proofs.Frame.{frame, group_fewer}
use Rattle.rules.proofs.Fuel.{more, stops as never_on}
use Rattle.source_model.specs.Claim.{cut_counts, each_returns}
use Rattle.source_model.specs.Map.{guids, or_default, get, ascends}
use Rattle.rules.specs.declared.state.ReleaseCounts.{ReleaseCounts}
use Rattle.source_model.specs.Source.{Loop, GroupOrder, no_group, release_group, release_each, release}
use Rattle.source_model.specs.Source as S
use Rattle.source_model.specs.Calls.{view_of, handed}
use Rattle.source_model.proofs.Maps.{guids_lawful, get_past, get_found, get_above}
use Rattle.source_model.proofs.Like.{is_at, is_fresh, GroupLike, Like, flat}
use Rattle.source_model.proofs.Commits.{LoopLike}
use Rattle.source_model.proofs.Rounds.{rounds_like, turn_like, StepLike, stops, goes}

-- ---- likeness of a group asks of its own entries alone

module _ {X : Type 0} where
  at_own : (h : Guid) (n : ℤ) (e : Entry X) → is_at h n e ≡ true → of_group h e ≡ true
  unfolding is_at
  at_own h n e d = and_left (of_group h e) _ d

  in_own : (h : Guid) (z : ℤ) (e : Entry X) → in_set h z e ≡ true → of_group h e ≡ true
  unfolding in_set
  in_own h z e d = and_left (of_group h e) _ d

  part : (h : Guid) (p : Entry X → Bool) → ((e : Entry X) → p e ≡ true → of_group h e ≡ true) → (l k : List (Entry X)) → filter (λ e. of_group h e) l ≡ filter (λ e. of_group h e) k → filter p l ≡ filter p k
  part h p f l k d = sym (keep_under (λ e. of_group h e) p f l) ∙ ap (λ r. filter p r) d ∙ keep_under (λ e. of_group h e) p f k

  pub like_part : (h : Guid) (m : S.Group X) (ws : List Writer) (ps hs ps2 hs2 : List (Entry X)) → filter (λ e. of_group h e) ps2 ≡ filter (λ e. of_group h e) ps → filter (λ e. of_group h e) hs2 ≡ filter (λ e. of_group h e) hs
      → GroupLike h m ws ps hs → GroupLike h m ws ps2 hs2
  like_part h m ws ps hs ps2 hs2 a b l = record {
    committed = l.committed;
    announced = l.announced;
    writers = l.writers;
    pending = record {
      at = λ n. rw (part h (λ e. is_at h n e) (λ e d. at_own h n e d) ps2 ps a) (l.pending.at n);
      ascend = l.pending.ascend;
    };
    sets = record {
      at = λ z. rw (part h (λ e. in_set h z e) (λ e d. in_own h z e d) hs2 hs b) (l.sets.at z);
      ascend = l.sets.ascend;
    };
  }

-- ---- the groups in their order

module _ {X : Type 0} where
  ascends_keys : (l k : List (Guid × S.Group X)) → map (λ x. x.0) l ≡ map (λ x. x.0) k → ascends guids l ≡ ascends guids k
  unfolding ascends
  ascends_keys [] [] e = refl
  ascends_keys [] (y ∷ k) e = cc
  ascends_keys (x ∷ l) [] e = cc
  ascends_keys (x ∷ l) (y ∷ k) e =
      let d : x.0 ≡ y.0 = cc in
      let f : map (λ x. x.0) l ≡ map (λ x. x.0) k = cc in
      ap (λ g. list_all (λ z. guids.less g z.0) l && ascends guids l) d ∙ ap (λ b. b && ascends guids l) (sym (all_map (λ g. guids.less y.0 g) (λ x. x.0) l) ∙ ap (λ r. list_all (λ g. guids.less y.0 g) r) f ∙ all_map (λ g. guids.less y.0 g) (λ x. x.0) k) ∙ ap (λ b. list_all (λ z. guids.less y.0 z.0) k && b) (ascends_keys l k f)

  keys_same : (turns : ℕ) (v : S.GroupView) (now timeout : ℕ) (m : List (Guid × S.Group X)) (out : List (ℕ × X)) (c : ReleaseCounts) → map (λ x. x.0) (release_each turns v now timeout m out c).0 ≡ map (λ x. x.0) m
  unfolding release_each
  keys_same turns v now timeout [] out c = refl
  keys_same turns v now timeout (x ∷ m) out c =
      let l : Loop X = release_group x.0 v now timeout turns (record { group = x.1; out = out; counts = c }) in
      ap (λ r. x.0 ∷ r) (keys_same turns v now timeout m l.out l.counts)

  -- a work that stands for what the model has so far
  pub record EachLike (ws : List Writer) (m : List (Guid × S.Group X)) (out : List (ℕ × X)) (c : ReleaseCounts) (w : Work X) : Type 0 where
    pub each : (h : Guid) → is_some (get guids h m) ≡ true → GroupLike h (or_default no_group (get guids h m)) ws w.pending w.held
    pub plain : list_all (λ e. is_fresh e) w.pending ≡ true
    pub held_sets : list_all (λ h. is_some h.set) w.held ≡ true
    pub out_same : out ≡ handed w.out
    pub counts : w.counts ≡ cut_counts c

  begin_like : (ws : List Writer) (x : Guid × S.Group X) (out : List (ℕ × X)) (c : ReleaseCounts) (w : Work X) → GroupLike x.0 x.1 ws w.pending w.held
      → list_all (λ e. is_fresh e) w.pending ≡ true → list_all (λ h. is_some h.set) w.held ≡ true → out ≡ handed w.out → w.counts ≡ cut_counts c
      → LoopLike (flat x).guid ws (flat x).announced (record { group = x.1; out = out; counts = c }) (at_group (flat x) w)
  unfolding flat at_group
  begin_like ws x out c w l p hs d e = record {
    committed = l.committed;
    announced = l.announced;
    writers = l.writers;
    pending = l.pending;
    sets = l.sets;
    plain = p;
    held_sets = hs;
    out = d;
    counts = e;
  }

  after_like : (ws : List Writer) (x : Guid × S.Group X) (lp : Loop X) (w : Work X) → LoopLike (flat x).guid ws (flat x).announced lp w → GroupLike x.0 lp.group ws w.pending w.held
  unfolding flat number
  after_like ws x lp w l = record {
    committed = l.committed ∙ ap (λ z. pos (number z)) (sym l.committed);
    announced = l.announced ∙ ap (λ z. pos (number z)) (sym l.announced);
    writers = l.writers;
    pending = l.pending;
    sets = l.sets;
  }

  flat_after : (ws : List Writer) (x : Guid × S.Group X) (lp : Loop X) (w : Work X) → LoopLike (flat x).guid ws (flat x).announced lp w → committed_at w.committed (flat x) ≡ flat (x.0, lp.group)
  unfolding flat number committed_at
  flat_after ws x lp w l =
      ap (λ n. record { guid = x.0; committed = n; announced = number x.1.current_gsn }) (sym (ap number l.committed))
      ∙ ap (λ n. record { guid = x.0; committed = number lp.group.committed; announced = n }) (sym (ap number l.announced))

  size_of : (l : List (Entry X)) → count (λ e. true) l ≡ length l
  size_of l = count_all (λ e. true) l (all_yes l)

  enough_of : (n turns : ℕ) (g : Group) (w : Work X) → length w.pending + length w.held ≤ n → 2 * n + 1 ≤ turns → enough (at_group g w) ≤ turns
  unfolding enough at_group
  enough_of n turns g w h k = omega arith

  group_size : (n : ℕ) (t : Turn) (g : Group) (w : Work X) → length w.pending + length w.held ≤ n → length (R.release_group t g w).pending + length (R.release_group t g w).held ≤ n
  group_size n t g w h =
      omega (arith, group_fewer (λ e. true) (λ e. true) (λ e h. refl) (λ m e h. refl) t g w, size_of w.pending, size_of w.held, size_of (R.release_group t g w).pending, size_of (R.release_group t g w).held)

  enough_at : (g : Group) (w : Work X) → enough (at_group g w) ≡ enough w
  unfolding enough at_group
  enough_at g w = refl

  skip_first : (x : Guid × S.Group X) (m : List (Guid × S.Group X)) (h : Guid) → same_guid h x.0 ≡ false → get guids h (x ∷ m) ≡ get guids h m
  unfolding guids
  skip_first x m h d = get_past guids_lawful h x m d

  not_first : (x : Guid × S.Group X) (m : List (Guid × S.Group X)) (h : Guid) → ascends guids (x ∷ m) ≡ true → is_some (get guids h m) ≡ true → same_guid h x.0 ≡ false
  unfolding ascends is_some guids
  not_first x m h a s =
      true_or_false (same_guid h x.0) (λ d. not_both (is_some (get guids h m)) s (ap is_some (ap (λ k. get guids k m) (same_eq h x.0 d) ∙ get_above guids_lawful x.0 m (and_left (list_all (λ y. guids.less x.0 y.0) m) _ a))))

  only_first : (h : Guid) (x : Guid × S.Group X) → same_guid h x.0 ≡ false → list_all (λ y. not (is_group h y)) (flat x ∷ []) ≡ true
  unfolding is_group flat
  only_first h x d = rw d

  one_pending : (t : Group → Turn) (g : Group) (w : Work X) (h : Guid)
      → (filter (λ e. of_group h e) (release_all t (g ∷ []) w).1.pending ≡ filter (λ e. of_group h e) w.pending) × (filter (λ e. of_group h e) (release_all t (g ∷ []) w).1.held ≡ filter (λ e. of_group h e) w.held)
      → filter (λ e. of_group h e) (R.release_group (t g) g w).pending ≡ filter (λ e. of_group h e) w.pending
  unfolding release_all
  one_pending t g w h f = f.0

  one_held : (t : Group → Turn) (g : Group) (w : Work X) (h : Guid)
      → (filter (λ e. of_group h e) (release_all t (g ∷ []) w).1.pending ≡ filter (λ e. of_group h e) w.pending) × (filter (λ e. of_group h e) (release_all t (g ∷ []) w).1.held ≡ filter (λ e. of_group h e) w.held)
      → filter (λ e. of_group h e) (R.release_group (t g) g w).held ≡ filter (λ e. of_group h e) w.held
  unfolding release_all
  one_held t g w h f = f.1

module _ {X : Type 0} where
  here : (x : Guid × S.Group X) (m : List (Guid × S.Group X)) → get guids x.0 (x ∷ m) ≡ Some x.1
  unfolding guids
  here x m = get_found guids_lawful x.0 x m (same_refl x.0)

  is_there : (x : Guid × S.Group X) (m : List (Guid × S.Group X)) → is_some (get guids x.0 (x ∷ m)) ≡ true
  unfolding is_some
  is_there x m = ap is_some (here x m)

  rest_ascends : (x : Guid × S.Group X) (m : List (Guid × S.Group X)) → ascends guids (x ∷ m) ≡ true → ascends guids m ≡ true
  unfolding ascends
  rest_ascends x m a = and_right (list_all (λ y. guids.less x.0 y.0) m) _ a

  none_first : (x : Guid × S.Group X) (m : List (Guid × S.Group X)) → ascends guids (x ∷ m) ≡ true → list_all (λ y. not (is_group x.0 y)) (map (λ x. flat x) m) ≡ true
  unfolding ascends is_group flat guids
  none_first x m a =
      all_map (λ y. not (is_group x.0 y)) (λ x. flat x) m
      ∙ all_imp (λ y. guids.less x.0 y.0) (λ y. not (same_guid x.0 y.0)) (λ y h. ap not (guids_lawful.less_apart x.0 y.0 h)) m (and_left (list_all (λ y. guids.less x.0 y.0) m) _ a)

module _ (X : Type 0) (v : View) (now timeout : ℕ) (ws : List Writer) (turns n : ℕ) (fuel : 2 * n + 1 ≤ turns) where
  abbrev pub T : Group → Turn
  T g = turn_of v now timeout ws g

  T-guid : (x : Group) → (T x).guid ≡ x.guid
  unfolding turn_of
  T-guid x = refl

  unfoldable pub loop_of : (x : Guid × S.Group X) (out : List (ℕ × X)) (c : ReleaseCounts) → Loop X
  loop_of x out c = release_group x.0 (view_of v) now timeout turns (record { group = x.1; out = out; counts = c })

  one_group : (x : Guid × S.Group X) (out : List (ℕ × X)) (c : ReleaseCounts) (w : Work X) → length w.pending + length w.held ≤ n
      → LoopLike (flat x).guid ws (flat x).announced (record { group = x.1; out = out; counts = c }) (at_group (flat x) w)
      → LoopLike (flat x).guid ws (flat x).announced (loop_of x out c) (R.release_group (T (flat x)) (flat x) w)
  unfolding flat loop_of R.release_group
  one_group x out c w h l =
      subst (λ (u : Work X). LoopLike (flat x).guid ws (flat x).announced (loop_of x out c) u)
      (more (T (flat x)) (at_group (flat x) w) turns (enough_of n turns (flat x) w h fuel) ∙ ap (λ k. rounds k (T (flat x)) (at_group (flat x) w)) (enough_at (flat x) w))
      (rounds_like X v now timeout ws (flat x) turns (record { group = x.1; out = out; counts = c }) (at_group (flat x) w) l)

  -- the work after the first group stands for the rest
  rest_like : (x : Guid × S.Group X) (m : List (Guid × S.Group X)) (out : List (ℕ × X)) (c : ReleaseCounts) (w : Work X) → ascends guids (x ∷ m) ≡ true
      → EachLike ws (x ∷ m) out c w
      → LoopLike (flat x).guid ws (flat x).announced (loop_of x out c) (R.release_group (T (flat x)) (flat x) w)
      → EachLike ws m (loop_of x out c).out (loop_of x out c).counts (R.release_group (T (flat x)) (flat x) w)
  rest_like x m out c w a e l = record {
    each = λ h s.
        let d : same_guid h x.0 ≡ false = not_first x m h a s in
        let f = frame h T T-guid (flat x ∷ []) w (only_first h x d) in
        like_part h (or_default no_group (get guids h m)) ws w.pending w.held (R.release_group (T (flat x)) (flat x) w).pending (R.release_group (T (flat x)) (flat x) w).held (one_pending T (flat x) w h f) (one_held T (flat x) w h f)
        (subst (λ (u : Option (S.Group X)). GroupLike h (or_default no_group u) ws w.pending w.held) (skip_first x m h d) (e.each h (ap is_some (skip_first x m h d) ∙ s)));
    plain = l.plain;
    held_sets = l.held_sets;
    out_same = l.out;
    counts = l.counts;
  }

  pub record Done (m : List (Guid × S.Group X)) (out : List (ℕ × X)) (c : ReleaseCounts) (w : Work X) : Type 0 where
    pub groups_same : (release_all T (map (λ x. flat x) m) w).0 ≡ map (λ x. flat x) (release_each turns (view_of v) now timeout m out c).0
    pub like : EachLike ws (release_each turns (view_of v) now timeout m out c).0 (release_each turns (view_of v) now timeout m out c).1.0 (release_each turns (view_of v) now timeout m out c).1.1 (release_all T (map (λ x. flat x) m) w).1

  own_each : (x : Guid × S.Group X) (m : List (Guid × S.Group X)) (out : List (ℕ × X)) (c : ReleaseCounts) (w : Work X) → EachLike ws (x ∷ m) out c w → GroupLike x.0 x.1 ws w.pending w.held
  own_each x m out c w e =
      let f : get guids x.0 (x ∷ m) ≡ Some x.1 = here x m in
      subst (λ (u : Option (S.Group X)). GroupLike x.0 (or_default no_group u) ws w.pending w.held) f (e.each x.0 (is_there x m))

  first_loop : (x : Guid × S.Group X) (m : List (Guid × S.Group X)) (out : List (ℕ × X)) (c : ReleaseCounts) (w : Work X) → EachLike ws (x ∷ m) out c w → length w.pending + length w.held ≤ n
      → LoopLike (flat x).guid ws (flat x).announced (loop_of x out c) (R.release_group (T (flat x)) (flat x) w)
  first_loop x m out c w e h = one_group x out c w h (begin_like ws x out c w (own_each x m out c w e) e.plain e.held_sets e.out_same e.counts)

  step_none : (x : Guid × S.Group X) (u : Option (Loop X)) (q : Option (Work X)) → StepLike (flat x).guid ws (flat x).announced u q → q ≡ None → u ≡ None
  step_none x None None stops e = refl
  step_none x (Some lp) (Some w) (goes l) e = none_some w (sym e)
  step_none x None (Some w) x5 e = elim x5 [ ]
  step_none x (Some lp) None x5 e = elim x5 [ ]

  stopped : (x : Guid × S.Group X) (w : Work X) → round (T (flat x)) (R.release_group (T (flat x)) (flat x) w) ≡ None
  unfolding R.release_group
  stopped x w = ap (λ k. round (T (flat x)) (rounds k (T (flat x)) (at_group (flat x) w))) (sym (enough_at (flat x) w)) ∙ never_on (T (flat x)) (at_group (flat x) w)

  -- the loop has returned within its turns: one turn more would return at once
  pub returned : (x : Guid × S.Group X) (m : List (Guid × S.Group X)) (out : List (ℕ × X)) (c : ReleaseCounts) (w : Work X) → EachLike ws (x ∷ m) out c w → length w.pending + length w.held ≤ n
      → S.turn (flat x).guid (view_of v) now timeout (loop_of x out c) ≡ None
  returned x m out c w e h =
      step_none x (S.turn (flat x).guid (view_of v) now timeout (loop_of x out c)) (round (T (flat x)) (R.release_group (T (flat x)) (flat x) w))
      (turn_like X v now timeout ws (flat x) (loop_of x out c) (R.release_group (T (flat x)) (flat x) w) (first_loop x m out c w e h)) (stopped x w)

  gone : (x : Guid × S.Group X) (m : List (Guid × S.Group X)) (out : List (ℕ × X)) (c : ReleaseCounts) (w : Work X) → EachLike ws (x ∷ m) out c w → length w.pending + length w.held ≤ n
      → not (is_some (S.turn x.0 (view_of v) now timeout (loop_of x out c))) ≡ true
  unfolding flat is_some
  gone x m out c w e h = ap (λ u. not (is_some u)) (returned x m out c w e h)

  -- the first group and the rest, put together
  put_together : (x : Guid × S.Group X) (lp : Loop X) (m r : List (Guid × S.Group X)) (out : List (ℕ × X)) (c : ReleaseCounts) (w1 : Work X) → ascends guids (x ∷ m) ≡ true → GroupLike x.0 lp.group ws w1.pending w1.held
      → EachLike ws r out c (release_all T (map (λ x. flat x) m) w1).1 → EachLike ws ((x.0, lp.group) ∷ r) out c (release_all T (map (λ x. flat x) m) w1).1
  unfolding get guids
  put_together x lp m r out c w1 a g e = record {
    each = λ h s.
        (elim (same_guid h x.0) as (λ t. same_guid h x.0 ≡ t → is_some (cond t (Some lp.group) (get guids h r)) ≡ true → GroupLike h (or_default no_group (cond t (Some lp.group) (get guids h r))) ws (release_all T (map (λ x. flat x) m) w1).1.pending (release_all T (map (λ x. flat x) m) w1).1.held) [
          | true ↦ λ d i.
              let f = frame x.0 T T-guid (map (λ x. flat x) m) w1 (none_first x m a) in
              subst (λ (k : Guid). GroupLike k lp.group ws (release_all T (map (λ x. flat x) m) w1).1.pending (release_all T (map (λ x. flat x) m) w1).1.held) (sym (same_eq h x.0 d))
              (like_part x.0 lp.group ws w1.pending w1.held (release_all T (map (λ x. flat x) m) w1).1.pending (release_all T (map (λ x. flat x) m) w1).1.held f.0 f.1 g)
          | false ↦ λ d i. e.each h i
        ]) refl s;
    plain = e.plain;
    held_sets = e.held_sets;
    out_same = e.out_same;
    counts = e.counts;
  }

  pub each_done : (m : List (Guid × S.Group X)) (out : List (ℕ × X)) (c : ReleaseCounts) (w : Work X) → ascends guids m ≡ true → length w.pending + length w.held ≤ n → EachLike ws m out c w → Done m out c w
  unfolding release_all release_each loop_of
  each_done [] out c w a h e = record { groups_same = refl; like = e }
  each_done (x ∷ m) out c w a h e =
      let lp : Loop X = loop_of x out c in
      let w1 : Work X = R.release_group (T (flat x)) (flat x) w in
      let l = first_loop x m out c w e h in
      let ih : Done m lp.out lp.counts w1 = each_done m lp.out lp.counts w1 (rest_ascends x m a) (group_size n (T (flat x)) (flat x) w h) (rest_like x m out c w a e l) in
      record {
        groups_same = ap (λ g. g ∷ (release_all T (map (λ x. flat x) m) w1).0) (flat_after ws x lp w1 l) ∙ ap (λ r. flat (x.0, lp.group) ∷ r) ih.groups_same;
        like = put_together x lp m (release_each turns (view_of v) now timeout m lp.out lp.counts).0 (release_each turns (view_of v) now timeout m lp.out lp.counts).1.0 (release_each turns (view_of v) now timeout m lp.out lp.counts).1.1 w1 a (after_like ws x lp w1 l) ih.like;
      }

  pub each_returns_lem : (m : List (Guid × S.Group X)) (out : List (ℕ × X)) (c : ReleaseCounts) (w : Work X) → ascends guids m ≡ true → length w.pending + length w.held ≤ n → EachLike ws m out c w → each_returns turns (view_of v) now timeout m out c ≡ true
  unfolding each_returns loop_of
  each_returns_lem [] out c w a h e = refl
  each_returns_lem (x ∷ m) out c w a h e =
      let lp : Loop X = loop_of x out c in
      let w1 : Work X = R.release_group (T (flat x)) (flat x) w in
      and_true (not (is_some (S.turn x.0 (view_of v) now timeout lp))) _ (gone x m out c w e h)
      (each_returns_lem m lp.out lp.counts w1 (rest_ascends x m a) (group_size n (T (flat x)) (flat x) w h) (rest_like x m out c w a e (first_loop x m out c w e h)))

-- ---- the whole release

module _ {X : Type 0} where
  get_keys : (h : Guid) (l k : List (Guid × S.Group X)) → map (λ x. x.0) l ≡ map (λ x. x.0) k → is_some (get guids h l) ≡ is_some (get guids h k)
  unfolding get is_some
  get_keys h [] [] e = refl
  get_keys h [] (y ∷ k) e = cc
  get_keys h (x ∷ l) [] e = cc
  get_keys h (x ∷ l) (y ∷ k) e =
      let d : x.0 ≡ y.0 = cc in
      let f : map (λ x. x.0) l ≡ map (λ x. x.0) k = cc in
      ap (λ g. is_some (cond (guids.same h g) (Some x.1) (get guids h l))) d
      ∙ (elim (guids.same h y.0) as (λ t. is_some (cond t (Some x.1) (get guids h l)) ≡ is_some (cond t (Some y.1) (get guids h k))) [ true ↦ refl | false ↦ get_keys h l k f ])

  get_none : (u : Option (S.Group X)) → is_some u ≡ false → u ≡ None
  unfolding is_some
  get_none None e = refl
  get_none (Some m) e = not_both true refl e

  unknown_all : (h : Guid) (m : List (Guid × S.Group X)) → is_some (get guids h m) ≡ false → list_all (λ y. not (is_group h y)) (map (λ x. flat x) m) ≡ true
  unfolding get is_some is_group flat guids
  unknown_all h [] e = refl
  unknown_all h (x ∷ m) e =
      (elim (same_guid h x.0) as (λ t. is_some (cond t (Some x.1) (get guids h m)) ≡ false → not t && list_all (λ y. not (is_group h y)) (map (λ x. flat x) m) ≡ true) [
        | true ↦ λ d. not_both true refl d
        | false ↦ λ d. unknown_all h m d
      ]) e

  module _ (o : GroupOrder X) (s : State X) (v : View) (now turns : ℕ) (l : Like o s) (f : 513 ≤ turns) where
    start : EachLike s.writers o.groups [] o.counts (work_of s)
    unfolding work_of handed
    start = record { each = λ h d. l.each h; plain = l.pending_plain; held_sets = l.held_sets; out_same = refl; counts = l.counts }

    start_size : length s.pending + length s.held ≤ 256 → length (work_of s).pending + length (work_of s).held ≤ 256
    unfolding work_of
    start_size h = h

    result : List (Guid × S.Group X) × (List (ℕ × X) × ReleaseCounts)
    result = release_each turns (view_of v) now s.timeout o.groups [] o.counts

    theirs : List Group × Work X
    theirs = release_all (λ g. turn_of v now s.timeout s.writers g) (map (λ x. flat x) o.groups) (work_of s)

    fuelled : 2 * 256 + 1 ≤ turns
    fuelled = omega (arith, f)

    done : length s.pending + length s.held ≤ 256 → Done X v now s.timeout s.writers turns 256 fuelled o.groups [] o.counts (work_of s)
    done h = each_done X v now s.timeout s.writers turns 256 fuelled o.groups [] o.counts (work_of s) l.ascend (start_size h) start

    T2 : Group → Turn
    T2 g = turn_of v now s.timeout s.writers g

    T2-guid : (x : Group) → (T2 x).guid ≡ x.guid
    unfolding turn_of T2
    T2-guid x = refl

    each_end : length s.pending + length s.held ≤ 256 → (h : Guid) → GroupLike h (or_default no_group (get guids h result.0)) s.writers theirs.1.pending theirs.1.held
    unfolding result theirs T2 work_of
    each_end q h =
        (elim (is_some (get guids h result.0)) as (λ t. is_some (get guids h result.0) ≡ t → GroupLike h (or_default no_group (get guids h result.0)) s.writers theirs.1.pending theirs.1.held) [
          | true ↦ λ d. (done q).like.each h d
          | false ↦ λ d.
              let e : is_some (get guids h o.groups) ≡ false = sym (get_keys h result.0 o.groups (keys_same turns (view_of v) now s.timeout o.groups [] o.counts)) ∙ d in
              let k = frame h T2 T2-guid (map (λ x. flat x) o.groups) (work_of s) (unknown_all h o.groups e) in
              subst (λ (u : Option (S.Group X)). GroupLike h (or_default no_group u) s.writers theirs.1.pending theirs.1.held) (get_none (get guids h o.groups) e ∙ sym (get_none (get guids h result.0) d))
              (like_part h (or_default no_group (get guids h o.groups)) s.writers s.pending s.held theirs.1.pending theirs.1.held k.0 k.1 (l.each h))
        ]) refl

    like_end : length s.pending + length s.held ≤ 256 → Like (record { groups = result.0; timeout = s.timeout; counts = result.1.1 }) (back_to s theirs)
    unfolding back_to result theirs
    like_end q = record {
      groups = (done q).groups_same;
      ascend = ascends_keys result.0 o.groups (keys_same turns (view_of v) now s.timeout o.groups [] o.counts) ∙ l.ascend;
      each = each_end q;
      pending_plain = (done q).like.plain;
      held_sets = (done q).like.held_sets;
      counts = (done q).like.counts;
      timeout = refl;
    }

    out_end : length s.pending + length s.held ≤ 256 → result.1.0 ≡ handed theirs.1.out
    unfolding result theirs
    out_end q = (done q).like.out_same

    theirs_same : theirs ≡ released s v now
    unfolding theirs released
    theirs_same = ap (λ gs. release_all (λ g. turn_of v now s.timeout s.writers g) gs (work_of s)) (sym l.groups)

    result_same : release turns o (view_of v) now ≡ (result.1.0, record { groups = result.0; timeout = s.timeout; counts = result.1.1 })
    unfolding release result
    result_same = ap (λ t. ((release_each turns (view_of v) now t o.groups [] o.counts).1.0, record { groups = (release_each turns (view_of v) now t o.groups [] o.counts).0; timeout = t; counts = (release_each turns (view_of v) now t o.groups [] o.counts).1.1 })) (sym l.timeout)

    pub release_returns : length s.pending + length s.held ≤ 256 → each_returns turns (view_of v) now o.timeout o.groups [] o.counts ≡ true
    release_returns q =
        ap (λ t. each_returns turns (view_of v) now t o.groups [] o.counts) (sym l.timeout)
        ∙ each_returns_lem X v now s.timeout s.writers turns 256 fuelled o.groups [] o.counts (work_of s) l.ascend (start_size q) start

    pub release_out : length s.pending + length s.held ≤ 256 → (release turns o (view_of v) now).0 ≡ handed (released s v now).1.out
    release_out q = ap (λ r. r.0) result_same ∙ out_end q ∙ ap (λ r. handed r.1.out) theirs_same

    pub release_like : length s.pending + length s.held ≤ 256 → Like (release turns o (view_of v) now).1 (back_to s (released s v now))
    release_like q =
        subst (λ (r : List Group × Work X). Like (release turns o (view_of v) now).1 (back_to s r)) theirs_same
        (subst (λ (p : GroupOrder X). Like p (back_to s theirs)) (ap (λ r. r.1) (sym result_same)) (like_end q))
