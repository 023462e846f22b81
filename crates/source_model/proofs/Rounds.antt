-- The rounds of a group are alike on both sides.
use Prim.Native.Nat.{ℕ, zero, suc, ◌-◌, ◌<◌}
use mathlib.Core.Path.{◌≡◌, refl, sym, ap, ◌∙◌, subst}
use mathlib.Core.Bool.{Bool, true, false, ◌&&◌, ◌||◌, not}
use mathlib.Core.List.{List, [], ◌∷◌, ◌++◌, map}
use Rattle.std.specs.Prelude.{Option, Some, None}
use native.Mathlib.Omega.{arith}
use lib.IntN.{ℤ, pos, ◌+ℤ◌, ◌-ℤ◌}
use lib.Dec.{ltb, eqb}
use lib.ListN.{length}
use borrow.Author.Tests.{ltb-true, eqb-true}
use Rattle.laws.specs.Lists.{filter, list_all, list_any, count, find, is_some}
use Rattle.guids.specs.Guid.{Guid, same_guid}
use Rattle.rules.specs.Entry.{set_end, is_sample, is_set, of_group, of_pair, in_set, is_member, is_end_of, marks}
use Rattle.rules.specs.declared.entry.What.{What}
use Rattle.rules.specs.declared.entry.What.TheVariants.{Sample, End}
use Rattle.rules.specs.declared.entry.Entry.{Entry}
use Rattle.rules.specs.declared.state.Group.{Group}
use Rattle.rules.specs.declared.state.Writer.{Writer}
use Rattle.rules.specs.Sets.{lowest_ended, end_missing, members_of, members_of_pair, agrees_w, agrees_e, agrees, whole}
use Rattle.rules.specs.declared.view.Pair.{Pair}
use Rattle.rules.specs.Commit.{Turn, is_head, head_of, next, ready}
use Rattle.rules.specs.Release.{Work, View, turn_of, skip, young, waited, discard, hand_out, finish, waits, round, rounds}
use Rattle.rules.specs.Release as R
use Rattle.laws.proofs.Lists.{and_left, and_right, all_keep, all_imp, all_kept, keep_keep, keep_same, none_some, find_any, any_all, count_map, map_o}
use Rattle.rules.proofs.Minima.{next_head}
use Rattle.source_model.specs.Claim.{cut_counts}
use Rattle.source_model.specs.Map.{numbers, pairs, or_default, get, remove}
use Rattle.source_model.specs.Source.{SetEnd, OpenSet, no_set, Loop, is_some_and, first_of, with_sets, agrees_with, complete, items, item_of, finish_set, take_next, take_if, as_u64, is_ready, at_head, all_ends, at_ended, turn, or_return, release_group}
use Rattle.source_model.specs.Source as S
use Rattle.source_model.specs.Calls.{view_of, end_w, item_w, handed}
use Rattle.source_model.proofs.Like.{as_entry, is_at, is_fresh, is_pair_end, PendingLike, EndLike, no_end, one_end, OpenLike, SetLike, closed, opened, SetsLike}
use Rattle.source_model.proofs.Sets.{take_like, remove_sets, set_open, and_three}
use Rattle.source_model.proofs.Offered.{find_keep, pair_there}
use Rattle.source_model.proofs.Found.{key_of, found_lowest}
use Rattle.source_model.proofs.Ready.{next_found, head_found, counted_all, all_ext, twice, missing_many, one_more, ready_alike}
use Rattle.source_model.proofs.Commits.{LoopLike, any_keep, any_ext, and_comm, discards_cut, skips_cut, length_map, members_same, without_all, handed_append, commit_each_lem}

-- ---- the ended set with the lowest number

swap_last : (a b c : Bool) → (a && b) && c ≡ (a && c) && b
swap_last true b c = and_comm b c
swap_last false b c = refl

module _ {X : Type 0} where
  ended_case : (u : Option (OpenSet X)) (l : List (Entry X)) → SetLike u l → list_any (λ m. marks m) l ≡ is_some_and (λ s. s.end_committed) u
  ended_case None [] closed = refl
  ended_case (Some s) l (opened a k) = sym k.ended
  ended_case None (_ ∷ _) x4 = elim x4 [ ]

  ended_sets : (g : Guid) (m : List (ℤ × OpenSet X)) (l : List (Entry X)) → SetsLike g m l
      → (z : ℤ) → list_any (λ h. is_set z h.set) (filter (λ h. of_group g h && marks h) l) ≡ is_some_and (λ s. s.end_committed) (get numbers z m)
  unfolding in_set
  ended_sets g m l k z =
      any_keep (λ h. is_set z h.set) (λ h. of_group g h && marks h) l
      ∙ any_ext (λ h. (of_group g h && marks h) && is_set z h.set) (λ h. in_set g z h && marks h) (λ h. swap_last (of_group g h) (marks h) (is_set z h.set)) l
      ∙ sym (any_keep (λ h. marks h) (λ h. in_set g z h) l)
      ∙ ended_case (get numbers z m) (filter (λ h. in_set g z h) l) (k.at z)

  pub ended_found : (g : Guid) (m : List (ℤ × OpenSet X)) (l : List (Entry X)) → SetsLike g m l → key_of (find (λ x. x.1.end_committed) m) ≡ lowest_ended g l
  unfolding lowest_ended
  ended_found g m l k = found_lowest (λ x. x.1.end_committed) m (filter (λ h. of_group g h && marks h) l) k.ascend (ended_sets g m l k)

abbrev pub rows_of : View → Guid → List Pair
rows_of v g = filter (λ x. same_guid g x.group) v.counted

-- ---- whether a set waits, and whether it is whole

not_any : {A : Type 0} (q : A → Bool) (l : List A) → list_all q l ≡ not (list_any (λ x. not (q x)) l)
not_any q [] = refl
not_any q (a ∷ l) = ap (λ b. q a && b) (not_any q l) ∙ (elim (q a) as (λ t. t && not (list_any (λ x. not (q x)) l) ≡ not (not t || list_any (λ x. not (q x)) l)) [ true ↦ refl | false ↦ refl ])

pub first_map : {A B : Type 0} (f : A → B) (l : List A) → first_of (map f l) ≡ map_o f (first_of l)
first_map f [] = refl
first_map f (a ∷ l) = refl

agrees_parts : (X : Type 0) (m : ℕ) (f o : Option ℤ) → agrees_with m f o ≡ agrees_w {X = X} m (set_end f o)
agrees_parts X m None o = refl
agrees_parts X m (Some f) None = refl
agrees_parts X m (Some f) (Some o) = refl

module _ {X : Type 0} where
  end_of : (g : Guid) (z : ℤ) (p : Guid × ℕ) (h : Entry X) → in_set g z h && is_pair_end p h ≡ is_end_of g z p.0 p.1 h
  unfolding is_pair_end is_end_of
  end_of g z p h = sym (and_three (in_set g z h) (not (is_sample h)) (of_pair p.0 p.1 h))

  kept_end : (g : Guid) (z : ℤ) (p : Guid × ℕ) (l : List (Entry X)) → filter (λ h. is_pair_end p h) (filter (λ h. in_set g z h) l) ≡ filter (λ h. is_end_of g z p.0 p.1 h) l
  kept_end g z p l = keep_keep (λ h. is_pair_end p h) (λ h. in_set g z h) l ∙ keep_same (λ h. in_set g z h && is_pair_end p h) (λ h. is_end_of g z p.0 p.1 h) (λ h. end_of g z p h) l

  end_there : (g : Guid) (z : ℤ) (p : Guid × ℕ) (s : OpenSet X) (l : List (Entry X)) → OpenLike s (filter (λ h. in_set g z h) l) → is_some (get pairs p s.ends) ≡ list_any (λ h. is_end_of g z p.0 p.1 h) l
  end_there g z p s l k =
      pair_there (get pairs p s.ends) (filter (λ h. is_pair_end p h) (filter (λ h. in_set g z h) l)) (k.ends p)
      ∙ ap (λ r. is_some (first_of r)) (kept_end g z p l) ∙ ap is_some (sym (find_keep (λ h. is_end_of g z p.0 p.1 h) l)) ∙ find_any (λ h. is_end_of g z p.0 p.1 h) l

  waited_same : (now : ℕ) (u : Option (Entry X)) → S.waited now (map_o (λ e. as_entry e) u) ≡ waited now u
  unfolding as_entry
  waited_same now None = refl
  waited_same now (Some e) = refl

  agrees_what : (m : ℕ) (w : What X) (x : SetEnd) → end_w w ≡ Some x → agrees_with m x.first_sn x.ecs_sn ≡ agrees_w m w
  agrees_what m (Sample i) x d = none_some x d
  agrees_what m (End n0) x d =
      let q : record { first_sn = n0.first; ecs_sn = n0.own } ≡ x = cc in
      ap (λ y. agrees_with m y.first_sn y.ecs_sn) (sym q) ∙ agrees_parts X m n0.first n0.own

  agrees_case : (m : ℕ) (u : Option SetEnd) (l : List (Entry X)) → EndLike u l → is_some_and (λ x. agrees_with m x.first_sn x.ecs_sn) u ≡ agrees_e m (first_of l)
  agrees_case m None [] no_end = refl
  agrees_case m (Some x) (e ∷ []) (one_end d) = agrees_what m e.what x d
  agrees_case m None (e ∷ _) x3 = elim x3 [ ]
  agrees_case m (Some x) [] x4 = elim x4 [ ]
  agrees_case m (Some x) (e ∷ (_ ∷ _)) x9 = elim x9 [ ]

  count_pair : (g : Guid) (z : ℤ) (p : Pair) (s : OpenSet X) (l : List (Entry X)) → OpenLike s (filter (λ h. in_set g z h) l)
      → count (λ m. same_guid p.writer m.writer && eqb p.reader m.reader) s.members ≡ members_of_pair g z p l
  unfolding members_of_pair members_of count of_pair as_entry
  count_pair g z p s l k =
      ap (λ r. count (λ m. same_guid p.writer m.writer && eqb p.reader m.reader) r) (members_same g z s l k)
      ∙ count_map (λ m. same_guid p.writer m.writer && eqb p.reader m.reader) (λ e. as_entry e) (filter (λ h. is_member g z h) l)
      ∙ ap length (keep_keep (λ h. same_guid p.writer h.writer && eqb p.reader h.reader) (λ h. is_member g z h) l)

  agrees_pair : (g : Guid) (z : ℤ) (p : Pair) (s : OpenSet X) (l : List (Entry X)) → OpenLike s (filter (λ h. in_set g z h) l)
      → is_some_and (λ x. agrees_with (count (λ m. same_guid p.writer m.writer && eqb p.reader m.reader) s.members) x.first_sn x.ecs_sn) (get pairs (p.writer, p.reader) s.ends) ≡ agrees g z l p
  unfolding agrees
  agrees_pair g z p s l k =
      ap (λ n. is_some_and (λ x. agrees_with n x.first_sn x.ecs_sn) (get pairs (p.writer, p.reader) s.ends)) (count_pair g z p s l k)
      ∙ agrees_case (members_of_pair g z p l) (get pairs (p.writer, p.reader) s.ends) (filter (λ h. is_pair_end (p.writer, p.reader) h) (filter (λ h. in_set g z h) l)) (k.ends (p.writer, p.reader))
      ∙ ap (λ r. agrees_e (members_of_pair g z p l) (first_of r)) (kept_end g z (p.writer, p.reader) l)
      ∙ ap (λ u. agrees_e (members_of_pair g z p l) u) (sym (find_keep (λ h. is_end_of g z p.writer p.reader h) l))

  items_same : (l : List (Entry X)) → items (map (λ e. as_entry e) l) ≡ handed l
  unfolding items handed as_entry
  items_same [] = refl
  items_same (e ∷ l) = ap (λ r. item_of (item_w e.what) e.reader r) (items_same l)

  module _ (v : View) (g : Guid) (z : ℤ) (s : OpenSet X) (l : List (Entry X)) (k : OpenLike s (filter (λ h. in_set g z h) l)) where
    pub ends_alike : (now timeout : ℕ) → all_ends g (view_of v) now timeout s ≡ not (end_missing g z (rows_of v g) l)
    unfolding all_ends end_missing
    ends_alike now timeout =
        counted_all v g (λ p. is_some (get pairs p s.ends))
        ∙ all_ext (λ x. is_some (get pairs (x.writer, x.reader) s.ends)) (λ x. list_any (λ h. is_end_of g z x.writer x.reader h) l) (λ x. end_there g z (x.writer, x.reader) s l k) (rows_of v g)
        ∙ not_any (λ x. list_any (λ h. is_end_of g z x.writer x.reader h) l) (rows_of v g)

    pub whole_alike : (now timeout : ℕ) → complete s ((view_of v).counted g) (all_ends g (view_of v) now timeout s) ≡ whole g z (rows_of v g) l
    unfolding complete whole
    whole_alike now timeout =
        ap (λ b. b && list_all (λ pair. is_some_and (λ x. agrees_with (count (λ m. same_guid pair.0 m.writer && eqb pair.1 m.reader) s.members) x.first_sn x.ecs_sn) (get pairs pair s.ends)) ((view_of v).counted g)) (ends_alike now timeout)
        ∙ ap (λ b. not (end_missing g z (rows_of v g) l) && b)
        (counted_all v g (λ pair. is_some_and (λ x. agrees_with (count (λ m. same_guid pair.0 m.writer && eqb pair.1 m.reader) s.members) x.first_sn x.ecs_sn) (get pairs pair s.ends))
        ∙ all_ext (λ p. is_some_and (λ x. agrees_with (count (λ m. same_guid p.writer m.writer && eqb p.reader m.reader) s.members) x.first_sn x.ecs_sn) (get pairs (p.writer, p.reader) s.ends)) (λ p. agrees g z l p) (λ p. agrees_pair g z p s l k) (rows_of v g))

    pub first_member : first_of s.members ≡ map_o (λ e. as_entry e) (find (λ h. is_member g z h) l)
    unfolding members_of
    first_member = ap first_of (members_same g z s l k) ∙ first_map (λ e. as_entry e) (filter (λ h. is_member g z h) l) ∙ ap (λ u. map_o (λ e. as_entry e) u) (sym (find_keep (λ h. is_member g z h) l))

-- ---- the steps of a round

pub data StepLike {X : Type 0} (g : Guid) (ws : List Writer) (a : ℕ) : Option (Loop X) → Option (Work X) → Type 0 where
  stops : StepLike g ws a None None
  goes : {lp : Loop X} {w : Work X} → LoopLike g ws a lp w → StepLike g ws a (Some lp) (Some w)

module _ (X : Type 0) (v : View) (now timeout : ℕ) (ws : List Writer) (G : Group) where
  abbrev pub t : Turn
  t = turn_of v now timeout ws G

  abbrev pub Alike : Loop X → Work X → Type 0
  Alike lp w = LoopLike G.guid ws G.announced lp w

  young_same : (u : Option (Entry X)) → ltb (S.waited now (map_o (λ e. as_entry e) u)) timeout ≡ young t u
  unfolding young turn_of
  young_same u = ap (λ n. ltb n timeout) (waited_same now u)

  -- ---- finishing a set

  abbrev pub removed : (z : ℤ) (lp : Loop X) → Loop X
  removed z lp = record { group = with_sets (remove numbers z lp.group.sets) lp.group; out = lp.out; counts = lp.counts }

  finish_whole : (z : ℤ) (s : OpenSet X) (lp : Loop X) (w : Work X) → OpenLike s (filter (λ h. in_set G.guid z h) w.held) → Alike lp w → Alike (S.finish_if true s (removed z lp)) (R.finish_if true G.guid z w)
  unfolding hand_out with_sets
  finish_whole z s lp w k l = record {
    committed = l.committed;
    announced = l.announced;
    writers = l.writers;
    pending = l.pending;
    sets = remove_sets G.guid z lp.group.sets w.held l.sets;
    plain = l.plain;
    held_sets = without_all G.guid z w.held l.held_sets;
    out = ap (λ r. r ++ items s.members) l.out ∙ ap (λ r. handed w.out ++ r) (ap items (members_same G.guid z s w.held k) ∙ items_same (members_of G.guid z w.held)) ∙ sym (handed_append w.out (members_of G.guid z w.held));
    counts = l.counts;
  }

  finish_lost : (z : ℤ) (s : OpenSet X) (lp : Loop X) (w : Work X) → OpenLike s (filter (λ h. in_set G.guid z h) w.held) → Alike lp w → Alike (S.finish_if false s (removed z lp)) (R.finish_if false G.guid z w)
  unfolding discard with_sets
  finish_lost z s lp w k l =
      let n : length (members_of G.guid z w.held) ≡ length s.members = sym (ap length (members_same G.guid z s w.held k) ∙ length_map (λ e. as_entry e) (members_of G.guid z w.held)) in
      record {
        committed = l.committed;
        announced = l.announced;
        writers = l.writers;
        pending = l.pending;
        sets = remove_sets G.guid z lp.group.sets w.held l.sets;
        plain = l.plain;
        held_sets = without_all G.guid z w.held l.held_sets;
        out = l.out;
        counts = ap (λ c. R.discards (length (members_of G.guid z w.held)) c) l.counts ∙ ap (λ j. R.discards j (cut_counts lp.counts)) n ∙ discards_cut (length s.members) lp.counts;
      }

  finish_both : (b : Bool) (z : ℤ) (s : OpenSet X) (lp : Loop X) (w : Work X) → OpenLike s (filter (λ h. in_set G.guid z h) w.held) → Alike lp w → Alike (S.finish_if b s (removed z lp)) (R.finish_if b G.guid z w)
  finish_both true z s lp w k l = finish_whole z s lp w k l
  finish_both false z s lp w k l = finish_lost z s lp w k l

  pub finish_like : (z : ℤ) (s : OpenSet X) (lp : Loop X) (w : Work X) → OpenLike s (filter (λ h. in_set G.guid z h) w.held) → Alike lp w
      → Alike (finish_set s ((view_of v).counted G.guid) (all_ends G.guid (view_of v) now timeout s) (removed z lp)) (finish t z w)
  unfolding finish_set finish turn_of
  finish_like z s lp w k l =
      subst (λ (b : Bool). Alike (S.finish_if b s (removed z lp)) (R.finish_if (whole G.guid z (rows_of v G.guid) w.held) G.guid z w)) (sym (whole_alike v G.guid z s w.held k now timeout))
      (finish_both (whole G.guid z (rows_of v G.guid) w.held) z s lp w k l)

  waits_alike : (z : ℤ) (s : OpenSet X) (w : Work X) → OpenLike s (filter (λ h. in_set G.guid z h) w.held)
      → not (all_ends G.guid (view_of v) now timeout s) && ltb (S.waited now (first_of s.members)) timeout ≡ waits t z w.held
  unfolding waits turn_of
  waits_alike z s w k =
      ap (λ b. not b && ltb (S.waited now (first_of s.members)) timeout) (ends_alike v G.guid z s w.held k now timeout)
      ∙ ap (λ b. b && ltb (S.waited now (first_of s.members)) timeout) (sym (twice (end_missing G.guid z (rows_of v G.guid) w.held)))
      ∙ ap (λ u. end_missing G.guid z (rows_of v G.guid) w.held && ltb (S.waited now u) timeout) (first_member v G.guid z s w.held k)
      ∙ ap (λ b. end_missing G.guid z (rows_of v G.guid) w.held && b) (young_same (find (λ h. is_member G.guid z h) w.held))

  finish_or_lem : (b : Bool) (z : ℤ) (s : OpenSet X) (lp : Loop X) (w : Work X) → OpenLike s (filter (λ h. in_set G.guid z h) w.held) → Alike lp w
      → StepLike G.guid ws G.announced (S.finish_or G.guid (view_of v) now timeout b z s lp) (R.finish_or b t z w)
  finish_or_lem true z s lp w k l = stops
  finish_or_lem false z s lp w k l = goes (finish_like z s lp w k l)

  ended_step : (z : ℤ) (lp : Loop X) (w : Work X) → Alike lp w
      → StepLike G.guid ws G.announced
      (S.finish_or G.guid (view_of v) now timeout (not (all_ends G.guid (view_of v) now timeout (or_default no_set (get numbers z lp.group.sets))) && ltb (S.waited now (first_of (or_default no_set (get numbers z lp.group.sets)).members)) timeout) z (or_default no_set (get numbers z lp.group.sets)) lp)
      (R.finish_or (waits t z w.held) t z w)
  ended_step z lp w l =
      let s : OpenSet X = or_default no_set (get numbers z lp.group.sets) in
      let k : OpenLike s (filter (λ h. in_set G.guid z h) w.held) = set_open (get numbers z lp.group.sets) (filter (λ h. in_set G.guid z h) w.held) (l.sets.at z) in
      subst (λ (b : Bool). StepLike G.guid ws G.announced (S.finish_or G.guid (view_of v) now timeout b z s lp) (R.finish_or (waits t z w.held) t z w)) (sym (waits_alike z s w k)) (finish_or_lem (waits t z w.held) z s lp w k l)

  -- ---- committing a number

  fresh_heads : (n : ℕ) (w : Work X) → list_all (λ e. is_fresh e) w.pending ≡ true → list_all (λ e. is_fresh e) (head_of t n w.pending) ≡ true
  unfolding head_of
  fresh_heads n w h = all_keep (λ e. is_fresh e) (λ e. is_head t n e) w.pending h

  own_heads : (n : ℕ) (w : Work X) → list_all (λ e. of_group G.guid e) (head_of t n w.pending) ≡ true
  unfolding head_of is_head turn_of
  own_heads n w = all_imp (λ e. is_head t n e) (λ e. of_group G.guid e) (λ e h. and_left (of_group G.guid e) _ h) (head_of t n w.pending) (all_kept (λ e. is_head t n e) w.pending)

  rest_same : (n : ℕ) (l : List (Entry X)) → filter (λ e. not (is_at G.guid (pos n) e)) l ≡ filter (λ e. not (is_head t n e)) l
  unfolding turn_of is_head is_at
  rest_same n l = refl

  taken_like : (n k : ℕ) (lp : Loop X) (w : Work X) → Alike lp w
      → Alike (S.taken (pos n) k lp) (record { committed = n; pending = filter (λ e. not (is_head t n e)) w.pending; held = w.held; out = w.out; lost = w.lost; counts = skip k w.counts })
  unfolding S.taken
  taken_like n k lp w l = record {
    committed = refl;
    announced = l.announced;
    writers = l.writers;
    pending = subst (λ (r : List (Entry X)). PendingLike G.guid (remove numbers (pos n) lp.group.pending) r) (rest_same n w.pending) (take_like G.guid (pos n) lp.group.pending w.pending l.pending);
    sets = l.sets;
    plain = all_keep (λ e. is_fresh e) (λ e. not (is_head t n e)) w.pending l.plain;
    held_sets = l.held_sets;
    out = l.out;
    counts = ap (λ c. skip k c) l.counts ∙ skips_cut k lp.counts;
  }

  heads_same : (n : ℕ) (lp : Loop X) (w : Work X) → Alike lp w → or_default [] (get numbers (pos n) lp.group.pending) ≡ map (λ e. as_entry e) (head_of t n w.pending)
  unfolding turn_of
  heads_same n lp w l = head_found t n lp.group.pending w.pending l.pending

  pub take_like_next : (n k : ℕ) (lp : Loop X) (w : Work X) → Alike lp w → Alike (take_next (pos n) k lp) (R.commit t n k w)
  unfolding take_next R.commit
  take_like_next n k lp w l =
      subst (λ (r : List (S.Entry X)). Alike (S.commit_each r (S.taken (pos n) k lp)) (R.commit t n k w)) (sym (heads_same n lp w l))
      (commit_each_lem G.guid ws G.announced (head_of t n w.pending) (S.taken (pos n) k lp) _ (own_heads n w) (fresh_heads n w l.plain) (taken_like n k lp w l))

  head_positive : (n : ℕ) (w : Work X) → list_all (λ e. is_fresh e) w.pending ≡ true → next t w.pending ≡ Some n → 0 < n
  unfolding is_fresh is_head
  head_positive n w f d =
      any_all (λ e. is_head t n e) (λ e. is_fresh e) (λ e a b. let h = ltb-true 0 e.number (and_right (not (marks e)) _ b) in let q = eqb-true n e.number (and_right (of_group t.guid e) _ a) in omega (arith, h, q)) w.pending (next_head t w.pending n d) f

  take_if_lem : (r y : Bool) (n k : ℕ) (lp : Loop X) (w : Work X) → k ≡ n - suc w.committed → Alike lp w → StepLike G.guid ws G.announced (take_if r y (pos n) k lp) (R.commit_if r y t n w)
  take_if_lem true y n k lp w e l = goes (take_like_next n 0 lp w l)
  take_if_lem false true n k lp w e l = stops
  take_if_lem false false n k lp w e l = goes (subst (λ (j : ℕ). Alike (take_next (pos n) k lp) (R.commit t n j w)) e (take_like_next n k lp w l))

  ready_same : (n : ℕ) (lp : Loop X) (w : Work X) → 0 < n → Alike lp w → is_ready G.guid (view_of v) now timeout lp.group (pos (suc w.committed)) (pos n) ≡ ready t w.committed n w.pending
  ready_same zero lp w h l = absurd (omega (arith, h))
  ready_same (suc n) lp w h l = ready_alike v now timeout ws G lp.group l.writers w.committed n w.pending l.announced l.pending

  first_head : (n : ℕ) (lp : Loop X) (w : Work X) → Alike lp w → first_of (or_default [] (get numbers (pos n) lp.group.pending)) ≡ map_o (λ e. as_entry e) (find (λ e. is_head t n e) w.pending)
  unfolding head_of
  first_head n lp w l = ap first_of (heads_same n lp w l) ∙ first_map (λ e. as_entry e) (filter (λ e. is_head t n e) w.pending) ∙ ap (λ u. map_o (λ e. as_entry e) u) (sym (find_keep (λ e. is_head t n e) w.pending))

  next_missing : (lp : Loop X) (w : Work X) → Alike lp w → lp.group.committed +ℤ pos 1 ≡ pos (suc w.committed)
  next_missing lp w l = ap (λ c. c +ℤ pos 1) l.committed ∙ one_more w.committed

  head_some : (n : ℕ) (lp : Loop X) (w : Work X) → next t w.pending ≡ Some n → Alike lp w
      → StepLike G.guid ws G.announced
      (take_if (is_ready G.guid (view_of v) now timeout lp.group (lp.group.committed +ℤ pos 1) (pos n)) (ltb (S.waited now (first_of (or_default [] (get numbers (pos n) lp.group.pending)))) timeout) (pos n) (as_u64 (pos n -ℤ (lp.group.committed +ℤ pos 1))) lp)
      (R.commit_if (ready t w.committed n w.pending) (young t (find (λ e. is_head t n e) w.pending)) t n w)
  head_some n lp w d l =
      let c : ℤ = pos (suc w.committed) in
      let y : Bool = ltb (S.waited now (first_of (or_default [] (get numbers (pos n) lp.group.pending)))) timeout in
      subst (λ (m : ℤ). StepLike G.guid ws G.announced (take_if (is_ready G.guid (view_of v) now timeout lp.group m (pos n)) y (pos n) (as_u64 (pos n -ℤ m)) lp) (R.commit_if (ready t w.committed n w.pending) (young t (find (λ e. is_head t n e) w.pending)) t n w)) (sym (next_missing lp w l))
      (subst (λ (b : Bool). StepLike G.guid ws G.announced (take_if b y (pos n) (as_u64 (pos n -ℤ c)) lp) (R.commit_if (ready t w.committed n w.pending) (young t (find (λ e. is_head t n e) w.pending)) t n w)) (sym (ready_same n lp w (head_positive n w l.plain d) l))
      (subst (λ (b : Bool). StepLike G.guid ws G.announced (take_if (ready t w.committed n w.pending) b (pos n) (as_u64 (pos n -ℤ c)) lp) (R.commit_if (ready t w.committed n w.pending) (young t (find (λ e. is_head t n e) w.pending)) t n w)) (sym (ap (λ u. ltb (S.waited now u) timeout) (first_head n lp w l) ∙ young_same (find (λ e. is_head t n e) w.pending)))
      (take_if_lem (ready t w.committed n w.pending) (young t (find (λ e. is_head t n e) w.pending)) n (as_u64 (pos n -ℤ c)) lp w (missing_many n w.committed) l)))

  head_case : (u : Option (ℤ × List (S.Entry X))) (q : Option ℕ) (lp : Loop X) (w : Work X) → key_of u ≡ map_o pos q → next t w.pending ≡ q → Alike lp w
      → StepLike G.guid ws G.announced (at_head G.guid (view_of v) now timeout lp u) (R.head_step t w q)
  head_case None None lp w e d l = stops
  head_case None (Some n) lp w e d l = none_some (pos n) e
  head_case (Some x) None lp w e d l = none_some x.0 (sym e)
  head_case (Some x) (Some n) lp w e d l =
      let q : x.0 ≡ pos n = cc in
      subst (λ (k : ℤ). StepLike G.guid ws G.announced
      (take_if (is_ready G.guid (view_of v) now timeout lp.group (lp.group.committed +ℤ pos 1) k) (ltb (S.waited now (first_of (or_default [] (get numbers k lp.group.pending)))) timeout) k (as_u64 (k -ℤ (lp.group.committed +ℤ pos 1))) lp)
      (R.commit_if (ready t w.committed n w.pending) (young t (find (λ e. is_head t n e) w.pending)) t n w)) (sym q) (head_some n lp w d l)

  next_same : (lp : Loop X) (w : Work X) → Alike lp w → key_of (first_of lp.group.pending) ≡ map_o pos (next t w.pending)
  unfolding turn_of
  next_same lp w l = next_found t lp.group.pending w.pending l.pending

  ended_same : (lp : Loop X) (w : Work X) → Alike lp w → key_of (find (λ x. x.1.end_committed) lp.group.sets) ≡ lowest_ended t.guid w.held
  unfolding turn_of
  ended_same lp w l = ended_found G.guid lp.group.sets w.held l.sets

  ended_case2 : (u : Option (ℤ × OpenSet X)) (q : Option ℤ) (lp : Loop X) (w : Work X) → key_of u ≡ q → Alike lp w
      → StepLike G.guid ws G.announced (at_ended G.guid (view_of v) now timeout lp u) (R.end_step t w q)
  ended_case2 None None lp w e l = head_case (first_of lp.group.pending) (next t w.pending) lp w (next_same lp w l) refl l
  ended_case2 None (Some z) lp w e l = none_some z e
  ended_case2 (Some x) None lp w e l = none_some x.0 (sym e)
  ended_case2 (Some x) (Some z) lp w e l =
      let q : x.0 ≡ z = cc in
      subst (λ (y : ℤ). StepLike G.guid ws G.announced (at_ended G.guid (view_of v) now timeout lp (Some x)) (R.finish_or (waits t y w.held) t y w)) q (ended_step x.0 lp w l)

  pub turn_like : (lp : Loop X) (w : Work X) → Alike lp w → StepLike G.guid ws G.announced (turn G.guid (view_of v) now timeout lp) (round t w)
  unfolding turn round
  turn_like lp w l = ended_case2 (find (λ x. x.1.end_committed) lp.group.sets) (lowest_ended t.guid w.held) lp w (ended_same lp w l) l

  step_on : (k : ℕ) (lp : Loop X) (w : Work X) → Alike lp w
      → ((m : Loop X) (x : Work X) → Alike m x → Alike (release_group G.guid (view_of v) now timeout k m) (rounds k t x))
      → (u : Option (Loop X)) (q : Option (Work X)) → StepLike G.guid ws G.announced u q
      → Alike (or_return G.guid (view_of v) now timeout (λ m. release_group G.guid (view_of v) now timeout k m) lp u) (R.or_stop (λ v. rounds k t v) w q)
  step_on k lp w l f None None stops = l
  step_on k lp w l f (Some m) (Some x) (goes h) = f m x h
  step_on k lp w l f None (Some x) x3 = elim x3 [ ]
  step_on k lp w l f (Some m) None x3 = elim x3 [ ]

  pub rounds_like : (k : ℕ) (lp : Loop X) (w : Work X) → Alike lp w → Alike (release_group G.guid (view_of v) now timeout k lp) (rounds k t w)
  unfolding release_group rounds
  rounds_like zero lp w l = l
  rounds_like (suc k) lp w l = step_on k lp w l (λ m x h. rounds_like k m x h) (turn G.guid (view_of v) now timeout lp) (round t w) (turn_like lp w l)
