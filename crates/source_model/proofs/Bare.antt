-- An entry's copy of the offer's writer set: no function reads it, so without it the model does and answers the same.
use Prim.Native.Nat.{ℕ, zero, suc, ◌+◌}
use mathlib.Core.Path.{◌≡◌, refl, sym, ap, ◌∙◌}
use mathlib.Core.Bool.{Bool, true, false, ◌&&◌, ◌||◌, not, cond}
use mathlib.Core.List.{List, [], ◌∷◌, ◌++◌, map}
use Rattle.std.specs.Prelude.{Option, Some, None}
use native.Mathlib.Omega.{arith}
use lib.IntN.{ℤ, pos, ◌+ℤ◌, ◌-ℤ◌}
use lib.Dec.{ltb, leb, eqb}
use lib.Signed.{le_z}
use lib.ListN.{length}
use Rattle.laws.specs.Whole.{eq_z}
use Rattle.laws.specs.Lists.{filter, list_all, count, find, is_some}
use Rattle.guids.specs.Guid.{Guid, same_guid}
use Rattle.laws.proofs.Lists.{keep_map, any_map, all_map, find_map, count_map, map_o}
use Rattle.source_model.specs.Map.{Order, guids, numbers, pairs, or_default, get, insert, entry, remove}
use Rattle.rules.specs.declared.state.ReleaseCounts.{ReleaseCounts}
use Rattle.source_model.specs.Source.{SetEnd, Entry, HeartbeatInfo, Progress, OpenSet, no_set, Group, no_group, GroupView, GroupOrder, sum_of, is_that, is_some_and, is_past, sees, heard, gap_to, discarding, agrees_with, skips, as_u64, first_of, held_for, is_empty, with_writer, pushed, with_sets, with_end, Did, did_push, did_join, did_count, join_or, joins, offer_to, group_of, late_if, offer_does, offer_entry, announce, heartbeat, gap, set_known, passable, copies_in, copies_arrived, Loop, with_member, ended, take_in, commit_to, commit, item_of, items, complete, finish_if, finish_set, stale, drop_if, drop_all, commit_each, waited, taken, take_next, take_if, is_ready, at_head, all_ends, finish_or, at_ended, turn, or_return, release_group, release_each, release}
use Rattle.source_model.specs.Calls.{group_at, ninth, pair33, stored_in, stored, samples_in, samples, fate_of, new_end, adds}
use Rattle.source_model.specs.Claim.{each_returns}
use Rattle.source_model.proofs.Sets.{map_append}
use Rattle.source_model.proofs.Commits.{length_map}
use Rattle.source_model.proofs.Ready.{all_ext}
use Rattle.source_model.proofs.Rounds.{first_map}
use Rattle.source_model.proofs.Figures.{sum_ext, count_ext}

-- ---- maps whose values are changed

unfoldable pub over : {K A B : Type 0} → (A → B) → List (K × A) → List (K × B)
over f m = map (λ x. (x.0, f x.1)) m

module _ {K A B : Type 0} (o : Order K) (f : A → B) where
  pub get_over : (k : K) (m : List (K × A)) → get o k (over f m) ≡ map_o f (get o k m)
  unfolding get over
  get_over k [] = refl
  get_over k (x ∷ m) = elim (o.same k x.0) as (λ b. cond b (Some (f x.1)) (get o k (over f m)) ≡ map_o f (cond b (Some x.1) (get o k m))) [ true ↦ refl | false ↦ get_over k m ]

  pub insert_over : (k : K) (v : A) (m : List (K × A)) → insert o k (f v) (over f m) ≡ over f (insert o k v m)
  unfolding insert over
  insert_over k v [] = refl
  insert_over k v (x ∷ m) =
      elim (o.same k x.0) as (λ b. cond b ((k, f v) ∷ over f m) (cond (o.less k x.0) ((k, f v) ∷ (x.0, f x.1) ∷ over f m) ((x.0, f x.1) ∷ insert o k (f v) (over f m))) ≡ over f (cond b ((k, v) ∷ m) (cond (o.less k x.0) ((k, v) ∷ x ∷ m) (x ∷ insert o k v m)))) [
        | true ↦ refl
        | false ↦ (elim (o.less k x.0) as (λ b. cond b ((k, f v) ∷ (x.0, f x.1) ∷ over f m) ((x.0, f x.1) ∷ insert o k (f v) (over f m)) ≡ over f (cond b ((k, v) ∷ x ∷ m) (x ∷ insert o k v m))) [
          | true ↦ refl
          | false ↦ ap (λ r. (x.0, f x.1) ∷ r) (insert_over k v m)
        ])
      ]

  pub remove_over : (k : K) (m : List (K × A)) → remove o k (over f m) ≡ over f (remove o k m)
  unfolding remove over
  remove_over k m = keep_map (λ x. not (o.same k x.0)) (λ x. (x.0, f x.1)) m

keys_over : {K A B : Type 0} (f : A → B) (l : List (K × A)) → map (λ x. x.0) (over f l) ≡ map (λ x. x.0) l
unfolding over
keys_over f [] = refl
keys_over f (x ∷ l) = ap (λ r. x.0 ∷ r) (keys_over f l)

first_over : {K A B : Type 0} (f : A → B) (l : List (K × A)) → first_of (over f l) ≡ map_o (λ x. (x.0, f x.1)) (first_of l)
unfolding over
first_over f l = first_map (λ x. (x.0, f x.1)) l

sum_map : {A B : Type 0} (g : B → ℕ) (f : A → B) (l : List A) → sum_of g (map f l) ≡ sum_of (λ a. g (f a)) l
unfolding sum_of
sum_map g f [] = refl
sum_map g f (a ∷ l) = ap (λ n. g (f a) + n) (sum_map g f l)

over_length : {K A B : Type 0} (f : A → B) (m : List (K × A)) → length (over f m) ≡ length m
unfolding over
over_length f m = length_map (λ x. (x.0, f x.1)) m

sum_over : {K A B : Type 0} (n : B → ℕ) (k : A → ℕ) (f : A → B) → ((a : A) → n (f a) ≡ k a) → (m : List (K × A)) → sum_of (λ x. n x.1) (over f m) ≡ sum_of (λ x. k x.1) m
unfolding over
sum_over n k f h m = sum_map (λ x. n x.1) (λ x. (x.0, f x.1)) m ∙ sum_ext (λ x. n (f x.1)) (λ x. k x.1) (λ x. h x.1) m

some_map : {A B : Type 0} (f : A → B) (u : Option A) → is_some (map_o f u) ≡ is_some u
unfolding is_some
some_map f None = refl
some_map f (Some a) = refl

-- ---- without the writer set

module _ {I : Type 0} where
  unfoldable pub bare : Entry I → Entry I
  bare e = record { reader = e.reader; writer = e.writer; info = record { gsn = e.info.gsn; writer_set = 0; coherent_set_gsn = e.info.coherent_set_gsn }; at_end = e.at_end; item = e.item; offered_at = e.offered_at }

  unfoldable pub bares : List (Entry I) → List (Entry I)
  bares l = map (λ e. bare e) l

  unfoldable pub bare_set : OpenSet I → OpenSet I
  bare_set s = record { members = bares s.members; ends = s.ends; end_committed = s.end_committed }

  unfoldable pub bare_group : Group I → Group I
  bare_group g = record { committed = g.committed; pending = over (λ v. bares v) g.pending; writers = g.writers; current_gsn = g.current_gsn; sets = over (λ s. bare_set s) g.sets }

  unfoldable pub bare_loop : Loop I → Loop I
  bare_loop l = record { group = bare_group l.group; out = l.out; counts = l.counts }

  unfoldable pub bare_order : GroupOrder I → GroupOrder I
  bare_order o = record { groups = over (λ g. bare_group g) o.groups; timeout = o.timeout; counts = o.counts }

  or_bares : (u : Option (List (Entry I))) → or_default [] (map_o (λ v. bares v) u) ≡ bares (or_default [] u)
  unfolding bares
  or_bares None = refl
  or_bares (Some v) = refl

  or_set : (u : Option (OpenSet I)) → or_default no_set (map_o (λ s. bare_set s) u) ≡ bare_set (or_default no_set u)
  unfolding bare_set no_set bares
  or_set None = refl
  or_set (Some s) = refl

  or_group : (u : Option (Group I)) → or_default no_group (map_o (λ g. bare_group g) u) ≡ bare_group (or_default no_group u)
  unfolding bare_group no_group over
  or_group None = refl
  or_group (Some g) = refl

  bares_snoc : (l : List (Entry I)) (e : Entry I) → bares l ++ (bare e ∷ []) ≡ bares (l ++ (e ∷ []))
  unfolding bares
  bares_snoc l e = sym (map_append (λ e. bare e) l (e ∷ []))

  bares_length : (l : List (Entry I)) → length (bares l) ≡ length l
  unfolding bares
  bares_length l = length_map (λ e. bare e) l

  bares_first : (l : List (Entry I)) → first_of (bares l) ≡ map_o (λ e. bare e) (first_of l)
  unfolding bares
  bares_first l = first_map (λ e. bare e) l

  bare_set_lem : (e : Entry I) → (bare e).info.coherent_set_gsn ≡ e.info.coherent_set_gsn
  unfolding bare
  bare_set_lem e = refl

  set_length : (s : OpenSet I) → length (bare_set s).members ≡ length s.members
  unfolding bare_set
  set_length s = bares_length s.members

  get_set : (z : ℤ) (l : Loop I) → get numbers z (bare_loop l).group.sets ≡ map_o (λ s. bare_set s) (get numbers z l.group.sets)
  unfolding bare_loop bare_group
  get_set z l = get_over numbers (λ s. bare_set s) z l.group.sets

  -- ---- commit

  take_bare : (e : Entry I) (a : Option SetEnd) (s : OpenSet I) → take_in (bare e) a (bare_set s) ≡ bare_set (take_in e a s)
  unfolding ended with_end with_member bare_set bare
  take_bare e (Some x) s = refl
  take_bare e None s = ap (λ m. record { members = m; ends = s.ends; end_committed = s.end_committed }) (bares_snoc s.members e)

  commit_to_bare : (z : Option ℤ) (e : Entry I) (l : Loop I) → commit_to z (bare e) (bare_loop l) ≡ bare_loop (commit_to z e l)
  unfolding bare_loop bare_group with_sets entry
  commit_to_bare (Some first) e l =
      let a : or_default no_set (get numbers first (over (λ s. bare_set s) l.group.sets)) ≡ bare_set (or_default no_set (get numbers first l.group.sets)) =
      ap (λ u. or_default no_set u) (get_over numbers (λ s. bare_set s) first l.group.sets) ∙ or_set (get numbers first l.group.sets) in
      let b : take_in (bare e) (bare e).at_end (or_default no_set (get numbers first (over (λ s. bare_set s) l.group.sets))) ≡ bare_set (take_in e e.at_end (or_default no_set (get numbers first l.group.sets))) =
      ap (λ s. take_in (bare e) (bare e).at_end s) a ∙ (unfold bare in take_bare e e.at_end (or_default no_set (get numbers first l.group.sets))) in
      ap (λ m. record { group = record { committed = l.group.committed; pending = over (λ v. bares v) l.group.pending; writers = l.group.writers; current_gsn = l.group.current_gsn; sets = m }; out = l.out; counts = l.counts })
      (ap (λ v. insert numbers first v (over (λ s. bare_set s) l.group.sets)) b
      ∙ insert_over numbers (λ s. bare_set s) first (take_in e e.at_end (or_default no_set (get numbers first l.group.sets))) l.group.sets)
  commit_to_bare None e l = unfold bare in refl

  commit_bare : (e : Entry I) (l : Loop I) → commit (bare e) (bare_loop l) ≡ bare_loop (commit e l)
  unfolding commit
  commit_bare e l = ap (λ z. commit_to z (bare e) (bare_loop l)) (bare_set_lem e) ∙ commit_to_bare e.info.coherent_set_gsn e l

  -- ---- stale sets

  stale_bare : (e : Entry I) (m : List (ℤ × OpenSet I)) → stale (bare e) (over (λ s. bare_set s) m) ≡ stale e m
  unfolding stale bare bare_set over
  stale_bare e m =
      let p : ℤ × OpenSet I → Bool = λ x. not x.1.end_committed && not (is_that x.0 e.info.coherent_set_gsn) in
      ap (λ l. map (λ x. x.0) l) (keep_map p (λ x. (x.0, bare_set x.1)) m) ∙ keys_over (λ s. bare_set s) (filter p m)

  stale_loop : (e : Entry I) (l : Loop I) → stale (bare e) (bare_loop l).group.sets ≡ stale e l.group.sets
  unfolding bare_loop bare_group
  stale_loop e l = stale_bare e l.group.sets

  drop_if_bare : (first : ℤ) (l : Loop I) (u : Option (OpenSet I)) → drop_if first (bare_loop l) (map_o (λ s. bare_set s) u) ≡ bare_loop (drop_if first l u)
  unfolding bare_loop bare_group with_sets
  drop_if_bare first l None = refl
  drop_if_bare first l (Some s) =
      ap (λ m. record { group = record { committed = l.group.committed; pending = over (λ v. bares v) l.group.pending; writers = l.group.writers; current_gsn = l.group.current_gsn; sets = m }; out = l.out; counts = discarding (length (bare_set s).members) l.counts }) (remove_over numbers (λ s. bare_set s) first l.group.sets)
      ∙ ap (λ n. record { group = record { committed = l.group.committed; pending = over (λ v. bares v) l.group.pending; writers = l.group.writers; current_gsn = l.group.current_gsn; sets = over (λ s. bare_set s) (remove numbers first l.group.sets) }; out = l.out; counts = discarding n l.counts }) (set_length s)

  drop_all_bare : (fs : List ℤ) (l : Loop I) → drop_all fs (bare_loop l) ≡ bare_loop (drop_all fs l)
  unfolding drop_all
  drop_all_bare [] l = refl
  drop_all_bare (first ∷ fs) l =
      ap (λ u. drop_all fs (drop_if first (bare_loop l) u)) (get_set first l)
      ∙ ap (λ m. drop_all fs m) (drop_if_bare first l (get numbers first l.group.sets))
      ∙ drop_all_bare fs (drop_if first l (get numbers first l.group.sets))

  commit_each_bare : (es : List (Entry I)) (l : Loop I) → commit_each (bares es) (bare_loop l) ≡ bare_loop (commit_each es l)
  unfolding commit_each bares
  commit_each_bare [] l = refl
  commit_each_bare (e ∷ es) l =
      ap (λ fs. commit_each (bares es) (commit (bare e) (drop_all fs (bare_loop l)))) (stale_loop e l)
      ∙ ap (λ m. commit_each (bares es) (commit (bare e) m)) (drop_all_bare (stale e l.group.sets) l)
      ∙ ap (λ m. commit_each (bares es) m) (commit_bare e (drop_all (stale e l.group.sets) l))
      ∙ commit_each_bare es (commit e (drop_all (stale e l.group.sets) l))

  -- ---- one turn

  taken_bare : (next : ℤ) (k : ℕ) (l : Loop I) → taken next k (bare_loop l) ≡ bare_loop (taken next k l)
  unfolding taken bare_loop bare_group
  taken_bare next k l =
      ap (λ m. record { group = record { committed = next; pending = m; writers = l.group.writers; current_gsn = l.group.current_gsn; sets = over (λ s. bare_set s) l.group.sets }; out = l.out; counts = skips k l.counts })
      (remove_over numbers (λ v. bares v) next l.group.pending)

  heads_bare : (next : ℤ) (l : Loop I) → or_default [] (get numbers next (bare_loop l).group.pending) ≡ bares (or_default [] (get numbers next l.group.pending))
  unfolding bare_loop bare_group
  heads_bare next l = ap (λ u. or_default [] u) (get_over numbers (λ v. bares v) next l.group.pending) ∙ or_bares (get numbers next l.group.pending)

  take_next_bare : (next : ℤ) (k : ℕ) (l : Loop I) → take_next next k (bare_loop l) ≡ bare_loop (take_next next k l)
  unfolding take_next
  take_next_bare next k l =
      ap (λ es. commit_each es (taken next k (bare_loop l))) (heads_bare next l)
      ∙ ap (λ m. commit_each (bares (or_default [] (get numbers next l.group.pending))) m) (taken_bare next k l)
      ∙ commit_each_bare (or_default [] (get numbers next l.group.pending)) (taken next k l)

  take_if_bare : (r y : Bool) (next : ℤ) (k : ℕ) (l : Loop I) → take_if r y next k (bare_loop l) ≡ map_o (λ m. bare_loop m) (take_if r y next k l)
  take_if_bare true y next k l = ap Some (take_next_bare next 0 l)
  take_if_bare false true next k l = refl
  take_if_bare false false next k l = ap Some (take_next_bare next k l)

  waited_bare : (now : ℕ) (u : Option (Entry I)) → waited now (map_o (λ e. bare e) u) ≡ waited now u
  unfolding bare
  waited_bare now None = refl
  waited_bare now (Some e) = refl

  items_bare : (l : List (Entry I)) → items (bares l) ≡ items l
  unfolding items bares bare
  items_bare [] = refl
  items_bare (e ∷ l) = ap (λ r. item_of e.item e.reader r) (items_bare l)

  copies_in_bare : (key : Guid) (g : Group I) (view : GroupView) (gsn : ℤ) (u : Option (List (Entry I))) → copies_in key (bare_group g) view gsn (map_o (λ v. bares v) u) ≡ copies_in key g view gsn u
  unfolding bare_group bares bare
  copies_in_bare key g view gsn None = refl
  copies_in_bare key g view gsn (Some es) =
      all_map _ (λ e. bare e) es
      ∙ all_ext _ _ (λ e. all_ext _ _ (λ c. ap (λ b. not (same_guid e.writer c.0) || b || is_some_and (λ p. is_past p c.1 gsn) (get guids c.0 g.writers)) (any_map (λ other. eqb c.1 other.reader) (λ e. bare e) es)) (view.counted key)) es

  pending_get : (n : ℤ) (g : Group I) → get numbers n (bare_group g).pending ≡ map_o (λ v. bares v) (get numbers n g.pending)
  unfolding bare_group
  pending_get n g = get_over numbers (λ v. bares v) n g.pending

  copies_bare : (key : Guid) (g : Group I) (view : GroupView) (gsn : ℤ) → copies_arrived key (bare_group g) view gsn ≡ copies_arrived key g view gsn
  unfolding copies_arrived
  copies_bare key g view gsn = ap (λ u. copies_in key (bare_group g) view gsn u) (pending_get gsn g) ∙ copies_in_bare key g view gsn (get numbers gsn g.pending)

  passable_bare : (key : Guid) (g : Group I) (view : GroupView) (missing next : ℤ) → passable key (bare_group g) view missing next ≡ passable key g view missing next
  unfolding passable set_known bare_group
  passable_bare key g view missing next = refl

  complete_bare : (s : OpenSet I) (counted : List (Guid × ℕ)) (a : Bool) → complete (bare_set s) counted a ≡ complete s counted a
  unfolding complete bare_set bares bare
  complete_bare s counted a =
      ap (λ b. a && b)
      (all_ext _ _
      (λ pair. ap (λ n. is_some_and (λ x. agrees_with n x.first_sn x.ecs_sn) (get pairs pair s.ends)) (count_map (λ m. same_guid pair.0 m.writer && eqb pair.1 m.reader) (λ e. bare e) s.members)) counted)

  finish_if_bare : (b : Bool) (s : OpenSet I) (l : Loop I) → finish_if b (bare_set s) (bare_loop l) ≡ bare_loop (finish_if b s l)
  unfolding bare_loop bare_set
  finish_if_bare true s l = ap (λ i. record { group = bare_group l.group; out = l.out ++ i; counts = l.counts }) (items_bare s.members)
  finish_if_bare false s l = ap (λ n. record { group = bare_group l.group; out = l.out; counts = discarding n l.counts }) (bares_length s.members)

  finish_set_bare : (s : OpenSet I) (counted : List (Guid × ℕ)) (a : Bool) (l : Loop I) → finish_set (bare_set s) counted a (bare_loop l) ≡ bare_loop (finish_set s counted a l)
  unfolding finish_set
  finish_set_bare s counted a l = ap (λ b. finish_if b (bare_set s) (bare_loop l)) (complete_bare s counted a) ∙ finish_if_bare (complete s counted a) s l

  module _ (key : Guid) (view : GroupView) (now timeout : ℕ) where
    is_ready_bare : (g : Group I) (missing next : ℤ) → is_ready key view now timeout (bare_group g) missing next ≡ is_ready key view now timeout g missing next
    unfolding is_ready
    is_ready_bare g missing next =
        ap (λ b. (eq_z next missing || b) && copies_arrived key (bare_group g) view next) (passable_bare key g view missing next)
        ∙ ap (λ b. (eq_z next missing || passable key g view missing next) && b) (copies_bare key g view next)

    committed_bare : (l : Loop I) → (bare_loop l).group.committed ≡ l.group.committed
    unfolding bare_loop bare_group
    committed_bare l = refl

    group_bare : (l : Loop I) → (bare_loop l).group ≡ bare_group l.group
    unfolding bare_loop
    group_bare l = refl

    young_bare : (n : ℤ) (l : Loop I) → ltb (waited now (first_of (or_default [] (get numbers n (bare_loop l).group.pending)))) timeout ≡ ltb (waited now (first_of (or_default [] (get numbers n l.group.pending)))) timeout
    young_bare n l =
        ap (λ v. ltb (waited now (first_of v)) timeout) (heads_bare n l)
        ∙ ap (λ u. ltb (waited now u) timeout) (bares_first (or_default [] (get numbers n l.group.pending)))
        ∙ ap (λ k. ltb k timeout) (waited_bare now (first_of (or_default [] (get numbers n l.group.pending))))

    at_head_bare : (l : Loop I) (u : Option (ℤ × List (Entry I))) → at_head key view now timeout (bare_loop l) (map_o (λ x. (x.0, bares x.1)) u) ≡ map_o (λ m. bare_loop m) (at_head key view now timeout l u)
    at_head_bare l None = refl
    at_head_bare l (Some x) =
        let y : Bool = ltb (waited now (first_of (or_default [] (get numbers x.0 (bare_loop l).group.pending)))) timeout in
        let z : Bool = ltb (waited now (first_of (or_default [] (get numbers x.0 l.group.pending)))) timeout in
        ap (λ c. take_if (is_ready key view now timeout (bare_loop l).group (c +ℤ pos 1) x.0) y x.0 (as_u64 (x.0 -ℤ (c +ℤ pos 1))) (bare_loop l)) (committed_bare l)
        ∙ ap (λ g. take_if (is_ready key view now timeout g (l.group.committed +ℤ pos 1) x.0) y x.0 (as_u64 (x.0 -ℤ (l.group.committed +ℤ pos 1))) (bare_loop l)) (group_bare l)
        ∙ ap (λ r. take_if r y x.0 (as_u64 (x.0 -ℤ (l.group.committed +ℤ pos 1))) (bare_loop l)) (is_ready_bare l.group (l.group.committed +ℤ pos 1) x.0)
        ∙ ap (λ y. take_if (is_ready key view now timeout l.group (l.group.committed +ℤ pos 1) x.0) y x.0 (as_u64 (x.0 -ℤ (l.group.committed +ℤ pos 1))) (bare_loop l)) (young_bare x.0 l)
        ∙ take_if_bare (is_ready key view now timeout l.group (l.group.committed +ℤ pos 1) x.0) z x.0 (as_u64 (x.0 -ℤ (l.group.committed +ℤ pos 1))) l

    all_ends_bare : (s : OpenSet I) → all_ends key view now timeout (bare_set s) ≡ all_ends key view now timeout s
    unfolding all_ends bare_set
    all_ends_bare s = refl

    removed_bare : (z : ℤ) (l : Loop I) → record { group = with_sets (remove numbers z (bare_loop l).group.sets) (bare_loop l).group; out = (bare_loop l).out; counts = (bare_loop l).counts } ≡ bare_loop (record { group = with_sets (remove numbers z l.group.sets) l.group; out = l.out; counts = l.counts })
    unfolding bare_loop bare_group with_sets
    removed_bare z l = ap (λ m. record { group = record { committed = l.group.committed; pending = over (λ v. bares v) l.group.pending; writers = l.group.writers; current_gsn = l.group.current_gsn; sets = m }; out = l.out; counts = l.counts }) (remove_over numbers (λ s. bare_set s) z l.group.sets)

    finish_or_bare : (b : Bool) (z : ℤ) (s : OpenSet I) (l : Loop I) → finish_or key view now timeout b z (bare_set s) (bare_loop l) ≡ map_o (λ m. bare_loop m) (finish_or key view now timeout b z s l)
    finish_or_bare true z s l = refl
    finish_or_bare false z s l =
        ap Some
        (ap (λ a. finish_set (bare_set s) (view.counted key) a (record { group = with_sets (remove numbers z (bare_loop l).group.sets) (bare_loop l).group; out = (bare_loop l).out; counts = (bare_loop l).counts })) (all_ends_bare s)
        ∙ ap (λ m. finish_set (bare_set s) (view.counted key) (all_ends key view now timeout s) m) (removed_bare z l)
        ∙ finish_set_bare s (view.counted key) (all_ends key view now timeout s) (record { group = with_sets (remove numbers z l.group.sets) l.group; out = l.out; counts = l.counts }))

    first_member : (s : OpenSet I) → waited now (first_of (bare_set s).members) ≡ waited now (first_of s.members)
    unfolding bare_set
    first_member s = ap (λ u. waited now u) (bares_first s.members) ∙ waited_bare now (first_of s.members)

    pending_first : (l : Loop I) → first_of (bare_loop l).group.pending ≡ map_o (λ x. (x.0, bares x.1)) (first_of l.group.pending)
    unfolding bare_loop bare_group
    pending_first l = first_over (λ v. bares v) l.group.pending

    at_ended_bare : (l : Loop I) (u : Option (ℤ × OpenSet I)) → at_ended key view now timeout (bare_loop l) (map_o (λ x. (x.0, bare_set x.1)) u) ≡ map_o (λ m. bare_loop m) (at_ended key view now timeout l u)
    at_ended_bare l None = ap (λ u. at_head key view now timeout (bare_loop l) u) (pending_first l) ∙ at_head_bare l (first_of l.group.pending)
    at_ended_bare l (Some x) =
        let s : OpenSet I = or_default no_set (get numbers x.0 l.group.sets) in
        ap (λ t. finish_or key view now timeout (not (all_ends key view now timeout t) && ltb (waited now (first_of t.members)) timeout) x.0 t (bare_loop l)) (ap (λ u. or_default no_set u) (get_set x.0 l) ∙ or_set (get numbers x.0 l.group.sets))
        ∙ ap (λ b. finish_or key view now timeout (not b && ltb (waited now (first_of (bare_set s).members)) timeout) x.0 (bare_set s) (bare_loop l)) (all_ends_bare s)
        ∙ ap (λ n. finish_or key view now timeout (not (all_ends key view now timeout s) && ltb n timeout) x.0 (bare_set s) (bare_loop l)) (first_member s)
        ∙ finish_or_bare (not (all_ends key view now timeout s) && ltb (waited now (first_of s.members)) timeout) x.0 s l

    ended_found : (l : Loop I) → find (λ x. x.1.end_committed) (bare_loop l).group.sets ≡ map_o (λ x. (x.0, bare_set x.1)) (find (λ x. x.1.end_committed) l.group.sets)
    unfolding bare_loop bare_group over bare_set
    ended_found l = find_map (λ x. x.1.end_committed) (λ x. (x.0, bare_set x.1)) l.group.sets

    turn_bare : (l : Loop I) → turn key view now timeout (bare_loop l) ≡ map_o (λ m. bare_loop m) (turn key view now timeout l)
    unfolding turn
    turn_bare l = ap (λ u. at_ended key view now timeout (bare_loop l) u) (ended_found l) ∙ at_ended_bare l (find (λ x. x.1.end_committed) l.group.sets)

    loop_bare : (k : ℕ) (l : Loop I) → release_group key view now timeout k (bare_loop l) ≡ bare_loop (release_group key view now timeout k l)
    unfolding release_group
    loop_bare zero l = refl
    loop_bare (suc k) l =
        ap (λ u. or_return key view now timeout (λ m. release_group key view now timeout k m) (bare_loop l) u) (turn_bare l)
        ∙ (elim (turn key view now timeout l) as (λ u. or_return key view now timeout (λ m. release_group key view now timeout k m) (bare_loop l) (map_o (λ m. bare_loop m) u) ≡ bare_loop (or_return key view now timeout (λ m. release_group key view now timeout k m) l u)) [ None ↦ refl | Some m ↦ loop_bare k m ])

  group_loop : (key : Guid) (view : GroupView) (now timeout turns : ℕ) (g : Group I) (out : List (ℕ × I)) (c : ReleaseCounts)
      → release_group key view now timeout turns (record { group = bare_group g; out = out; counts = c }) ≡ bare_loop (release_group key view now timeout turns (record { group = g; out = out; counts = c }))
  unfolding bare_loop
  group_loop key view now timeout turns g out c = loop_bare key view now timeout turns (record { group = g; out = out; counts = c })

  each_bare : (turns : ℕ) (view : GroupView) (now timeout : ℕ) (gs : List (Guid × Group I)) (out : List (ℕ × I)) (c : ReleaseCounts)
      → release_each turns view now timeout (over (λ g. bare_group g) gs) out c ≡ (over (λ g. bare_group g) (release_each turns view now timeout gs out c).0, (release_each turns view now timeout gs out c).1)
  unfolding release_each over bare_loop
  each_bare turns view now timeout [] out c = refl
  each_bare turns view now timeout (x ∷ gs) out c =
      let l : Loop I = release_group x.0 view now timeout turns (record { group = x.1; out = out; counts = c }) in
      ap (λ (m : Loop I). ((x.0, m.group) ∷ (release_each turns view now timeout (over (λ g. bare_group g) gs) m.out m.counts).0, (release_each turns view now timeout (over (λ g. bare_group g) gs) m.out m.counts).1)) (group_loop x.0 view now timeout turns x.1 out c)
      ∙ ap (λ (r : List (Guid × Group I) × (List (ℕ × I) × ReleaseCounts)). ((x.0, bare_group l.group) ∷ r.0, r.1)) (each_bare turns view now timeout gs l.out l.counts)

  one_returns : (key : Guid) (view : GroupView) (now timeout turns : ℕ) (g : Group I) (out : List (ℕ × I)) (c : ReleaseCounts)
      → is_some (turn key view now timeout (release_group key view now timeout turns (record { group = bare_group g; out = out; counts = c }))) ≡ is_some (turn key view now timeout (release_group key view now timeout turns (record { group = g; out = out; counts = c })))
  one_returns key view now timeout turns g out c =
      let l : Loop I = release_group key view now timeout turns (record { group = g; out = out; counts = c }) in
      ap (λ m. is_some (turn key view now timeout m)) (group_loop key view now timeout turns g out c) ∙ ap (λ u. is_some u) (turn_bare key view now timeout l) ∙ some_map (λ m. bare_loop m) (turn key view now timeout l)

  pub returns_bare : (turns : ℕ) (view : GroupView) (now timeout : ℕ) (gs : List (Guid × Group I)) (out : List (ℕ × I)) (c : ReleaseCounts)
      → each_returns turns view now timeout (over (λ g. bare_group g) gs) out c ≡ each_returns turns view now timeout gs out c
  unfolding each_returns over bare_loop
  returns_bare turns view now timeout [] out c = refl
  returns_bare turns view now timeout (x ∷ gs) out c =
      let l : Loop I = release_group x.0 view now timeout turns (record { group = x.1; out = out; counts = c }) in
      ap (λ b. not b && each_returns turns view now timeout (over (λ g. bare_group g) gs) (release_group x.0 view now timeout turns (record { group = bare_group x.1; out = out; counts = c })).out (release_group x.0 view now timeout turns (record { group = bare_group x.1; out = out; counts = c })).counts) (one_returns x.0 view now timeout turns x.1 out c)
      ∙ ap (λ (m : Loop I). not (is_some (turn x.0 view now timeout l)) && each_returns turns view now timeout (over (λ g. bare_group g) gs) m.out m.counts) (group_loop x.0 view now timeout turns x.1 out c)
      ∙ ap (λ b. not (is_some (turn x.0 view now timeout l)) && b) (returns_bare turns view now timeout gs l.out l.counts)

  pub release_bare : (turns : ℕ) (o : GroupOrder I) (view : GroupView) (now : ℕ) → release turns (bare_order o) view now ≡ ((release turns o view now).0, bare_order (release turns o view now).1)
  unfolding release bare_order
  release_bare turns o view now = ap (λ (r : List (Guid × Group I) × (List (ℕ × I) × ReleaseCounts)). (r.1.0, record { groups = r.0; timeout = o.timeout; counts = r.1.1 })) (each_bare turns view now o.timeout o.groups [] o.counts)

  -- ---- offer

  abbrev bare_did : Did I → Did I
  bare_did (did_push g) = did_push (bare_group g)
  bare_did (did_join g) = did_join (bare_group g)
  bare_did (did_count g) = did_count (bare_group g)

  pushed_bare : (e : Entry I) (g : Group I) → pushed (bare e) (bare_group g) ≡ bare_group (pushed e g)
  unfolding pushed bare_group entry bare
  pushed_bare e g =
      ap (λ m. record { committed = g.committed; pending = m; writers = g.writers; current_gsn = g.current_gsn; sets = over (λ s. bare_set s) g.sets })
      (ap (λ v. insert numbers e.info.gsn (v ++ (bare e ∷ [])) (over (λ v. bares v) g.pending)) (ap (λ u. or_default [] u) (get_over numbers (λ v. bares v) e.info.gsn g.pending) ∙ or_bares (get numbers e.info.gsn g.pending))
      ∙ ap (λ v. insert numbers e.info.gsn v (over (λ v. bares v) g.pending)) (bares_snoc (or_default [] (get numbers e.info.gsn g.pending)) e)
      ∙ insert_over numbers (λ v. bares v) e.info.gsn (or_default [] (get numbers e.info.gsn g.pending) ++ (e ∷ [])) g.pending)

  end_bare : (w : Guid) (r : ℕ) (x : SetEnd) (s : OpenSet I) → record { members = (bare_set s).members; ends = insert pairs (w, r) x (bare_set s).ends; end_committed = (bare_set s).end_committed } ≡ bare_set (record { members = s.members; ends = insert pairs (w, r) x s.ends; end_committed = s.end_committed })
  unfolding bare_set
  end_bare w r x s = refl

  join_or_bare : (w : Guid) (r : ℕ) (x : SetEnd) (z : ℤ) (g : Group I) (u : Option (OpenSet I)) → join_or w r x z (bare_group g) (map_o (λ s. bare_set s) u) ≡ bare_did (join_or w r x z g u)
  unfolding bare_group with_sets with_end
  join_or_bare w r x z g None = refl
  join_or_bare w r x z g (Some s) =
      ap (λ m. did_join (record { committed = g.committed; pending = over (λ v. bares v) g.pending; writers = g.writers; current_gsn = g.current_gsn; sets = m }))
      (ap (λ v. insert numbers z v (over (λ s. bare_set s) g.sets)) (end_bare w r x s) ∙ insert_over numbers (λ s. bare_set s) z (record { members = s.members; ends = insert pairs (w, r) x s.ends; end_committed = s.end_committed }) g.sets)

  sets_get : (z : ℤ) (g : Group I) → get numbers z (bare_group g).sets ≡ map_o (λ s. bare_set s) (get numbers z g.sets)
  unfolding bare_group
  sets_get z g = get_over numbers (λ s. bare_set s) z g.sets

  joins_bare : (e : Entry I) (g : Group I) (a : Option SetEnd) (z : Option ℤ) → joins (bare e) (bare_group g) a z ≡ bare_did (joins e g a z)
  unfolding bare
  joins_bare e g None z = refl
  joins_bare e g (Some x) None = refl
  joins_bare e g (Some x) (Some z) = ap (λ u. join_or e.writer e.reader x z (bare_group g) u) (sets_get z g) ∙ join_or_bare e.writer e.reader x z g (get numbers z g.sets)

  joins_own : (e : Entry I) (g : Group I) → joins (bare e) (bare_group g) (bare e).at_end (bare e).info.coherent_set_gsn ≡ bare_did (joins e g e.at_end e.info.coherent_set_gsn)
  unfolding bare
  joins_own e g = joins_bare e g e.at_end e.info.coherent_set_gsn

  above_bare : (e : Entry I) (g : Group I) → le_z (bare e).info.gsn (bare_group g).committed ≡ le_z e.info.gsn g.committed
  unfolding bare bare_group
  above_bare e g = refl

  offer_to_bare : (e : Entry I) (g : Group I) → offer_to (bare e) (bare_group g) ≡ bare_did (offer_to e g)
  unfolding offer_to
  offer_to_bare e g =
      ap (λ b. cond b (joins (bare e) (bare_group g) (bare e).at_end (bare e).info.coherent_set_gsn) (did_push (pushed (bare e) (bare_group g)))) (above_bare e g)
      ∙ (elim (le_z e.info.gsn g.committed) as (λ b. cond b (joins (bare e) (bare_group g) (bare e).at_end (bare e).info.coherent_set_gsn) (did_push (pushed (bare e) (bare_group g))) ≡ bare_did (cond b (joins e g e.at_end e.info.coherent_set_gsn) (did_push (pushed e g)))) [
        | true ↦ joins_own e g
        | false ↦ ap did_push (pushed_bare e g)
      ])

  told_bare : (w : Guid) (f : Progress → Progress) (g : Group I) → with_writer w f (bare_group g) ≡ bare_group (with_writer w f g)
  unfolding with_writer bare_group
  told_bare w f g = refl

  pub group_at_bare : (key : Guid) (o : GroupOrder I) → or_default no_group (get guids key (bare_order o).groups) ≡ bare_group (or_default no_group (get guids key o.groups))
  unfolding bare_order
  group_at_bare key o = ap (λ u. or_default no_group u) (get_over guids (λ g. bare_group g) key o.groups) ∙ or_group (get guids key o.groups)

  seen_bare : (e : Entry I) (d : ℕ) (g : Group I)
      → offer_to (bare e) (with_writer (bare e).writer (λ p. sees (bare e).reader (bare e).info.gsn d p) (bare_group g)) ≡ offer_to (bare e) (bare_group (with_writer e.writer (λ p. sees e.reader e.info.gsn d p) g))
  unfolding bare
  seen_bare e d g = ap (λ h. offer_to (bare e) h) (told_bare e.writer (λ p. sees e.reader e.info.gsn d p) g)

  pub does_bare : (o : GroupOrder I) (key : Guid) (e : Entry I) (d : ℕ) → offer_does (bare_order o) key (bare e) d ≡ bare_did (offer_does o key e d)
  unfolding offer_does
  does_bare o key e d =
      let f : Progress → Progress = λ p. sees e.reader e.info.gsn d p in
      let g : Group I = or_default no_group (get guids key o.groups) in
      ap (λ h. offer_to (bare e) (with_writer (bare e).writer (λ p. sees (bare e).reader (bare e).info.gsn d p) h)) (group_at_bare key o)
      ∙ seen_bare e d g
      ∙ offer_to_bare e (with_writer e.writer f g)

  group_did : (d : Did I) → group_of (bare_did d) ≡ bare_group (group_of d)
  group_did (did_push g) = refl
  group_did (did_join g) = refl
  group_did (did_count g) = refl

  late_did : (d : Did I) (c : ReleaseCounts) → late_if (bare_did d) c ≡ late_if d c
  late_did (did_push g) c = refl
  late_did (did_join g) c = refl
  late_did (did_count g) c = refl

  pub fate_did : (d : Did I) → fate_of (bare_did d) ≡ fate_of d
  fate_did (did_push g) = refl
  fate_did (did_join g) = refl
  fate_did (did_count g) = refl

  put_bare : (o : GroupOrder I) (key : Guid) (d : Did I) → record { groups = insert guids key (group_of (bare_did d)) (bare_order o).groups; timeout = (bare_order o).timeout; counts = late_if (bare_did d) (bare_order o).counts } ≡ bare_order (record { groups = insert guids key (group_of d) o.groups; timeout = o.timeout; counts = late_if d o.counts })
  unfolding bare_order
  put_bare o key d =
      ap (λ c. record { groups = insert guids key (group_of (bare_did d)) (over (λ g. bare_group g) o.groups); timeout = o.timeout; counts = c }) (late_did d o.counts)
      ∙ ap (λ g. record { groups = insert guids key g (over (λ g. bare_group g) o.groups); timeout = o.timeout; counts = late_if d o.counts }) (group_did d)
      ∙ ap (λ m. record { groups = m; timeout = o.timeout; counts = late_if d o.counts }) (insert_over guids (λ g. bare_group g) key (group_of d) o.groups)

  pub entry_bare : (o : GroupOrder I) (key : Guid) (e : Entry I) (d : ℕ) → offer_entry (bare_order o) key (bare e) d ≡ bare_order (offer_entry o key e d)
  unfolding offer_entry
  entry_bare o key e d =
      ap (λ (q : Did I). record { groups = insert guids key (group_of q) (bare_order o).groups; timeout = (bare_order o).timeout; counts = late_if q (bare_order o).counts }) (does_bare o key e d)
      ∙ put_bare o key (offer_does o key e d)

  -- the pair's end, and whether an entry is added
  ends_bare : (s : OpenSet I) → (bare_set s).ends ≡ s.ends
  unfolding bare_set
  ends_bare s = refl

  new_end_bare : (e : Entry I) (g : Group I) (z : Option ℤ) → new_end (bare e) (bare_group g) z ≡ new_end e g z
  unfolding bare
  new_end_bare e g None = refl
  new_end_bare e g (Some z) =
      ap (λ u. not (is_some (get pairs (e.writer, e.reader) (or_default no_set u).ends))) (sets_get z g)
      ∙ ap (λ (s : OpenSet I). not (is_some (get pairs (e.writer, e.reader) s.ends))) (or_set (get numbers z g.sets))
      ∙ ap (λ m. not (is_some (get pairs (e.writer, e.reader) m))) (ends_bare (or_default no_set (get numbers z g.sets)))

  pub adds_bare : (d : Did I) (e : Entry I) (g : Group I) → adds (bare_did d) (bare e) (bare_group g) ≡ adds d e g
  adds_bare (did_push h) e g = refl
  adds_bare (did_join h) e g = ap (λ z. new_end (bare e) (bare_group g) z) (bare_set_lem e) ∙ new_end_bare e g e.info.coherent_set_gsn
  adds_bare (did_count h) e g = refl

  -- ---- heartbeat and gap

  announce_bare : (c : ℤ) (g : Group I) → announce c (bare_group g) ≡ bare_group (announce c g)
  unfolding announce bare_group
  announce_bare c g = refl

  inserted_bare : (o : GroupOrder I) (key : Guid) (g : Group I) → record { groups = insert guids key (bare_group g) (bare_order o).groups; timeout = (bare_order o).timeout; counts = (bare_order o).counts } ≡ bare_order (record { groups = insert guids key g o.groups; timeout = o.timeout; counts = o.counts })
  unfolding bare_order
  inserted_bare o key g = ap (λ m. record { groups = m; timeout = o.timeout; counts = o.counts }) (insert_over guids (λ g. bare_group g) key g o.groups)

  changed_bare : (o : GroupOrder I) (key : Guid) (f : Group I → Group I) → ((g : Group I) → f (bare_group g) ≡ bare_group (f g))
      → record { groups = entry guids no_group key f (bare_order o).groups; timeout = (bare_order o).timeout; counts = (bare_order o).counts } ≡ bare_order (record { groups = entry guids no_group key f o.groups; timeout = o.timeout; counts = o.counts })
  unfolding entry
  changed_bare o key f h =
      ap (λ g. record { groups = insert guids key (f g) (bare_order o).groups; timeout = (bare_order o).timeout; counts = (bare_order o).counts }) (group_at_bare key o)
      ∙ ap (λ g. record { groups = insert guids key g (bare_order o).groups; timeout = (bare_order o).timeout; counts = (bare_order o).counts }) (h (or_default no_group (get guids key o.groups)))
      ∙ inserted_bare o key (f (or_default no_group (get guids key o.groups)))

  pub heartbeat_bare : (o : GroupOrder I) (key w : Guid) (hb : HeartbeatInfo) → heartbeat (bare_order o) key w hb ≡ bare_order (heartbeat o key w hb)
  unfolding heartbeat
  heartbeat_bare o key w hb = changed_bare o key (λ g. with_writer w (λ p. heard hb p) (announce hb.current_gsn g)) (λ g. ap (λ h. with_writer w (λ p. heard hb p) h) (announce_bare hb.current_gsn g) ∙ told_bare w (λ p. heard hb p) (announce hb.current_gsn g))

  pub gap_bare : (o : GroupOrder I) (key w : Guid) (r : ℕ) (n : ℤ) → gap (bare_order o) key w r n ≡ bare_order (gap o key w r n)
  unfolding gap
  gap_bare o key w r n = changed_bare o key (λ g. with_writer w (λ p. gap_to r n p) g) (λ g. told_bare w (λ p. gap_to r n p) g)

  -- ---- refusals and figures

  sum_groups : (n : Group I → ℕ) → ((g : Group I) → n (bare_group g) ≡ n g) → (o : GroupOrder I) → sum_of (λ x. n x.1) (bare_order o).groups ≡ sum_of (λ x. n x.1) o.groups
  unfolding bare_order
  sum_groups n h o = sum_over n n (λ g. bare_group g) h o.groups

  pub ninth_bare : (key : Guid) (o : GroupOrder I) → ninth key (bare_order o) ≡ ninth key o
  unfolding ninth bare_order
  ninth_bare key o =
      ap (λ u. not (is_some u) && leb 8 (length (over (λ g. bare_group g) o.groups))) (get_over guids (λ g. bare_group g) key o.groups)
      ∙ ap (λ b. not b && leb 8 (length (over (λ g. bare_group g) o.groups))) (some_map (λ g. bare_group g) (get guids key o.groups))
      ∙ ap (λ n. not (is_some (get guids key o.groups)) && leb 8 n) (over_length (λ g. bare_group g) o.groups)

  writers_bare : (g : Group I) → (bare_group g).writers ≡ g.writers
  unfolding bare_group
  writers_bare g = refl

  pub pair33_bare : (key w : Guid) (o : GroupOrder I) → pair33 key w (bare_order o) ≡ pair33 key w o
  unfolding pair33 group_at
  pair33_bare key w o =
      ap (λ (g : Group I). not (is_some (get guids w g.writers)) && leb 32 (sum_of (λ x. length x.1.writers) (bare_order o).groups)) (group_at_bare key o)
      ∙ ap (λ m. not (is_some (get guids w m)) && leb 32 (sum_of (λ x. length x.1.writers) (bare_order o).groups)) (writers_bare (or_default no_group (get guids key o.groups)))
      ∙ ap (λ n. not (is_some (get guids w (or_default no_group (get guids key o.groups)).writers)) && leb 32 n) (sum_groups (λ g. length g.writers) (λ g. ap (λ m. length m) (writers_bare g)) o)

  stored_group : (g : Group I) → stored_in (bare_group g) ≡ stored_in g
  unfolding stored_in bare_group over bare_set
  stored_group g =
      let a : sum_of (λ v. length v.1) (over (λ v. bares v) g.pending) ≡ sum_of (λ v. length v.1) g.pending = sum_over (λ v. length v) (λ v. length v) (λ v. bares v) (λ v. bares_length v) g.pending in
      let b : sum_of (λ s. length s.1.members + length s.1.ends) (over (λ s. bare_set s) g.sets) ≡ sum_of (λ s. length s.1.members + length s.1.ends) g.sets =
      sum_over (λ s. length s.members + length s.ends) (λ s. length s.members + length s.ends) (λ s. bare_set s) (λ s. ap (λ n. n + length s.ends) (bares_length s.members)) g.sets in
      omega (arith, a, b)

  pub stored_bare : (o : GroupOrder I) → stored (bare_order o) ≡ stored o
  unfolding stored
  stored_bare o = sum_groups (λ g. stored_in g) (λ g. stored_group g) o

  count_bares : (p : Entry I → Bool) → ((e : Entry I) → p (bare e) ≡ p e) → (l : List (Entry I)) → count p (bares l) ≡ count p l
  unfolding bares
  count_bares p h l = count_map p (λ e. bare e) l ∙ count_ext (λ e. p (bare e)) p h l

  item_bare : (e : Entry I) → is_some (bare e).item ≡ is_some e.item
  unfolding bare
  item_bare e = refl

  samples_group : (g : Group I) → samples_in (bare_group g) ≡ samples_in g
  unfolding samples_in bare_group bare_set
  samples_group g =
      let a : sum_of (λ v. count (λ e. is_some e.item) v.1) (over (λ v. bares v) g.pending) ≡ sum_of (λ v. count (λ e. is_some e.item) v.1) g.pending = sum_over (λ v. count (λ e. is_some e.item) v) (λ v. count (λ e. is_some e.item) v) (λ v. bares v) (λ v. count_bares (λ e. is_some e.item) (λ e. item_bare e) v) g.pending in
      let b : sum_of (λ s. length s.1.members) (over (λ s. bare_set s) g.sets) ≡ sum_of (λ s. length s.1.members) g.sets = sum_over (λ s. length s.members) (λ s. length s.members) (λ s. bare_set s) (λ s. bares_length s.members) g.sets in
      omega (arith, a, b)

  pub samples_bare : (o : GroupOrder I) → samples (bare_order o) ≡ samples o
  unfolding samples
  samples_bare o = sum_groups (λ g. samples_in g) (λ g. samples_group g) o

  reader_bare : (r : ℕ) (e : Entry I) → eqb r (bare e).reader ≡ eqb r e.reader
  unfolding bare
  reader_bare r e = refl

  both_bare : (r : ℕ) (e : Entry I) → is_some (bare e).item && eqb r (bare e).reader ≡ is_some e.item && eqb r e.reader
  unfolding bare
  both_bare r e = refl

  held_group : (r : ℕ) (g : Group I)
      → sum_of (λ v. count (λ e. is_some e.item && eqb r e.reader) v.1) (bare_group g).pending + sum_of (λ s. count (λ e. eqb r e.reader) s.1.members) (bare_group g).sets
      ≡ sum_of (λ v. count (λ e. is_some e.item && eqb r e.reader) v.1) g.pending + sum_of (λ s. count (λ e. eqb r e.reader) s.1.members) g.sets
  unfolding bare_group bare_set
  held_group r g =
      let a = sum_over (λ v. count (λ e. is_some e.item && eqb r e.reader) v) (λ v. count (λ e. is_some e.item && eqb r e.reader) v) (λ v. bares v) (λ v. count_bares (λ e. is_some e.item && eqb r e.reader) (λ e. both_bare r e) v) g.pending in
      let b = sum_over (λ (s : OpenSet I). count (λ e. eqb r e.reader) s.members) (λ (s : OpenSet I). count (λ e. eqb r e.reader) s.members) (λ s. bare_set s) (λ s. count_bares (λ e. eqb r e.reader) (λ e. reader_bare r e) s.members) g.sets in
      omega (arith, a, b)

  pub held_bare : (o : GroupOrder I) (r : ℕ) → held_for (bare_order o) r ≡ held_for o r
  unfolding held_for
  held_bare o r = sum_groups (λ g. sum_of (λ v. count (λ e. is_some e.item && eqb r e.reader) v.1) g.pending + sum_of (λ s. count (λ e. eqb r e.reader) s.1.members) g.sets) (λ g. held_group r g) o

  none_in : (g : Group I) → eqb (length (bare_group g).pending) 0 && list_all (λ s. eqb (length s.1.members) 0) (bare_group g).sets ≡ eqb (length g.pending) 0 && list_all (λ s. eqb (length s.1.members) 0) g.sets
  unfolding bare_group over bare_set
  none_in g =
      ap (λ n. eqb n 0 && list_all (λ s. eqb (length s.1.members) 0) (over (λ s. bare_set s) g.sets)) (over_length (λ v. bares v) g.pending)
      ∙ ap (λ b. eqb (length g.pending) 0 && b) (all_map (λ s. eqb (length s.1.members) 0) (λ x. (x.0, bare_set x.1)) g.sets ∙ all_ext _ _ (λ x. ap (λ n. eqb n 0) (bares_length x.1.members)) g.sets)

  pub empty_bare : (o : GroupOrder I) → is_empty (bare_order o) ≡ is_empty o
  unfolding is_empty bare_order over
  empty_bare o = all_map _ (λ x. (x.0, bare_group x.1)) o.groups ∙ all_ext _ _ (λ x. none_in x.1) o.groups
