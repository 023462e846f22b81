-- Discards and commits are alike on both sides.
use Prim.{⊥}
use Prim.Native.Nat.{ℕ, zero, suc, ◌+◌, ◌-◌, ◌^◌, min, ◌≤◌, ◌<◌}
use mathlib.Core.Path.{◌≡◌, refl, sym, ap, ◌∙◌, subst}
use mathlib.Core.Bool.{Bool, true, false, ◌&&◌, ◌||◌, not, cond}
use mathlib.Core.List.{List, [], ◌∷◌, ◌++◌, map}
use Rattle.std.specs.Prelude.{Option, Some, None}
use native.Mathlib.Omega.{arith}
use lib.IntN.{ℤ, pos}
use lib.ListN.{length}
use borrow.Author.Tests.{not-true}
use Rattle.laws.specs.Lists.{filter, list_all, list_any, find, is_some}
use Rattle.guids.specs.Guid.{Guid, same_guid}
use Rattle.rules.specs.Entry.{set_end, is_sample, is_sample_w, is_set, same_set, of_group, in_set, is_member, marks}
use Rattle.rules.specs.declared.entry.What.{What}
use Rattle.rules.specs.declared.entry.What.TheVariants.{Sample, End}
use Rattle.rules.specs.declared.entry.Entry.{Entry}
use Rattle.rules.specs.State.{plus}
use Rattle.rules.specs.declared.state.Writer.{Writer}
use Rattle.rules.specs.Offer.{shares, marked, keep_end}
use Rattle.rules.specs.Sets.{members_of, without, is_stale, lowest_stale, lowest_set}
use Rattle.rules.specs.Release.{Work, skip, discards, discard, discard_or, discard_stale, with_held, with_out, mark_or, settle, commit_one, commit_all}
use Rattle.laws.proofs.Lists.{not_both, and_true, and_left, and_right, all_keep, all_imp, all_snoc, keep_keep, keep_same, keep_all, none_some, any_imp, find_any, find_test}
use Rattle.guids.proofs.Guids.{same_eq}
use Rattle.rules.proofs.Minima.{eq_z_eq, stale_there}
use Rattle.rules.proofs.Keeping.{keep_end_all}
use Rattle.rules.proofs.Fuel.{without_shorter}
use Rattle.source_model.specs.Claim.{cut, cut_counts}
use Rattle.source_model.specs.Map.{Order, numbers, or_default, get, insert, entry, remove, ascends}
use Rattle.rules.specs.declared.state.ReleaseCounts.{ReleaseCounts}
use Rattle.source_model.specs.Source.{SetEnd, OpenSet, no_set, Loop, is_some_and, is_that, first_of, with_sets, with_end, ended, take_in, push_item, item_of, commit_to, discarding, skips, stale, drop_if, drop_all, commit_each}
use Rattle.source_model.specs.Source as S
use Rattle.source_model.specs.Calls.{end_w, item_w, handed}
use Rattle.source_model.proofs.Maps.{Lawful, numbers_lawful, same_swap}
use Rattle.source_model.proofs.Like.{as_entry, is_fresh, is_pair_end, PendingLike, OpenLike, SetLike, closed, opened, SetsLike, WritersLike}
use Rattle.source_model.proofs.Sets.{keeping, keep_end_sets, member_sets, remove_sets}
use Rattle.source_model.proofs.Offered.{find_keep, open_of}
use Rattle.source_model.proofs.Found.{key_of, passes_own, found_lowest}

pub record LoopLike {X : Type 0} (g : Guid) (ws : List Writer) (a : ℕ) (lp : Loop X) (w : Work X) : Type 0 where
  pub committed : lp.group.committed ≡ pos w.committed
  pub announced : lp.group.current_gsn ≡ pos a
  pub writers : WritersLike g lp.group.writers ws
  pub pending : PendingLike g lp.group.pending w.pending
  pub sets : SetsLike g lp.group.sets w.held
  pub plain : list_all (λ e. is_fresh e) w.pending ≡ true
  pub held_sets : list_all (λ h. is_some h.set) w.held ≡ true
  pub out : lp.out ≡ handed w.out
  pub counts : w.counts ≡ cut_counts lp.counts

-- ---- counts

pub discards_cut : (k : ℕ) (c : ReleaseCounts) → discards k (cut_counts c) ≡ cut_counts (discarding k c)
unfolding discards cut_counts discarding plus cut
discards_cut k c =
    let i : min (min c.incomplete_sets (2 ^ 64 - 1) + 1) (2 ^ 64 - 1) ≡ min (c.incomplete_sets + 1) (2 ^ 64 - 1) = omega arith in
    let d : min (min c.discarded_samples (2 ^ 64 - 1) + k) (2 ^ 64 - 1) ≡ min (c.discarded_samples + k) (2 ^ 64 - 1) = omega arith in
    ap (λ n. record { skipped_after_timeout = cut c.skipped_after_timeout; incomplete_sets = n; discarded_samples = min (min c.discarded_samples (2 ^ 64 - 1) + k) (2 ^ 64 - 1); late_samples = cut c.late_samples }) i
    ∙ ap (λ n. record { skipped_after_timeout = cut c.skipped_after_timeout; incomplete_sets = min (c.incomplete_sets + 1) (2 ^ 64 - 1); discarded_samples = n; late_samples = cut c.late_samples }) d

pub skips_cut : (k : ℕ) (c : ReleaseCounts) → skip k (cut_counts c) ≡ cut_counts (skips k c)
unfolding skip cut_counts skips plus cut
skips_cut k c =
    let d : min (min c.skipped_after_timeout (2 ^ 64 - 1) + k) (2 ^ 64 - 1) ≡ min (c.skipped_after_timeout + k) (2 ^ 64 - 1) = omega arith in
    ap (λ n. record { skipped_after_timeout = n; incomplete_sets = cut c.incomplete_sets; discarded_samples = cut c.discarded_samples; late_samples = cut c.late_samples }) d

pub length_map : {A B : Type 0} (f : A → B) (l : List A) → length (map f l) ≡ length l
length_map f [] = refl
length_map f (a ∷ l) = ap suc (length_map f l)

-- ---- discards

pub and_comm : (a b : Bool) → a && b ≡ b && a
and_comm true true = refl
and_comm true false = refl
and_comm false true = refl
and_comm false false = refl

or_and : (a b c : Bool) → (a && c) || (b && c) ≡ (a || b) && c
or_and true b true = refl
or_and true true false = refl
or_and true false false = refl
or_and false b c = refl

pub without_all : {X : Type 0} (g : Guid) (z : ℤ) (l : List (Entry X)) → list_all (λ h. is_some h.set) l ≡ true → list_all (λ h. is_some h.set) (without g z l) ≡ true
unfolding without
without_all g z l e = all_keep (λ h. is_some h.set) (λ h. not (in_set g z h)) l e

module _ {X : Type 0} where
  pub members_same : (g : Guid) (z : ℤ) (s : OpenSet X) (l : List (Entry X)) → OpenLike s (filter (λ h. in_set g z h) l) → s.members ≡ map (λ e. as_entry e) (members_of g z l)
  unfolding members_of is_member
  members_same g z s l k = k.members ∙ ap (λ r. map (λ e. as_entry e) r) (keep_keep (λ h. is_sample h) (λ h. in_set g z h) l)

  pub drop_like : (g : Guid) (ws : List Writer) (a : ℕ) (z : ℤ) (s : OpenSet X) (lp : Loop X) (w : Work X) → get numbers z lp.group.sets ≡ Some s → LoopLike g ws a lp w
      → LoopLike g ws a (drop_if z lp (Some s)) (discard g z w)
  unfolding discard with_sets
  drop_like g ws a z s lp w e l =
      let k : OpenLike s (filter (λ h. in_set g z h) w.held) = open_of s (filter (λ h. in_set g z h) w.held) (get numbers z lp.group.sets) e (l.sets.at z) in
      let n : length (members_of g z w.held) ≡ length s.members = sym (ap length (members_same g z s w.held k) ∙ length_map (λ e. as_entry e) (members_of g z w.held)) in
      record {
        committed = l.committed;
        announced = l.announced;
        writers = l.writers;
        pending = l.pending;
        sets = remove_sets g z lp.group.sets w.held l.sets;
        plain = l.plain;
        held_sets = without_all g z w.held l.held_sets;
        out = l.out;
        counts = ap (λ c. discards (length (members_of g z w.held)) c) l.counts ∙ ap (λ j. discards j (cut_counts lp.counts)) n ∙ discards_cut (length s.members) lp.counts;
      }

-- ---- stale sets

module _ {K A : Type 0} {o : Order K} (lo : Lawful o) (p : K × A → Bool) where
  keep_ascends : (m : List (K × A)) → ascends o m ≡ true → ascends o (filter p m) ≡ true
  unfolding ascends
  keep_ascends [] e = refl
  keep_ascends (x ∷ m) e =
      elim (p x) as (λ t. ascends o (cond t (x ∷ filter p m) (filter p m)) ≡ true) [
        | true ↦ and_true (list_all (λ y. o.less x.0 y.0) (filter p m)) _ (all_keep (λ y. o.less x.0 y.0) p m (and_left (list_all (λ y. o.less x.0 y.0) m) _ e)) (keep_ascends m (and_right (list_all (λ y. o.less x.0 y.0) m) _ e))
        | false ↦ keep_ascends m (and_right (list_all (λ y. o.less x.0 y.0) m) _ e)
      ]

  rest_kept : (x : K × A) (r : List (K × A)) → ascends o (x ∷ r) ≡ true → filter (λ y. not (o.same x.0 y.0)) (x ∷ r) ≡ r
  unfolding ascends
  rest_kept x r e =
      rw (lo.same_self x.0)
      (keep_all (λ y. not (o.same x.0 y.0)) r (all_imp (λ y. o.less x.0 y.0) (λ y. not (o.same x.0 y.0)) (λ y h. ap not (lo.less_apart x.0 y.0 h)) r (and_left (list_all (λ y. o.less x.0 y.0) r) _ e)))

  pub keep_removed : (m : List (K × A)) (x : K × A) (r : List (K × A)) → ascends o m ≡ true → filter p m ≡ x ∷ r → filter p (remove o x.0 m) ≡ r
  unfolding remove
  keep_removed m x r e h =
      keep_keep p (λ y. not (o.same x.0 y.0)) m
      ∙ keep_same (λ y. not (o.same x.0 y.0) && p y) (λ y. p y && not (o.same x.0 y.0)) (λ y. and_comm (not (o.same x.0 y.0)) (p y)) m
      ∙ sym (keep_keep (λ y. not (o.same x.0 y.0)) p m)
      ∙ ap (λ q. filter (λ y. not (o.same x.0 y.0)) q) h
      ∙ rest_kept x r (sym (ap (λ q. ascends o q) h) ∙ keep_ascends m e)

  pub find_kept : (m : List (K × A)) → find p m ≡ first_of (filter p m)
  find_kept [] = refl
  find_kept (a ∷ l) = elim (p a) as (λ t. cond t (Some a) (find p l) ≡ first_of (cond t (a ∷ filter p l) (filter p l))) [ true ↦ refl | false ↦ find_kept l ]

set_is : (z : ℤ) (s : Option ℤ) → is_set z s ≡ true → s ≡ Some z
set_is z None e = not_both false e refl
set_is z (Some y) e = ap Some (sym (eq_z_eq z y e))

that_same : (z : ℤ) (s : Option ℤ) → same_set s (Some z) ≡ is_that z s
unfolding numbers
that_same z None = refl
that_same z (Some y) = same_swap numbers_lawful y z

and_true_right : (a : Bool) → a && true ≡ a
and_true_right true = refl
and_true_right false = refl

and_false_right : (a : Bool) → a && false ≡ false
and_false_right true = refl
and_false_right false = refl

point : (G T A S B U : Bool) → (G ≡ true → T ≡ true → A ≡ B) → (G ≡ true → T ≡ true → S ≡ U) → ((G && not A) && not S) && T ≡ (G && T) && (not B && not U)
point true true A S B U f g = rw (f refl refl, g refl refl) (and_true_right (not B && not U))
point true false A S B U f g = and_false_right (not A && not S)
point false T A S B U f g = refl

module _ {X : Type 0} where
  pub any_keep : (p q : Entry X → Bool) (l : List (Entry X)) → list_any p (filter q l) ≡ list_any (λ h. q h && p h) l
  any_keep p q l =
      sym (find_any p (filter q l)) ∙ ap is_some (find_keep p (filter q l) ∙ ap first_of (keep_keep p q l) ∙ sym (find_keep (λ h. q h && p h) l)) ∙ find_any (λ h. q h && p h) l

  pub any_ext : (p q : Entry X → Bool) → ((h : Entry X) → p h ≡ q h) → (l : List (Entry X)) → list_any p l ≡ list_any q l
  any_ext p q f [] = refl
  any_ext p q f (h ∷ l) = rw (f h, any_ext p q f l)

  any_and : (p : Entry X → Bool) (b : Bool) (l : List (Entry X)) → list_any (λ h. p h && b) l ≡ list_any p l && b
  any_and p b [] = refl
  any_and p b (h ∷ l) = ap (λ r. (p h && b) || r) (any_and p b l) ∙ or_and (p h) (list_any p l) b

  -- a set's flag and number decide whether its entries are stale
  abbrev is_open_stale : Option ℤ → ℤ × OpenSet X → Bool
  is_open_stale s x = not x.1.end_committed && not (is_that x.0 s)

  shares_set : (g : Guid) (z : ℤ) (h m : Entry X) → of_group g h ≡ true → h.set ≡ Some z → shares h m ≡ in_set g z m
  unfolding shares in_set of_group
  shares_set g z h m o d = ap (λ k. same_guid k m.group && same_set h.set m.set) (sym (same_eq g h.group o)) ∙ ap (λ s. same_guid g m.group && same_set s m.set) d

  stale_point : (g : Guid) (z : ℤ) (e h : Entry X) (l : List (Entry X)) → of_group g e ≡ true
      → is_stale e l h && is_set z h.set ≡ in_set g z h && (not (list_any (λ m. marks m) (filter (λ m. in_set g z m) l)) && not (is_that z e.set))
  unfolding is_stale in_set of_group
  stale_point g z e h l o =
      ap (λ k. (same_guid k h.group && not (list_any (λ m. shares h m && marks m) l)) && not (same_set e.set h.set) && is_set z h.set) (sym (same_eq g e.group o))
      ∙ point (same_guid g h.group) (is_set z h.set) (list_any (λ m. shares h m && marks m) l) (same_set e.set h.set) (list_any (λ m. marks m) (filter (λ m. in_set g z m) l)) (is_that z e.set)
      (λ a b. any_ext (λ m. shares h m && marks m) (λ m. in_set g z m && marks m) (λ m. ap (λ c. c && marks m) (shares_set g z h m a (set_is z h.set b))) l ∙ sym (any_keep (λ m. marks m) (λ m. in_set g z m) l))
      (λ a b. ap (λ s. same_set e.set s) (set_is z h.set b) ∙ that_same z e.set)

  any_set : (g : Guid) (z : ℤ) (b : Bool) (u : Option (OpenSet X)) (l : List (Entry X)) → SetLike u l → list_any (λ h. true) l && (not (list_any (λ m. marks m) l) && b) ≡ is_some_and (λ s. not s.end_committed && b) u
  any_set g z b None [] closed = refl
  any_set g z b (Some s) l (opened a k) = ap (λ c. c && (not (list_any (λ m. marks m) l) && b)) a ∙ ap (λ c. not c && b) (sym k.ended)
  any_set g z b None (_ ∷ _) x4 = elim x4 [ ]

  any_kept_true : (q : Entry X → Bool) (l : List (Entry X)) → list_any q l ≡ list_any (λ h. true) (filter q l)
  any_kept_true q l = any_ext q (λ h. q h && true) (λ h. sym (and_true_right (q h))) l ∙ sym (any_keep (λ h. true) q l)

  stale_sets : (g : Guid) (e : Entry X) (m : List (ℤ × OpenSet X)) (l : List (Entry X)) → of_group g e ≡ true → SetsLike g m l
      → (z : ℤ) → list_any (λ h. is_set z h.set) (filter (λ h. is_stale e l h) l) ≡ is_some_and (λ s. is_open_stale e.set (z, s)) (get numbers z m)
  stale_sets g e m l o k z =
      any_keep (λ h. is_set z h.set) (λ h. is_stale e l h) l
      ∙ any_ext (λ h. is_stale e l h && is_set z h.set) (λ h. in_set g z h && (not (list_any (λ m. marks m) (filter (λ m. in_set g z m) l)) && not (is_that z e.set))) (λ h. stale_point g z e h l o) l
      ∙ any_and (λ h. in_set g z h) (not (list_any (λ m. marks m) (filter (λ m. in_set g z m) l)) && not (is_that z e.set)) l
      ∙ ap (λ b. b && (not (list_any (λ m. marks m) (filter (λ m. in_set g z m) l)) && not (is_that z e.set))) (any_kept_true (λ h. in_set g z h) l)
      ∙ any_set g z (not (is_that z e.set)) (get numbers z m) (filter (λ m. in_set g z m) l) (k.at z)

  pub stale_found : (g : Guid) (e : Entry X) (m : List (ℤ × OpenSet X)) (l : List (Entry X)) → of_group g e ≡ true → SetsLike g m l
      → key_of (find (λ x. is_open_stale e.set x) m) ≡ lowest_stale e l
  unfolding lowest_stale
  stale_found g e m l o k = found_lowest (λ x. is_open_stale e.set x) m (filter (λ h. is_stale e l h) l) k.ascend (stale_sets g e m l o k)

  as_set : (e : Entry X) → (as_entry e).info.coherent_set_gsn ≡ e.set
  unfolding as_entry
  as_set e = refl

  stale_keys : (e : Entry X) (m : List (ℤ × OpenSet X)) → stale (as_entry e) m ≡ map (λ x. x.0) (filter (λ x. is_open_stale e.set x) m)
  unfolding stale as_entry
  stale_keys e m = refl

  shorter : (g : Guid) (e : Entry X) (w : Work X) (z : ℤ) (k : ℕ) → of_group g e ≡ true → lowest_stale e w.held ≡ Some z → length w.held ≤ suc k → length (discard g z w).held ≤ k
  unfolding discard of_group
  shorter g e w z k o d h =
      let q : e.group ≡ g = sym (same_eq g e.group o) in
      let s : length (without g z w.held) < length w.held = without_shorter g z w.held
      (any_imp (λ x. in_set e.group z x && is_stale e w.held x) (λ x. in_set g z x) (λ x p. ap (λ y. in_set y z x) (sym q) ∙ and_left (in_set e.group z x) _ p) w.held (stale_there e w.held z d)) in
      omega arith

  not_empty : (g : Guid) (e : Entry X) (l : List (Entry X)) (z : ℤ) → lowest_stale e l ≡ Some z → length l ≤ 0 → ⊥
  unfolding lowest_stale lowest_set
  not_empty g e [] z d h = none_some z d
  not_empty g e (x ∷ l) z d h = omega arith

  drop_none : {fs : List ℤ} (lp : Loop X) → fs ≡ [] → drop_all fs lp ≡ lp
  unfolding drop_all
  drop_none lp d = ap (λ q. drop_all q lp) d

  module _ (g : Guid) (ws : List Writer) (a : ℕ) (e : Entry X) (o : of_group g e ≡ true) where
    abbrev test : ℤ × OpenSet X → Bool
    test x = is_open_stale e.set x

    first_stale : (lp : Loop X) (w : Work X) → LoopLike g ws a lp w → lowest_stale e w.held ≡ key_of (first_of (filter (λ x. test x) lp.group.sets))
    first_stale lp w l = sym (stale_found g e lp.group.sets w.held o l.sets) ∙ ap key_of (find_kept numbers_lawful (λ x. test x) lp.group.sets)

    no_more : (k : ℕ) (w : Work X) → lowest_stale e w.held ≡ None → discard_stale k e w ≡ w
    unfolding discard_stale
    no_more zero w d = refl
    no_more (suc k) w d = ap (λ u. discard_or (λ v. discard_stale k e v) e.group w u) d

    one_more : (k : ℕ) (w : Work X) (z : ℤ) → lowest_stale e w.held ≡ Some z → discard_stale (suc k) e w ≡ discard_stale k e (discard g z w)
    unfolding discard_stale of_group
    one_more k w z d = ap (λ u. discard_or (λ v. discard_stale k e v) e.group w u) d ∙ ap (λ y. discard_stale k e (discard y z w)) (sym (same_eq g e.group o))

    stale_none : (k : ℕ) (lp : Loop X) (w : Work X) → filter (λ x. test x) lp.group.sets ≡ [] → LoopLike g ws a lp w → LoopLike g ws a (drop_all (stale (as_entry e) lp.group.sets) lp) (discard_stale k e w)
    stale_none k lp w d l =
        subst (λ (v : Work X). LoopLike g ws a (drop_all (stale (as_entry e) lp.group.sets) lp) v) (sym (no_more k w (first_stale lp w l ∙ ap (λ q. key_of (first_of q)) d)))
        (subst (λ (m : Loop X). LoopLike g ws a m w) (sym (drop_none lp (stale_keys e lp.group.sets ∙ ap (λ q. map (λ x. x.0) q) d))) l)

    drop_step : (lp : Loop X) (x : ℤ × OpenSet X) (r : List (ℤ × OpenSet X)) → ascends numbers lp.group.sets ≡ true → get numbers x.0 lp.group.sets ≡ Some x.1 → filter (λ x. test x) lp.group.sets ≡ x ∷ r
        → drop_all (stale (as_entry e) lp.group.sets) lp ≡ drop_all (stale (as_entry e) (drop_if x.0 lp (Some x.1)).group.sets) (drop_if x.0 lp (Some x.1))
    unfolding drop_all with_sets
    drop_step lp x r b c d =
        ap (λ q. drop_all q lp) (stale_keys e lp.group.sets ∙ ap (λ q. map (λ x. x.0) q) d)
        ∙ ap (λ u. drop_all (map (λ x. x.0) r) (drop_if x.0 lp u)) c
        ∙ ap (λ q. drop_all q (drop_if x.0 lp (Some x.1))) (sym (stale_keys e (remove numbers x.0 lp.group.sets) ∙ ap (λ q. map (λ x. x.0) q) (keep_removed numbers_lawful (λ x. test x) lp.group.sets x r b d)))

    stale_head : (lp : Loop X) (w : Work X) (x : ℤ × OpenSet X) (r : List (ℤ × OpenSet X)) → LoopLike g ws a lp w → filter (λ x. test x) lp.group.sets ≡ x ∷ r → get numbers x.0 lp.group.sets ≡ Some x.1
    stale_head lp w x r l d = (passes_own numbers_lawful (λ x. test x) lp.group.sets x l.sets.ascend (find_kept numbers_lawful (λ x. test x) lp.group.sets ∙ ap first_of d)).0

    pub stale_like : (k : ℕ) (lp : Loop X) (w : Work X) → length w.held ≤ k → LoopLike g ws a lp w → LoopLike g ws a (drop_all (stale (as_entry e) lp.group.sets) lp) (discard_stale k e w)
    stale_like zero lp w h l =
        (elim (filter (λ x. test x) lp.group.sets) as (λ q. filter (λ x. test x) lp.group.sets ≡ q → LoopLike g ws a (drop_all (stale (as_entry e) lp.group.sets) lp) (discard_stale zero e w)) [
          | [] ↦ λ d. stale_none zero lp w d l
          | x ∷ r ↦ λ d. absurd (not_empty g e w.held x.0 (first_stale lp w l ∙ ap (λ q. key_of (first_of q)) d) h)
        ]) refl
    stale_like (suc k) lp w h l =
        (elim (filter (λ x. test x) lp.group.sets) as (λ q. filter (λ x. test x) lp.group.sets ≡ q → LoopLike g ws a (drop_all (stale (as_entry e) lp.group.sets) lp) (discard_stale (suc k) e w)) [
          | [] ↦ λ d. stale_none (suc k) lp w d l
          | x ∷ r ↦ λ d.
              let f : lowest_stale e w.held ≡ Some x.0 = first_stale lp w l ∙ ap (λ q. key_of (first_of q)) d in
              let c : get numbers x.0 lp.group.sets ≡ Some x.1 = stale_head lp w x r l d in
              subst (λ (v : Work X). LoopLike g ws a (drop_all (stale (as_entry e) lp.group.sets) lp) v) (sym (one_more k w x.0 f))
              (subst (λ (m : Loop X). LoopLike g ws a m (discard_stale k e (discard g x.0 w))) (sym (drop_step lp x r l.sets.ascend c d))
              (stale_like k (drop_if x.0 lp (Some x.1)) (discard g x.0 w) (shorter g e w x.0 k o f h) (drop_like g ws a x.0 x.1 lp w c l)))
        ]) refl

-- ---- commits

or_true : (b c : Bool) → c ≡ true → true ≡ b || c
or_true true c h = refl
or_true false c h = sym h

item_append : {X : Type 0} (o : Option X) (r : ℕ) (l m : List (ℕ × X)) → item_of o r (l ++ m) ≡ item_of o r l ++ m
item_append None r l m = refl
item_append (Some i) r l m = refl

pub handed_append : {X : Type 0} (l m : List (Entry X)) → handed (l ++ m) ≡ handed l ++ handed m
unfolding handed
handed_append [] m = refl
handed_append (e ∷ l) m = ap (λ r. item_of (item_w e.what) e.reader r) (handed_append l m) ∙ item_append (item_w e.what) e.reader (handed l) (handed m)

module _ {X : Type 0} where
  handed_one : (e : Entry X) (i : X) → e.what ≡ Sample i → handed (e ∷ []) ≡ (e.reader, i) ∷ []
  unfolding handed
  handed_one e i d = ap (λ w. item_of (item_w w) e.reader []) d

  sample_item : (e : Entry X) (i : X) → e.what ≡ Sample i → (as_entry e).item ≡ Some i
  unfolding as_entry
  sample_item e i d = ap item_w d

  end_item : (e : Entry X) (f o : Option ℤ) → e.what ≡ set_end f o → (as_entry e).item ≡ None
  unfolding as_entry
  end_item e f o d = ap item_w d

  sample_end : (e : Entry X) (i : X) → e.what ≡ Sample i → (as_entry e).at_end ≡ None
  unfolding as_entry
  sample_end e i d = ap end_w d

  end_end : (e : Entry X) (f o : Option ℤ) → e.what ≡ set_end f o → (as_entry e).at_end ≡ Some (record { first_sn = f; ecs_sn = o })
  unfolding as_entry
  end_end e f o d = ap end_w d

  is_sample_lem : (e : Entry X) (i : X) → e.what ≡ Sample i → is_sample e ≡ true
  unfolding is_sample
  is_sample_lem e i d = ap is_sample_w d

  unmarked : (e : Entry X) → is_fresh e ≡ true → marks e ≡ false
  unfolding is_fresh
  unmarked e h = not-true (marks e) (and_left (not (marks e)) _ h)

  mark_there : (e : Entry X) (l : List (Entry X)) → is_some (mark_or e.time (find (λ m. shares e m && marks m) l)) ≡ true
  unfolding is_some marks
  mark_there e l =
      (elim (find (λ m. shares e m && marks m) l) as (λ u. find (λ m. shares e m && marks m) l ≡ u → is_some (mark_or e.time u) ≡ true) [
        | None ↦ λ d. refl
        | Some m ↦ λ d. and_right (shares e m) _ (find_test (λ m. shares e m && marks m) l m d)
      ]) refl

  taken_end : (e : Entry X) (x : SetEnd) (s : OpenSet X) → take_in (as_entry e) (Some x) s ≡ keeping true e x s
  unfolding ended with_end keeping as_entry
  taken_end e x s = refl

  set_blind : (m : Option ℕ) (e : Entry X) → is_some (marked m e).set ≡ is_some e.set
  unfolding marked
  set_blind m e = refl

  set_there : (e : Entry X) (z : ℤ) → e.set ≡ Some z → is_some e.set ≡ true
  unfolding is_some
  set_there e z d = ap (λ s. is_some s) d

  as_reader : (e : Entry X) → (as_entry e).reader ≡ e.reader
  unfolding as_entry
  as_reader e = refl

  module _ (g : Guid) (ws : List Writer) (a : ℕ) (e : Entry X) (o : of_group g e ≡ true) (fr : is_fresh e ≡ true) where
    settle_case : (x : What X) (s : Option ℤ) (lp : Loop X) (w : Work X) → e.what ≡ x → e.set ≡ s → LoopLike g ws a lp w → LoopLike g ws a (commit_to s (as_entry e) lp) (settle e w x s)
    unfolding with_out with_held with_sets entry
    settle_case (Sample i) None lp w d c l = record {
      committed = l.committed;
      announced = l.announced;
      writers = l.writers;
      pending = l.pending;
      sets = l.sets;
      plain = l.plain;
      held_sets = l.held_sets;
      out = ap (λ u. push_item (as_entry e).reader u lp.out) (sample_item e i d) ∙ ap (λ r. lp.out ++ ((r, i) ∷ [])) (as_reader e) ∙ ap (λ r. r ++ ((e.reader, i) ∷ [])) l.out ∙ sym (handed_append w.out (e ∷ []) ∙ ap (λ r. handed w.out ++ r) (handed_one e i d));
      counts = l.counts;
    }
    settle_case (Sample i) (Some z) lp w d c l = record {
      committed = l.committed;
      announced = l.announced;
      writers = l.writers;
      pending = l.pending;
      sets = subst (λ (u : Option SetEnd). SetsLike g (insert numbers z (take_in (as_entry e) u (or_default no_set (get numbers z lp.group.sets))) lp.group.sets) (w.held ++ (e ∷ []))) (sym (sample_end e i d)) (member_sets g z e lp.group.sets w.held o c (is_sample_lem e i d) (unmarked e fr) l.sets);
      plain = l.plain;
      held_sets = all_snoc (λ h. is_some h.set) w.held e l.held_sets (set_there e z c);
      out = l.out;
      counts = l.counts;
    }
    settle_case (End n0) None lp w d c l = record {
      committed = l.committed;
      announced = l.announced;
      writers = l.writers;
      pending = l.pending;
      sets = l.sets;
      plain = l.plain;
      held_sets = l.held_sets;
      out = ap (λ u. push_item (as_entry e).reader u lp.out) (end_item e n0.first n0.own d) ∙ l.out;
      counts = l.counts;
    }
    settle_case (End n0) (Some z) lp w d c l =
        let mk : Option ℕ = mark_or e.time (find (λ m. shares e m && marks m) w.held) in
        let x : SetEnd = record { first_sn = n0.first; ecs_sn = n0.own } in
        record {
          committed = l.committed;
          announced = l.announced;
          writers = l.writers;
          pending = l.pending;
          sets = subst (λ (u : Option SetEnd). SetsLike g (insert numbers z (take_in (as_entry e) u (or_default no_set (get numbers z lp.group.sets))) lp.group.sets) (keep_end mk e w.held)) (sym (end_end e n0.first n0.own d))
              (subst (λ (s : OpenSet X). SetsLike g (insert numbers z s lp.group.sets) (keep_end mk e w.held)) (sym (taken_end e x (or_default no_set (get numbers z lp.group.sets))))
              (keep_end_sets true mk g z e x lp.group.sets w.held o c (ap end_w d) (or_true (list_any (λ h. marks h) (filter (λ h. not (is_pair_end (e.writer, e.reader) h)) (filter (λ h. in_set g z h) w.held))) (is_some mk) (mark_there e w.held)) l.sets));
          plain = l.plain;
          held_sets = keep_end_all (λ h. is_some h.set) (λ m e. set_blind m e) mk e w.held (set_there e z c) l.held_sets;
          out = l.out;
          counts = l.counts;
        }

    pub commit_one_lem : (lp : Loop X) (w : Work X) → LoopLike g ws a lp w → LoopLike g ws a (S.commit (as_entry e) (drop_all (stale (as_entry e) lp.group.sets) lp)) (commit_one e w)
    unfolding S.commit commit_one
    commit_one_lem lp w l =
        subst (λ (s : Option ℤ). LoopLike g ws a (commit_to s (as_entry e) (drop_all (stale (as_entry e) lp.group.sets) lp)) (settle e (discard_stale (length w.held) e w) e.what e.set)) (sym (as_set e))
        (settle_case e.what e.set (drop_all (stale (as_entry e) lp.group.sets) lp) (discard_stale (length w.held) e w) refl refl (stale_like g ws a e o (length w.held) lp w (omega arith) l))

  pub commit_each_lem : (g : Guid) (ws : List Writer) (a : ℕ) (r : List (Entry X)) (lp : Loop X) (w : Work X) → list_all (λ e. of_group g e) r ≡ true → list_all (λ e. is_fresh e) r ≡ true
      → LoopLike g ws a lp w → LoopLike g ws a (commit_each (map (λ e. as_entry e) r) lp) (commit_all r w)
  unfolding commit_each commit_all
  commit_each_lem g ws a [] lp w o f l = l
  commit_each_lem g ws a (e ∷ r) lp w o f l =
      commit_each_lem g ws a r (S.commit (as_entry e) (drop_all (stale (as_entry e) lp.group.sets) lp)) (commit_one e w) (and_right (of_group g e) _ o) (and_right (is_fresh e) _ f)
      (commit_one_lem g ws a e (and_left (of_group g e) _ o) (and_left (is_fresh e) _ f) lp w l)
