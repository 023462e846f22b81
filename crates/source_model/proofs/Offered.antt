-- An offer keeps the likeness, and meets the same fate.
use Prim.Native.Nat.{ℕ, ◌+◌, ◌-◌, ◌^◌, min, ◌<◌}
use mathlib.Core.Path.{◌≡◌, refl, sym, ap, ◌∙◌, subst}
use mathlib.Core.Bool.{Bool, true, false, ◌&&◌, ◌||◌, not, cond}
use mathlib.Core.List.{List, [], ◌∷◌, ◌++◌, map}
use Rattle.std.specs.Prelude.{Option, Some, None}
use native.Mathlib.Omega.{arith}
use lib.IntN.{ℤ, pos, negsuc}
use lib.Signed.{le_z}
use lib.Dec.{ltb, leb}
use borrow.Author.Tests.{ltb-true, ltb-false, lt-ltb, le-ltb, le-leb, lt-leb}
use Rattle.laws.specs.Lists.{filter, list_all, list_any, find, is_some}
use Rattle.guids.specs.Guid.{Guid, same_guid}
use Rattle.rules.specs.Entry.{set_end, is_sample_w, same_set, of_group, in_set, marks}
use Rattle.rules.specs.declared.entry.What.{What}
use Rattle.rules.specs.declared.entry.What.TheVariants.{Sample, End}
use Rattle.rules.specs.declared.entry.Entry.{Entry}
use Rattle.rules.specs.State.{State, plus, is_group, committed_in, committed_of}
use Rattle.rules.specs.declared.state.Writer.{Writer}
use Rattle.rules.specs.declared.state.ReleaseCounts.{ReleaseCounts}
use Rattle.rules.specs.Marks.{number, hear_group, saw, tell}
use Rattle.rules.specs.Offer.{fate, one_late, with_marks, entry_of, shares, replaced, marked, mark_of, join, place, heard_offer}
use Rattle.rules.specs.declared.call.Offer.{Offer}
use Rattle.rules.specs.declared.call.Fate.{Fate}
use Rattle.rules.specs.declared.call.Fate.TheVariants.{Stored, Joined, Late}
use Rattle.rules.specs.Offer as F
use Rattle.laws.proofs.Lists.{keep_same, keep_keep, any_empty, and_never, all_snoc, find_any, none_some}
use Rattle.guids.proofs.Guids.{same_refl}
use Rattle.rules.proofs.Keeping.{join_all}
use Rattle.rules.proofs.Hearing.{committed_cons}
use Rattle.source_model.specs.Claim.{cut, cut_counts}
use Rattle.source_model.specs.Map.{guids, numbers, pairs, or_default, get, insert}
use Rattle.source_model.specs.Source.{SetEnd, OpenSet, no_set, GroupOrder, sees, no_group, with_writer, pushed, with_sets, with_end, Did, did_push, did_join, did_count, join_or, joins, offer_to, group_of, late, late_if, first_of}
use Rattle.source_model.specs.Source as S
use Rattle.source_model.specs.Calls.{end_w, item_w, fate_of, new_end, adds}
use Rattle.source_model.proofs.Maps.{guids_lawful, insert_ascends}
use Rattle.source_model.proofs.Like.{as_entry, offer_entry, is_fresh, is_pair_end, EndLike, no_end, one_end, OpenLike, SetLike, closed, opened, SetsLike, GroupLike, Like, flat}
use Rattle.source_model.proofs.Hear.{sees_alike, hear_flat}
use Rattle.source_model.proofs.Marked.{saw_names, change_id, each_after, own_writer_told, other_writer_told, flat_told}
use Rattle.source_model.proofs.Sets.{keeping, push_like, push_other, keep_end_sets, keep_end_other, group_apart, replaced_in, shares_in, or_false}

-- ---- numbers

not_above : (n : ℤ) (c : ℕ) → le_z n (pos c) ≡ not (ltb c (number n))
unfolding number
not_above (pos n) c =
    (elim (ltb c n) as (λ t. ltb c n ≡ t → leb n c ≡ not t) [
      | true ↦ λ e. lt-leb n c (ltb-true c n e)
      | false ↦ λ e. le-leb n c (ltb-false c n e)
    ]) refl
not_above (negsuc n) c = ap not (sym (le-ltb c 0 (omega arith)))

above_whole : (n : ℤ) (c : ℕ) → ltb c (number n) ≡ true → n ≡ pos (number n)
unfolding number
above_whole (pos n) c e = refl
above_whole (negsuc n) c e = absurd (omega (arith, ltb-true c 0 e))

or_swap : (a b c : Bool) → a || (b || c) ≡ b || (a || c)
or_swap true true c = refl
or_swap true false c = refl
or_swap false b c = refl

or_three : (a b c : Bool) → a || (b || c) ≡ (a || b) || c
or_three true b c = refl
or_three false b c = refl

none_committed : (g : Guid) → committed_of g [] ≡ 0
unfolding committed_of committed_in
none_committed g = refl

flat_cons : {X : Type 0} (g : Guid) (x : Guid × S.Group X) (n : ℕ) → cond (same_guid g (flat x).guid) (flat x).committed n ≡ cond (same_guid g x.0) (number x.1.committed) n
unfolding flat
flat_cons g x n = refl

module _ {X : Type 0} where
  pub committed_flat : (g : Guid) (m : List (Guid × S.Group X)) → committed_of g (map (λ x. flat x) m) ≡ number (or_default no_group (get guids g m)).committed
  unfolding get guids no_group number
  committed_flat g [] = none_committed g
  committed_flat g (x ∷ m) =
      committed_cons g (flat x) (map (λ x. flat x) m)
      ∙ flat_cons g x (committed_of g (map (λ x. flat x) m))
      ∙ (elim (same_guid g x.0) as (λ t. cond t (number x.1.committed) (committed_of g (map (λ x. flat x) m)) ≡ number (or_default no_group (cond t (Some x.1) (get guids g m))).committed) [ true ↦ refl | false ↦ committed_flat g m ])

-- ---- the mark of an end that joins

module _ {X : Type 0} where
  any_split : (q p : Entry X → Bool) (l : List (Entry X)) → list_any q l ≡ list_any q (filter (λ h. not (p h)) l) || list_any q (filter p l)
  any_split q p [] = refl
  any_split q p (a ∷ l) =
      elim (p a) as (λ t. q a || list_any q l ≡ list_any q (cond (not t) (a ∷ filter (λ h. not (p h)) l) (filter (λ h. not (p h)) l)) || list_any q (cond t (a ∷ filter p l) (filter p l))) [
        | true ↦ ap (λ r. q a || r) (any_split q p l) ∙ or_swap (q a) (list_any q (filter (λ h. not (p h)) l)) (list_any q (filter p l))
        | false ↦ ap (λ r. q a || r) (any_split q p l) ∙ or_three (q a) (list_any q (filter (λ h. not (p h)) l)) (list_any q (filter p l))
      ]

  pub find_keep : (p : Entry X → Bool) (l : List (Entry X)) → find p l ≡ first_of (filter p l)
  find_keep p [] = refl
  find_keep p (a ∷ l) = elim (p a) as (λ t. cond t (Some a) (find p l) ≡ first_of (cond t (a ∷ filter p l) (filter p l))) [ true ↦ refl | false ↦ find_keep p l ]

  one_mark : (o : Option SetEnd) (l : List (Entry X)) → EndLike o l → list_any (λ h. marks h) l ≡ is_some (mark_of (first_of l))
  unfolding marks is_some
  one_mark None [] no_end = refl
  one_mark (Some x) (e ∷ []) (one_end d) = or_false (is_some e.ended)
  one_mark None (e ∷ _) x3 = elim x3 [ ]
  one_mark (Some x) [] x4 = elim x4 [ ]
  one_mark (Some x) (e ∷ (_ ∷ _)) x9 = elim x9 [ ]

  pub pair_kept : (g : Guid) (z : ℤ) (e : Entry X) (l : List (Entry X)) → of_group g e ≡ true → e.set ≡ Some z
      → filter (λ h. replaced e h) l ≡ filter (λ h. is_pair_end (e.writer, e.reader) h) (filter (λ h. in_set g z h) l)
  pair_kept g z e l o d =
      keep_same (λ h. replaced e h) (λ h. in_set g z h && is_pair_end (e.writer, e.reader) h) (λ h. replaced_in g z e h o d) l
      ∙ sym (keep_keep (λ h. is_pair_end (e.writer, e.reader) h) (λ h. in_set g z h) l)

  joined_mark : (g : Guid) (z : ℤ) (e : Entry X) (s : OpenSet X) (l : List (Entry X)) → of_group g e ≡ true → e.set ≡ Some z → OpenLike s (filter (λ h. in_set g z h) l)
      → s.end_committed ≡ list_any (λ h. marks h) (filter (λ h. not (is_pair_end (e.writer, e.reader) h)) (filter (λ h. in_set g z h) l)) || is_some (mark_of (find (λ h. replaced e h) l))
  joined_mark g z e s l o d k =
      let q : Guid × ℕ = (e.writer, e.reader) in
      let r : List (Entry X) = filter (λ h. in_set g z h) l in
      k.ended ∙ any_split (λ h. marks h) (λ h. is_pair_end q h) r
      ∙ ap (λ b. list_any (λ h. marks h) (filter (λ h. not (is_pair_end q h)) r) || b)
      (one_mark (get pairs q s.ends) (filter (λ h. is_pair_end q h) r) (k.ends q)
      ∙ ap (λ w. is_some (mark_of (first_of w))) (sym (pair_kept g z e l o d)) ∙ ap (λ w. is_some (mark_of w)) (sym (find_keep (λ h. replaced e h) l)))

pub open_of : {X : Type 0} (t : OpenSet X) (l : List (Entry X)) (u : Option (OpenSet X)) → u ≡ Some t → SetLike u l → OpenLike t l
open_of t [] None e closed = none_some t e
open_of t l (Some v) e (opened a k) = let q : v ≡ t = cc in rw (← q) k
open_of {X = X} t (_ ∷ _) None e x6 = elim x6 [ ]

pub pair_there : {X : Type 0} (o : Option SetEnd) (l : List (Entry X)) → EndLike o l → is_some o ≡ is_some (first_of l)
unfolding is_some
pair_there None [] no_end = refl
pair_there (Some x) (e ∷ []) (one_end d) = refl
pair_there {X = X} None (e ∷ _) x3 = elim x3 [ ]
pair_there {X = X} (Some x) [] x4 = elim x4 [ ]
pair_there {X = X} (Some x) (e ∷ (_ ∷ _)) x9 = elim x9 [ ]

-- ---- the state after an offer

pub late_cut : (c : ReleaseCounts) → one_late (cut_counts c) ≡ cut_counts (late c)
unfolding one_late cut_counts late plus cut
late_cut c =
    ap (λ k. record { skipped_after_timeout = cut c.skipped_after_timeout; incomplete_sets = cut c.incomplete_sets; discarded_samples = cut c.discarded_samples; late_samples = k })
    (let e : min (min c.late_samples (2 ^ 64 - 1) + 1) (2 ^ 64 - 1) ≡ min (c.late_samples + 1) (2 ^ 64 - 1) = omega arith in e)

module _ {X : Type 0} (o : GroupOrder X) (s : State X) (x : Offer X) (l : Like o s) (r : x.reader < 8) where
  unfoldable pub old : S.Group X
  old = or_default no_group (get guids x.group o.groups)

  unfoldable pub told : List Writer
  told = tell x.group x.writer (λ w. saw x.reader (number x.number) x.digest w) s.writers

  unfoldable pub after : S.Group X
  after = with_writer x.writer (λ p. sees x.reader x.number x.digest p) old

  own_after_lem : GroupLike x.group after told s.pending s.held
  unfolding after told old
  own_after_lem = own_writer_told x.group x.writer (λ p. sees x.reader x.number x.digest p) (λ w. saw x.reader (number x.number) x.digest w) (saw_names x.reader (number x.number) x.digest) (λ p w k. sees_alike x.reader x.number x.digest p w r k) old s.writers s.pending s.held (l.each x.group)

  other_after : (h : Guid) → same_guid h x.group ≡ false → GroupLike h (or_default no_group (get guids h o.groups)) told s.pending s.held
  unfolding told
  other_after h d = other_writer_told x.group x.writer (λ p. sees x.reader x.number x.digest p) (λ w. saw x.reader (number x.number) x.digest w) (saw_names x.reader (number x.number) x.digest) (λ p w k. sees_alike x.reader x.number x.digest p w r k) h (or_default no_group (get guids h o.groups)) s.writers s.pending s.held d (l.each h)

  built : (v : S.Group X) (ps hs : List (Entry X)) (mc : ReleaseCounts) (fc : ReleaseCounts) → flat (x.group, old) ≡ flat (x.group, v)
      → GroupLike x.group v told ps hs
      → ((h : Guid) → same_guid h x.group ≡ false → GroupLike h (or_default no_group (get guids h o.groups)) told ps hs)
      → list_all (λ e. is_fresh e) ps ≡ true → list_all (λ h. is_some h.set) hs ≡ true → fc ≡ cut_counts mc
      → Like (record { groups = insert guids x.group v o.groups; timeout = o.timeout; counts = mc })
      (record { groups = hear_group x.group s.groups; writers = told; pending = ps; held = hs; counts = fc; timeout = s.timeout })
  unfolding old
  built v ps hs mc fc f own other pp hh cc' = record {
    groups = ap (λ k. hear_group x.group k) l.groups ∙ sym (change_id (λ y. is_group x.group y) (hear_group x.group (map (λ y. flat y) o.groups))) ∙ hear_flat x.group v (λ y. y) o.groups l.ascend f;
    ascend = insert_ascends guids_lawful x.group v o.groups l.ascend;
    each = each_after (λ k m. GroupLike k m told ps hs) x.group v o.groups own other;
    pending_plain = pp;
    held_sets = hh;
    counts = cc';
    timeout = l.timeout;
  }

  own_entry : of_group x.group (entry_of x) ≡ true
  unfolding of_group entry_of
  own_entry = same_refl x.group

  plain_entry : ltb (number old.committed) (number x.number) ≡ true → is_fresh (entry_of x) ≡ true
  unfolding marks entry_of is_some is_fresh
  plain_entry e = lt-ltb 0 (number x.number) (omega (arith, ltb-true (number old.committed) (number x.number) e))

  record_of : x.number ≡ pos (number x.number) → offer_entry x ≡ as_entry (entry_of x)
  unfolding offer_entry as_entry entry_of
  record_of e = ap (λ n. record { reader = x.reader; writer = x.writer; info = record { gsn = n; writer_set = 0; coherent_set_gsn = x.set }; at_end = end_w x.what; item = item_w x.what; offered_at = x.time }) e

  pub record Goes (d : Did X) (f : Fate) : Type 0 where
    pub fate_same : fate_of d ≡ f
    pub adds_same : adds d (offer_entry x) old ≡ F.adds f s x
    pub like : Like (record { groups = insert guids x.group (group_of d) o.groups; timeout = o.timeout; counts = late_if d o.counts }) (place f (entry_of x) (heard_offer x s))

  goes_late : Goes (did_count after) Late
  unfolding F.adds place heard_offer with_marks after told old
  goes_late = record {
    fate_same = refl;
    adds_same = refl;
    like = built after s.pending s.held (late o.counts) (one_late s.counts) (flat_told x.group x.writer (λ p. sees x.reader x.number x.digest p) old) own_after_lem other_after l.pending_plain l.held_sets (ap one_late l.counts ∙ late_cut o.counts);
  }

  push_group : (e : Entry X) → of_group x.group e ≡ true → GroupLike x.group (pushed (as_entry e) after) told (s.pending ++ (e ∷ [])) s.held
  unfolding pushed as_entry
  push_group e k = record {
    committed = own_after_lem.committed;
    announced = own_after_lem.announced;
    writers = own_after_lem.writers;
    pending = push_like x.group after.pending s.pending e k own_after_lem.pending;
    sets = own_after_lem.sets;
  }

  push_others : (e : Entry X) → of_group x.group e ≡ true → (h : Guid) → same_guid h x.group ≡ false → GroupLike h (or_default no_group (get guids h o.groups)) told (s.pending ++ (e ∷ [])) s.held
  push_others e k h d = record {
    committed = (other_after h d).committed;
    announced = (other_after h d).announced;
    writers = (other_after h d).writers;
    pending = push_other h (or_default no_group (get guids h o.groups)).pending s.pending e (group_apart x.group h e k d) (other_after h d).pending;
    sets = (other_after h d).sets;
  }

  push_flat : (e : S.Entry X) → flat (x.group, old) ≡ flat (x.group, pushed e after)
  unfolding flat pushed after with_writer
  push_flat e = refl

  goes_push : x.number ≡ pos (number x.number) → ltb (number old.committed) (number x.number) ≡ true → Goes (did_push (pushed (offer_entry x) after)) Stored
  unfolding F.adds place heard_offer with_marks told
  goes_push e q = record {
    fate_same = refl;
    adds_same = refl;
    like = built (pushed (offer_entry x) after) (s.pending ++ (entry_of x ∷ [])) s.held o.counts s.counts (push_flat (offer_entry x))
        (rw (record_of e) (push_group (entry_of x) own_entry)) (push_others (entry_of x) own_entry) (all_snoc (λ e. is_fresh e) s.pending (entry_of x) l.pending_plain (plain_entry q)) l.held_sets l.counts;
  }

  what_of : (e : SetEnd) → end_w x.what ≡ Some e → end_w (entry_of x).what ≡ Some e
  unfolding entry_of
  what_of e d = d

  entry_set : (entry_of x).set ≡ x.set
  unfolding entry_of
  entry_set = refl

  pair_kept' : (z : ℤ) → x.set ≡ Some z → filter (λ h. replaced (entry_of x) h) s.held ≡ filter (λ h. is_pair_end (x.writer, x.reader) h) (filter (λ h. in_set x.group z h) s.held)
  unfolding entry_of
  pair_kept' z a = pair_kept x.group z (entry_of x) s.held own_entry (entry_set ∙ a)

  set_blind : (m : Option ℕ) (e : Entry X) → is_some (marked m e).set ≡ is_some e.set
  unfolding marked
  set_blind m e = refl

  set_there : (z : ℤ) → x.set ≡ Some z → is_some (entry_of x).set ≡ true
  unfolding entry_of is_some
  set_there z e = ap (λ s. is_some s) e

  after_sets : after.sets ≡ old.sets
  unfolding after with_writer
  after_sets = refl

  joined_set : (z : ℤ) (e : SetEnd) (t : OpenSet X) → with_end x.writer x.reader e t ≡ keeping t.end_committed (entry_of x) e t
  unfolding with_end keeping entry_of
  joined_set z e t = refl

  join_sets : (z : ℤ) (e : SetEnd) (t : OpenSet X) → x.set ≡ Some z → end_w x.what ≡ Some e → get numbers z after.sets ≡ Some t
      → SetsLike x.group (insert numbers z (with_end x.writer x.reader e t) after.sets) (join (entry_of x) s.held)
  unfolding join
  join_sets z e t a b c =
      let q : or_default no_set (get numbers z after.sets) ≡ t = ap (λ u. or_default no_set u) c in
      let k : OpenLike t (filter (λ h. in_set x.group z h) s.held) = open_of t (filter (λ h. in_set x.group z h) s.held) (get numbers z after.sets) c (own_after_lem.sets.at z) in
      let f = joined_mark x.group z (entry_of x) t s.held own_entry (entry_set ∙ a) k in
      let w = keep_end_sets t.end_committed (mark_of (find (λ h. replaced (entry_of x) h) s.held)) x.group z (entry_of x) e after.sets s.held own_entry (entry_set ∙ a) (what_of e b) f own_after_lem.sets in
      rw (joined_set z e t) (rw q at w)

  join_group : (z : ℤ) (e : SetEnd) (t : OpenSet X) → x.set ≡ Some z → end_w x.what ≡ Some e → get numbers z after.sets ≡ Some t
      → GroupLike x.group (with_sets (insert numbers z (with_end x.writer x.reader e t) after.sets) after) told s.pending (join (entry_of x) s.held)
  unfolding with_sets
  join_group z e t a b c = record {
    committed = own_after_lem.committed;
    announced = own_after_lem.announced;
    writers = own_after_lem.writers;
    pending = own_after_lem.pending;
    sets = join_sets z e t a b c;
  }

  join_others : (h : Guid) → same_guid h x.group ≡ false → GroupLike h (or_default no_group (get guids h o.groups)) told s.pending (join (entry_of x) s.held)
  unfolding join
  join_others h d = record {
    committed = (other_after h d).committed;
    announced = (other_after h d).announced;
    writers = (other_after h d).writers;
    pending = (other_after h d).pending;
    sets = keep_end_other (mark_of (find (λ h. replaced (entry_of x) h) s.held)) x.group h (entry_of x) (or_default no_group (get guids h o.groups)).sets s.held own_entry d (other_after h d).sets;
  }

  join_flat : (m : List (ℤ × OpenSet X)) → flat (x.group, old) ≡ flat (x.group, with_sets m after)
  unfolding flat with_sets after with_writer
  join_flat m = refl

  new_end_lem : (z : ℤ) (t : OpenSet X) → x.set ≡ Some z → get numbers z old.sets ≡ Some t
      → new_end (offer_entry x) old (offer_entry x).info.coherent_set_gsn ≡ not (list_any (λ h. replaced (entry_of x) h) s.held)
  unfolding offer_entry old
  new_end_lem z t a c =
      ap (λ w. new_end (offer_entry x) old w) a
      ∙ ap (λ u. not (is_some (get pairs (x.writer, x.reader) (or_default no_set u).ends))) c
      ∙ ap not
      (pair_there (get pairs (x.writer, x.reader) t.ends) (filter (λ h. is_pair_end (x.writer, x.reader) h) (filter (λ h. in_set x.group z h) s.held))
      ((open_of t (filter (λ h. in_set x.group z h) s.held) (get numbers z old.sets) c ((l.each x.group).sets.at z)).ends (x.writer, x.reader))
      ∙ ap (λ k. is_some (first_of k)) (sym (pair_kept' z a))
      ∙ ap is_some (sym (find_keep (λ h. replaced (entry_of x) h) s.held))
      ∙ find_any (λ h. replaced (entry_of x) h) s.held)

  goes_join : (z : ℤ) (e : SetEnd) (t : OpenSet X) → x.set ≡ Some z → end_w x.what ≡ Some e → get numbers z after.sets ≡ Some t
      → Goes (did_join (with_sets (insert numbers z (with_end x.writer x.reader e t) after.sets) after)) Joined
  unfolding F.adds place heard_offer with_marks told
  goes_join z e t a b c = record {
    fate_same = refl;
    adds_same = new_end_lem z t a (ap (λ k. get numbers z k) (sym after_sets) ∙ c);
    like = built (with_sets (insert numbers z (with_end x.writer x.reader e t) after.sets) after) s.pending (join (entry_of x) s.held) o.counts s.counts (join_flat (insert numbers z (with_end x.writer x.reader e t) after.sets))
        (join_group z e t a b c) join_others l.pending_plain (join_all (λ h. is_some h.set) (λ m e. set_blind m e) (entry_of x) s.held (set_there z a) l.held_sets) l.counts;
  }

  -- ---- the cases

  no_share : x.set ≡ None → list_any (λ h. shares (entry_of x) h) s.held ≡ false
  unfolding shares entry_of
  no_share e = any_empty (λ h. shares (entry_of x) h) (λ h. and_never (of_group x.group h) (same_set x.set h.set) (ap (λ t. same_set t h.set) e)) s.held

  any_share : (z : ℤ) → x.set ≡ Some z → list_any (λ h. shares (entry_of x) h) s.held ≡ is_some (first_of (filter (λ h. in_set x.group z h) s.held))
  any_share z e =
      sym (find_any (λ h. shares (entry_of x) h) s.held) ∙ ap is_some (find_keep (λ h. shares (entry_of x) h) s.held)
      ∙ ap (λ k. is_some (first_of k)) (keep_same (λ h. shares (entry_of x) h) (λ h. in_set x.group z h) (λ h. shares_in x.group z (entry_of x) h own_entry (entry_set ∙ e)) s.held)

  is_open : (t : OpenSet X) (k : List (Entry X)) → list_any (λ h. true) k ≡ true → is_some (first_of k) ≡ true
  unfolding is_some
  is_open t [] e = e
  is_open t (h ∷ k) e = refl

  goes_case : (z : ℤ) (e : SetEnd) → x.set ≡ Some z → end_w x.what ≡ Some e → (u : Option (OpenSet X)) (w : List (Entry X)) → get numbers z after.sets ≡ u → SetLike u w
      → Goes (join_or x.writer x.reader e z after u) (fate false (is_some (first_of w)))
  unfolding is_some
  goes_case z e a b None [] c closed = goes_late
  goes_case z e a b (Some t) w c (opened f g) = rw (is_open t w f) (goes_join z e t a b c)
  goes_case z e a b None (_ ∷ _) c x7 = elim x7 [ ]

  goes_set : (z : ℤ) (e : SetEnd) → x.set ≡ Some z → end_w x.what ≡ Some e
      → Goes (join_or x.writer x.reader e z after (get numbers z after.sets)) (fate false (list_any (λ h. shares (entry_of x) h) s.held))
  goes_set z e a b = rw (any_share z a) (goes_case z e a b (get numbers z after.sets) (filter (λ h. in_set x.group z h) s.held) refl (own_after_lem.sets.at z))

  goes_below : (w : What X) (t : Option ℤ) → x.what ≡ w → x.set ≡ t → Goes (joins (offer_entry x) after (end_w w) t) (fate false (not (is_sample_w w) && list_any (λ h. shares (entry_of x) h) s.held))
  unfolding offer_entry
  goes_below (Sample i) t a b = goes_late
  goes_below (End u) None a b = rw (no_share b) goes_late
  goes_below (End u) (Some z) a b = goes_set z (record { first_sn = u.first; ecs_sn = u.own }) b (ap (λ w. end_w w) a)

  after_committed : after.committed ≡ old.committed
  unfolding after with_writer
  after_committed = refl

  old_committed : old.committed ≡ pos (number old.committed)
  unfolding old
  old_committed = (l.each x.group).committed

  committed_same : committed_of x.group s.groups ≡ number old.committed
  unfolding old
  committed_same = ap (λ k. committed_of x.group k) l.groups ∙ committed_flat x.group o.groups

  entry_number : (offer_entry x).info.gsn ≡ x.number
  unfolding offer_entry
  entry_number = refl

  goes_which : (t : Bool) → ltb (number old.committed) (number x.number) ≡ t
      → Goes (cond (not t) (joins (offer_entry x) after (offer_entry x).at_end (offer_entry x).info.coherent_set_gsn) (did_push (pushed (offer_entry x) after)))
      (fate t (not (is_sample_w x.what) && list_any (λ h. shares (entry_of x) h) s.held))
  unfolding offer_entry
  goes_which true e = goes_push (above_whole x.number (number old.committed) e) e
  goes_which false e = goes_below x.what x.set refl refl

  pub offer_goes : Goes (offer_to (offer_entry x) after) (F.fate_of s x)
  unfolding offer_to F.fate_of
  offer_goes =
      let j : Bool = not (is_sample_w x.what) && list_any (λ h. shares (entry_of x) h) s.held in
      let a : Did X = joins (offer_entry x) after (offer_entry x).at_end (offer_entry x).info.coherent_set_gsn in
      let b : Did X = did_push (pushed (offer_entry x) after) in
      let t : Bool = ltb (number old.committed) (number x.number) in
      let c : le_z (offer_entry x).info.gsn after.committed ≡ not t =
      ap (λ n. le_z n after.committed) entry_number ∙ ap (λ k. le_z x.number k) (after_committed ∙ old_committed) ∙ not_above x.number (number old.committed) in
      subst (λ (q : Bool). Goes (cond q a b) (fate (ltb (committed_of x.group s.groups) (number x.number)) j)) (sym c)
      (subst (λ (k : ℕ). Goes (cond (not t) a b) (fate (ltb k (number x.number)) j)) (sym committed_same) (goes_which t refl))
