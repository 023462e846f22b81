-- The source's numbers stay within 64 signed bits, on every run whose calls bring such numbers and ends.
use Prim.{Unit, tt}
use Prim.Native.Nat.{ℕ, zero, suc, ◌+◌, ◌-◌, ◌^◌}
use mathlib.Core.Path.{◌≡◌, refl, sym, ap, ◌∙◌}
use mathlib.Core.Bool.{Bool, true, false, ◌&&◌, not, cond}
use mathlib.Core.List.{List, [], ◌∷◌, ◌++◌}
use Rattle.std.specs.Prelude.{Option, Some, None}
use native.Mathlib.Omega.{arith}
use lib.IntN.{ℤ, pos, negsuc, ◌+ℤ◌, ◌-ℤ◌}
use lib.Signed.{lt_z, le_z}
use lib.Dec.{ltb}
use lib.ListN.{length}
use borrow.Author.Tests.{ltb-true, lt-ltb, leb-false, le-leb, le-ltb}
use Rattle.laws.specs.Lists.{filter, list_all, find}
use Rattle.guids.specs.Guid.{Guid}
use Rattle.rules.specs.Entry.{set_end}
use Rattle.rules.specs.declared.entry.What.{What}
use Rattle.rules.specs.declared.entry.What.TheVariants.{Sample, End}
use Rattle.rules.specs.Offer.{refusal}
use Rattle.rules.specs.declared.call.Offer.{Offer}
use Rattle.rules.specs.Release.{View, malformed}
use Rattle.rules.specs.Run.{Call, offers, heartbeats, gaps, releases}
use Rattle.laws.proofs.Lists.{and_true, and_left, and_right, all_keep, all_imp, all_and, all_both, not_both}
use Rattle.source_model.specs.Map.{Order, guids, numbers, or_default, get, insert, entry, remove, ascends}
use Rattle.rules.specs.declared.state.ReleaseCounts.{ReleaseCounts}
use Rattle.source_model.specs.Source.{SetEnd, Entry, Progress, OpenSet, no_set, Group, no_group, GroupView, GroupOrder, HeartbeatInfo, sees, heard, gap_to, first_of, new, with_writer, pushed, with_sets, with_end, did_push, join_or, joins, offer_to, group_of, offer_does, offer_entry, offer, announce, heartbeat, gap, Loop, with_member, ended, take_in, commit_to, commit, complete, finish_if, finish_set, stale, drop_if, drop_all, commit_each, taken, take_next, take_if, is_ready, waited, as_u64, at_head, all_ends, finish_or, at_ended, turn, or_return, release_group, release_each, release}
use Rattle.source_model.specs.Calls.{end_w, item_w, group_info, entry_of, info_of, view_of, ninth, pair33, samples, offer_refusal, offer_unless, done_unless, release_unless, step}
use Rattle.source_model.specs.Width.{is_i64, end_fits, head_fits, set_fits, at_fits, turn_fits, if_goes, loop_fits, each_fits, what_fits, call_fits, step_fits, run_fits}
use Rattle.source_model.proofs.Maps.{Lawful, numbers_lawful, pairs_lawful, insert_all, insert_ascends, remove_ascends}

-- an end that an entry brings
abbrev pub brings_fit : Option SetEnd → Bool
brings_fit None = true
brings_fit (Some e) = end_fits e

module _ {I : Type 0} where
  unfoldable pub entry_fits : Entry I → Bool
  entry_fits e = brings_fit e.at_end

  unfoldable pub entries_fit : List (Entry I) → Bool
  entries_fit v = list_all (λ e. entry_fits e) v

-- between committed and 2^63
unfoldable pub in_range : ℤ → ℤ → Bool
in_range c n = lt_z c n && lt_z n (pos (2 ^ 63))

-- committed is not negative, the pending numbers lie above it and below 2^63, and every end's distance fits
pub record Fit {I : Type 0} (g : Group I) : Type 0 where
  pub committed : le_z (pos 0) g.committed ≡ true
  pub range : list_all (λ x. in_range g.committed x.0) g.pending ≡ true
  pub ascend : ascends numbers g.pending ≡ true
  pub entries : list_all (λ x. entries_fit x.1) g.pending ≡ true
  pub sets : list_all (λ x. set_fits x.1) g.sets ≡ true

-- ---- whole numbers

le_or_lt : (a b : ℤ) → le_z a b ≡ false → lt_z b a ≡ true
le_or_lt (pos a) (pos b) e = lt-ltb b a (leb-false a b e)
le_or_lt (pos a) (negsuc b) e = refl
le_or_lt (negsuc a) (pos b) e = not_both true refl e
le_or_lt (negsuc a) (negsuc b) e = lt-ltb a b (leb-false b a e)

from_zero_lem : (c n : ℤ) → le_z (pos 0) c ≡ true → lt_z c n ≡ true → le_z (pos 0) n ≡ true
from_zero_lem c (pos n) d e = le-leb 0 n (omega arith)
from_zero_lem (pos c) (negsuc n) d e = e
from_zero_lem (negsuc c) (negsuc n) d e = d

difference : (n m : ℕ) → ltb n m ≡ false → pos n -ℤ pos m ≡ pos (n - m)
difference n zero e = let h : n + 0 ≡ n - 0 = omega arith in ap pos h
difference n (suc m) e = ap (λ b. cond b (negsuc (suc m - suc n)) (pos (n - suc m))) e

-- committed + 1 and the distance to the next number
head_fits_lem : (c n : ℤ) → le_z (pos 0) c ≡ true → lt_z c n ≡ true → lt_z n (pos (2 ^ 63)) ≡ true → is_i64 (c +ℤ pos 1) && is_i64 (n -ℤ (c +ℤ pos 1)) && le_z (c +ℤ pos 1) n ≡ true
unfolding is_i64
head_fits_lem (negsuc c) n d e f = not_both false d refl
head_fits_lem (pos c) (negsuc n) d e f = not_both false e refl
head_fits_lem (pos c) (pos n) d e f =
    let u = ltb-true c n e in
    let v = ltb-true n (2 ^ 63) f in
    let a : ltb n (c + 1) ≡ false = le-ltb n (c + 1) (omega (arith, u)) in
    and_true (ltb (c + 1) (2 ^ 63) && (le_z (negsuc (2 ^ 63 - 1)) (pos n -ℤ pos (c + 1)) && lt_z (pos n -ℤ pos (c + 1)) (pos (2 ^ 63)))) _
    (and_true (ltb (c + 1) (2 ^ 63)) _ (lt-ltb (c + 1) (2 ^ 63) (omega (arith, u, v))) (rw (difference n (c + 1) a) (lt-ltb (n - (c + 1)) (2 ^ 63) (omega (arith, v)))))
    (le-leb (c + 1) n (omega (arith, u)))

no_set_lem : (I : Type 0) → set_fits (no_set {I = I}) ≡ true
unfolding set_fits no_set
no_set_lem I = refl

nothing_fits : (I : Type 0) → entries_fit {I = I} [] ≡ true
unfolding entries_fit
nothing_fits I = refl

-- ---- maps

module _ {K A : Type 0} {o : Order K} (lo : Lawful o) where
  get_all : (q : A → Bool) (d : A) (k : K) (m : List (K × A)) → q d ≡ true → list_all (λ x. q x.1) m ≡ true → q (or_default d (get o k m)) ≡ true
  unfolding get
  get_all q d k [] e h = e
  get_all q d k (x ∷ m) e h = elim (o.same k x.0) as (λ b. q (or_default d (cond b (Some x.1) (get o k m))) ≡ true) [ true ↦ and_left (q x.1) _ h | false ↦ get_all q d k m e (and_right (q x.1) _ h) ]

  -- what is left behind the first
  rest_above : (x : K × A) (m : List (K × A)) → ascends o (x ∷ m) ≡ true → list_all (λ y. o.less x.0 y.0) (remove o x.0 (x ∷ m)) ≡ true
  unfolding ascends remove
  rest_above x m e = rw (lo.same_self x.0) (all_keep (λ y. o.less x.0 y.0) (λ y. not (o.same x.0 y.0)) m (and_left (list_all (λ y. o.less x.0 y.0) m) _ e))

  remove_all : (p : K × A → Bool) (k : K) (m : List (K × A)) → list_all p m ≡ true → list_all p (remove o k m) ≡ true
  unfolding remove
  remove_all p k m e = all_keep p (λ x. not (o.same k x.0)) m e

module _ {I : Type 0} where
  -- ---- a group told of a writer, or an announced number

  told_fit : (w : Guid) (f : Progress → Progress) (g : Group I) → Fit g → Fit (with_writer w f g)
  unfolding with_writer
  told_fit w f g h = record { committed = h.committed; range = h.range; ascend = h.ascend; entries = h.entries; sets = h.sets }

  announce_fit : (c : ℤ) (g : Group I) → Fit g → Fit (announce c g)
  unfolding announce
  announce_fit c g h = record { committed = h.committed; range = h.range; ascend = h.ascend; entries = h.entries; sets = h.sets }

  none_fit : Fit {I = I} no_group
  unfolding no_group ascends
  none_fit = record { committed = refl; range = refl; ascend = refl; entries = refl; sets = refl }

  with_sets_lem : (m : List (ℤ × OpenSet I)) (g : Group I) → list_all (λ x. set_fits x.1) m ≡ true → Fit g → Fit (with_sets m g)
  unfolding with_sets
  with_sets_lem m g e h = record { committed = h.committed; range = h.range; ascend = h.ascend; entries = h.entries; sets = e }

  -- ---- sets

  end_fits_lem : (w : Guid) (r : ℕ) (x : SetEnd) (s : OpenSet I) → end_fits x ≡ true → set_fits s ≡ true → set_fits (with_end w r x s) ≡ true
  unfolding set_fits with_end
  end_fits_lem w r x s e h = insert_all pairs_lawful (λ e. end_fits e.1) (w, r) x s.ends e h

  ended_fits : (s : OpenSet I) → set_fits s ≡ true → set_fits (ended s) ≡ true
  unfolding set_fits ended
  ended_fits s h = h

  member_fits : (e : Entry I) (s : OpenSet I) → set_fits s ≡ true → set_fits (with_member e s) ≡ true
  unfolding set_fits with_member
  member_fits e s h = h

  taken_in : (e : Entry I) (a : Option SetEnd) (s : OpenSet I) → brings_fit a ≡ true → set_fits s ≡ true → set_fits (take_in e a s) ≡ true
  taken_in e (Some x) s d h = ended_fits (with_end e.writer e.reader x s) (end_fits_lem e.writer e.reader x s d h)
  taken_in e None s d h = member_fits e s h

  -- ---- offer

  snoc_fits : (v : List (Entry I)) (e : Entry I) → entries_fit v ≡ true → entry_fits e ≡ true → entries_fit (v ++ (e ∷ [])) ≡ true
  unfolding entries_fit
  snoc_fits v e h d = all_both (λ e. entry_fits e) v (e ∷ []) h (and_true (entry_fits e) true d refl)

  pushed_fit : (e : Entry I) (g : Group I) → lt_z g.committed e.info.gsn ≡ true → lt_z e.info.gsn (pos (2 ^ 63)) ≡ true → entry_fits e ≡ true → Fit g → Fit (pushed e g)
  unfolding pushed entry in_range
  pushed_fit e g a b d h =
      let v : List (Entry I) = or_default [] (get numbers e.info.gsn g.pending) ++ (e ∷ []) in
      record {
        committed = h.committed;
        range = insert_all numbers_lawful (λ x. in_range g.committed x.0) e.info.gsn v g.pending (and_true (lt_z g.committed e.info.gsn) _ a b) h.range;
        ascend = insert_ascends numbers_lawful e.info.gsn v g.pending h.ascend;
        entries = insert_all numbers_lawful (λ x. entries_fit x.1) e.info.gsn v g.pending (snoc_fits (or_default [] (get numbers e.info.gsn g.pending)) e (get_all numbers_lawful (λ v. entries_fit v) [] e.info.gsn g.pending (nothing_fits I) h.entries) d) h.entries;
        sets = h.sets;
      }

  abbrev is_fit : Option (OpenSet I) → Bool
  is_fit None = true
  is_fit (Some s) = set_fits s

  get_fit : (z : ℤ) (m : List (ℤ × OpenSet I)) → list_all (λ x. set_fits x.1) m ≡ true → is_fit (get numbers z m) ≡ true
  unfolding get
  get_fit z [] h = refl
  get_fit z (x ∷ m) h = elim (numbers.same z x.0) as (λ b. is_fit (cond b (Some x.1) (get numbers z m)) ≡ true) [ true ↦ and_left (set_fits x.1) _ h | false ↦ get_fit z m (and_right (set_fits x.1) _ h) ]

  join_or_fit : (w : Guid) (r : ℕ) (x : SetEnd) (z : ℤ) (g : Group I) (u : Option (OpenSet I)) → end_fits x ≡ true → is_fit u ≡ true → Fit g → Fit (group_of (join_or w r x z g u))
  join_or_fit w r x z g None d e h = h
  join_or_fit w r x z g (Some s) d e h = with_sets_lem (insert numbers z (with_end w r x s) g.sets) g (insert_all numbers_lawful (λ x. set_fits x.1) z (with_end w r x s) g.sets (end_fits_lem w r x s d e) h.sets) h

  joins_fit : (e : Entry I) (g : Group I) (a : Option SetEnd) (z : Option ℤ) → brings_fit a ≡ true → Fit g → Fit (group_of (joins e g a z))
  joins_fit e g None z d h = h
  joins_fit e g (Some x) None d h = h
  joins_fit e g (Some x) (Some z) d h = join_or_fit e.writer e.reader x z g (get numbers z g.sets) d (get_fit z g.sets h.sets) h

  offer_to_fit : (e : Entry I) (g : Group I) → lt_z e.info.gsn (pos (2 ^ 63)) ≡ true → entry_fits e ≡ true → Fit g → Fit (group_of (offer_to e g))
  unfolding offer_to entry_fits
  offer_to_fit e g b d h =
      (elim (le_z e.info.gsn g.committed) as (λ t. le_z e.info.gsn g.committed ≡ t → Fit (group_of (cond t (joins e g e.at_end e.info.coherent_set_gsn) (did_push (pushed e g))))) [
        | true ↦ λ a. joins_fit e g e.at_end e.info.coherent_set_gsn d h
        | false ↦ λ a. pushed_fit e g (le_or_lt e.info.gsn g.committed a) b d h
      ]) refl

  -- ---- one turn

  drop_fit : (z : ℤ) (l : Loop I) (u : Option (OpenSet I)) → Fit l.group → Fit (drop_if z l u).group
  drop_fit z l None h = h
  drop_fit z l (Some s) h = with_sets_lem (remove numbers z l.group.sets) l.group (remove_all numbers_lawful (λ x. set_fits x.1) z l.group.sets h.sets) h

  drops_fit : (zs : List ℤ) (l : Loop I) → Fit l.group → Fit (drop_all zs l).group
  unfolding drop_all
  drops_fit [] l h = h
  drops_fit (z ∷ zs) l h = drops_fit zs (drop_if z l (get numbers z l.group.sets)) (drop_fit z l (get numbers z l.group.sets) h)

  commit_to_fit : (z : Option ℤ) (e : Entry I) (l : Loop I) → brings_fit e.at_end ≡ true → Fit l.group → Fit (commit_to z e l).group
  unfolding entry
  commit_to_fit None e l d h = h
  commit_to_fit (Some z) e l d h =
      let s : OpenSet I = or_default no_set (get numbers z l.group.sets) in
      with_sets_lem (insert numbers z (take_in e e.at_end s) l.group.sets) l.group
      (insert_all numbers_lawful (λ x. set_fits x.1) z (take_in e e.at_end s) l.group.sets (taken_in e e.at_end s d (get_all numbers_lawful (λ s. set_fits s) no_set z l.group.sets (no_set_lem I) h.sets)) h.sets) h

  commits_fit : (es : List (Entry I)) (l : Loop I) → entries_fit es ≡ true → Fit l.group → Fit (commit_each es l).group
  unfolding commit_each entries_fit commit entry_fits
  commits_fit [] l d h = h
  commits_fit (e ∷ es) l d h =
      commits_fit es (commit e (drop_all (stale e l.group.sets) l)) (and_right (brings_fit e.at_end) _ d)
      (commit_to_fit e.info.coherent_set_gsn e (drop_all (stale e l.group.sets) l) (and_left (brings_fit e.at_end) _ d) (drops_fit (stale e l.group.sets) l h))

  first_range : (c : ℤ) (x : ℤ × List (Entry I)) (m p : List (ℤ × List (Entry I))) → p ≡ x ∷ m → list_all (λ x. in_range c x.0) p ≡ true → (lt_z c x.0 ≡ true) × (lt_z x.0 (pos (2 ^ 63)) ≡ true)
  unfolding in_range
  first_range c x m p e h =
      let a : (lt_z c x.0 && lt_z x.0 (pos (2 ^ 63))) && list_all (λ x. in_range c x.0) m ≡ true = sym (ap (λ q. list_all (λ x. in_range c x.0) q) e) ∙ h in
      let b = and_left (lt_z c x.0 && lt_z x.0 (pos (2 ^ 63))) _ a in
      (and_left (lt_z c x.0) _ b, and_right (lt_z c x.0) _ b)

  rest_range : (c : ℤ) (x : ℤ × List (Entry I)) (m p : List (ℤ × List (Entry I))) → p ≡ x ∷ m → ascends numbers p ≡ true → list_all (λ x. in_range c x.0) p ≡ true → list_all (λ y. in_range x.0 y.0) (remove numbers x.0 p) ≡ true
  unfolding in_range numbers
  rest_range c x m p e a h =
      all_and (λ y. lt_z x.0 y.0) (λ y. lt_z y.0 (pos (2 ^ 63))) (remove numbers x.0 p)
      (rw e (rest_above numbers_lawful x m (rw e at a)))
      (all_imp (λ y. lt_z c y.0 && lt_z y.0 (pos (2 ^ 63))) (λ y. lt_z y.0 (pos (2 ^ 63))) (λ y b. and_right (lt_z c y.0) _ b) (remove numbers x.0 p) (remove_all numbers_lawful (λ y. lt_z c y.0 && lt_z y.0 (pos (2 ^ 63))) x.0 p h))

  next_fit : (x : ℤ × List (Entry I)) (m : List (ℤ × List (Entry I))) (k : ℕ) (l : Loop I) → l.group.pending ≡ x ∷ m → Fit l.group → Fit (taken x.0 k l).group
  unfolding taken
  next_fit x m k l p h = record {
    committed = from_zero_lem l.group.committed x.0 h.committed (first_range l.group.committed x m l.group.pending p h.range).0;
    range = rest_range l.group.committed x m l.group.pending p h.ascend h.range;
    ascend = remove_ascends numbers_lawful x.0 l.group.pending h.ascend;
    entries = remove_all numbers_lawful (λ x. entries_fit x.1) x.0 l.group.pending h.entries;
    sets = h.sets;
  }

  -- the next number is the first pending one
  taken_fit : (x : ℤ × List (Entry I)) (m : List (ℤ × List (Entry I))) (k : ℕ) (l : Loop I) → l.group.pending ≡ x ∷ m → Fit l.group → Fit (take_next x.0 k l).group
  unfolding take_next
  taken_fit x m k l p h =
      commits_fit (or_default [] (get numbers x.0 l.group.pending)) (taken x.0 k l)
      (get_all numbers_lawful (λ v. entries_fit v) [] x.0 l.group.pending (nothing_fits I) h.entries) (next_fit x m k l p h)

  abbrev Goes : Option (Loop I) → Type 0
  Goes None = Unit {0}
  Goes (Some m) = Fit m.group

  take_if_fit : (r y : Bool) (x : ℤ × List (Entry I)) (m : List (ℤ × List (Entry I))) (k : ℕ) (l : Loop I) → l.group.pending ≡ x ∷ m → Fit l.group → Goes (take_if r y x.0 k l)
  take_if_fit true y x m k l p h = taken_fit x m 0 l p h
  take_if_fit false true x m k l p h = tt
  take_if_fit false false x m k l p h = taken_fit x m k l p h

  finish_if_fit : (b : Bool) (s : OpenSet I) (l : Loop I) → Fit l.group → Fit (finish_if b s l).group
  finish_if_fit true s l h = h
  finish_if_fit false s l h = h

  finished_fit : (s : OpenSet I) (c : List (Guid × ℕ)) (a : Bool) (l : Loop I) → Fit l.group → Fit (finish_set s c a l).group
  unfolding finish_set
  finished_fit s c a l h = finish_if_fit (complete s c a) s l h

  heads_fit : (g : Group I) (v : List (ℤ × List (Entry I))) → g.pending ≡ v → Fit g → head_fits g (first_of v) ≡ true
  unfolding head_fits
  heads_fit g [] p h = refl
  heads_fit g (x ∷ m) p h = let q = first_range g.committed x m g.pending p h.range in head_fits_lem g.committed x.0 h.committed q.0 q.1

  at_fits_lem : (g : Group I) (u : Option (ℤ × OpenSet I)) → Fit g → at_fits g u ≡ true
  unfolding at_fits
  at_fits_lem g (Some x) h = get_all numbers_lawful (λ s. set_fits s) no_set x.0 g.sets (no_set_lem I) h.sets
  at_fits_lem g None h = heads_fit g g.pending refl h

  turn_fits_lem : (l : Loop I) → Fit l.group → turn_fits l ≡ true
  unfolding turn_fits
  turn_fits_lem l h = at_fits_lem l.group (find (λ x. x.1.end_committed) l.group.sets) h

  module _ (key : Guid) (view : GroupView) (now timeout : ℕ) where
    head_fit : (l : Loop I) (v : List (ℤ × List (Entry I))) → l.group.pending ≡ v → Fit l.group → Goes (at_head key view now timeout l (first_of v))
    head_fit l [] p h = tt
    head_fit l (x ∷ m) p h =
        take_if_fit (is_ready key view now timeout l.group (l.group.committed +ℤ pos 1) x.0) (ltb (waited now (first_of (or_default [] (get numbers x.0 l.group.pending)))) timeout)
        x m (as_u64 (x.0 -ℤ (l.group.committed +ℤ pos 1))) l p h

    finish_fit : (b : Bool) (z : ℤ) (s : OpenSet I) (l : Loop I) → Fit l.group → Goes (finish_or key view now timeout b z s l)
    finish_fit true z s l h = tt
    finish_fit false z s l h = finished_fit s (view.counted key) (all_ends key view now timeout s) (record { group = with_sets (remove numbers z l.group.sets) l.group; out = l.out; counts = l.counts }) (with_sets_lem (remove numbers z l.group.sets) l.group (remove_all numbers_lawful (λ x. set_fits x.1) z l.group.sets h.sets) h)

    at_fit : (l : Loop I) (u : Option (ℤ × OpenSet I)) → Fit l.group → Goes (at_ended key view now timeout l u)
    at_fit l (Some x) h =
        let s : OpenSet I = or_default no_set (get numbers x.0 l.group.sets) in
        finish_fit (not (all_ends key view now timeout s) && ltb (waited now (first_of s.members)) timeout) x.0 s l h
    at_fit l None h = head_fit l l.group.pending refl h

    turn_fit : (l : Loop I) → Fit l.group → Goes (turn key view now timeout l)
    unfolding turn
    turn_fit l h = at_fit l (find (λ x. x.1.end_committed) l.group.sets) h

    loop_fit : (k : ℕ) (l : Loop I) → Fit l.group → Fit (release_group key view now timeout k l).group
    unfolding release_group
    loop_fit zero l h = h
    loop_fit (suc k) l h = (elim (turn key view now timeout l) as (λ u. Goes u → Fit (or_return key view now timeout (λ m. release_group key view now timeout k m) l u).group) [ None ↦ λ g. h | Some m ↦ λ g. loop_fit k m g ]) (turn_fit l h)

    loop_fits_lem : (k : ℕ) (l : Loop I) → Fit l.group → loop_fits key view now timeout k l ≡ true
    unfolding loop_fits
    loop_fits_lem zero l h = refl
    loop_fits_lem (suc k) l h = and_true (turn_fits l) _ (turn_fits_lem l h) ((elim (turn key view now timeout l) as (λ u. Goes u → if_goes key view now timeout (λ m. loop_fits key view now timeout k m) u ≡ true) [ None ↦ λ g. refl | Some m ↦ λ g. loop_fits_lem k m g ]) (turn_fit l h))

  -- ---- all groups

  unfoldable pub Fits : List (Guid × Group I) → Type 0
  Fits [] = Unit {0}
  Fits (x ∷ gs) = Fit x.1 × Fits gs

  fits_at : (k : Guid) (gs : List (Guid × Group I)) → Fits gs → Fit (or_default no_group (get guids k gs))
  unfolding Fits get
  fits_at k [] h = none_fit
  fits_at k (x ∷ gs) h = elim (guids.same k x.0) as (λ b. Fit (or_default no_group (cond b (Some x.1) (get guids k gs)))) [ true ↦ h.0 | false ↦ fits_at k gs h.1 ]

  fits_put : (k : Guid) (g : Group I) (gs : List (Guid × Group I)) → Fit g → Fits gs → Fits (insert guids k g gs)
  unfolding Fits insert
  fits_put k g [] f h = (f, tt)
  fits_put k g (x ∷ gs) f h =
      elim (guids.same k x.0) as (λ b. Fits (cond b ((k, g) ∷ gs) (cond (guids.less k x.0) ((k, g) ∷ x ∷ gs) (x ∷ insert guids k g gs)))) [
        | true ↦ (f, h.1)
        | false ↦ (elim (guids.less k x.0) as (λ b. Fits (cond b ((k, g) ∷ x ∷ gs) (x ∷ insert guids k g gs))) [ true ↦ (f, h) | false ↦ (h.0, fits_put k g gs f h.1) ])
      ]

  each_fits_lem : (turns : ℕ) (view : GroupView) (now timeout : ℕ) (gs : List (Guid × Group I)) (out : List (ℕ × I)) (c : ReleaseCounts) → Fits gs → each_fits turns view now timeout gs out c ≡ true
  unfolding Fits each_fits
  each_fits_lem turns view now timeout [] out c h = refl
  each_fits_lem turns view now timeout (x ∷ gs) out c h =
      let l : Loop I = record { group = x.1; out = out; counts = c } in
      let m : Loop I = release_group x.0 view now timeout turns l in
      and_true (loop_fits x.0 view now timeout turns l) _ (loop_fits_lem x.0 view now timeout turns l h.0) (each_fits_lem turns view now timeout gs m.out m.counts h.1)

  each_fit : (turns : ℕ) (view : GroupView) (now timeout : ℕ) (gs : List (Guid × Group I)) (out : List (ℕ × I)) (c : ReleaseCounts) → Fits gs → Fits (release_each turns view now timeout gs out c).0
  unfolding Fits release_each
  each_fit turns view now timeout [] out c h = tt
  each_fit turns view now timeout (x ∷ gs) out c h =
      let l : Loop I = record { group = x.1; out = out; counts = c } in
      let m : Loop I = release_group x.0 view now timeout turns l in
      (loop_fit x.0 view now timeout turns l h.0, each_fit turns view now timeout gs m.out m.counts h.1)

-- ---- whole runs

what_fits_lem : {X : Type 0} (w : What X) → what_fits w ≡ true → brings_fit (end_w w) ≡ true
unfolding end_fits
what_fits_lem (Sample x) h = refl
what_fits_lem (End u) h = h

module _ {X : Type 0} where
  entry_fits_lem : (x : Offer X) → what_fits x.what ≡ true → entry_fits (entry_of x) ≡ true
  unfolding entry_fits entry_of
  entry_fits_lem x h = what_fits_lem x.what h

  number_fits : (x : Offer X) → is_i64 x.number ≡ true → lt_z (entry_of x).info.gsn (pos (2 ^ 63)) ≡ true
  unfolding entry_of group_info is_i64
  number_fits x h = and_right (le_z (negsuc (2 ^ 63 - 1)) x.number) _ h

  offered_fit : (o : GroupOrder X) (x : Offer X) → lt_z (entry_of x).info.gsn (pos (2 ^ 63)) ≡ true → entry_fits (entry_of x) ≡ true → Fits o.groups → Fits (offer o x.group x.writer x.reader (group_info x) (end_w x.what) (item_w x.what) x.time).groups
  unfolding offer offer_entry offer_does entry_of
  offered_fit o x a b h =
      let g : Group X = with_writer x.writer (λ p. sees x.reader (group_info x).gsn (group_info x).writer_set p) (or_default no_group (get guids x.group o.groups)) in
      fits_put x.group (group_of (offer_to (entry_of x) g)) o.groups
      (offer_to_fit (entry_of x) g a b (told_fit x.writer (λ p. sees x.reader (group_info x).gsn (group_info x).writer_set p) (or_default no_group (get guids x.group o.groups)) (fits_at x.group o.groups h))) h

  offer_fit : (o : GroupOrder X) (x : Offer X) → is_i64 x.number && what_fits x.what ≡ true → Fits o.groups → Fits (offer o x.group x.writer x.reader (group_info x) (end_w x.what) (item_w x.what) x.time).groups
  offer_fit o x e h = offered_fit o x (number_fits x (and_left (is_i64 x.number) _ e)) (entry_fits_lem x (and_right (is_i64 x.number) _ e)) h

  offer_case : (u : Option ℕ) (o : GroupOrder X) (x : Offer X) → is_i64 x.number && what_fits x.what ≡ true → Fits o.groups → Fits (offer_unless u o x).1.groups
  offer_case (Some n) o x e h = h
  offer_case None o x e h = offer_fit o x e h

  done_case : (u : Option ℕ) (o p : GroupOrder X) → Fits o.groups → Fits p.groups → Fits (done_unless u o p).1.groups
  done_case (Some n) o p h k = h
  done_case None o p h k = k

  release_case : (u : Option ℕ) (turns : ℕ) (o : GroupOrder X) (v : View) (now : ℕ) → Fits o.groups → Fits (release_unless u turns o v now).1.groups
  unfolding release
  release_case (Some n) turns o v now h = h
  release_case None turns o v now h = each_fit turns (view_of v) now o.timeout o.groups [] o.counts h

  heartbeat_fit : (o : GroupOrder X) (k w : Guid) (b : HeartbeatInfo) → Fits o.groups → Fits (heartbeat o k w b).groups
  unfolding heartbeat entry
  heartbeat_fit o k w b h =
      let g : Group X = or_default no_group (get guids k o.groups) in
      fits_put k (with_writer w (λ p. heard b p) (announce b.current_gsn g)) o.groups (told_fit w (λ p. heard b p) (announce b.current_gsn g) (announce_fit b.current_gsn g (fits_at k o.groups h))) h

  gap_fit : (o : GroupOrder X) (k w : Guid) (r : ℕ) (n : ℤ) → Fits o.groups → Fits (gap o k w r n).groups
  unfolding gap entry
  gap_fit o k w r n h =
      let g : Group X = or_default no_group (get guids k o.groups) in
      fits_put k (with_writer w (λ p. gap_to r n p) g) o.groups (told_fit w (λ p. gap_to r n p) g (fits_at k o.groups h)) h

  step_fit : (turns : ℕ) (o : GroupOrder X) (c : Call X) → call_fits c ≡ true → Fits o.groups → Fits (step turns o c).1.groups
  unfolding step call_fits
  step_fit turns o (offers x) e h = offer_case (offer_refusal o x) o x e h
  step_fit turns o (heartbeats b) e h = done_case (refusal ((2, ninth b.group o) ∷ (3, pair33 b.group b.writer o) ∷ [])) o (heartbeat o b.group b.writer (info_of b)) h (heartbeat_fit o b.group b.writer (info_of b) h)
  step_fit turns o (gaps x) e h = done_case (refusal ((1, ltb 7 x.reader) ∷ (2, ninth x.group o) ∷ (3, pair33 x.group x.writer o) ∷ [])) o (gap o x.group x.writer x.reader x.number) h (gap_fit o x.group x.writer x.reader x.number h)
  step_fit turns o (releases now v l) e h = release_case (refusal ((9, malformed v) ∷ (5, ltb (length l) (samples o)) ∷ [])) turns o v now h

  step_fits_lem : (turns : ℕ) (o : GroupOrder X) (c : Call X) → Fits o.groups → step_fits turns o c ≡ true
  unfolding step_fits
  step_fits_lem turns o (offers x) h = refl
  step_fits_lem turns o (heartbeats b) h = refl
  step_fits_lem turns o (gaps x) h = refl
  step_fits_lem turns o (releases now v l) h = each_fits_lem turns (view_of v) now o.timeout o.groups [] o.counts h

  from_fits : (turns : ℕ) (cs : List (Call X)) (o : GroupOrder X) → list_all (λ c. call_fits c) cs ≡ true → Fits o.groups → run_fits turns o cs ≡ true
  unfolding run_fits
  from_fits turns [] o e h = refl
  from_fits turns (c ∷ cs) o e h =
      and_true (step_fits turns o c) _ (step_fits_lem turns o c h) (from_fits turns cs (step turns o c).1 (and_right (call_fits c) _ e) (step_fit turns o c (and_left (call_fits c) _ e) h))

  -- at every turn of every release of a run whose offers bring such numbers and ends, what the source computes is an i64
  pub run_fits_lem : (turns t : ℕ) (cs : List (Call X)) → list_all (λ c. call_fits c) cs ≡ true → run_fits turns (new t) cs ≡ true
  unfolding new Fits
  run_fits_lem turns t cs e = from_fits turns cs (new t) e tt
