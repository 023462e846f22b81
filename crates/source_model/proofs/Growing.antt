-- The counts never fall: where they are below 2^64 after a list of calls, they were after each of its beginnings, and in every turn.
use Prim.Native.Nat.{ℕ, zero, suc, ◌^◌, ◌≤◌}
use mathlib.Core.Path.{◌≡◌}
use mathlib.Core.Bool.{Bool, true, false, ◌&&◌, not}
use mathlib.Core.List.{List, [], ◌∷◌, ◌++◌}
use Rattle.std.specs.Prelude.{Option, Some, None}
use native.Mathlib.Omega.{arith}
use lib.IntN.{ℤ, pos, ◌+ℤ◌, ◌-ℤ◌}
use lib.Dec.{ltb}
use lib.ListN.{length}
use borrow.Author.Tests.{ltb-true, lt-ltb}
use Rattle.laws.specs.Lists.{find}
use Rattle.guids.specs.Guid.{Guid}
use Rattle.rules.specs.Offer.{refusal}
use Rattle.rules.specs.declared.call.Offer.{Offer}
use Rattle.rules.specs.Release.{View, malformed}
use Rattle.rules.specs.Run.{Call, offers, heartbeats, gaps, releases}
use Rattle.laws.proofs.Lists.{and_true, and_left, and_right}
use Rattle.source_model.specs.Map.{numbers, or_default, get, remove}
use Rattle.rules.specs.declared.state.ReleaseCounts.{ReleaseCounts}
use Rattle.source_model.specs.Source.{Entry, OpenSet, no_set, Group, GroupView, GroupOrder, first_of, late, discarding, skips, Did, did_push, did_join, did_count, late_if, offer_does, offer_entry, offer, heartbeat, gap, with_sets, Loop, commit_to, commit, complete, finish_if, finish_set, stale, drop_if, drop_all, commit_each, waited, as_u64, taken, take_next, take_if, is_ready, at_head, all_ends, finish_or, at_ended, turn, or_return, release_group, release_each, release}
use Rattle.source_model.specs.Calls.{end_w, item_w, group_info, info_of, view_of, ninth, pair33, samples, offer_refusal, offer_unless, done_unless, release_unless, step, run}
use Rattle.source_model.specs.Claim.{below}

pub record Grows (c d : ReleaseCounts) : Type 0 where
  pub skipped_after_timeout : c.skipped_after_timeout ≤ d.skipped_after_timeout
  pub incomplete_sets : c.incomplete_sets ≤ d.incomplete_sets
  pub discarded_samples : c.discarded_samples ≤ d.discarded_samples
  pub lates : c.late_samples ≤ d.late_samples

same : (c : ReleaseCounts) → Grows c c
same c = record { skipped_after_timeout = omega arith; incomplete_sets = omega arith; discarded_samples = omega arith; lates = omega arith }

then : (c d e : ReleaseCounts) → Grows c d → Grows d e → Grows c e
then c d e g h = record {
  skipped_after_timeout = omega (arith, g.skipped_after_timeout, h.skipped_after_timeout);
  incomplete_sets = omega (arith, g.incomplete_sets, h.incomplete_sets);
  discarded_samples = omega (arith, g.discarded_samples, h.discarded_samples);
  lates = omega (arith, g.lates, h.lates);
}

grows_late : (c : ReleaseCounts) → Grows c (late c)
unfolding late
grows_late c = record { skipped_after_timeout = omega arith; incomplete_sets = omega arith; discarded_samples = omega arith; lates = omega arith }

grows_discard : (k : ℕ) (c : ReleaseCounts) → Grows c (discarding k c)
unfolding discarding
grows_discard k c = record { skipped_after_timeout = omega arith; incomplete_sets = omega arith; discarded_samples = omega arith; lates = omega arith }

grows_skip : (k : ℕ) (c : ReleaseCounts) → Grows c (skips k c)
unfolding skips
grows_skip k c = record { skipped_after_timeout = omega arith; incomplete_sets = omega arith; discarded_samples = omega arith; lates = omega arith }

module _ {I : Type 0} where
  drop_grows : (z : ℤ) (l : Loop I) (u : Option (OpenSet I)) → Grows l.counts (drop_if z l u).counts
  drop_grows z l None = same l.counts
  drop_grows z l (Some s) = grows_discard (length s.members) l.counts

  drops_grow : (zs : List ℤ) (l : Loop I) → Grows l.counts (drop_all zs l).counts
  unfolding drop_all
  drops_grow [] l = same l.counts
  drops_grow (z ∷ zs) l =
      let m : Loop I = drop_if z l (get numbers z l.group.sets) in
      then l.counts m.counts (drop_all zs m).counts (drop_grows z l (get numbers z l.group.sets)) (drops_grow zs m)

  commit_same : (z : Option ℤ) (e : Entry I) (l : Loop I) → Grows l.counts (commit_to z e l).counts
  commit_same None e l = same l.counts
  commit_same (Some z) e l = same l.counts

  commits_grow : (es : List (Entry I)) (l : Loop I) → Grows l.counts (commit_each es l).counts
  unfolding commit_each commit
  commits_grow [] l = same l.counts
  commits_grow (e ∷ es) l =
      let m : Loop I = drop_all (stale e l.group.sets) l in
      let n : Loop I = commit_to e.info.coherent_set_gsn e m in
      then l.counts m.counts (commit_each es n).counts (drops_grow (stale e l.group.sets) l)
      (then m.counts n.counts (commit_each es n).counts (commit_same e.info.coherent_set_gsn e m) (commits_grow es n))

  next_grows : (n : ℤ) (k : ℕ) (l : Loop I) → Grows l.counts (take_next n k l).counts
  unfolding take_next taken
  next_grows n k l = then l.counts (taken n k l).counts (take_next n k l).counts (grows_skip k l.counts) (commits_grow (or_default [] (get numbers n l.group.pending)) (taken n k l))

  unfoldable pub GrowsTo : Loop I → Option (Loop I) → Type 0
  GrowsTo l None = Grows l.counts l.counts
  GrowsTo l (Some m) = Grows l.counts m.counts

  take_grows : (r y : Bool) (n : ℤ) (k : ℕ) (l : Loop I) → GrowsTo l (take_if r y n k l)
  unfolding GrowsTo
  take_grows true y n k l = next_grows n 0 l
  take_grows false true n k l = same l.counts
  take_grows false false n k l = next_grows n k l

  finish_if_grows : (b : Bool) (s : OpenSet I) (l : Loop I) → Grows l.counts (finish_if b s l).counts
  finish_if_grows true s l = same l.counts
  finish_if_grows false s l = grows_discard (length s.members) l.counts

  module _ (key : Guid) (view : GroupView) (now timeout : ℕ) where
    head_grows : (l : Loop I) (u : Option (ℤ × List (Entry I))) → GrowsTo l (at_head key view now timeout l u)
    head_grows l None = unfold GrowsTo in same l.counts
    head_grows l (Some x) =
        take_grows (is_ready key view now timeout l.group (l.group.committed +ℤ pos 1) x.0) (ltb (waited now (first_of (or_default [] (get numbers x.0 l.group.pending)))) timeout)
        x.0 (as_u64 (x.0 -ℤ (l.group.committed +ℤ pos 1))) l

    finish_grows : (b : Bool) (z : ℤ) (s : OpenSet I) (l : Loop I) → GrowsTo l (finish_or key view now timeout b z s l)
    unfolding GrowsTo finish_set
    finish_grows true z s l = same l.counts
    finish_grows false z s l = finish_if_grows (complete s (view.counted key) (all_ends key view now timeout s)) s (record { group = with_sets (remove numbers z l.group.sets) l.group; out = l.out; counts = l.counts })

    at_grows : (l : Loop I) (u : Option (ℤ × OpenSet I)) → GrowsTo l (at_ended key view now timeout l u)
    at_grows l (Some x) =
        let s : OpenSet I = or_default no_set (get numbers x.0 l.group.sets) in
        finish_grows (not (all_ends key view now timeout s) && ltb (waited now (first_of s.members)) timeout) x.0 s l
    at_grows l None = head_grows l (first_of l.group.pending)

    pub turn_grows : (l : Loop I) → GrowsTo l (turn key view now timeout l)
    unfolding turn
    turn_grows l = at_grows l (find (λ x. x.1.end_committed) l.group.sets)

    goes_grow : (k : ℕ) (l m : Loop I) → Grows l.counts m.counts → Grows m.counts (release_group key view now timeout k m).counts → Grows l.counts (release_group key view now timeout k m).counts
    goes_grow k l m g h = then l.counts m.counts (release_group key view now timeout k m).counts g h

    pub loop_grows : (k : ℕ) (l : Loop I) → Grows l.counts (release_group key view now timeout k l).counts
    unfolding release_group GrowsTo
    loop_grows zero l = same l.counts
    loop_grows (suc k) l = (elim (turn key view now timeout l) as (λ u. GrowsTo l u → Grows l.counts (or_return key view now timeout (λ m. release_group key view now timeout k m) l u).counts) [ None ↦ λ g. g | Some m ↦ λ g. goes_grow k l m g (loop_grows k m) ]) (turn_grows l)

  pub each_grows : (turns : ℕ) (view : GroupView) (now timeout : ℕ) (gs : List (Guid × Group I)) (out : List (ℕ × I)) (c : ReleaseCounts) → Grows c (release_each turns view now timeout gs out c).1.1
  unfolding release_each
  each_grows turns view now timeout [] out c = same c
  each_grows turns view now timeout (x ∷ gs) out c =
      let m : Loop I = release_group x.0 view now timeout turns (record { group = x.1; out = out; counts = c }) in
      then c m.counts (release_each turns view now timeout gs m.out m.counts).1.1 (loop_grows x.0 view now timeout turns (record { group = x.1; out = out; counts = c })) (each_grows turns view now timeout gs m.out m.counts)

  did_grows : (d : Did I) (c : ReleaseCounts) → Grows c (late_if d c)
  did_grows (did_push g) c = same c
  did_grows (did_join g) c = same c
  did_grows (did_count g) c = grows_late c

module _ {X : Type 0} where
  offer_grows : (u : Option ℕ) (o : GroupOrder X) (x : Offer X) → Grows o.counts (offer_unless u o x).1.counts
  unfolding offer offer_entry
  offer_grows (Some n) o x = same o.counts
  offer_grows None o x = did_grows (offer_does o x.group (record { reader = x.reader; writer = x.writer; info = group_info x; at_end = end_w x.what; item = item_w x.what; offered_at = x.time }) (group_info x).writer_set) o.counts

  done_grows : (u : Option ℕ) (o p : GroupOrder X) → Grows o.counts p.counts → Grows o.counts (done_unless u o p).1.counts
  done_grows (Some n) o p g = same o.counts
  done_grows None o p g = g

  release_grows : (u : Option ℕ) (turns : ℕ) (o : GroupOrder X) (v : View) (now : ℕ) → Grows o.counts (release_unless u turns o v now).1.counts
  unfolding release
  release_grows (Some n) turns o v now = same o.counts
  release_grows None turns o v now = each_grows turns (view_of v) now o.timeout o.groups [] o.counts

  pub step_grows : (turns : ℕ) (o : GroupOrder X) (c : Call X) → Grows o.counts (step turns o c).1.counts
  unfolding step heartbeat gap
  step_grows turns o (offers x) = offer_grows (offer_refusal o x) o x
  step_grows turns o (heartbeats b) = done_grows (refusal ((2, ninth b.group o) ∷ (3, pair33 b.group b.writer o) ∷ [])) o (heartbeat o b.group b.writer (info_of b)) (same o.counts)
  step_grows turns o (gaps x) = done_grows (refusal ((1, ltb 7 x.reader) ∷ (2, ninth x.group o) ∷ (3, pair33 x.group x.writer o) ∷ [])) o (gap o x.group x.writer x.reader x.number) (same o.counts)
  step_grows turns o (releases now v l) = release_grows (refusal ((9, malformed v) ∷ (5, ltb (length l) (samples o)) ∷ [])) turns o v now

  run_grows : (turns : ℕ) (cs : List (Call X)) (o : GroupOrder X) → Grows o.counts (run turns o cs).counts
  unfolding run
  run_grows turns [] o = same o.counts
  run_grows turns (c ∷ cs) o = then o.counts (step turns o c).1.counts (run turns (step turns o c).1 cs).counts (step_grows turns o c) (run_grows turns cs (step turns o c).1)

  more_grows : (turns : ℕ) (cs ds : List (Call X)) (o : GroupOrder X) → Grows (run turns o cs).counts (run turns o (cs ++ ds)).counts
  unfolding run
  more_grows turns [] ds o = run_grows turns ds o
  more_grows turns (c ∷ cs) ds o = more_grows turns cs ds (step turns o c).1

less : (a b : ℕ) → a ≤ b → ltb b (2 ^ 64) ≡ true → ltb a (2 ^ 64) ≡ true
less a b h e = lt-ltb a (2 ^ 64) (omega (arith, h, ltb-true b (2 ^ 64) e))

pub grown_below : (c d : ReleaseCounts) → Grows c d → below d ≡ true → below c ≡ true
unfolding below
grown_below c d g h =
    let abc = and_left (ltb d.skipped_after_timeout (2 ^ 64) && ltb d.incomplete_sets (2 ^ 64) && ltb d.discarded_samples (2 ^ 64)) _ h in
    let ab = and_left (ltb d.skipped_after_timeout (2 ^ 64) && ltb d.incomplete_sets (2 ^ 64)) _ abc in
    and_true (ltb c.skipped_after_timeout (2 ^ 64) && ltb c.incomplete_sets (2 ^ 64) && ltb c.discarded_samples (2 ^ 64)) _
    (and_true (ltb c.skipped_after_timeout (2 ^ 64) && ltb c.incomplete_sets (2 ^ 64)) _
    (and_true (ltb c.skipped_after_timeout (2 ^ 64)) _
    (less c.skipped_after_timeout d.skipped_after_timeout g.skipped_after_timeout (and_left (ltb d.skipped_after_timeout (2 ^ 64)) _ ab))
    (less c.incomplete_sets d.incomplete_sets g.incomplete_sets (and_right (ltb d.skipped_after_timeout (2 ^ 64)) _ ab)))
    (less c.discarded_samples d.discarded_samples g.discarded_samples (and_right (ltb d.skipped_after_timeout (2 ^ 64) && ltb d.incomplete_sets (2 ^ 64)) _ abc)))
    (less c.late_samples d.late_samples g.lates (and_right (ltb d.skipped_after_timeout (2 ^ 64) && ltb d.incomplete_sets (2 ^ 64) && ltb d.discarded_samples (2 ^ 64)) _ h))

pub below_before : {X : Type 0} (turns : ℕ) (cs ds : List (Call X)) (o : GroupOrder X) → below (run turns o (cs ++ ds)).counts ≡ true → below (run turns o cs).counts ≡ true
below_before turns cs ds o h = grown_below (run turns o cs).counts (run turns o (cs ++ ds)).counts (more_grows turns cs ds o) h
