-- Every state that a list of calls reaches: groups in order, writers once, entries known, numbers about committed, the bounds.
use Prim.Native.Nat.{ℕ, ◌+◌, ◌≤◌}
use mathlib.Core.Path.{◌≡◌, refl, sym, ap, ◌∙◌}
use mathlib.Core.Bool.{Bool, true, false, ◌&&◌, ◌||◌, not, cond}
use mathlib.Core.List.{List, [], ◌∷◌, ◌++◌, map}
use Rattle.std.specs.Prelude.{Option, Some, None}
use native.Mathlib.Omega.{arith}
use lib.Dec.{leb, ltb}
use lib.ListN.{length, length-append}
use borrow.Author.Tests.{leb-false, ltb-false, le-leb}
use Rattle.laws.specs.Lists.{filter, list_all, list_any, count, find, change}
use Rattle.guids.specs.Guid.{Guid, same_guid, before}
use Rattle.rules.specs.Entry.{Entry, is_sample_w, of_group}
use Rattle.rules.specs.State.{State, Group, Writer, ReleaseCounts, fresh, is_group, is_writer, knows_group, knows_writer, committed_of, stored}
use Rattle.rules.specs.Marks.{number, hear_group, tell, saw, gapped, announced, announced_to}
use Rattle.rules.specs.Offer.{Offer, Fate, Stored, Joined, Late, Heartbeat, Gap, refusal, fate, one_late, ninth, pair33, with_marks, entry_of, shares, replaced, marked, keep_end, mark_of, join, fate_of, adds, offer_refusal, place, heard_offer, offered, offer, done, heartbeat, gap}
use Rattle.rules.specs.Commit.{Turn}
use Rattle.rules.specs.Release.{Work, View, turn_of, work_of, back_to, release_all, released, release_refusal, released_if, release}
use Rattle.rules.specs.Run.{Call, offers, heartbeats, gaps, releases, step, run}
use Rattle.rules.specs.Names.{named}
use Rattle.rules.specs.Claim.{ascending, distinct, Reached, Story, follow, story, begun, final}
use Rattle.laws.proofs.Lists.{not_both, none_not_some, and_true, and_left, and_right, or_true_left, or_true_right, all_imp, all_and, all_always, all_snoc, any_all, count_any, length_split, map_change, length_by_map}
use Rattle.guids.proofs.Guids.{same_eq, same_sym, after_not_same}
use Rattle.rules.proofs.Hearing.{name, ascending_by, knows_by, committed_cons, committed_change, hear_ascending, hear_committed, hear_keeps, hear_knows, hear_length, tell_distinct, tell_keeps, tell_knows, tell_all, tell_length}
use Rattle.rules.proofs.Keeping.{join_all, above, up_to, above_each, up_to_each, Fit, release_all_guids, release_all_stored, release_all_all, release_all_fit}

-- ---- a number against its group's committed, and against each group's

own_of : (r : ℕ → Bool) (h : Guid) (gs : List Group) → ascending gs ≡ true → r (committed_of h gs) ≡ true → list_all (λ x. not (same_guid x.guid h) || r x.committed) gs ≡ true
unfolding ascending
own_of r h [] a e = refl
own_of r h (g ∷ gs) a e =
    (elim (same_guid h g.guid) as (λ b. same_guid h g.guid ≡ b → r (cond b g.committed (committed_of h gs)) ≡ true → list_all (λ x. not (same_guid x.guid h) || r x.committed) (g ∷ gs) ≡ true) [
      | true ↦ λ d k.
          and_true (not (same_guid g.guid h) || r g.committed) _ (or_true_right (not (same_guid g.guid h)) _ k)
          (all_imp (λ (x : Group). before g.guid x.guid) (λ x. not (same_guid x.guid h) || r x.committed) (λ x b. or_true_left (not (same_guid x.guid h)) _ (rw (same_eq h g.guid d, after_not_same x.guid g.guid b))) gs (and_left (list_all (λ x. before g.guid x.guid) gs) _ a))
      | false ↦ λ d k.
          and_true (not (same_guid g.guid h) || r g.committed) _ (or_true_left (not (same_guid g.guid h)) _ (ap not (same_sym h g.guid ∙ d)))
          (own_of r h gs (and_right (list_all (λ x. before g.guid x.guid) gs) _ a) k)
    ]) refl (rw (committed_cons h g gs) at e)

of_own : (r : ℕ → Bool) (h : Guid) (gs : List Group) → knows_group h gs ≡ true → list_all (λ x. not (same_guid x.guid h) || r x.committed) gs ≡ true → r (committed_of h gs) ≡ true
unfolding knows_group is_group
of_own r h [] k e = not_both false k refl
of_own r h (g ∷ gs) k e =
    rw (committed_cons h g gs)
    ((elim (same_guid h g.guid) as (λ b. same_guid h g.guid ≡ b → b || list_any (λ x. same_guid h x.guid) gs ≡ true → r (cond b g.committed (committed_of h gs)) ≡ true) [
      | true ↦ λ d u. rw (same_sym h g.guid, d) at (and_left (not (same_guid g.guid h) || r g.committed) _ e)
      | false ↦ λ d u. of_own r h gs u (and_right (not (same_guid g.guid h) || r g.committed) _ e)
    ]) refl k)

-- a known writer's group is known
pub writer_group : (h v : Guid) (gs : List Group) (ws : List Writer) → list_all (λ w. knows_group w.group gs) ws ≡ true → knows_writer h v ws ≡ true → knows_group h gs ≡ true
unfolding knows_writer is_writer
writer_group h v gs ws a k = any_all (λ (x : Writer). same_guid h x.group && same_guid v x.writer) (λ w. knows_group w.group gs) (λ x d e. rw (same_eq h x.group (and_left (same_guid h x.group) _ d)) e) ws k a

-- ---- refusals and fates

pub refusal_first : (n : ℕ) (b : Bool) (l : List (ℕ × Bool)) → refusal ((n, b) ∷ l) ≡ None → b ≡ false
unfolding refusal
refusal_first n true l e = none_not_some (Some n) n e refl
refusal_first n false l e = refl

pub refusal_rest : (n : ℕ) (b : Bool) (l : List (ℕ × Bool)) → refusal ((n, b) ∷ l) ≡ None → refusal l ≡ None
unfolding refusal
refusal_rest n true l e = none_not_some (Some n) n e refl
refusal_rest n false l e = e

fate_stored : (b j : Bool) → fate b j ≡ Stored → b ≡ true
fate_stored true j e = refl
fate_stored false true e = cc
fate_stored false false e = cc

fate_joined : (b j : Bool) → fate b j ≡ Joined → b ≡ false
fate_joined true j e = cc
fate_joined false j e = refl

module _ {X : Type 0} where
  -- the writer of an offer is known once it is told
  told : (o : Offer X) (s : State X) → knows_writer o.group o.writer (heard_offer o s).writers ≡ true
  unfolding heard_offer with_marks
  told o s = tell_knows o.group o.writer (λ w. saw o.reader (number o.number) o.digest w) (λ x. unfold saw in refl) s.writers

  -- ---- release

  fits : (s : State X) → Reached s → Fit s.groups (work_of s)
  unfolding work_of above_each up_to_each above up_to of_group
  fits s r = (
    all_imp (λ e. ltb (committed_of e.group s.groups) e.number) (λ e. above_each s.groups e) (λ e d. own_of (λ c. ltb c e.number) e.group s.groups r.groups_ordered d) s.pending r.pending_above,
    all_imp (λ e. leb e.number (committed_of e.group s.groups)) (λ e. up_to_each s.groups e) (λ e d. own_of (λ c. leb e.number c) e.group s.groups r.groups_ordered d) s.held r.held_not_above,
  )

  abbrev known : List Writer → Entry X → Bool
  known ws e = knows_writer e.group e.writer ws

  -- a test of each known entry against each group is one against its own
  back : (p : List Group → Entry X → Bool) (r : ℕ → ℕ → Bool) (gs : List Group) (ws : List Writer)
      → ((e : Entry X) → p gs e ≡ list_all (λ x. not (same_guid x.guid e.group) || r e.number x.committed) gs)
      → list_all (λ w. knows_group w.group gs) ws ≡ true → (l : List (Entry X)) → list_all (λ e. known ws e) l ≡ true → list_all (λ e. p gs e) l ≡ true
      → list_all (λ e. r e.number (committed_of e.group gs)) l ≡ true
  back p r gs ws same a l k h =
      all_imp (λ (e : Entry X). known ws e && p gs e) (λ e. r e.number (committed_of e.group gs))
      (λ e d. of_own (λ c. r e.number c) e.group gs (writer_group e.group e.writer gs ws a (and_left (known ws e) _ d)) (sym (same e) ∙ and_right (known ws e) _ d))
      l (all_and (λ e. known ws e) (λ e. p gs e) l k h)

  -- what keeps the groups' GUIDs, the entries' writers and the numbers' bounds, and adds no entry
  kept : (s : State X) → Reached s → (gs : List Group) (w : Work X)
      → map (λ x. x.guid) gs ≡ map (λ x. x.guid) s.groups
      → list_all (λ e. known s.writers e) w.pending ≡ true → list_all (λ e. known s.writers e) w.held ≡ true
      → Fit gs w → length w.pending + length w.held ≤ stored s
      → Reached (back_to s (gs, w))
  unfolding back_to stored
  kept s r gs w same kp kh f few =
      let groups : list_all (λ x. knows_group x.group gs) s.writers ≡ true =
      all_imp (λ (x : Writer). knows_group x.group s.groups) (λ x. knows_group x.group gs) (λ x d. knows_by x.group gs s.groups same ∙ d) s.writers r.groups_known
      in
      record {
        groups_ordered = ascending_by gs s.groups same ∙ r.groups_ordered;
        writers_once = r.writers_once;
        groups_known = groups;
        pending_known = kp;
        held_known = kh;
        pending_above = back (λ gs e. above_each gs e) (λ n c. ltb c n) gs s.writers (λ e. unfold above_each above of_group in refl) groups w.pending kp f.0;
        held_not_above = back (λ gs e. up_to_each gs e) (λ n c. leb n c) gs s.writers (λ e. unfold up_to_each up_to of_group in refl) groups w.held kh f.1;
        most_groups = omega (arith, length_by_map (λ (x : Group). x.guid) gs s.groups same, r.most_groups);
        most_writers = r.most_writers;
        most_entries = omega (arith, r.most_entries);
      }

  released_reached : (s : State X) (v : View) (now : ℕ) → Reached s → Reached (back_to s (released s v now))
  unfolding released turn_of
  released_reached s v now r =
      let t : Group → Turn = λ g. turn_of v now s.timeout s.writers g in
      let w : Work X = work_of s in
      let both : (list_all (λ e. known s.writers e) (release_all t s.groups w).1.pending ≡ true) × (list_all (λ e. known s.writers e) (release_all t s.groups w).1.held ≡ true) =
      release_all_all t (λ g. refl) (λ e. known s.writers e) (λ e. known s.writers e) (λ m e. unfold marked in refl) (λ g. true) (λ x e a b c. c) s.groups (all_always (λ g. true) (λ g. refl) s.groups) w (unfold work_of in (r.pending_known, r.held_known))
      in
      kept s r (release_all t s.groups w).0 (release_all t s.groups w).1 (release_all_guids t (λ g. refl) s.groups w) both.0 both.1
      (release_all_fit t (λ g. refl) s.groups r.groups_ordered w (fits s r)) (unfold work_of stored in release_all_stored t (λ g. refl) s.groups w)

  -- ---- hearing

  -- numbers about the same committed ones, writers that stay known
  numbers : (r : ℕ → ℕ → Bool) (gs hs : List Group) → ((h : Guid) → committed_of h hs ≡ committed_of h gs) → (l : List (Entry X))
      → list_all (λ e. r e.number (committed_of e.group gs)) l ≡ true → list_all (λ e. r e.number (committed_of e.group hs)) l ≡ true
  numbers r gs hs same l h = all_imp (λ (e : Entry X). r e.number (committed_of e.group gs)) (λ e. r e.number (committed_of e.group hs)) (λ e d. rw (same e.group) d) l h

  writers : (ws vs : List Writer) → ((g w : Guid) → knows_writer g w ws ≡ true → knows_writer g w vs ≡ true) → (l : List (Entry X)) → list_all (λ e. known ws e) l ≡ true → list_all (λ e. known vs e) l ≡ true
  writers ws vs f l h = all_imp (λ (e : Entry X). known ws e) (λ e. known vs e) (λ e d. f e.group e.writer d) l h

  -- groups alike in GUIDs and committed numbers
  regrouped : (s : State X) → Reached s → (gs : List Group) → map (λ x. x.guid) gs ≡ map (λ x. x.guid) s.groups
      → ((h : Guid) → committed_of h gs ≡ committed_of h s.groups) → Reached (with_marks gs s.writers s)
  unfolding with_marks stored
  regrouped s r gs same number = record {
    groups_ordered = ascending_by gs s.groups same ∙ r.groups_ordered;
    writers_once = r.writers_once;
    groups_known = all_imp (λ (x : Writer). knows_group x.group s.groups) (λ x. knows_group x.group gs) (λ x d. knows_by x.group gs s.groups same ∙ d) s.writers r.groups_known;
    pending_known = r.pending_known;
    held_known = r.held_known;
    pending_above = numbers (λ n c. ltb c n) s.groups gs number s.pending r.pending_above;
    held_not_above = numbers (λ n c. leb n c) s.groups gs number s.held r.held_not_above;
    most_groups = omega (arith, length_by_map (λ (x : Group). x.guid) gs s.groups same, r.most_groups);
    most_writers = r.most_writers;
    most_entries = r.most_entries;
  }

  heard : (s : State X) → Reached s → (g w : Guid) (f : Writer → Writer) → ((x : Writer) → name (f x) ≡ name x)
      → ninth g s ≡ false → pair33 g w s ≡ false → Reached (with_marks (hear_group g s.groups) (tell g w f s.writers) s)
  unfolding with_marks stored ninth pair33
  heard s r g w f same few fewer = record {
    groups_ordered = hear_ascending g s.groups r.groups_ordered;
    writers_once = tell_distinct g w f same s.writers r.writers_once;
    groups_known = tell_all g w f same (λ h. knows_group h (hear_group g s.groups)) s.writers (hear_knows g s.groups) (all_imp (λ (x : Writer). knows_group x.group s.groups) (λ x. knows_group x.group (hear_group g s.groups)) (λ x d. hear_keeps x.group g s.groups d) s.writers r.groups_known);
    pending_known = writers s.writers (tell g w f s.writers) (λ h v d. tell_keeps g w f same h v s.writers d) s.pending r.pending_known;
    held_known = writers s.writers (tell g w f s.writers) (λ h v d. tell_keeps g w f same h v s.writers d) s.held r.held_known;
    pending_above = numbers (λ n c. ltb c n) s.groups (hear_group g s.groups) (λ h. hear_committed h g s.groups) s.pending r.pending_above;
    held_not_above = numbers (λ n c. leb n c) s.groups (hear_group g s.groups) (λ h. hear_committed h g s.groups) s.held r.held_not_above;
    most_groups = hear_length g 8 s.groups few r.most_groups;
    most_writers = tell_length g w f same 32 s.writers fewer r.most_writers;
    most_entries = r.most_entries;
  }

  -- ---- placing an offered entry

  -- the offer's number against its group's committed
  pub stored_number : (s : State X) (o : Offer X) → fate_of s o ≡ Stored → ltb (committed_of o.group s.groups) (number o.number) ≡ true
  unfolding fate_of
  stored_number s o f = fate_stored (ltb (committed_of o.group s.groups) (number o.number)) _ f

  pub joined_number : (s : State X) (o : Offer X) → fate_of s o ≡ Joined → leb (number o.number) (committed_of o.group s.groups) ≡ true
  unfolding fate_of
  joined_number s o f = le-leb (number o.number) (committed_of o.group s.groups) (ltb-false (committed_of o.group s.groups) (number o.number) (fate_joined (ltb (committed_of o.group s.groups) (number o.number)) (not (is_sample_w o.what) && list_any (λ h. shares (entry_of o) h) s.held) f))

  -- an end that joins: one entry more at most, and none where it replaces one
  join_length : (e : Entry X) (l : List (Entry X)) (n k : ℕ) → k + length l ≤ n → not (list_any (λ h. replaced e h) l) && leb n (k + length l) ≡ false → k + length (join e l) ≤ n
  unfolding join keep_end count
  join_length e l n k few h =
      let m : Option ℕ = mark_of (find (λ h. replaced e h) l) in
      let a : length (filter (λ h. not (replaced e h)) l ++ (marked m e ∷ [])) ≡ length (filter (λ h. not (replaced e h)) l) + 1 = length-append (filter (λ h. not (replaced e h)) l) (marked m e ∷ []) in
      (elim (list_any (λ h. replaced e h) l) as (λ b. list_any (λ h. replaced e h) l ≡ b → not b && leb n (k + length l) ≡ false → k + length (filter (λ h. not (replaced e h)) l ++ (marked m e ∷ [])) ≤ n) [
        | true ↦ λ d u. omega (arith, count_any (λ h. replaced e h) l d, length_split (λ h. replaced e h) l)
        | false ↦ λ d u. omega (arith, length_split (λ h. replaced e h) l, leb-false n (k + length l) u)
      ]) refl h

  -- other entries in a state
  holding : (s : State X) → Reached s → (p h : List (Entry X)) (c : ReleaseCounts)
      → list_all (λ e. known s.writers e) p ≡ true → list_all (λ e. known s.writers e) h ≡ true
      → list_all (λ e. ltb (committed_of e.group s.groups) e.number) p ≡ true
      → list_all (λ e. leb e.number (committed_of e.group s.groups)) h ≡ true
      → length p + length h ≤ 256
      → Reached (record { groups = s.groups; writers = s.writers; pending = p; held = h; counts = c; timeout = s.timeout })
  unfolding stored
  holding s r p h c kp kh ap ah few = record {
    groups_ordered = r.groups_ordered;
    writers_once = r.writers_once;
    groups_known = r.groups_known;
    pending_known = kp;
    held_known = kh;
    pending_above = ap;
    held_not_above = ah;
    most_groups = r.most_groups;
    most_writers = r.most_writers;
    most_entries = few;
  }

  placed : (s : State X) (o : Offer X) (k : Fate) → Reached s → Reached (heard_offer o s) → fate_of s o ≡ k → adds k s o && leb 256 (stored s) ≡ false → Reached (place k (entry_of o) (heard_offer o s))
  unfolding place heard_offer with_marks entry_of adds fate_of stored marked
  placed s o Stored p r f h =
      holding (heard_offer o s) r (s.pending ++ (entry_of o ∷ [])) s.held s.counts
      (all_snoc (λ e. known (heard_offer o s).writers e) s.pending (entry_of o) r.pending_known (told o s)) r.held_known
      (all_snoc (λ e. ltb (committed_of e.group (heard_offer o s).groups) e.number) s.pending (entry_of o) r.pending_above (rw (hear_committed o.group o.group s.groups) (stored_number s o f)))
      r.held_not_above (omega (arith, length-append s.pending (entry_of o ∷ []), leb-false 256 (stored s) h))
  placed s o Joined p r f h =
      holding (heard_offer o s) r s.pending (join (entry_of o) s.held) s.counts
      r.pending_known (join_all (λ e. known (heard_offer o s).writers e) (λ m e. refl) (entry_of o) s.held (told o s) r.held_known)
      r.pending_above (join_all (λ e. leb e.number (committed_of e.group (heard_offer o s).groups)) (λ m e. refl) (entry_of o) s.held (rw (hear_committed o.group o.group s.groups) (joined_number s o f)) r.held_not_above)
      (join_length (entry_of o) s.held 256 (length s.pending) p.most_entries h)
  placed s o Late p r f h =
      holding (heard_offer o s) r s.pending s.held (one_late s.counts) r.pending_known r.held_known r.pending_above r.held_not_above r.most_entries

  -- ---- calls

  offer_reached : (s : State X) (o : Offer X) (x : Option ℕ) → Reached s → offer_refusal s o ≡ x → Reached (offered x s o).1
  unfolding offer_refusal heard_offer saw
  offer_reached s o (Some n) r e = r
  offer_reached s o None r e =
      let a : refusal ((2, ninth o.group s) ∷ (3, pair33 o.group o.writer s) ∷ (4, adds (fate_of s o) s o && leb 256 (stored s)) ∷ []) ≡ None = refusal_rest 1 (ltb 7 o.reader) _ e in
      let b : refusal ((3, pair33 o.group o.writer s) ∷ (4, adds (fate_of s o) s o && leb 256 (stored s)) ∷ []) ≡ None = refusal_rest 2 (ninth o.group s) _ a in
      let c : refusal ((4, adds (fate_of s o) s o && leb 256 (stored s)) ∷ []) ≡ None = refusal_rest 3 (pair33 o.group o.writer s) _ b in
      placed s o (fate_of s o) r
      (heard s r o.group o.writer (λ w. saw o.reader (number o.number) o.digest w) (λ x. refl) (refusal_first 2 (ninth o.group s) _ a) (refusal_first 3 (pair33 o.group o.writer s) _ b))
      refl (refusal_first 4 (adds (fate_of s o) s o && leb 256 (stored s)) _ c)

  done_reached : (s : State X) (x : Option ℕ) (t : State X) → Reached s → (x ≡ None → Reached t) → Reached (done x s t).1
  done_reached s (Some n) t r f = r
  done_reached s None t r f = f refl

  gap_reached : (s : State X) (x : Gap) → Reached s → Reached (gap s x).1
  unfolding gap
  gap_reached s x r =
      done_reached s (refusal ((1, ltb 7 x.reader) ∷ (2, ninth x.group s) ∷ (3, pair33 x.group x.writer s) ∷ [])) _ r
      (λ e. let a : refusal ((2, ninth x.group s) ∷ (3, pair33 x.group x.writer s) ∷ []) ≡ None = refusal_rest 1 (ltb 7 x.reader) _ e in
      heard s r x.group x.writer (λ w. gapped x.reader (number x.number) w) (λ y. unfold gapped in refl) (refusal_first 2 (ninth x.group s) _ a) (refusal_first 3 (pair33 x.group x.writer s) [] (refusal_rest 2 (ninth x.group s) _ a)))

  heartbeat_reached : (s : State X) (h : Heartbeat) → Reached s → Reached (heartbeat s h).1
  unfolding heartbeat with_marks
  heartbeat_reached s h r =
      done_reached s (refusal ((2, ninth h.group s) ∷ (3, pair33 h.group h.writer s) ∷ [])) _ r
      (λ e. let f : Writer → Writer = λ w. announced (number h.first) (number h.last) (number h.current) h.digest h.secure w in
      let t : State X = with_marks (hear_group h.group s.groups) (tell h.group h.writer f s.writers) s in
      regrouped t (heard s r h.group h.writer f (λ y. unfold announced in refl) (refusal_first 2 (ninth h.group s) _ e) (refusal_first 3 (pair33 h.group h.writer s) [] (refusal_rest 2 (ninth h.group s) _ e)))
      (change (λ x. is_group h.group x) (λ x. announced_to (number h.current) x) (hear_group h.group s.groups))
      (map_change (λ x. x.guid) (λ x. is_group h.group x) (λ x. announced_to (number h.current) x) (λ x. unfold announced_to in refl) (hear_group h.group s.groups))
      (λ g. committed_change g (λ x. is_group h.group x) (λ x. announced_to (number h.current) x) (λ x. unfold announced_to in refl) (λ x. unfold announced_to in refl) (hear_group h.group s.groups)))

  release_reached : (s : State X) (v : View) (now : ℕ) (x : Option ℕ) → Reached s → Reached (released_if x s v now).1
  release_reached s v now (Some n) r = r
  release_reached s v now None r = released_reached s v now r

  pub step_reached : (s : State X) (c : Call X) → Reached s → Reached (step s c).1
  unfolding step offer release
  step_reached s (offers o) r = offer_reached s o (offer_refusal s o) r refl
  step_reached s (heartbeats h) r = heartbeat_reached s h r
  step_reached s (gaps g) r = gap_reached s g r
  step_reached s (releases now v l) r = release_reached s v now (release_refusal s v (length l)) r

  -- ---- lists of calls

  pub fresh_reached : (t : ℕ) → Reached {X = X} (fresh t)
  unfolding fresh ascending distinct stored
  fresh_reached t = record {
    groups_ordered = refl;
    writers_once = refl;
    groups_known = refl;
    pending_known = refl;
    held_known = refl;
    pending_above = refl;
    held_not_above = refl;
    most_groups = omega arith;
    most_writers = omega arith;
    most_entries = omega arith;
  }

  pub run_reached : (cs : List (Call X)) (s : State X) → Reached s → Reached (run s cs)
  unfolding run
  run_reached [] s r = r
  run_reached (c ∷ cs) s r = run_reached cs (step s c).1 (step_reached s c r)

  pub story_reached : (cs : List (Call X)) (y : Story X) → Reached y.state → Reached (story y cs).state
  unfolding story follow
  story_reached [] y r = r
  story_reached (c ∷ cs) y r = story_reached cs (follow y c) (step_reached y.state c r)

pub reached : (t : ℕ) (cs : List (Call ℕ)) → Reached (final t cs).state
unfolding final begun
reached t cs = story_reached (named 0 cs) (begun t) (fresh_reached t)
