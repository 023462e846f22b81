-- Demand 3's bound: no sample stays pending through more counted releases than its group had entries accepted with numbers up to its own.
use Prim.Native.Nat.{ℕ, zero, suc, ◌+◌, ◌-◌, ◌≤◌, ◌<◌}
use mathlib.Core.Path.{◌≡◌, refl, ap, ◌∙◌, subst}
use mathlib.Core.Bool.{Bool, true, false, ◌&&◌, not, cond}
use mathlib.Core.List.{List, [], ◌∷◌, ◌++◌}
use Rattle.std.specs.Prelude.{Option, Some, None}
use native.Mathlib.Omega.{arith}
use native.Mathlib.Nat.{zero-add}
use lib.Dec.{ltb, leb, eqb}
use lib.ListN.{length}
use borrow.Author.Tests.{not-true, leb-true, ltb-true, lt-ltb, le-ltb, eq-eqb, eqb-true, ne_eqb}
use Rattle.laws.specs.Answer.{answered}
use Rattle.laws.specs.Lists.{filter, list_all, count, find, nth}
use Rattle.guids.specs.Guid.{Guid, same_guid}
use Rattle.rules.specs.Entry.{What, Sample, End, Entry, is_sample, of_group}
use Rattle.rules.specs.State.{State, fresh, is_writer, knows_group, knows_writer, committed_of, Writer}
use Rattle.rules.specs.Marks.{number}
use Rattle.rules.specs.Offer.{Offer, Fate, Stored, Joined, Late, refusal, ninth, pair33, with_marks, entry_of, replaced, marked, mark_of, keep_end, join, fate_of, offer_refusal, place, heard_offer, offered, offer, done, heartbeat, gap}
use Rattle.rules.specs.Release.{View, young, turn_of, work_of, back_to, released, release_refusal, released_if, release}
use Rattle.rules.specs.Run.{Call, offers, heartbeats, gaps, releases, step}
use Rattle.rules.specs.Names.{named, map_what, map_call, map_offer}
use Rattle.rules.specs.Claim.{stores, is_answered, stores_in, stored_by, has_name, has_name_w, onward, release_time, clock_of, clock_holds, stops_empty, empty_stop, never_empty, after, is_pending, Counted, finished, passed, counts, Reached}
use Rattle.laws.proofs.Lists.{none_some, and_left, and_right, and_true, not_and, true_or_false, keep_keep, count_append, count_nil, count_last, count_cons, count_split, count_keep, count_imp, count_zero, count_any, length_keep, taken, weight_none}
use Rattle.guids.proofs.Guids.{same_eq, same_refl}
use Rattle.rules.proofs.Reached.{fresh_reached, step_reached}
use Rattle.rules.proofs.Frame.{Blind, release_fewer, member_with, member_plain, member_kept, member_imp}
use Rattle.rules.proofs.Fates.{joined_end}
use Rattle.rules.proofs.Stuck.{is_at, is_above, is_up_to, is_owed, owed_blind, stuck}

-- ---- a call stores at most one entry more: over any test that is blind to the mark

module _ {X : Type 0} where
  -- the pending entries and the held members that pass
  unfoldable pub total : (Entry X → Bool) → State X → ℕ
  total q s = count q s.pending + count (λ e. member_with q e) s.held

  -- an end is no member
  no_member : (q : Entry X → Bool) (m : Option ℕ) (e : Entry X) → is_sample e ≡ false → member_with q (marked m e) ≡ false
  unfolding member_with is_sample marked
  no_member q m e h = ap (λ (b : Bool). b && q (marked m e)) h

module _ {X : Type 0} (q : Entry X → Bool) (blind : Blind q) where
  placed : (f : Fate) (s : State X) (e : Entry X) → (f ≡ Joined → is_sample e ≡ false) → total q (place f e s) ≤ total q s + count q (cond (stores (answered f)) (e ∷ []) [])
  unfolding total place join keep_end
  placed Stored s e h = omega (arith, count_last q s.pending e, count_cons q e [])
  placed Joined s e h =
      let k : List (Entry X) = filter (λ h. not (replaced e h)) s.held in
      let m : Option ℕ = mark_of (find (λ h. replaced e h) s.held) in
      omega (arith, count_last (λ e. member_with q e) k (marked m e), weight_none _ (no_member q m e (h refl)), count_keep (λ h. not (replaced e h)) (λ e. member_with q e) s.held)
  placed Late s e h = omega arith

  offer_fewer : (r : Option ℕ) (s : State X) (o : Offer X)
      → total q (offered r s o).1 ≤ total q s + count q (cond (stores (offered r s o).0) (entry_of o ∷ []) [])
  unfolding total heard_offer with_marks
  offer_fewer (Some n) s o = omega arith
  offer_fewer None s o = placed (fate_of s o) (heard_offer o s) (entry_of o) (joined_end s o)

  done_fewer : (r : Option ℕ) (s t : State X) → total q t ≤ total q s → total q (done r s t).1 ≤ total q s + count q []
  done_fewer (Some n) s t h = omega arith
  done_fewer None s t h = omega arith

  released_fewer : (r : Option ℕ) (s : State X) (v : View) (now : ℕ) → total q (released_if r s v now).1 ≤ total q s + count q []
  unfolding total released back_to work_of
  released_fewer (Some n) s v now = omega arith
  released_fewer None s v now = omega (arith, release_fewer q (λ e. member_with q e) (member_plain q) (member_kept q blind) (λ g. turn_of v now s.timeout s.writers g) s.groups (work_of s))

  step_fewer : (s : State X) (c : Call X) → total q (step s c).1 ≤ total q s + count q (stores_in s c)
  unfolding step stores_in offer heartbeat gap release total with_marks
  step_fewer s (offers o) = offer_fewer (offer_refusal s o) s o
  step_fewer s (heartbeats h) = done_fewer (refusal ((2, ninth h.group s) ∷ (3, pair33 h.group h.writer s) ∷ [])) s _ (omega arith)
  step_fewer s (gaps x) = done_fewer (refusal ((1, ltb 7 x.reader) ∷ (2, ninth x.group s) ∷ (3, pair33 x.group x.writer s) ∷ [])) s _ (omega arith)
  step_fewer s (releases now v l) = released_fewer (release_refusal s v (length l)) s v now

-- ---- the clock

-- the clock after a call
abbrev clocked : ℕ → Option ℕ → ℕ
clocked last None = last
clocked last (Some t) = t

onward_on : (last : ℕ) (o : Option ℕ) (go : ℕ → Bool) → onward last o go ≡ true → (last ≤ clocked last o) × (go (clocked last o) ≡ true)
onward_on last None go h = (omega arith, h)
onward_on last (Some t) go h = (leb-true last t (and_left (leb last t) _ h), and_right (leb last t) _ h)

module _ {X : Type 0} where
  -- offered after t
  unfoldable later : ℕ → Entry X → Bool
  later t e = ltb t e.time

  later_blind : (t : ℕ) (m : Option ℕ) (e : Entry X) → later t (marked m e) ≡ later t e
  unfolding later marked
  later_blind t m e = refl

  -- what a call brings is offered at its time
  brings_now : (last : ℕ) (s : State X) (c : Call X) → count (λ e. later (clocked last (clock_of s c)) e) (stores_in s c) ≡ 0
  unfolding stores_in clock_of later
  brings_now last s (offers o) = (elim (stores (offer s o).0) as (λ b. count (λ e. later (clocked last (cond b (Some o.time) None)) e) (cond b (entry_of o ∷ []) []) ≡ 0) [
    | true ↦
        count_zero (λ e. later o.time e) (λ e. eqb e.time o.time) (λ e h. le-ltb o.time e.time (omega (arith, eqb-true))) (entry_of o ∷ [])
        (unfold entry_of in and_true _ true (eq-eqb o.time o.time refl) refl)
    | false ↦ count_nil _
  ])
  brings_now last s (heartbeats h) = count_nil _
  brings_now last s (gaps g) = count_nil _
  brings_now last s (releases now v l) = count_nil _

  release_clock : (last t : ℕ) (s : State X) (c : Call X) → release_time s c ≡ Some t → clocked last (clock_of s c) ≡ t
  unfolding release_time clock_of
  release_clock last t s (offers o) h = cc
  release_clock last t s (heartbeats x) h = cc
  release_clock last t s (gaps x) h = cc
  release_clock last t s (releases now v l) h = ap (λ o. clocked last o) h

-- ---- a counted release

-- the first time after the last counted release
abbrev since : Option ℕ → ℕ
since None = 0
since (Some t) = suc t

since_young : (last : Option ℕ) (timeout now time : ℕ) → after last timeout now ≡ true → now - time < timeout → since last ≤ time
since_young None timeout now time h y = omega arith
since_young (Some t) timeout now time h y = omega (arith, leb-true (t + timeout) now h)

module _ {X : Type 0} (g : Guid) (n : ℕ) where
  -- the group of a pending entry is known; its held entries are not above
  known : (s : State X) → Reached s → 1 ≤ count (λ e. is_at g n e) s.pending → knows_group g s.groups ≡ true
  unfolding is_at of_group knows_writer is_writer
  known s r p =
      let (e, i, k) = taken (λ e. is_at g n e) (λ e. knows_writer e.group e.writer s.writers) s.pending p r.pending_known in
      let is : Writer → Bool = λ w. is_writer e.group e.writer w in
      let (w, j, m) = taken is (λ w. knows_group w.group s.groups) s.writers (count_any is s.writers k) r.groups_known in
      let q : g ≡ w.group = same_eq g e.group (and_left (same_guid g e.group) _ i) ∙ same_eq e.group w.group (and_left (same_guid e.group w.group) _ j) in
      ap (λ x. knows_group x s.groups) q ∙ m

  none_above : (s : State X) → Reached s → 1 ≤ count (λ e. is_at g n e) s.pending → count (λ e. is_above g n e) s.held ≡ 0
  unfolding is_at is_above of_group
  none_above s r p =
      let c : Guid → ℕ = λ x. committed_of x s.groups in
      let alike : (e : Entry X) (b : Bool) → same_guid g e.group && b ≡ true → c g ≡ c e.group = λ e b i. ap c (same_eq g e.group (and_left _ b i)) in
      let (e, i, k) = taken (λ e. is_at g n e) (λ e. ltb (c e.group) e.number) s.pending p r.pending_above in
      let b : c g < n = omega (arith, alike e _ i, ltb-true (c e.group) e.number k, eqb-true n e.number (and_right (same_guid g e.group) _ i)) in
      count_zero (λ e. is_above g n e) (λ e. leb e.number (c e.group))
      (λ x h. true_or_false (is_above g n x) (λ j. omega (arith, alike x _ j, ltb-true n x.number (and_right (same_guid g x.group) _ j), leb-true x.number (c x.group) h)))
      s.held r.held_not_above

  -- an answered release that such an entry stays pending through has one owed before it
  released_owed : (r : Option ℕ) (last : Option ℕ) (s : State X) (v : View) (now t : ℕ)
      → cond (is_answered (released_if r s v now).0) (Some now) None ≡ Some t
      → is_answered (released_if r s v now).0 && stops_empty (λ g. turn_of v now s.timeout s.writers g) s.groups (work_of s) ≡ false
      → after last s.timeout t ≡ true → Reached s → Reached (released_if r s v now).1
      → 1 ≤ count (λ e. is_at g n e) s.pending → 1 ≤ count (λ e. is_at g n e) (released_if r s v now).1.pending
      → 1 ≤ total (λ e. is_owed g n (since last) e) s
  unfolding total released back_to work_of turn_of young
  released_owed (Some j) last s v now t a e h r r' p p' = none_some t a
  released_owed None last s v now t a e h r r' p p' =
      let z : now ≡ t = cc in
      stuck (λ x. turn_of v now s.timeout s.writers x) (λ x. refl) g n (since last)
      (λ x e y. since_young last s.timeout now e.time (ap (λ j. after last s.timeout j) z ∙ h) (ltb-true (now - e.time) s.timeout y))
      s.groups (work_of s) r.groups_ordered (known s r p) e p' (none_above (back_to s (released s v now)) r' p')

  release_owed : (last : Option ℕ) (s : State X) (c : Call X) (t : ℕ)
      → release_time s c ≡ Some t → empty_stop s c ≡ false → after last s.timeout t ≡ true → Reached s → Reached (step s c).1
      → 1 ≤ count (λ e. is_at g n e) s.pending → 1 ≤ count (λ e. is_at g n e) (step s c).1.pending
      → 1 ≤ total (λ e. is_owed g n (since last) e) s
  unfolding release_time empty_stop step release
  release_owed last s (offers o) t a e h r r' p p' = none_some t a
  release_owed last s (heartbeats x) t a e h r r' p p' = none_some t a
  release_owed last s (gaps x) t a e h r r' p p' = none_some t a
  release_owed last s (releases now v l) t a e h r r' p p' = released_owed (release_refusal s v (length l)) last s v now t a e h r r' p p'

-- ---- along the run

module _ (k : ℕ) (g : Guid) (n : ℕ) where
  -- named k, and not of the group and number
  unfoldable astray : Entry (ℕ × ℕ) → Bool
  astray e = not (is_at g n e) && has_name k e

  astray_blind : (m : Option ℕ) (e : Entry (ℕ × ℕ)) → astray (marked m e) ≡ astray e
  unfolding astray is_at of_group has_name marked
  astray_blind m e = refl

  -- a call offers no such entry
  unfoldable fitting : Call (ℕ × ℕ) → Bool
  fitting (offers o) = not (astray (entry_of o))
  fitting (heartbeats h) = true
  fitting (gaps x) = true
  fitting (releases now v l) = true

  brings_fit : (s : State (ℕ × ℕ)) (c : Call (ℕ × ℕ)) → fitting c ≡ true → count (λ e. astray e) (stores_in s c) ≡ 0
  unfolding fitting stores_in
  brings_fit s (offers o) h = (elim (stores (offer s o).0) as (λ b. count (λ e. astray e) (cond b (entry_of o ∷ []) []) ≡ 0)
      [ true ↦ omega (arith, count_cons (λ e. astray e) (entry_of o) [], ap {B = ℕ} (λ b. cond b 1 0) (not-true (astray (entry_of o)) h), count_nil (λ e. astray e)) | false ↦ count_nil _ ])
  brings_fit s (heartbeats x) h = count_nil _
  brings_fit s (gaps x) h = count_nil _
  brings_fit s (releases now v l) h = count_nil _

  -- the sample named k is of the group and number
  pending_at : (s : State (ℕ × ℕ)) → is_pending k s ≡ true → total (λ e. astray e) s ≡ 0 → 1 ≤ count (λ e. is_at g n e) s.pending
  unfolding is_pending total
  pending_at s h z =
      let a : count (λ e. has_name k e) (filter (λ e. not (is_at g n e)) s.pending) ≡ count (λ e. astray e) s.pending =
      (unfold count astray in ap length (keep_keep (λ e. has_name k e) (λ e. not (is_at g n e)) s.pending)) in
      let b : count (λ e. has_name k e) (filter (λ e. is_at g n e) s.pending) ≤ count (λ e. is_at g n e) s.pending =
      (unfold count in length_keep (λ e. has_name k e) (filter (λ e. is_at g n e) s.pending)) in
      omega (arith, count_any (λ e. has_name k e) s.pending h, count_split (λ e. is_at g n e) (λ e. has_name k e) s.pending)

  -- the run so far, at clock time t with j releases counted and a accepted. An entry is owed if it is stored, of the group, up to the
  -- number, and offered after the last counted release; counted releases and owed entries are no more than the accepted ones up to the number.
  record Going (last : Option ℕ) (s : State (ℕ × ℕ)) (cs : List (Call (ℕ × ℕ))) (t j : ℕ) (a : List (Entry (ℕ × ℕ))) : Type 0 where
    reached : Reached s
    clock : clock_holds t s cs ≡ true
    nonempty : never_empty s cs ≡ true
    fit : list_all (λ c. fitting c) cs ≡ true
    times : total (λ e. later t e) s ≡ 0
    names : total (λ e. astray e) s ≡ 0
    paid : j + total (λ e. is_owed g n (since last) e) s ≤ count (λ e. is_up_to g n e) a

  total_imp : (p q : Entry (ℕ × ℕ) → Bool) → ((e : Entry (ℕ × ℕ)) → p e ≡ true → q e ≡ true) → (s : State (ℕ × ℕ)) → total p s ≤ total q s
  unfolding total
  total_imp p q f s =
      omega (arith, count_imp p q f s.pending, count_imp (λ e. member_with p e) (λ e. member_with q e) (member_imp p q f) s.held)

  -- a call keeps it so; a counted release had one owed before it and leaves none
  on : (last : Option ℕ) (s : State (ℕ × ℕ)) (c : Call (ℕ × ℕ)) (cs : List (Call (ℕ × ℕ))) (t j : ℕ) (a : List (Entry (ℕ × ℕ)))
      → Going last s (c ∷ cs) t j a → Going last (step s c).1 cs (clocked t (clock_of s c)) j (a ++ stores_in s c)
  unfolding clock_holds never_empty later is_owed
  on last s c cs t j a y =
      let u : ℕ = clocked t (clock_of s c) in
      let (le, ck) = onward_on t (clock_of s c) (λ t. clock_holds t (step s c).1 cs) y.clock in
      record {
        reached = step_reached s c y.reached;
        clock = ck;
        nonempty = and_right (not (empty_stop s c)) _ y.nonempty;
        fit = and_right (fitting c) _ y.fit;
        times =
            let i = total_imp (λ e. later u e) (λ e. later t e) (λ e h. lt-ltb t e.time (omega (arith, ltb-true u e.time h))) s in
            omega (arith, step_fewer (λ e. later u e) (λ m e. later_blind u m e) s c, brings_now t s c, y.times);
        names = omega (arith, step_fewer (λ e. astray e) (λ m e. astray_blind m e) s c, brings_fit s c (and_left (fitting c) _ y.fit), y.names);
        paid =
            let i = count_imp (λ e. is_owed g n (since last) e) (λ e. is_up_to g n e) (λ e h. and_left (is_up_to g n e) _ h) (stores_in s c) in
            omega (arith, step_fewer (λ e. is_owed g n (since last) e) (λ m e. owed_blind g n (since last) m e) s c, count_append (λ e. is_up_to g n e) a (stores_in s c), y.paid);
      }

  counted_on : (last : Option ℕ) (s : State (ℕ × ℕ)) (c : Call (ℕ × ℕ)) (cs : List (Call (ℕ × ℕ))) (t j u : ℕ) (a : List (Entry (ℕ × ℕ)))
      → Going last s (c ∷ cs) t j a → release_time s c ≡ Some u → after last s.timeout u ≡ true → is_pending k s ≡ true → is_pending k (step s c).1 ≡ true
      → Going (Some u) (step s c).1 cs (clocked t (clock_of s c)) (suc j) (a ++ stores_in s c)
  unfolding never_empty later is_owed
  counted_on last s c cs t j u a y r f p p' =
      let x = on last s c cs t j a y in
      let v : ℕ = clocked t (clock_of s c) in
      let e : empty_stop s c ≡ false = not-true (empty_stop s c) (and_left (not (empty_stop s c)) _ y.nonempty) in
      let o = release_owed g n last s c u r e f y.reached x.reached (pending_at s p y.names) (pending_at (step s c).1 p' x.names) in
      record {
        reached = x.reached;
        clock = x.clock;
        nonempty = x.nonempty;
        fit = x.fit;
        times = x.times;
        names = x.names;
        paid =
            let q : v ≡ u = release_clock t u s c r in
            let i = total_imp (λ e. is_owed g n (suc u) e) (λ e. later v e) (λ e h. lt-ltb v e.time (omega (arith, leb-true (suc u) e.time (and_right (is_up_to g n e) _ h)))) (step s c).1 in
            omega (arith, count_append (λ e. is_up_to g n e) a (stores_in s c), x.times, y.paid);
      }

  along : {last : Option ℕ} {s : State (ℕ × ℕ)} {cs : List (Call (ℕ × ℕ))} {m : ℕ} → Counted k last s cs m
      → (t j : ℕ) (a : List (Entry (ℕ × ℕ))) → Going last s cs t j a
      → j + m ≤ count (λ e. is_up_to g n e) a + count (λ e. is_up_to g n e) (stored_by s cs)
  unfolding stored_by
  along finished t j a y = omega (arith, y.paid)
  along (passed {last} {s} {c} {cs} d) t j a y =
      omega (arith, along d _ j _ (on last s c cs t j a y), count_append (λ e. is_up_to g n e) a (stores_in s c), count_append (λ e. is_up_to g n e) (stores_in s c) (stored_by (step s c).1 cs))
  along (counts {last} {s} {c} {cs} {m} {t = u} r f p p' d) t j a y =
      omega (arith, along d _ (suc j) _ (counted_on last s c cs t j u a y r f p p'), count_append (λ e. is_up_to g n e) a (stores_in s c), count_append (λ e. is_up_to g n e) (stores_in s c) (stored_by (step s c).1 cs))

-- ---- the names

name_other : (k j : ℕ) (w : What ℕ) → (k ≡ j → ⊥) → has_name_w k (map_what (λ i. (j, i)) w) ≡ false
name_other k j (Sample x) h = ne_eqb k j h
name_other k j (End u) h = refl

module _ (g : Guid) (n : ℕ) where
  -- a call at another place offers no sample of the name
  other_fits : (k j : ℕ) (c : Call ℕ) → (k ≡ j → ⊥) → fitting k g n (map_call (λ i. (j, i)) c) ≡ true
  unfolding map_call map_offer fitting astray entry_of has_name
  other_fits k j (offers o) h = not_and (not (is_at g n (entry_of (map_offer {Y = ℕ × ℕ} (λ i. (j, i)) o)))) _ (name_other k j o.what h)
  other_fits k j (heartbeats x) h = refl
  other_fits k j (gaps x) h = refl
  other_fits k j (releases now v l) h = refl

  later_fit : (k j : ℕ) (cs : List (Call ℕ)) → k < j → list_all (λ c. fitting k g n c) (named j cs) ≡ true
  unfolding named
  later_fit k j [] h = refl
  later_fit k j (c ∷ cs) h = and_true _ _ (other_fits k j c (λ e. omega arith)) (later_fit k (suc j) cs (omega arith))

own_fits : (k : ℕ) (o : Offer (ℕ × ℕ)) → fitting k o.group (number o.number) (offers o) ≡ true
unfolding fitting astray is_at of_group entry_of
own_fits k o = rw (same_refl o.group, eq-eqb (number o.number) (number o.number) refl)

-- the sample named by the place of o has o's group and number
names_fit : (i j : ℕ) (cs : List (Call ℕ)) (o : Offer (ℕ × ℕ)) → nth i (named j cs) ≡ Some (offers o)
    → list_all (λ c. fitting (j + i) o.group (number o.number) c) (named j cs) ≡ true
unfolding named nth
names_fit i j [] o h = refl
names_fit zero j (c ∷ cs) o h =
    let e : map_call (λ i. (j, i)) c ≡ offers o = cc in
    and_true _ _ (ap (λ x. fitting (j + zero) o.group (number o.number) x) e ∙ own_fits (j + zero) o)
    (later_fit o.group (number o.number) (j + zero) (suc j) cs (omega arith))
names_fit (suc i) j (c ∷ cs) o h =
    let e : suc j + i ≡ j + suc i = omega arith in
    and_true _ _ (other_fits o.group (number o.number) (j + suc i) j c (λ e. omega arith))
    (subst (λ k. list_all (λ c. fitting k o.group (number o.number) c) (named (suc j) cs) ≡ true) e (names_fit i (suc j) cs o h))

pub bound : (t : ℕ) (cs : List (Call ℕ)) → clock_holds 0 (fresh t) (named 0 cs) ≡ true → never_empty (fresh t) (named 0 cs) ≡ true
    → (k : ℕ) (o : Offer (ℕ × ℕ)) → nth k (named 0 cs) ≡ Some (offers o)
    → (m : ℕ) → Counted k None (fresh t) (named 0 cs) m
    → m ≤ count (λ e. of_group o.group e && leb e.number (number o.number)) (stored_by (fresh t) (named 0 cs))
unfolding fresh total is_up_to
bound t cs clock nonempty k o h m d =
    let g : Guid = o.group in
    let n : ℕ = number o.number in
    let r = along k g n d 0 0 [] (record {
      reached = fresh_reached t;
      clock = clock;
      nonempty = nonempty;
      fit = subst (λ i. list_all (λ c. fitting i g n c) (named 0 cs) ≡ true) (zero-add k) (names_fit k 0 cs o h);
      times = omega (arith, count_nil {A = Entry (ℕ × ℕ)} (λ e. later 0 e), count_nil {A = Entry (ℕ × ℕ)} (λ e. member_with (λ e. later 0 e) e));
      names = omega (arith, count_nil (λ e. astray k g n e), count_nil (λ e. member_with (λ e. astray k g n e) e));
      paid = omega (arith, count_nil {A = Entry (ℕ × ℕ)} (λ e. is_owed g n 0 e), count_nil {A = Entry (ℕ × ℕ)} (λ e. member_with (λ e. is_owed g n 0 e) e));
    }) in
    omega (arith, count_nil {A = Entry (ℕ × ℕ)} (λ e. of_group g e && leb e.number n))
