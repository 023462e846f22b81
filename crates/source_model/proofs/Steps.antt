-- Every call, and every list of calls from a fresh history: the model of the source and document 01's definitions answer alike.
use Prim.Native.Nat.{ℕ, ◌+◌, ◌^◌, ◌≤◌, ◌<◌}
use mathlib.Core.Path.{◌≡◌, refl, sym, ap, ◌∙◌, subst}
use mathlib.Core.Bool.{Bool, true, false, ◌&&◌}
use mathlib.Core.List.{List, [], ◌∷◌, ◌++◌, map}
use Rattle.std.specs.Prelude.{Option, Some, None}
use native.Mathlib.Omega.{arith}
use lib.Dec.{ltb, leb}
use lib.ListN.{length}
use borrow.Author.Tests.{ltb-true, ltb-false}
use Rattle.laws.specs.Lists.{filter, list_all}
use Rattle.guids.specs.Guid.{Guid}
use Rattle.rules.specs.State.{State, fresh, no_counts}
use Rattle.rules.specs.Marks.{number}
use Rattle.rules.specs.Offer.{refusal}
use Rattle.rules.specs.declared.call.Offer.{Offer}
use Rattle.rules.specs.declared.call.Heartbeat.{Heartbeat}
use Rattle.rules.specs.declared.call.Gap.{Gap}
use Rattle.rules.specs.Offer as F
use Rattle.rules.specs.Release.{View, malformed}
use Rattle.rules.specs.Release as R
use Rattle.rules.specs.Run.{Call, offers, heartbeats, gaps, releases, Said, said_offer, said_done, said_release, waiting, nothing_waits}
use Rattle.rules.specs.Run as D
use Rattle.rules.specs.State as St
use Rattle.rules.specs.Claim.{Reached}
use Rattle.laws.proofs.Lists.{and_true, and_left, and_right}
use Rattle.rules.proofs.Reached.{refusal_first, step_reached, fresh_reached}
use Rattle.source_model.specs.Claim.{cut, cut_counts, below, as_counts, along, each_returns, step_returns, run_returns, SameRun}
use Rattle.source_model.specs.Map.{get, ascends}
use Rattle.rules.specs.declared.state.ReleaseCounts.{ReleaseCounts}
use Rattle.source_model.specs.Source.{GroupOrder, no_group, none_counted, new, held_for, is_empty, Did, offer_to, offer_does, offer, heartbeat, gap, release}
use Rattle.source_model.specs.Source as S
use Rattle.source_model.specs.Calls.{Told, told_offered, told_released, told, end_w, item_w, group_info, entry_of, view_of, group_at, ninth, pair33, stored, fate_of, adds, offer_refusal, offer_unless, done_unless, release_unless, step, run, answers, info_of}
use Rattle.source_model.proofs.Like.{closed, unknown, GroupLike, Like, offer_entry}
use Rattle.source_model.proofs.Bare.{over, bare, bare_group, bare_order, group_at_bare, does_bare, fate_did, entry_bare, adds_bare, heartbeat_bare, gap_bare, release_bare, returns_bare, ninth_bare, pair33_bare, stored_bare, samples_bare, held_bare, empty_bare}
use Rattle.source_model.proofs.Marked.{heartbeat_like, gap_like}
use Rattle.source_model.proofs.Offered.{old, after, Goes, offer_goes}
use Rattle.source_model.proofs.Releases.{release_out, release_like, release_returns}
use Rattle.source_model.proofs.Readers.{Readers, step_readers, fresh_readers, waiting_all}
use Rattle.source_model.proofs.Empty.{empty_same}
use Rattle.source_model.proofs.Figures.{ninth_same, pair33_same, stored_same, samples_same, waiting_same}

-- what a call gives on both sides
pub record Same {X : Type 0} (r : Told X × GroupOrder X) (q : Said X × State X) : Type 0 where
  pub answer : r.0 ≡ told q.0
  pub like : Like (bare_order r.1) q.1

module _ {X : Type 0} (o : GroupOrder X) (s : State X) (l : Like (bare_order o) s) where
  ninth_at : (g : Guid) → ninth g o ≡ F.ninth g s
  unfolding F.ninth
  ninth_at g = sym (ninth_bare g o) ∙ sym (ninth_same (bare_order o) s l g)

  pair33_at : (g w : Guid) → pair33 g w o ≡ F.pair33 g w s
  unfolding F.pair33
  pair33_at g w = sym (pair33_bare g w o) ∙ sym (pair33_same (bare_order o) s l g w)

-- ---- offers

module _ {X : Type 0} (o : GroupOrder X) (s : State X) (l : Like (bare_order o) s) where
  module _ (x : Offer X) (r : x.reader < 8) where
    entry_same : bare (entry_of x) ≡ offer_entry x
    unfolding bare entry_of group_info offer_entry
    entry_same = refl

    does : offer_does (bare_order o) x.group (offer_entry x) x.digest ≡ offer_to (offer_entry x) (after (bare_order o) s x l r)
    unfolding offer_does after old offer_entry
    does = refl

    old_same : group_at x.group (bare_order o) ≡ old (bare_order o) s x l r
    unfolding group_at old
    old_same = refl

    goes : Goes (bare_order o) s x l r (offer_does (bare_order o) x.group (offer_entry x) x.digest) (F.fate_of s x)
    goes = subst (λ (d : Did X). Goes (bare_order o) s x l r d (F.fate_of s x)) (sym does) (offer_goes (bare_order o) s x l r)

    fate_bare : fate_of (offer_does o x.group (entry_of x) x.digest) ≡ fate_of (offer_does (bare_order o) x.group (offer_entry x) x.digest)
    fate_bare =
        sym (ap (λ (e : S.Entry X). fate_of (offer_does (bare_order o) x.group e x.digest)) (sym entry_same)
        ∙ ap (λ (d : Did X). fate_of d) (does_bare o x.group (entry_of x) x.digest) ∙ fate_did (offer_does o x.group (entry_of x) x.digest))

    as_entry : bare_order (offer o x.group x.writer x.reader (group_info x) (end_w x.what) (item_w x.what) x.time) ≡ bare_order (S.offer_entry o x.group (entry_of x) x.digest)
    unfolding offer entry_of group_info
    as_entry = refl

    offer_bare : bare_order (offer o x.group x.writer x.reader (group_info x) (end_w x.what) (item_w x.what) x.time) ≡ S.offer_entry (bare_order o) x.group (offer_entry x) x.digest
    offer_bare = as_entry ∙ sym (entry_bare o x.group (entry_of x) x.digest) ∙ ap (λ (e : S.Entry X). S.offer_entry (bare_order o) x.group e x.digest) entry_same

    offered_like : Like (S.offer_entry (bare_order o) x.group (offer_entry x) x.digest) (F.place (F.fate_of s x) (F.entry_of x) (F.heard_offer x s))
    unfolding S.offer_entry
    offered_like = goes.like

    offered_case : (u : Option ℕ) → Same (offer_unless u o x) (said_offer (F.offered u s x).0, (F.offered u s x).1)
    offered_case (Some n) = record { answer = refl; like = l }
    offered_case None = record { answer = ap told_offered (fate_bare ∙ goes.fate_same); like = subst (λ (p : GroupOrder X). Like p (F.place (F.fate_of s x) (F.entry_of x) (F.heard_offer x s))) (sym offer_bare) offered_like }

    at_bare : bare_group (group_at x.group o) ≡ group_at x.group (bare_order o)
    unfolding group_at
    at_bare = sym (group_at_bare x.group o)

    adds_at : adds (offer_does o x.group (entry_of x) x.digest) (entry_of x) (group_at x.group o) ≡ F.adds (F.fate_of s x) s x
    adds_at =
        sym (adds_bare (offer_does o x.group (entry_of x) x.digest) (entry_of x) (group_at x.group o))
        ∙ ap (λ (d : Did X). adds d (bare (entry_of x)) (bare_group (group_at x.group o))) (sym (does_bare o x.group (entry_of x) x.digest))
        ∙ ap (λ (e : S.Entry X). adds (offer_does (bare_order o) x.group e x.digest) e (bare_group (group_at x.group o))) entry_same
        ∙ ap (λ g. adds (offer_does (bare_order o) x.group (offer_entry x) x.digest) (offer_entry x) g) (at_bare ∙ old_same)
        ∙ goes.adds_same

    refusal_same : offer_refusal o x ≡ F.offer_refusal s x
    unfolding offer_refusal F.offer_refusal F.ninth F.pair33 St.stored
    refusal_same =
        ap (λ b. refusal ((1, ltb 7 x.reader) ∷ (2, b) ∷ (3, pair33 x.group x.writer o) ∷ (4, adds (offer_does o x.group (entry_of x) x.digest) (entry_of x) (group_at x.group o) && leb 256 (stored o)) ∷ [])) (ninth_at o s l x.group)
        ∙ ap (λ b. refusal ((1, ltb 7 x.reader) ∷ (2, F.ninth x.group s) ∷ (3, b) ∷ (4, adds (offer_does o x.group (entry_of x) x.digest) (entry_of x) (group_at x.group o) && leb 256 (stored o)) ∷ [])) (pair33_at o s l x.group x.writer)
        ∙ ap (λ b. refusal ((1, ltb 7 x.reader) ∷ (2, F.ninth x.group s) ∷ (3, F.pair33 x.group x.writer s) ∷ (4, b && leb 256 (stored o)) ∷ [])) adds_at
        ∙ ap (λ n. refusal ((1, ltb 7 x.reader) ∷ (2, F.ninth x.group s) ∷ (3, F.pair33 x.group x.writer s) ∷ (4, F.adds (F.fate_of s x) s x && leb 256 n) ∷ [])) (sym (stored_bare o) ∙ sym (stored_same (bare_order o) s l))

  large_reader : (x : Offer X) → ltb 7 x.reader ≡ true → (offer_refusal o x ≡ Some 1) × (F.offer_refusal s x ≡ Some 1)
  unfolding offer_refusal F.offer_refusal refusal
  large_reader x e = (rw e, rw e)

  pub offer_step : (turns : ℕ) (x : Offer X) → Same (step turns o (offers x)) (D.step s (offers x))
  unfolding step D.step F.offer
  offer_step turns x =
      (elim (ltb 7 x.reader) as (λ t. ltb 7 x.reader ≡ t → Same (offer_unless (offer_refusal o x) o x) (said_offer (F.offered (F.offer_refusal s x) s x).0, (F.offered (F.offer_refusal s x) s x).1)) [
        | true ↦ λ e.
            let q = large_reader x e in
            subst (λ (u : Option ℕ). Same (offer_unless u o x) (said_offer (F.offered (F.offer_refusal s x) s x).0, (F.offered (F.offer_refusal s x) s x).1)) (sym q.0)
            (subst (λ (u : Option ℕ). Same (offer_unless (Some 1) o x) (said_offer (F.offered u s x).0, (F.offered u s x).1)) (sym q.1) (record { answer = refl; like = l }))
        | false ↦ λ e.
            let r : x.reader < 8 = omega (arith, ltb-false 7 x.reader e) in
            subst (λ (u : Option ℕ). Same (offer_unless u o x) (said_offer (F.offered (F.offer_refusal s x) s x).0, (F.offered (F.offer_refusal s x) s x).1)) (sym (refusal_same x r)) (offered_case x r (F.offer_refusal s x))
      ]) refl

  -- ---- heartbeats and gaps

  done_case : (u : Option ℕ) (p : GroupOrder X) (q : State X) → (u ≡ None → Like (bare_order p) q) → Same (done_unless u o p) (said_done (F.done u s q).0, (F.done u s q).1)
  done_case (Some n) p q k = record { answer = refl; like = l }
  done_case None p q k = record { answer = refl; like = k refl }

  -- the likeness, carried along an equation of the model's states
  carried : (p q : GroupOrder X) (r : State X) → p ≡ q → Like p r → Like q r
  carried p q r e k = subst (λ (a : GroupOrder X). Like a r) e k

  pub heartbeat_step : (turns : ℕ) (h : Heartbeat) → Same (step turns o (heartbeats h)) (D.step s (heartbeats h))
  unfolding step D.step F.heartbeat F.ninth F.pair33
  heartbeat_step turns h =
      subst (λ (b : Bool). Same (done_unless (refusal ((2, b) ∷ (3, pair33 h.group h.writer o) ∷ [])) o (heartbeat o h.group h.writer (info_of h))) (D.step s (heartbeats h))) (sym (ninth_at o s l h.group))
      (subst (λ (b : Bool). Same (done_unless (refusal ((2, F.ninth h.group s) ∷ (3, b) ∷ [])) o (heartbeat o h.group h.writer (info_of h))) (D.step s (heartbeats h))) (sym (pair33_at o s l h.group h.writer))
      (done_case (refusal ((2, F.ninth h.group s) ∷ (3, F.pair33 h.group h.writer s) ∷ [])) (heartbeat o h.group h.writer (info_of h)) _
      (λ e. carried _ _ _ (heartbeat_bare o h.group h.writer (info_of h)) (heartbeat_like (bare_order o) s h l))))

  pub gap_step : (turns : ℕ) (x : Gap) → Same (step turns o (gaps x)) (D.step s (gaps x))
  unfolding step D.step F.gap F.ninth F.pair33
  gap_step turns x =
      subst (λ (b : Bool). Same (done_unless (refusal ((1, ltb 7 x.reader) ∷ (2, b) ∷ (3, pair33 x.group x.writer o) ∷ [])) o (gap o x.group x.writer x.reader x.number)) (D.step s (gaps x))) (sym (ninth_at o s l x.group))
      (subst (λ (b : Bool). Same (done_unless (refusal ((1, ltb 7 x.reader) ∷ (2, F.ninth x.group s) ∷ (3, b) ∷ [])) o (gap o x.group x.writer x.reader x.number)) (D.step s (gaps x))) (sym (pair33_at o s l x.group x.writer))
      (done_case (refusal ((1, ltb 7 x.reader) ∷ (2, F.ninth x.group s) ∷ (3, F.pair33 x.group x.writer s) ∷ [])) (gap o x.group x.writer x.reader x.number) _
      (λ e.
      let d : x.reader ≤ 7 = ltb-false 7 x.reader (refusal_first 1 (ltb 7 x.reader) ((2, F.ninth x.group s) ∷ (3, F.pair33 x.group x.writer s) ∷ []) e) in
      carried _ _ _ (gap_bare o x.group x.writer x.reader x.number) (gap_like (bare_order o) s x (omega (arith, d)) l))))

  -- ---- releases

  release_case : (turns now : ℕ) (v : View) (u : Option ℕ) → 513 ≤ turns → length s.pending + length s.held ≤ 256
      → Same (release_unless u turns o v now) (said_release (R.released_if u s v now).0, (R.released_if u s v now).1)
  release_case turns now v (Some n) f q = record { answer = refl; like = l }
  release_case turns now v None f q = record {
    answer = ap told_released (sym (ap (λ (r : List (ℕ × X) × GroupOrder X). r.0) (release_bare turns o (view_of v) now)) ∙ release_out (bare_order o) s v now turns l f q);
    like = subst (λ (p : GroupOrder X). Like p (R.back_to s (R.released s v now))) (ap (λ (r : List (ℕ × X) × GroupOrder X). r.1) (release_bare turns o (view_of v) now)) (release_like (bare_order o) s v now turns l f q);
  }

  pub release_step : (turns now : ℕ) (v : View) (r : List ℕ) → 513 ≤ turns → length s.pending + length s.held ≤ 256 → Same (step turns o (releases now v r)) (D.step s (releases now v r))
  unfolding step D.step R.release R.release_refusal R.samples
  release_step turns now v r f q =
      subst (λ (n : ℕ). Same (release_unless (refusal ((9, malformed v) ∷ (5, ltb (length r) n) ∷ [])) turns o v now) (D.step s (releases now v r))) (samples_same (bare_order o) s l ∙ samples_bare o)
      (release_case turns now v (R.release_refusal s v (length r)) f q)

  pub release_back : (turns now : ℕ) (v : View) → 513 ≤ turns → length s.pending + length s.held ≤ 256 → each_returns turns (view_of v) now o.timeout o.groups [] o.counts ≡ true
  unfolding bare_order
  release_back turns now v f q = sym (returns_bare turns (view_of v) now o.timeout o.groups [] o.counts) ∙ release_returns (bare_order o) s v now turns l f q

-- ---- whole runs

module _ {X : Type 0} where
  few : (s : State X) → Reached s → length s.pending + length s.held ≤ 256
  unfolding St.stored
  few s r = r.most_entries

  pub step_same : (turns : ℕ) → 513 ≤ turns → (o : GroupOrder X) (s : State X) (c : Call X) → Like (bare_order o) s → Reached s → Same (step turns o c) (D.step s c)
  step_same turns f o s (offers x) l r = offer_step o s l turns x
  step_same turns f o s (heartbeats h) l r = heartbeat_step o s l turns h
  step_same turns f o s (gaps x) l r = gap_step o s l turns x
  step_same turns f o s (releases now v rs) l r = release_step o s l turns now v rs f (few s r)

  pub step_returns_lem : (turns : ℕ) → 513 ≤ turns → (o : GroupOrder X) (s : State X) (c : Call X) → Like (bare_order o) s → Reached s → step_returns turns o c ≡ true
  unfolding step_returns
  step_returns_lem turns f o s (offers x) l r = refl
  step_returns_lem turns f o s (heartbeats h) l r = refl
  step_returns_lem turns f o s (gaps x) l r = refl
  step_returns_lem turns f o s (releases now v rs) l r = release_back o s l turns now v f (few s r)

  pub fresh_group : (g : Guid) → GroupLike {X = X} g no_group [] [] []
  unfolding no_group number get ascends
  fresh_group g = record {
    committed = refl;
    announced = refl;
    writers = record { at = λ w. unknown; ascend = refl };
    pending = record { at = λ n. refl; ascend = refl };
    sets = record { at = λ z. closed; ascend = refl };
  }

  pub fresh_like : (t : ℕ) → Like {X = X} (bare_order (new t)) (fresh t)
  unfolding new fresh get ascends none_counted no_counts cut_counts cut bare_order over
  fresh_like t = record {
    groups = refl;
    ascend = refl;
    each = λ g. fresh_group g;
    pending_plain = refl;
    held_sets = refl;
    counts = refl;
    timeout = refl;
  }

pub counts_bare : {X : Type 0} (o : GroupOrder X) → (bare_order o).counts ≡ o.counts
unfolding bare_order
counts_bare o = refl

uncut : (n : ℕ) → ltb n (2 ^ 64) ≡ true → cut n ≡ n
unfolding cut
uncut n e = let h = ltb-true n (2 ^ 64) e in omega (arith, h)

pub exact : (c : ReleaseCounts) → below c ≡ true → cut_counts c ≡ as_counts c
unfolding below as_counts cut_counts
exact c h =
    let abc = and_left (ltb c.skipped_after_timeout (2 ^ 64) && ltb c.incomplete_sets (2 ^ 64) && ltb c.discarded_samples (2 ^ 64)) _ h in
    let ab = and_left (ltb c.skipped_after_timeout (2 ^ 64) && ltb c.incomplete_sets (2 ^ 64)) _ abc in
    rw (
      uncut c.skipped_after_timeout (and_left (ltb c.skipped_after_timeout (2 ^ 64)) _ ab),
      uncut c.incomplete_sets (and_right (ltb c.skipped_after_timeout (2 ^ 64)) _ ab),
      uncut c.discarded_samples (and_right (ltb c.skipped_after_timeout (2 ^ 64) && ltb c.incomplete_sets (2 ^ 64)) _ abc),
      uncut c.late_samples (and_right (ltb c.skipped_after_timeout (2 ^ 64) && ltb c.incomplete_sets (2 ^ 64) && ltb c.discarded_samples (2 ^ 64)) _ h),
    )

-- the waiting figures and is_empty of states alike
module _ {X : Type 0} (o : GroupOrder X) (s : State X) (l : Like (bare_order o) s) where
  pub waiting_like : Readers s → (r : ℕ) → waiting s r ≡ held_for o r
  waiting_like h r = waiting_all s r h ∙ waiting_same (bare_order o) s l r ∙ held_bare o r

  pub empty_like : nothing_waits s ≡ is_empty o
  empty_like = empty_same (bare_order o) s l ∙ empty_bare o

-- A test of each call in the state that the definitions' run has there: where it holds all along, and then each call gives the same,
-- the run does. Holds is what the states of such a run have, the readers' bound among it.
module _ {X : Type 0} (turns t : ℕ) (asks : State X → Call X → Bool) (Holds : State X → Type 0) (begins : Holds (fresh t)) (small : (s : State X) → Holds s → Readers s)
    (stays : (s : State X) (c : Call X) → Holds s → asks s c ≡ true → Holds (D.step s c).1)
    (one : (o : GroupOrder X) (s : State X) (c : Call X) → Like (bare_order o) s → Holds s → asks s c ≡ true → Same (step turns o c) (D.step s c))
    (back : (o : GroupOrder X) (s : State X) (c : Call X) → Like (bare_order o) s → Holds s → asks s c ≡ true → step_returns turns o c ≡ true) where
  run_like : (cs : List (Call X)) (o : GroupOrder X) (s : State X) → Like (bare_order o) s → Holds s → along asks s cs ≡ true → Like (bare_order (run turns o cs)) (D.run s cs)
  unfolding run D.run along
  run_like [] o s l r a = l
  run_like (c ∷ cs) o s l r a =
      let e = and_left (asks s c) (along asks (D.step s c).1 cs) a in
      run_like cs (step turns o c).1 (D.step s c).1 (one o s c l r e).like (stays s c r e) (and_right (asks s c) (along asks (D.step s c).1 cs) a)

  run_holds : (cs : List (Call X)) (s : State X) → Holds s → along asks s cs ≡ true → Holds (D.run s cs)
  unfolding D.run along
  run_holds [] s r a = r
  run_holds (c ∷ cs) s r a = run_holds cs (D.step s c).1 (stays s c r (and_left (asks s c) (along asks (D.step s c).1 cs) a)) (and_right (asks s c) (along asks (D.step s c).1 cs) a)

  all_return : (cs : List (Call X)) (o : GroupOrder X) (s : State X) → Like (bare_order o) s → Holds s → along asks s cs ≡ true → run_returns turns o cs ≡ true
  unfolding run_returns along
  all_return [] o s l r a = refl
  all_return (c ∷ cs) o s l r a =
      let e = and_left (asks s c) (along asks (D.step s c).1 cs) a in
      and_true (step_returns turns o c) _ (back o s c l r e) (all_return cs (step turns o c).1 (D.step s c).1 (one o s c l r e).like (stays s c r e) (and_right (asks s c) (along asks (D.step s c).1 cs) a))

  answers_like : (cs : List (Call X)) (o : GroupOrder X) (s : State X) → Like (bare_order o) s → Holds s → along asks s cs ≡ true → answers turns o cs ≡ map (λ a. told a) (D.answers s cs)
  unfolding answers D.answers along
  answers_like [] o s l r a = refl
  answers_like (c ∷ cs) o s l r a =
      let e = and_left (asks s c) (along asks (D.step s c).1 cs) a in
      ap (λ a. a ∷ answers turns (step turns o c).1 cs) (one o s c l r e).answer
      ∙ ap (λ more. told (D.step s c).0 ∷ more) (answers_like cs (step turns o c).1 (D.step s c).1 (one o s c l r e).like (stays s c r e) (and_right (asks s c) (along asks (D.step s c).1 cs) a))

  pub alike_along : (cs : List (Call X)) → along asks (fresh t) cs ≡ true → SameRun turns t cs
  alike_along cs a =
      let l : Like (bare_order (run turns (new t) cs)) (D.run (fresh t) cs) = run_like cs (new t) (fresh t) (fresh_like t) begins a in
      record {
        answers_same = answers_like cs (new t) (fresh t) (fresh_like t) begins a;
        counts_same = l.counts ∙ ap cut_counts (counts_bare (run turns (new t) cs));
        counts_exact = λ h. l.counts ∙ ap cut_counts (counts_bare (run turns (new t) cs)) ∙ exact (run turns (new t) cs).counts h;
        empty_is = empty_like (run turns (new t) cs) (D.run (fresh t) cs) l;
        waiting_is = λ r. waiting_like (run turns (new t) cs) (D.run (fresh t) cs) l (small (D.run (fresh t) cs) (run_holds cs (fresh t) begins a)) r;
        returns = all_return cs (new t) (fresh t) (fresh_like t) begins a;
      }

-- a test that holds along a list holds along each of its beginnings
pub along_prefix : {X : Type 0} (asks : State X → Call X → Bool) (s : State X) (cs ds : List (Call X)) → along asks s (cs ++ ds) ≡ true → along asks s cs ≡ true
unfolding along
along_prefix asks s [] ds a = refl
along_prefix asks s (c ∷ cs) ds a =
    and_true (asks s c) _ (and_left (asks s c) (along asks (D.step s c).1 (cs ++ ds)) a) (along_prefix asks (D.step s c).1 cs ds (and_right (asks s c) (along asks (D.step s c).1 (cs ++ ds)) a))

along_yes : {X : Type 0} (s : State X) (cs : List (Call X)) → along (λ s c. true) s cs ≡ true
unfolding along
along_yes s [] = refl
along_yes s (c ∷ cs) = along_yes (D.step s c).1 cs

pub record Good {X : Type 0} (s : State X) : Type 0 where
  pub reached : Reached s
  pub readers : Readers s

pub fresh_good : {X : Type 0} (t : ℕ) → Good {X = X} (fresh t)
fresh_good t = record { reached = fresh_reached t; readers = fresh_readers t }

pub step_good : {X : Type 0} (s : State X) (c : Call X) → Good s → Good (D.step s c).1
step_good s c g = record { reached = step_reached s c g.reached; readers = step_readers s c g.readers }

pub source_alike : {X : Type 0} (turns t : ℕ) (cs : List (Call X)) → 513 ≤ turns → SameRun turns t cs
source_alike turns t cs f =
    alike_along turns t (λ s c. true) (λ s. Good s) (fresh_good t) (λ s g. g.readers) (λ s c g e. step_good s c g) (λ o s c l g e. step_same turns f o s c l g.reached) (λ o s c l g e. step_returns_lem turns f o s c l g.reached) cs (along_yes (fresh t) cs)
