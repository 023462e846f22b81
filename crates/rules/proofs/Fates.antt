-- Over a run every accepted sample has one fate: pending, held, handed out or discarded, once; and the discarded count is exact.
use Prim.Native.Nat.{ℕ, zero, suc, ◌+◌, ◌-◌, ◌^◌, min, ◌<◌}
use mathlib.Core.Path.{◌≡◌, refl, ap, ◌∙◌}
use mathlib.Core.Bool.{Bool, true, false, ◌&&◌, not, cond}
use mathlib.Core.List.{List, [], ◌∷◌}
use Rattle.std.specs.Prelude.{Some, None}
use native.Mathlib.Omega.{arith}
use lib.Dec.{ltb, eqb}
use lib.ListN.{length, length-append}
use borrow.Author.Tests.{eq-eqb, ne_eqb}
use Rattle.laws.specs.Answer.{answered}
use Rattle.laws.specs.Lists.{list_all, list_any, count, find}
use Rattle.rules.specs.Entry.{What, Sample, End, Entry, is_sample_w, is_sample}
use Rattle.rules.specs.State.{State, fresh, no_counts, committed_of}
use Rattle.rules.specs.Marks.{number}
use Rattle.rules.specs.Offer.{Offer, Fate, Stored, Joined, Late, fate, one_late, with_marks, entry_of, shares, replaced, join, mark_of, fate_of, offer_refusal, place, heard_offer, offered, offer}
use Rattle.rules.specs.Release.{work_of, back_to}
use Rattle.rules.specs.Run.{Call, offers, heartbeats, gaps, releases, step}
use Rattle.rules.specs.Names.{map_what, map_offer, map_call, named}
use Rattle.rules.specs.Claim.{accepts, Story, brings, takes, follow, story, begun, accepts_sample, accepted_at, has_name_w, has_name, final}
use Rattle.laws.proofs.Lists.{and_left, and_last, and_never, not_true, weight_none, count_nil, count_append, count_one, count_all, all_both}
use Rattle.rules.proofs.Stays.{released_stays, heartbeat_same, gap_same, release_cases, story_stays}
use Rattle.rules.proofs.Conserve.{stock, OfSamples, keep_end_count, not_sample, released_stock, OnlySamples, only_samples, Exact, exact}

pub fate_joined : (a b : Bool) → fate a b ≡ Joined → b ≡ true
fate_joined true b e = cc
fate_joined false true e = refl
fate_joined false false e = cc

-- only an end joins
pub joined_end : {X : Type 0} (s : State X) (o : Offer X) → fate_of s o ≡ Joined → is_sample (entry_of o) ≡ false
unfolding fate_of entry_of is_sample
joined_end s o e =
    let ends : Bool = not (is_sample_w o.what) in
    let opened : Bool = list_any (λ h. shares (entry_of o) h) s.held in
    not_true (is_sample_w o.what) (and_left ends opened (fate_joined (ltb (committed_of o.group s.groups) (number o.number)) (ends && opened) e))

module _ {X : Type 0} (q : Entry X → Bool) where
  -- the accepted ones are those pending, held, handed out and discarded
  unfoldable pub Even : Story X → Type 0
  Even y = count q y.accepted ≡ count q y.state.pending + count q y.state.held + count q y.out + count q y.lost

module _ {X : Type 0} (q : Entry X → Bool) (only : OfSamples q) where
  place_count : (s : State X) (o : Offer X) (f : Fate) → fate_of s o ≡ f
      → count q (place f (entry_of o) (heard_offer o s)).pending + count q (place f (entry_of o) (heard_offer o s)).held
      ≡ count q s.pending + count q s.held + count q (cond (accepts (answered f)) (entry_of o ∷ []) [])
  unfolding place heard_offer with_marks join
  place_count s o Stored e = omega (arith, count_append q s.pending (entry_of o ∷ []))
  place_count s o Joined e = let h = joined_end s o e in omega (arith, keep_end_count q only (mark_of (find (λ h. replaced (entry_of o) h) s.held)) (entry_of o) s.held h, count_one q (entry_of o), weight_none (q (entry_of o)) (not_sample q only (entry_of o) h))
  place_count s o Late e = omega (arith, count_nil q)

  -- an accepted offer adds its entry
  pub offer_count : (s : State X) (o : Offer X)
      → count q (offer s o).1.pending + count q (offer s o).1.held
      ≡ count q s.pending + count q s.held + count q (brings s (offers o))
  unfolding offer brings
  offer_count s o = elim (offer_refusal s o) as (λ r. count q (offered r s o).1.pending + count q (offered r s o).1.held
      ≡ count q s.pending + count q s.held + count q (cond (accepts (offered r s o).0) (entry_of o ∷ []) [])) [ Some n ↦ omega (arith, count_nil q) | None ↦ place_count s o (fate_of s o) refl ]

  -- what a call brings in and what it takes out make the difference
  pub step_count : (s : State X) (c : Call X)
      → count q (step s c).1.pending + count q (step s c).1.held + count q (takes s c).out + count q (takes s c).lost
      ≡ count q s.pending + count q s.held + count q (brings s c)
  unfolding step takes brings back_to stock
  step_count s (offers o) = omega (arith, offer_count s o, count_nil q)
  step_count s (heartbeats h) = let k = heartbeat_same s h in omega (arith, ap (λ l. count q l) k.pending, ap (λ l. count q l) k.held, count_nil q)
  step_count s (gaps g) = let k = gap_same s g in omega (arith, ap (λ l. count q l) k.pending, ap (λ l. count q l) k.held, count_nil q)
  step_count s (releases now v l) =
      release_cases
      (λ r t. count q t.pending + count q t.held + count q r.out + count q r.lost ≡ count q s.pending + count q s.held + count q [])
      s v now (length l) (omega (arith, count_nil q)) (omega (arith, released_stock q only s v now, count_nil q))

  pub story_even : (cs : List (Call X)) (y : Story X) → Even q y → Even q (story y cs)
  unfolding Even follow
  story_even cs y e = story_stays (λ z. Even q z) (λ z c h.
      omega (arith, step_count z.state c, count_append q z.accepted (brings z.state c), count_append q z.out (takes z.state c).out, count_append q z.lost (takes z.state c).lost)) cs y e

  pub run_even : (t : ℕ) (cs : List (Call X)) → Even q (story (begun t) cs)
  run_even t cs = story_even cs (begun t) (unfold Even begun fresh in omega (arith, count_nil q))

module _ {X : Type 0} where
  -- ---- only samples

  -- a call hands out and discards only samples
  pub takes_samples : (s : State X) (c : Call X) → (list_all (λ e. is_sample e) (takes s c).out ≡ true) × (list_all (λ e. is_sample e) (takes s c).lost ≡ true)
  unfolding takes OnlySamples work_of
  takes_samples s (offers o) = (refl, refl)
  takes_samples s (heartbeats h) = (refl, refl)
  takes_samples s (gaps g) = (refl, refl)
  takes_samples s (releases now v l) =
      release_cases (λ r t. (list_all (λ e. is_sample e) r.out ≡ true) × (list_all (λ e. is_sample e) r.lost ≡ true)) s v now (length l)
      (refl, refl) (released_stays OnlySamples only_samples s v now (refl, refl))

  unfoldable pub Plain : Story X → Type 0
  Plain y = (list_all (λ e. is_sample e) y.out ≡ true) × (list_all (λ e. is_sample e) y.lost ≡ true)

  pub story_plain : (cs : List (Call X)) (y : Story X) → Plain y → Plain (story y cs)
  unfolding Plain follow
  story_plain cs y p = story_stays (λ z. Plain z) (λ z c h.
      let k = takes_samples z.state c in
      (all_both (λ e. is_sample e) z.out (takes z.state c).out h.0 k.0, all_both (λ e. is_sample e) z.lost (takes z.state c).lost h.1 k.1)) cs y p

  pub run_plain : (t : ℕ) (cs : List (Call X)) → Plain (story (begun t) cs)
  run_plain t cs = story_plain cs (begun t) (unfold Plain begun in (refl, refl))

  -- ---- the discarded count

  place_discarded : (f : Fate) (e : Entry X) (s : State X) → (place f e s).counts.discarded_samples ≡ s.counts.discarded_samples
  unfolding place one_late
  place_discarded Stored e s = refl
  place_discarded Joined e s = refl
  place_discarded Late e s = refl

  pub offer_discarded : (s : State X) (o : Offer X) → (offer s o).1.counts.discarded_samples ≡ s.counts.discarded_samples
  unfolding offer heard_offer with_marks
  offer_discarded s o = elim (offer_refusal s o) as (λ r. (offered r s o).1.counts.discarded_samples ≡ s.counts.discarded_samples) [ Some n ↦ refl | None ↦ place_discarded (fate_of s o) (entry_of o) (heard_offer o s) ]

  -- a call raises it by the samples that it discards, until it stops
  pub step_discarded : (s : State X) (c : Call X) (d : ℕ) → s.counts.discarded_samples ≡ min d (2 ^ 64 - 1) → (step s c).1.counts.discarded_samples ≡ min (d + length (takes s c).lost) (2 ^ 64 - 1)
  unfolding step takes back_to Exact work_of
  step_discarded s (offers o) d e = omega (arith, offer_discarded s o)
  step_discarded s (heartbeats h) d e = omega (arith, ap (λ x. x.discarded_samples) (heartbeat_same s h).counts)
  step_discarded s (gaps g) d e = omega (arith, ap (λ x. x.discarded_samples) (gap_same s g).counts)
  step_discarded s (releases now v l) d e =
      release_cases (λ r t. t.counts.discarded_samples ≡ min (d + length r.lost) (2 ^ 64 - 1)) s v now (length l) (omega arith)
      (released_stays (λ l w. Exact d l w) (exact d) s v now (omega arith))

  unfoldable pub Tallied : Story X → Type 0
  Tallied y = y.state.counts.discarded_samples ≡ min (length y.lost) (2 ^ 64 - 1)

  pub story_tallied : (cs : List (Call X)) (y : Story X) → Tallied y → Tallied (story y cs)
  unfolding Tallied follow
  story_tallied cs y p = story_stays (λ z. Tallied z) (λ z c h. omega (arith, step_discarded z.state c (length z.lost) h, length-append z.lost (takes z.state c).lost)) cs y p

  pub run_tallied : (t : ℕ) (cs : List (Call X)) → Tallied (story (begun t) cs)
  run_tallied t cs = story_tallied cs (begun t) (unfold Tallied begun fresh no_counts in refl)

-- ---- names

named_sample_w : (k : ℕ) (x : What (ℕ × ℕ)) → has_name_w k x ≡ true → is_sample_w x ≡ true
named_sample_w k (Sample x) h = refl
named_sample_w k (End u) h = h

pub named_sample : (k : ℕ) → OfSamples (λ e. has_name k e)
unfolding has_name is_sample
named_sample k e h = named_sample_w k e.what h

name_w : (n j : ℕ) (x : What ℕ) → has_name_w n (map_what (λ i. (j, i)) x) ≡ is_sample_w {X = ℕ × ℕ} (map_what (λ i. (j, i)) x) && eqb n j
name_w n j (Sample i) = refl
name_w n j (End u) = refl

-- the call at place j brings name n if it brings a sample and n is j
brings_name : (n j : ℕ) (s : State (ℕ × ℕ)) (c : Call ℕ)
    → count (λ e. has_name n e) (brings s (map_call (λ i. (j, i)) c)) ≡ cond (accepts_sample s (map_call (λ i. (j, i)) c) && eqb n j) 1 0
unfolding brings map_call map_offer entry_of has_name
brings_name n j s (offers o) =
    let p : Offer (ℕ × ℕ) = map_offer (λ i. (j, i)) o in
    elim (accepts (offer s p).0) as (λ b. count (λ e. has_name n e) (cond b (entry_of p ∷ []) []) ≡ cond (b && is_sample_w p.what && eqb n j) 1 0) [
      | true ↦ count_one (λ e. has_name n e) (entry_of p) ∙ ap (λ b. cond b 1 0) (name_w n j o.what)
      | false ↦ count_nil (λ e. has_name n e)
    ]
brings_name n j s (heartbeats h) = count_nil (λ e. has_name n e)
brings_name n j s (gaps g) = count_nil (λ e. has_name n e)
brings_name n j s (releases now v l) = count_nil (λ e. has_name n e)

brings_own : (n j : ℕ) (s : State (ℕ × ℕ)) (c : Call ℕ) → n ≡ j
    → count (λ e. has_name n e) (brings s (map_call (λ i. (j, i)) c)) ≡ cond (accepts_sample s (map_call (λ i. (j, i)) c)) 1 0
brings_own n j s c h = brings_name n j s c ∙ ap (λ b. cond b 1 0) (and_last (accepts_sample s (map_call (λ i. (j, i)) c)) (eqb n j) (eq-eqb n j h))

brings_other : (n j : ℕ) (s : State (ℕ × ℕ)) (c : Call ℕ) → (n ≡ j → ⊥) → count (λ e. has_name n e) (brings s (map_call (λ i. (j, i)) c)) ≡ 0
brings_other n j s c h = brings_name n j s c ∙ ap (λ b. cond b 1 0) (and_never (accepts_sample s (map_call (λ i. (j, i)) c)) (eqb n j) (ne_eqb n j h))

-- a name below the calls' places comes in no more
pub later_name : (n j : ℕ) (cs : List (Call ℕ)) (y : Story (ℕ × ℕ)) → n < j
    → count (λ e. has_name n e) (story y (named j cs)).accepted ≡ count (λ e. has_name n e) y.accepted
unfolding story named follow
later_name n j [] y h = refl
later_name n j (c ∷ cs) y h =
    let d : Call (ℕ × ℕ) = map_call (λ i. (j, i)) c in
    omega (arith, later_name n (suc j) cs (follow y d) (omega arith), count_append (λ e. has_name n e) y.accepted (brings y.state d), brings_other n j y.state c (λ e. omega arith))

-- the name of place k comes in once if the call there offers a sample and is accepted, else never
pub own_name : (n j k : ℕ) (cs : List (Call ℕ)) (y : Story (ℕ × ℕ)) → n ≡ j + k
    → count (λ e. has_name n e) (story y (named j cs)).accepted
    ≡ count (λ e. has_name n e) y.accepted + cond (accepted_at y.state k (named j cs)) 1 0
unfolding story named follow accepted_at
own_name n j k [] y h = omega arith
own_name n j zero (c ∷ cs) y h =
    let d : Call (ℕ × ℕ) = map_call (λ i. (j, i)) c in
    omega (arith, later_name n (suc j) cs (follow y d) (omega arith), count_append (λ e. has_name n e) y.accepted (brings y.state d), brings_own n j y.state c (omega arith))
own_name n j (suc k) (c ∷ cs) y h =
    let d : Call (ℕ × ℕ) = map_call (λ i. (j, i)) c in
    omega (arith, own_name n (suc j) k cs (follow y d) (omega arith), count_append (λ e. has_name n e) y.accepted (brings y.state d), brings_other n j y.state c (λ e. omega arith))

-- ---- the fields of the third demand

pub sum : (t : ℕ) (cs : List (Call ℕ))
    → count (λ e. is_sample e) (final t cs).accepted
    ≡ count (λ e. is_sample e) (final t cs).state.pending + count (λ e. is_sample e) (final t cs).state.held
    + length (final t cs).out + length (final t cs).lost
unfolding final Even Plain
sum t cs =
    let p = run_plain t (named 0 cs) in
    omega (arith, run_even (λ e. is_sample e) (λ e h. h) t (named 0 cs), count_all (λ e. is_sample e) (final t cs).out p.0, count_all (λ e. is_sample e) (final t cs).lost p.1)

pub discarded_count : (t : ℕ) (cs : List (Call ℕ)) → (final t cs).state.counts.discarded_samples ≡ min (length (final t cs).lost) (2 ^ 64 - 1)
unfolding final Tallied
discarded_count t cs = run_tallied t (named 0 cs)

pub one_fate : (t : ℕ) (cs : List (Call ℕ)) (k : ℕ)
    → count (λ e. has_name k e) (final t cs).state.pending + count (λ e. has_name k e) (final t cs).state.held
    + count (λ e. has_name k e) (final t cs).out + count (λ e. has_name k e) (final t cs).lost
    ≡ cond (accepted_at (fresh t) k (named 0 cs)) 1 0
unfolding final Even begun
one_fate t cs k = omega (arith, run_even (λ e. has_name k e) (named_sample k) t (named 0 cs), own_name k 0 k cs (begun t) (omega arith), count_nil (λ e. has_name k e))
