-- Release.
use Rattle.std.specs.Prelude.{ℕ, zero, suc, ◌+◌, ◌-◌, ◌*◌, Bool, true, false, ◌&&◌, ◌||◌, not, List, [], ◌∷◌, ◌++◌, ℤ, ltb, eqb, length}
use Rattle.std.specs.Prelude.{Option, Some, None}
use Rattle.laws.specs.Answer.{Answer, refused, answered}
use Rattle.laws.specs.Lists.{filter, list_any, count, find}
use Rattle.guids.specs.Guid.{Guid, same_guid}
use Rattle.rules.specs.Entry.{What, Sample, End, Entry, is_sample, is_member, marks}
use Rattle.rules.specs.State.{State, Group, Writer, ReleaseCounts, plus}
use Rattle.rules.specs.Offer.{refusal, keep_end, shares}
use Rattle.rules.specs.Sets.{Pair, lowest_ended, end_missing, members_of, whole, without, lowest_stale}
use Rattle.rules.specs.Commit.{DigestRow, Turn, is_head, head_of, next, ready}

-- what a release changes: the group's committed number, the entries and the counts; with what it handed out and discarded
pub record Work (X : Type 0) : Type 0 where
  pub committed : ℕ
  pub pending : List (Entry X)
  pub held : List (Entry X)
  pub out : List (Entry X)
  pub lost : List (Entry X)
  pub counts : ReleaseCounts

-- skipped grows by k (document 01, release, step 2)
unfoldable pub skip : ℕ → ReleaseCounts → ReleaseCounts
skip k c = record { skipped_after_timeout = plus c.skipped_after_timeout k; incomplete_sets = c.incomplete_sets; discarded_samples = c.discarded_samples; late_samples = c.late_samples }

-- one set more is incomplete, and its members are discarded (document 01, Finish)
unfoldable pub discards : ℕ → ReleaseCounts → ReleaseCounts
discards k c = record { skipped_after_timeout = c.skipped_after_timeout; incomplete_sets = plus c.incomplete_sets 1; discarded_samples = plus c.discarded_samples k; late_samples = c.late_samples }

-- the time waited since an entry's offer: 0 if the clock went back, 0 with no entry (document 01, release, step 1)
abbrev pub waited : {X : Type 0} → ℕ → Option (Entry X) → ℕ
waited now None = 0
waited now (Some e) = now - e.time

module _ {X : Type 0} where
  -- it waited less than the timeout
  unfoldable pub young : Turn → Option (Entry X) → Bool
  young t e = ltb (waited t.now e) t.timeout

  -- the set's entries leave, its members discarded
  unfoldable pub discard : Guid → ℤ → Work X → Work X
  discard g z w = record {
    committed = w.committed;
    pending = w.pending;
    held = without g z w.held;
    out = w.out;
    lost = w.lost ++ members_of g z w.held;
    counts = discards (length (members_of g z w.held)) w.counts;
  }

  -- the set's entries leave, its members handed out in the order in which they were committed
  unfoldable pub hand_out : Guid → ℤ → Work X → Work X
  hand_out g z w = record {
    committed = w.committed;
    pending = w.pending;
    held = without g z w.held;
    out = w.out ++ members_of g z w.held;
    lost = w.lost;
    counts = w.counts;
  }

  abbrev pub finish_if : Bool → Guid → ℤ → Work X → Work X
  finish_if true g z w = hand_out g z w
  finish_if false g z w = discard g z w

  -- whole sets are handed out, all others discarded (document 01, Finish; DDSI-RTPS 2.5 §8.7.6)
  unfoldable pub finish : Turn → ℤ → Work X → Work X
  finish t z w = finish_if (whole t.guid z t.counted w.held) t.guid z w

  abbrev pub discard_or : (Work X → Work X) → Guid → Work X → Option ℤ → Work X
  discard_or go g w None = w
  discard_or go g w (Some z) = go (discard g z w)

  -- every set not ended and not e's is discarded, the lowest set number first (document 01, release, step 3); k sets at most
  unfoldable pub discard_stale : ℕ → Entry X → Work X → Work X
  discard_stale zero e w = w
  discard_stale (suc k) e w = discard_or (λ v. discard_stale k e v) e.group w (lowest_stale e w.held)

  unfoldable pub with_held : List (Entry X) → Work X → Work X
  with_held l w = record { committed = w.committed; pending = w.pending; held = l; out = w.out; lost = w.lost; counts = w.counts }

  unfoldable pub with_out : List (Entry X) → Work X → Work X
  with_out l w = record { committed = w.committed; pending = w.pending; held = w.held; out = l; lost = w.lost; counts = w.counts }

  -- the offer time of the set's first committed end: e's own, if no earlier one marks the set
  abbrev pub mark_or : ℕ → Option (Entry X) → Option ℕ
  mark_or t None = Some t
  mark_or t (Some m) = m.ended

  -- a member joins its set; an end is kept and marks its set ended; a plain sample is handed out; an end without a set is dropped
  -- (document 01, release, step 3; DDSI-RTPS 2.5 §8.7.6)
  abbrev pub settle : Entry X → Work X → What X → Option ℤ → Work X
  settle e w (Sample x) None = with_out (w.out ++ (e ∷ [])) w
  settle e w (Sample x) (Some z) = with_held (w.held ++ (e ∷ [])) w
  settle e w (End u) None = w
  settle e w (End u) (Some z) = with_held (keep_end (mark_or e.time (find (λ m. shares e m && marks m) w.held)) e w.held) w

  unfoldable pub commit_one : Entry X → Work X → Work X
  commit_one e w =
      let v : Work X = discard_stale (length w.held) e w in
      settle e v e.what e.set

  unfoldable pub commit_all : List (Entry X) → Work X → Work X
  commit_all [] w = w
  commit_all (e ∷ l) w = commit_all l (commit_one e w)

  -- step 3 (document 01, release; DDSI-RTPS 2.5 §8.7.5): committed becomes n, k numbers skipped; the entries of n leave pending, in offer order
  unfoldable pub commit : Turn → ℕ → ℕ → Work X → Work X
  commit t n k w =
      commit_all (head_of t n w.pending)
      (record {
        committed = n;
        pending = filter (λ e. not (is_head t n e)) w.pending;
        held = w.held;
        out = w.out;
        lost = w.lost;
        counts = skip k w.counts;
      })

  -- step 2 (document 01, release; DDSI-RTPS 2.5 §8.7.5): the lowest pending number is committed when it is ready or its first entry waited the timeout; none means stop
  abbrev pub commit_if : Bool → Bool → Turn → ℕ → Work X → Option (Work X)
  commit_if true y t n w = Some (commit t n 0 w)
  commit_if false true t n w = None
  commit_if false false t n w = Some (commit t n (n - suc w.committed) w)

  abbrev pub head_step : Turn → Work X → Option ℕ → Option (Work X)
  head_step t w None = None
  head_step t w (Some n) =
      commit_if (ready t w.committed n w.pending) (young t (find (λ e. is_head t n e) w.pending)) t n w

  -- step 1 (document 01, release; DDSI-RTPS 2.5 §8.7.6): the ended set with the lowest set number is finished, unless an end is missing and its first member waited less
  abbrev pub finish_or : Bool → Turn → ℤ → Work X → Option (Work X)
  finish_or true t z w = None
  finish_or false t z w = Some (finish t z w)

  unfoldable pub waits : Turn → ℤ → List (Entry X) → Bool
  waits t z l = end_missing t.guid z t.counted l && young t (find (λ h. is_member t.guid z h) l)

  abbrev pub end_step : Turn → Work X → Option ℤ → Option (Work X)
  end_step t w (Some z) = finish_or (waits t z w.held) t z w
  end_step t w None = head_step t w (next t w.pending)

  -- one repetition; none means that the release stops in this group
  unfoldable pub round : Turn → Work X → Option (Work X)
  round t w = end_step t w (lowest_ended t.guid w.held)

  abbrev pub or_stop : (Work X → Work X) → Work X → Option (Work X) → Work X
  or_stop go w None = w
  or_stop go w (Some v) = go v

  unfoldable pub rounds : ℕ → Turn → Work X → Work X
  rounds zero t w = w
  rounds (suc k) t w = or_stop (λ v. rounds k t v) w (round t w)

  -- repetitions enough for any work (proofs/Fuel.antt): each takes a number's entries from pending or a set's from held
  unfoldable pub enough : Work X → ℕ
  enough w = suc (2 * length w.pending + length w.held)

-- what an answered release hands out, in order, and discards
pub record Outcome (X : Type 0) : Type 0 where
  pub out : List (Entry X)
  pub lost : List (Entry X)

pub record View : Type 0 where
  pub counted : List Pair
  pub digests : List DigestRow

-- a group's release asks its own pairs (document 01, Release takes)
unfoldable pub turn_of : View → ℕ → ℕ → List Writer → Group → Turn
turn_of v now timeout ws g = record {
  guid = g.guid;
  announced = g.announced;
  writers = ws;
  counted = filter (λ p. same_guid g.guid p.group) v.counted;
  digests = v.digests;
  now = now;
  timeout = timeout;
}

unfoldable pub committed_at : ℕ → Group → Group
committed_at n g = record { guid = g.guid; committed = n; announced = g.announced }

-- 9: over 256 counted rows, over 8 digest rows, a reader above 7, or two rows of one group with unlike digests (document 01, Release)
unfoldable pub malformed : View → Bool
malformed v =
    ltb 256 (length v.counted) || ltb 8 (length v.digests) || list_any (λ p. ltb 7 p.reader) v.counted
    || list_any (λ a. list_any (λ b. same_guid a.group b.group && not (eqb a.digest b.digest)) v.digests) v.digests

module _ {X : Type 0} where
  unfoldable pub at_group : Group → Work X → Work X
  at_group g w = record { committed = g.committed; pending = w.pending; held = w.held; out = w.out; lost = w.lost; counts = w.counts }

  unfoldable pub release_group : Turn → Group → Work X → Work X
  release_group t g w = rounds (enough w) t (at_group g w)

  -- the groups in the order of their GUIDs (document 01, Release takes)
  unfoldable pub release_all : (Group → Turn) → List Group → Work X → List Group × Work X
  release_all t [] w = ([], w)
  release_all t (g ∷ gs) w =
      let v : Work X = release_group (t g) g w in
      let r : List Group × Work X = release_all t gs v in
      (committed_at v.committed g ∷ r.0, r.1)

  unfoldable pub work_of : State X → Work X
  work_of s = record { committed = 0; pending = s.pending; held = s.held; out = []; lost = []; counts = s.counts }

  unfoldable pub back_to : State X → List Group × Work X → State X
  back_to s r = record {
    groups = r.0;
    writers = s.writers;
    pending = r.1.pending;
    held = r.1.held;
    counts = r.1.counts;
    timeout = s.timeout;
  }

  unfoldable pub released : State X → View → ℕ → List Group × Work X
  released s v now = release_all (λ g. turn_of v now s.timeout s.writers g) s.groups (work_of s)

  -- 5: the stored samples (document 01, Release)
  unfoldable pub samples : State X → ℕ
  samples s = count (λ e. is_sample e) s.pending + count (λ e. is_sample e) s.held

  unfoldable pub release_refusal : State X → View → ℕ → Option ℕ
  release_refusal s v room = refusal ((9, malformed v) ∷ (5, ltb room (samples s)) ∷ [])

  abbrev pub released_if : Option ℕ → State X → View → ℕ → Answer (Outcome X) × State X
  released_if (Some n) s v now = (refused n, s)
  released_if None s v now =
      let r : List Group × Work X = released s v now in
      (answered (record { out = r.1.out; lost = r.1.lost }), back_to s r)

  unfoldable pub release : State X → View → ℕ → ℕ → Answer (Outcome X) × State X
  release s v now room = released_if (release_refusal s v room) s v now
