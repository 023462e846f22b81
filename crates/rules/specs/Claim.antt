-- The third demand: one claim about a whole list of calls from a fresh history (document 01, The third demand);
-- and what every state has that a list reaches.
use Rattle.std.specs.Prelude.{ℕ, zero, suc, ◌+◌, ◌-◌, ◌^◌, min, ◌≤◌, ◌<◌, ◌≡◌, Bool, true, false, ◌&&◌, ◌||◌, not, cond, List, [], ◌∷◌, ◌++◌, map, ℤ, leb, ltb, eqb, length, take}
use Rattle.std.specs.Prelude.{Option, Some, None}
use Rattle.laws.specs.Answer.{Answer, refused, answered}
use Rattle.laws.specs.Lists.{list_all, list_any, count, nth}
use Rattle.guids.specs.Guid.{before}
use Rattle.rules.specs.Entry.{What, Sample, End, Entry, is_sample_w, is_sample, of_group, is_member}
use Rattle.rules.specs.State.{State, Group, Writer, fresh, is_writer, knows_group, knows_writer, committed_of, stored}
use Rattle.rules.specs.Marks.{number}
use Rattle.rules.specs.Offer.{Offer, Fate, Stored, Joined, Late, entry_of, offer}
use Rattle.rules.specs.Sets.{lowest_ended}
use Rattle.rules.specs.Commit.{Turn}
use Rattle.rules.specs.Release.{Work, Outcome, waits, turn_of, release_group, work_of, release}
use Rattle.rules.specs.Run.{Call, offers, heartbeats, gaps, releases, step, run, answers, states_after, waiting}
use Rattle.rules.specs.Names.{named, unname, map_state, map_said}

-- stored and joined are accepted (document 01, Offer)
abbrev pub accepts : Answer Fate → Bool
accepts (refused n) = false
accepts (answered Stored) = true
accepts (answered Joined) = true
accepts (answered Late) = false

-- stored alone: no sample joins, so the samples accepted are those stored; of ends the bound counts, and the clock is asked of,
-- the stored ones, and so holds by either sentence of document 01 on what is accepted (Offer; Refusals and rules)
abbrev pub stores : Answer Fate → Bool
stores (refused n) = false
stores (answered Stored) = true
stores (answered Joined) = false
stores (answered Late) = false

-- a release that is answered
abbrev pub is_answered : {X : Type 0} → Answer X → Bool
is_answered (refused n) = false
is_answered (answered x) = true

abbrev pub outcome_of : {X : Type 0} → Answer (Outcome X) → Outcome X
outcome_of (refused n) = record { out = []; lost = [] }
outcome_of (answered r) = r

-- a run so far: its state, and what was accepted, handed out and discarded, each in order
pub record Story (X : Type 0) : Type 0 where
  pub state : State X
  pub accepted : List (Entry X)
  pub out : List (Entry X)
  pub lost : List (Entry X)

module _ {X : Type 0} where
  -- the entry that a call brings into the history
  unfoldable pub brings : State X → Call X → List (Entry X)
  brings s (offers o) = cond (accepts (offer s o).0) (entry_of o ∷ []) []
  brings s (heartbeats h) = []
  brings s (gaps g) = []
  brings s (releases now v l) = []

  -- what it hands out and discards
  unfoldable pub takes : State X → Call X → Outcome X
  takes s (offers o) = record { out = []; lost = [] }
  takes s (heartbeats h) = record { out = []; lost = [] }
  takes s (gaps g) = record { out = []; lost = [] }
  takes s (releases now v l) = outcome_of (release s v now (length l)).0

  unfoldable pub follow : Story X → Call X → Story X
  follow y c = record {
    state = (step y.state c).1;
    accepted = y.accepted ++ brings y.state c;
    out = y.out ++ (takes y.state c).out;
    lost = y.lost ++ (takes y.state c).lost;
  }

  unfoldable pub story : Story X → List (Call X) → Story X
  story y [] = y
  story y (c ∷ cs) = story (follow y c) cs

  unfoldable pub begun : ℕ → Story X
  begun t = record { state = fresh t; accepted = []; out = []; lost = [] }

  -- the k-th call offers a sample and is accepted
  abbrev pub accepts_sample : State X → Call X → Bool
  accepts_sample s (offers o) = accepts (offer s o).0 && is_sample_w o.what
  accepts_sample s (heartbeats h) = false
  accepts_sample s (gaps g) = false
  accepts_sample s (releases now v l) = false

  unfoldable pub accepted_at : State X → ℕ → List (Call X) → Bool
  accepted_at s k [] = false
  accepted_at s zero (c ∷ cs) = accepts_sample s c
  accepted_at s (suc k) (c ∷ cs) = accepted_at (step s c).1 k cs

-- a sample of name k
abbrev pub has_name_w : ℕ → What (ℕ × ℕ) → Bool
has_name_w k (Sample x) = eqb k x.0
has_name_w k (End u) = false

unfoldable pub has_name : ℕ → Entry (ℕ × ℕ) → Bool
has_name k e = has_name_w k e.what

-- ---- the bound's conditions

abbrev pub onward : ℕ → Option ℕ → (ℕ → Bool) → Bool
onward last None go = go last
onward last (Some t) go = leb last t && go t

module _ {X : Type 0} where
  -- the time of an answered release
  unfoldable pub release_time : State X → Call X → Option ℕ
  release_time s (offers o) = None
  release_time s (heartbeats h) = None
  release_time s (gaps g) = None
  release_time s (releases now v l) = cond (is_answered (release s v now (length l)).0) (Some now) None

  -- the time of a stored offer or answered release
  unfoldable pub clock_of : State X → Call X → Option ℕ
  clock_of s (offers o) = cond (stores (offer s o).0) (Some o.time) None
  clock_of s (heartbeats h) = None
  clock_of s (gaps g) = None
  clock_of s (releases now v l) = release_time s (releases now v l)

  -- the entry that a call stores, and all that a list stores
  unfoldable pub stores_in : State X → Call X → List (Entry X)
  stores_in s (offers o) = cond (stores (offer s o).0) (entry_of o ∷ []) []
  stores_in s (heartbeats h) = []
  stores_in s (gaps g) = []
  stores_in s (releases now v l) = []

  unfoldable pub stored_by : State X → List (Call X) → List (Entry X)
  stored_by s [] = []
  stored_by s (c ∷ cs) = stores_in s c ++ stored_by (step s c).1 cs

  -- the clock never goes back from a stored offer or answered release to a later one (demand 3)
  unfoldable pub clock_holds : ℕ → State X → List (Call X) → Bool
  clock_holds last s [] = true
  clock_holds last s (c ∷ cs) = onward last (clock_of s c) (λ t. clock_holds t (step s c).1 cs)

  -- the work stands at an ended set that waits and has no member
  abbrev pub empty_at : Turn → Work X → Option ℤ → Bool
  empty_at t w None = false
  empty_at t w (Some z) = waits t z w.held && not (list_any (λ h. is_member t.guid z h) w.held)

  unfoldable pub stops_empty : (Group → Turn) → List Group → Work X → Bool
  stops_empty t [] w = false
  stops_empty t (g ∷ gs) w =
      let v : Work X = release_group (t g) g w in
      empty_at (t g) v (lowest_ended g.guid v.held) || stops_empty t gs v

  unfoldable pub empty_stop : State X → Call X → Bool
  empty_stop s (offers o) = false
  empty_stop s (heartbeats h) = false
  empty_stop s (gaps g) = false
  empty_stop s (releases now v l) =
      is_answered (release s v now (length l)).0
      && stops_empty (λ g. turn_of v now s.timeout s.writers g) s.groups (work_of s)

  -- no release stops at an ended set without members (demand 3)
  unfoldable pub never_empty : State X → List (Call X) → Bool
  never_empty s [] = true
  never_empty s (c ∷ cs) = not (empty_stop s c) && never_empty (step s c).1 cs

-- a timeout or more after the last one counted, if any (demand 3)
abbrev pub after : Option ℕ → ℕ → ℕ → Bool
after None timeout t = true
after (Some last) timeout t = leb (last + timeout) t

unfoldable pub is_pending : ℕ → State (ℕ × ℕ) → Bool
is_pending k s = list_any (λ e. has_name k e) s.pending

-- of the calls, m answered releases are counted, each a timeout or more after the last one counted, the sample pending before and
-- after it (demand 3; document 01, Pending through a release)
pub data Counted (k : ℕ) : Option ℕ → State (ℕ × ℕ) → List (Call (ℕ × ℕ)) → ℕ → Type 0 where
  finished : {last : Option ℕ} {s : State (ℕ × ℕ)} → Counted k last s [] 0
  passed : {last : Option ℕ} {s : State (ℕ × ℕ)} {c : Call (ℕ × ℕ)} {cs : List (Call (ℕ × ℕ))} {m : ℕ}
      → Counted k last (step s c).1 cs m → Counted k last s (c ∷ cs) m
  counts : {last : Option ℕ} {s : State (ℕ × ℕ)} {c : Call (ℕ × ℕ)} {cs : List (Call (ℕ × ℕ))} {m t : ℕ}
      → release_time s c ≡ Some t
      → after last s.timeout t ≡ true
      → is_pending k s ≡ true
      → is_pending k (step s c).1 ≡ true
      → Counted k (Some t) (step s c).1 cs m
      → Counted k last s (c ∷ cs) (suc m)

-- each group's GUID comes before those of the later ones
unfoldable pub ascending : List Group → Bool
ascending [] = true
ascending (g ∷ l) = list_all (λ h. before g.guid h.guid) l && ascending l

-- no pair of group and writer stands twice
unfoldable pub distinct : List Writer → Bool
distinct [] = true
distinct (w ∷ l) = not (list_any (λ x. is_writer w.group w.writer x) l) && distinct l

-- what every state has that a list of calls reaches
pub record Reached {X : Type 0} (s : State X) : Type 0 where
  -- groups stand in the order of their GUIDs, each once; each writer stands once, and its group is known
  pub groups_ordered : ascending s.groups ≡ true
  pub writers_once : distinct s.writers ≡ true
  pub groups_known : list_all (λ w. knows_group w.group s.groups) s.writers ≡ true
  -- every entry's group and writer are known
  pub pending_known : list_all (λ e. knows_writer e.group e.writer s.writers) s.pending ≡ true
  pub held_known : list_all (λ e. knows_writer e.group e.writer s.writers) s.held ≡ true
  -- pending numbers are above committed, held ones are not
  pub pending_above : list_all (λ e. ltb (committed_of e.group s.groups) e.number) s.pending ≡ true
  pub held_not_above : list_all (λ e. leb e.number (committed_of e.group s.groups)) s.held ≡ true
  pub most_groups : length s.groups ≤ 8
  pub most_writers : length s.writers ≤ 32
  pub most_entries : stored s ≤ 256

-- the run of the calls with their samples named
unfoldable pub final : ℕ → List (Call ℕ) → Story (ℕ × ℕ)
final t cs = story (begun t) (named 0 cs)

-- all of it after the list's last call
pub record AtEnd (t : ℕ) (cs : List (Call ℕ)) : Type 0 where
  -- naming the samples by their offers' places changes no answer, no written list, no waiting figure and no state
  pub answers_same : map (λ a. map_said unname a) (answers (fresh t) (named 0 cs)) ≡ answers (fresh t) cs
  pub state_same : map_state unname (final t cs).state ≡ run (fresh t) cs
  pub waiting_same : (r : ℕ) → waiting (final t cs).state r ≡ waiting (run (fresh t) cs) r
  -- each accepted sample is in exactly one of pending, held, handed out and discarded, once; no other sample is in any
  pub one_fate : (k : ℕ)
      → count (λ e. has_name k e) (final t cs).state.pending + count (λ e. has_name k e) (final t cs).state.held
      + count (λ e. has_name k e) (final t cs).out + count (λ e. has_name k e) (final t cs).lost
      ≡ cond (accepted_at (fresh t) k (named 0 cs)) 1 0
  -- accepted samples = pending + held + handed out + discarded
  pub sum : count (λ e. is_sample e) (final t cs).accepted
      ≡ count (λ e. is_sample e) (final t cs).state.pending + count (λ e. is_sample e) (final t cs).state.held
      + length (final t cs).out + length (final t cs).lost
  -- the discarded count is exactly the discarded samples until it stops
  pub discarded_count : (final t cs).state.counts.discarded_samples ≡ min (length (final t cs).lost) (2 ^ 64 - 1)
  -- no accepted sample stays pending through more counted releases than its group had samples and ends stored with numbers up to its own
  pub bound : clock_holds 0 (fresh t) (named 0 cs) ≡ true
      → never_empty (fresh t) (named 0 cs) ≡ true
      → (k : ℕ) (o : Offer (ℕ × ℕ)) → nth k (named 0 cs) ≡ Some (offers o)
      → (m : ℕ) → Counted k None (fresh t) (named 0 cs) m
      → m ≤ count (λ e. of_group o.group e && leb e.number (number o.number)) (stored_by (fresh t) (named 0 cs))
  pub reached : Reached (final t cs).state

-- all of it after every call of the list
pub record Demand3 (t : ℕ) (cs : List (Call ℕ)) : Type 0 where
  -- the first calls alone have the names and the answers that they have in the whole list, and leave the same state
  pub names_first : (n : ℕ) → named 0 (take n cs) ≡ take n (named 0 cs)
  pub answers_first : (n : ℕ) → answers (fresh t) (take n cs) ≡ take n (answers (fresh t) cs)
  pub state_after : (n : ℕ) → n < length cs → nth n (states_after (fresh t) cs) ≡ Some (run (fresh t) (take (suc n) cs))
  pub each : (n : ℕ) → AtEnd t (take n cs)
  pub end : AtEnd t cs
