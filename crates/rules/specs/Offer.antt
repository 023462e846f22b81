-- Offer, heartbeat and gap.
use Prim.{Unit, tt}
use Rattle.std.specs.Prelude.{ℕ, Bool, true, false, ◌&&◌, not, cond, List, [], ◌∷◌, ◌++◌, ltb, leb, length}
use Rattle.std.specs.Prelude.{Option, Some, None}
use Rattle.laws.specs.Answer.{Answer, refused, answered}
use Rattle.laws.specs.Lists.{list_any, filter, find, change}
use Rattle.guids.specs.Guid.{Guid}
use Rattle.rules.specs.Entry.{Entry, is_sample_w, is_sample, same_set, of_group, of_pair}
use Rattle.rules.specs.State.{State, Group, Writer, ReleaseCounts, plus, is_group, knows_group, knows_writer, committed_of, stored}
use Rattle.rules.specs.Marks.{number, hear_group, tell, saw, gapped, announced, announced_to}
pub use Rattle.rules.specs.declared.call.Offer.{Offer}
pub use Rattle.rules.specs.declared.call.Heartbeat.{Heartbeat}
pub use Rattle.rules.specs.declared.call.Gap.{Gap}
-- what becomes of an offer that is not refused (document 01, Offer)
pub use Rattle.rules.specs.declared.call.Fate.{Fate}
pub use Rattle.rules.specs.declared.call.Fate.TheVariants.{Stored, Joined, Late}

-- of the tests in their order, the number of the first that holds (document 01, Operations)
unfoldable pub refusal : List (ℕ × Bool) → Option ℕ
refusal [] = None
refusal (t ∷ l) = cond t.1 (Some t.0) (refusal l)

abbrev pub fate : Bool → Bool → Fate
fate true j = Stored
fate false true = Joined
fate false false = Late

-- one more late offer
unfoldable pub one_late : ReleaseCounts → ReleaseCounts
one_late c = record { skipped_after_timeout = c.skipped_after_timeout; incomplete_sets = c.incomplete_sets; discarded_samples = c.discarded_samples; late_samples = plus c.late_samples 1 }

module _ {X : Type 0} where
  -- 2: a ninth group; 3: a 33rd pair of group and writer (document 01, Offer)
  unfoldable pub ninth : Guid → State X → Bool
  ninth g s = not (knows_group g s.groups) && leb 8 (length s.groups)

  unfoldable pub pair33 : Guid → Guid → State X → Bool
  pair33 g w s = not (knows_writer g w s.writers) && leb 32 (length s.writers)

  unfoldable pub with_marks : List Group → List Writer → State X → State X
  with_marks gs ws s = record { groups = gs; writers = ws; pending = s.pending; held = s.held; counts = s.counts; timeout = s.timeout }

  unfoldable pub entry_of : Offer X → Entry X
  entry_of o = record {
    group = o.group;
    writer = o.writer;
    reader = o.reader;
    number = number o.number;
    set = o.set;
    what = o.what;
    time = o.time;
    ended = None;
  }

  -- h is of e's set
  unfoldable pub shares : Entry X → Entry X → Bool
  shares e h = of_group e.group h && same_set e.set h.set

  -- h is the kept end of e's pair in e's set
  unfoldable pub replaced : Entry X → Entry X → Bool
  replaced e h = shares e h && not (is_sample h) && of_pair e.writer e.reader h

  -- e as a kept end that marks its set so
  unfoldable pub marked : Option ℕ → Entry X → Entry X
  marked m e = record {
    group = e.group;
    writer = e.writer;
    reader = e.reader;
    number = e.number;
    set = e.set;
    what = e.what;
    time = e.time;
    ended = m;
  }

  -- an end is kept in place of its pair's earlier one (document 01, release, step 3)
  unfoldable pub keep_end : Option ℕ → Entry X → List (Entry X) → List (Entry X)
  keep_end m e l = filter (λ h. not (replaced e h)) l ++ (marked m e ∷ [])

  abbrev pub mark_of : Option (Entry X) → Option ℕ
  mark_of None = None
  mark_of (Some h) = h.ended

  -- a joining end replaces its pair's, and marks its set as much as that one did (document 01, Number at or below committed)
  unfoldable pub join : Entry X → List (Entry X) → List (Entry X)
  join e l = keep_end (mark_of (find (λ h. replaced e h) l)) e l

  -- above committed: stored; else an end whose set is open joins it; all else is late (document 01, Rules of the history)
  unfoldable pub fate_of : State X → Offer X → Fate
  fate_of s o =
      fate (ltb (committed_of o.group s.groups) (number o.number))
      (not (is_sample_w o.what) && list_any (λ h. shares (entry_of o) h) s.held)

  -- whether one entry more is stored then (document 01, Offer, 4)
  unfoldable pub adds : Fate → State X → Offer X → Bool
  adds Stored s o = true
  adds Joined s o = not (list_any (λ h. replaced (entry_of o) h) s.held)
  adds Late s o = false

  -- document 01, Offer
  unfoldable pub offer_refusal : State X → Offer X → Option ℕ
  offer_refusal s o =
      refusal
      ((1, ltb 7 o.reader) ∷ (2, ninth o.group s) ∷ (3, pair33 o.group o.writer s)
      ∷ (4, adds (fate_of s o) s o && leb 256 (stored s)) ∷ [])

  -- the state after a stored, a joined and a late offer, once its marks are told
  unfoldable pub place : Fate → Entry X → State X → State X
  place Stored e s = record { groups = s.groups; writers = s.writers; pending = s.pending ++ (e ∷ []); held = s.held; counts = s.counts; timeout = s.timeout }
  place Joined e s = record { groups = s.groups; writers = s.writers; pending = s.pending; held = join e s.held; counts = s.counts; timeout = s.timeout }
  place Late e s = record { groups = s.groups; writers = s.writers; pending = s.pending; held = s.held; counts = one_late s.counts; timeout = s.timeout }

  unfoldable pub heard_offer : Offer X → State X → State X
  heard_offer o s =
      with_marks (hear_group o.group s.groups)
      (tell o.group o.writer (λ w. saw o.reader (number o.number) o.digest w) s.writers) s

  -- a refused call alters nothing (document 01, Operations); one that is not is heard, even when late (Rules of the history)
  abbrev pub offered : Option ℕ → State X → Offer X → Answer Fate × State X
  offered (Some n) s o = (refused n, s)
  offered None s o = (answered (fate_of s o), place (fate_of s o) (entry_of o) (heard_offer o s))

  unfoldable pub offer : State X → Offer X → Answer Fate × State X
  offer s o = offered (offer_refusal s o) s o

module _ {X : Type 0} where
  abbrev pub done : Option ℕ → State X → State X → Answer (Unit {0}) × State X
  done (Some n) s t = (refused n, s)
  done None s t = (answered tt, t)

  -- document 01, Heartbeat
  unfoldable pub heartbeat : State X → Heartbeat → Answer (Unit {0}) × State X
  heartbeat s h =
      done (refusal ((2, ninth h.group s) ∷ (3, pair33 h.group h.writer s) ∷ [])) s
      (with_marks
      (change (λ x. is_group h.group x) (λ x. announced_to (number h.current) x) (hear_group h.group s.groups))
      (tell h.group h.writer
      (λ w. announced (number h.first) (number h.last) (number h.current) h.digest h.secure w)
      s.writers) s)

  -- document 01, Gap
  unfoldable pub gap : State X → Gap → Answer (Unit {0}) × State X
  gap s x =
      done
      (refusal ((1, ltb 7 x.reader) ∷ (2, ninth x.group s) ∷ (3, pair33 x.group x.writer s) ∷ [])) s
      (with_marks (hear_group x.group s.groups)
      (tell x.group x.writer (λ w. gapped x.reader (number x.number) w) s.writers) s)
