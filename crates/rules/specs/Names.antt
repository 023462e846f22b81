-- Samples named by the place of their offer among the calls.
use Rattle.std.specs.Prelude.{ℕ, suc, List, [], ◌∷◌, map}
use Rattle.rules.specs.Entry.{What, Sample, End, set_end, Entry}
use Rattle.rules.specs.State.{State}
use Rattle.rules.specs.Offer.{Offer}
use Rattle.rules.specs.Run.{Call, offers, heartbeats, gaps, releases, Said, is_refused, is_offered, is_done, is_released}

-- the same with f of what each sample carries
module _ {X Y : Type 0} (f : X → Y) where
  abbrev pub map_what : What X → What Y
  map_what (Sample x) = Sample (f x)
  map_what (End u) = set_end u.first u.own

  unfoldable pub map_entry : Entry X → Entry Y
  map_entry e = record {
    group = e.group;
    writer = e.writer;
    reader = e.reader;
    number = e.number;
    set = e.set;
    what = map_what e.what;
    time = e.time;
    ended = e.ended;
  }

  unfoldable pub map_state : State X → State Y
  map_state s = record {
    groups = s.groups;
    writers = s.writers;
    pending = map (λ e. map_entry e) s.pending;
    held = map (λ e. map_entry e) s.held;
    counts = s.counts;
    timeout = s.timeout;
  }

  unfoldable pub map_offer : Offer X → Offer Y
  map_offer o = record {
    group = o.group;
    writer = o.writer;
    reader = o.reader;
    number = o.number;
    set = o.set;
    digest = o.digest;
    what = map_what o.what;
    time = o.time;
  }

  unfoldable pub map_call : Call X → Call Y
  map_call (offers o) = offers (map_offer o)
  map_call (heartbeats h) = heartbeats h
  map_call (gaps g) = gaps g
  map_call (releases t v l) = releases t v l

  unfoldable pub map_said : Said X → Said Y
  map_said (is_refused n) = is_refused n
  map_said (is_offered a) = is_offered a
  map_said is_done = is_done
  map_said (is_released a b) = is_released (map (λ e. map_entry e) a) (map (λ e. map_entry e) b)

-- the calls with the samples named, from place k on (document 01, Refusals and rules); the name comes before the item
unfoldable pub named : ℕ → List (Call ℕ) → List (Call (ℕ × ℕ))
named k [] = []
named k (c ∷ cs) = map_call (λ i. (k, i)) c ∷ named (suc k) cs

-- the name forgotten again
abbrev pub unname : ℕ × ℕ → ℕ
unname p = p.1
