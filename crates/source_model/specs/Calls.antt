-- The calls of document 01 on the model: its refusals around the functions of the source, and what a call answers.
use Rattle.std.specs.Prelude.{ℕ, ◌+◌, Bool, true, false, ◌&&◌, not, List, [], ◌∷◌, map, ℤ, ltb, leb, length}
use Rattle.std.specs.Prelude.{Option, Some, None}
use Rattle.laws.specs.Lists.{filter, count, is_some}
use Rattle.guids.specs.Guid.{Guid, same_guid}
use Rattle.rules.specs.Entry.{set_end}
use Rattle.rules.specs.declared.entry.What.{What}
use Rattle.rules.specs.declared.entry.What.TheVariants.{Sample, End}
use Rattle.rules.specs.declared.entry.Entry as F
use Rattle.rules.specs.Offer.{refusal}
use Rattle.rules.specs.declared.call.Offer.{Offer}
use Rattle.rules.specs.declared.call.Heartbeat.{Heartbeat}
use Rattle.rules.specs.declared.call.Fate.{Fate}
use Rattle.rules.specs.declared.call.Fate.TheVariants.{Stored, Joined, Late}
use Rattle.rules.specs.Commit.{accepted, secure_accepted}
use Rattle.rules.specs.Release.{View, malformed}
use Rattle.rules.specs.Run.{Call, offers, heartbeats, gaps, releases, Said, is_refused, is_offered, is_done, is_released}
use Rattle.source_model.specs.Map.{guids, numbers, pairs, or_default, get, collect}
use Rattle.source_model.specs.Source.{SetEnd, Info, Entry, HeartbeatInfo, no_set, Group, no_group, GroupView, GroupOrder, sum_of, Did, did_push, did_join, did_count, offer_does, offer, heartbeat, gap, release, item_of}

-- an offer brings a sample or an end, never both
abbrev pub end_w : {X : Type 0} → What X → Option SetEnd
end_w (Sample x) = None
end_w (End u) = Some (record { first_sn = u.first; ecs_sn = u.own })

abbrev pub item_w : {X : Type 0} → What X → Option X
item_w (Sample x) = Some x
item_w (End u) = None

unfoldable pub info_of : Heartbeat → HeartbeatInfo
info_of h = record { first_gsn = h.first; last_gsn = h.last; current_gsn = h.current; writer_set = h.digest; secure_writer_set = h.secure }

-- the view's answers from document 01's rows and its stand-in for the digest's type
unfoldable pub view_of : View → GroupView
view_of v = record {
  counted = λ g. collect pairs (map (λ p. (p.writer, p.reader)) (filter (λ p. same_guid g p.group) v.counted));
  writer_set_is_discovered = λ g d. accepted g v.digests (Some d);
  secure_writer_set_is_discovered = λ g d. secure_accepted (Some d);
}

-- what a call answers: a release with the readers and items that it hands out, in order
pub data Told (X : Type 0) : Type 0 where
  told_refused : ℕ → Told X
  told_offered : Fate → Told X
  told_done : Told X
  told_released : List (ℕ × X) → Told X

module _ {X : Type 0} where
  unfoldable pub group_info : Offer X → Info
  group_info o = record { gsn = o.number; writer_set = o.digest; coherent_set_gsn = o.set }

  unfoldable pub entry_of : Offer X → Entry X
  entry_of o = record { reader = o.reader; writer = o.writer; info = group_info o; at_end = end_w o.what; item = item_w o.what; offered_at = o.time }

  unfoldable pub group_at : Guid → GroupOrder X → Group X
  group_at g o = or_default no_group (get guids g o.groups)

  unfoldable pub ninth : Guid → GroupOrder X → Bool
  ninth g o = not (is_some (get guids g o.groups)) && leb 8 (length o.groups)

  unfoldable pub pair33 : Guid → Guid → GroupOrder X → Bool
  pair33 g w o = not (is_some (get guids w (group_at g o).writers)) && leb 32 (sum_of (λ x. length x.1.writers) o.groups)

  -- the entries stored: pending, members, kept ends
  unfoldable pub stored_in : Group X → ℕ
  stored_in g = sum_of (λ v. length v.1) g.pending + sum_of (λ s. length s.1.members + length s.1.ends) g.sets

  unfoldable pub stored : GroupOrder X → ℕ
  stored o = sum_of (λ x. stored_in x.1) o.groups

  -- the samples stored
  unfoldable pub samples_in : Group X → ℕ
  samples_in g = sum_of (λ v. count (λ e. is_some e.item) v.1) g.pending + sum_of (λ s. length s.1.members) g.sets

  unfoldable pub samples : GroupOrder X → ℕ
  samples o = sum_of (λ x. samples_in x.1) o.groups

  abbrev pub fate_of : Did X → Fate
  fate_of (did_push g) = Stored
  fate_of (did_join g) = Joined
  fate_of (did_count g) = Late

  -- the pair has no end yet in the set
  abbrev pub new_end : Entry X → Group X → Option ℤ → Bool
  new_end e g None = false
  new_end e g (Some z) = not (is_some (get pairs (e.writer, e.reader) (or_default no_set (get numbers z g.sets)).ends))

  abbrev pub adds : Did X → Entry X → Group X → Bool
  adds (did_push h) e g = true
  adds (did_join h) e g = new_end e g e.info.coherent_set_gsn
  adds (did_count h) e g = false

  unfoldable pub offer_refusal : GroupOrder X → Offer X → Option ℕ
  offer_refusal o x =
      refusal
      ((1, ltb 7 x.reader) ∷ (2, ninth x.group o) ∷ (3, pair33 x.group x.writer o)
      ∷ (4, adds (offer_does o x.group (entry_of x) x.digest) (entry_of x) (group_at x.group o) && leb 256 (stored o)) ∷ [])

  abbrev pub offer_unless : Option ℕ → GroupOrder X → Offer X → Told X × GroupOrder X
  offer_unless (Some n) o x = (told_refused n, o)
  offer_unless None o x = (told_offered (fate_of (offer_does o x.group (entry_of x) x.digest)), offer o x.group x.writer x.reader (group_info x) (end_w x.what) (item_w x.what) x.time)

  abbrev pub done_unless : Option ℕ → GroupOrder X → GroupOrder X → Told X × GroupOrder X
  done_unless (Some n) o p = (told_refused n, o)
  done_unless None o p = (told_done, p)

  abbrev pub release_unless : Option ℕ → ℕ → GroupOrder X → View → ℕ → Told X × GroupOrder X
  release_unless (Some n) turns o v now = (told_refused n, o)
  release_unless None turns o v now =
      let r : List (ℕ × X) × GroupOrder X = release turns o (view_of v) now in
      (told_released r.0, r.1)

  unfoldable pub step : ℕ → GroupOrder X → Call X → Told X × GroupOrder X
  step turns o (offers x) = offer_unless (offer_refusal o x) o x
  step turns o (heartbeats h) =
      done_unless (refusal ((2, ninth h.group o) ∷ (3, pair33 h.group h.writer o) ∷ [])) o (heartbeat o h.group h.writer (info_of h))
  step turns o (gaps x) =
      done_unless (refusal ((1, ltb 7 x.reader) ∷ (2, ninth x.group o) ∷ (3, pair33 x.group x.writer o) ∷ [])) o (gap o x.group x.writer x.reader x.number)
  step turns o (releases now v l) =
      release_unless (refusal ((9, malformed v) ∷ (5, ltb (length l) (samples o)) ∷ [])) turns o v now

  unfoldable pub run : ℕ → GroupOrder X → List (Call X) → GroupOrder X
  run turns o [] = o
  run turns o (c ∷ cs) = run turns (step turns o c).1 cs

  unfoldable pub answers : ℕ → GroupOrder X → List (Call X) → List (Told X)
  answers turns o [] = []
  answers turns o (c ∷ cs) = (step turns o c).0 ∷ answers turns (step turns o c).1 cs

  -- the definitions' answer, told so: of what a release hands out, the readers and items
  unfoldable pub handed : List (F.Entry X) → List (ℕ × X)
  handed [] = []
  handed (e ∷ l) = item_of (item_w e.what) e.reader (handed l)

  abbrev pub told : Said X → Told X
  told (is_refused n) = told_refused n
  told (is_offered f) = told_offered f
  told is_done = told_done
  told (is_released out lost) = told_released (handed out)
