-- Figures of the offer, heartbeat and gap: refusals at their limits, and what becomes of an offer (specs/Offer.antt).
use Prim.{tt}
use Prim.Native.Nat.{ℕ}
use mathlib.Core.Path.{◌≡◌, refl}
use mathlib.Core.List.{List, [], ◌∷◌, ◌++◌}
use Rattle.std.specs.Prelude.{Option, Some, None}
use lib.IntN.{ℤ, pos}
use lib.ListN.{replicate}
use Rattle.laws.specs.Answer.{refused, answered}
use Rattle.rules.specs.Entry.{Sample, set_end, Entry}
use Rattle.rules.specs.State.{State, Writer, fresh, plus, no_counts, new_group, new_writer, writer_of}
use Rattle.rules.specs.Offer.{Offer, Heartbeat, Gap, offer_refusal, heartbeat, gap}
use Rattle.rules.specs.Run.{step, run, is_refused}
use Rattle.rules.proofs.Figures.{guid, S, E, H, G, R, nobody, both, stored', joined', late', out', prints}

-- a pending sample of number 1
abbrev pend : Entry ℕ
pend = record { group = guid 1; writer = guid 1; reader = 0; number = 1; set = None; what = Sample 0; time = 0; ended = None }

-- a member of set 1, and the kept end of its pair
abbrev member : Entry ℕ
member = record { group = guid 1; writer = guid 1; reader = 0; number = 1; set = Some (pos 1); what = Sample 0; time = 0; ended = None }

abbrev kept_end : Entry ℕ
kept_end = record { group = guid 1; writer = guid 1; reader = 0; number = 1; set = Some (pos 1); what = set_end None None; time = 0; ended = None }

-- group and writer 1 are known, number 1 committed; these entries are stored
unfoldable pub storing : List (Entry ℕ) → List (Entry ℕ) → State ℕ
storing p h = record {
  groups = record { guid = guid 1; committed = 1; announced = 0 } ∷ [];
  writers = new_writer (guid 1) (guid 1) ∷ [];
  pending = p;
  held = h;
  counts = no_counts;
  timeout = 1000;
}

-- so many groups and writers are known, all of them 9
unfoldable pub crowd : ℕ → ℕ → State ℕ
crowd g w = record { groups = replicate g (new_group (guid 9)); writers = replicate w (new_writer (guid 9) (guid 9)); pending = []; held = []; counts = no_counts; timeout = 1000 }

abbrev brings : ℕ → ℕ → ℤ → Offer ℕ
brings g r n = record { group = guid g; writer = guid g; reader = r; number = n; set = None; digest = 7; what = Sample 0; time = 0 }

abbrev ends : ℕ → Offer ℕ
ends r = record { group = guid 1; writer = guid 1; reader = r; number = pos 1; set = Some (pos 1); digest = 7; what = set_end None None; time = 0 }

abbrev beat : ℕ → Heartbeat
beat g = record { group = guid g; writer = guid g; first = pos 1; last = pos 2; current = pos 3; digest = None; secure = None }

abbrev gap_to : ℕ → ℕ → Gap
gap_to g r = record { group = guid g; writer = guid g; reader = r; number = pos 3 }

-- the writer after number 5 of reader 1 was handed out, and number 4 of reader 0 came late with digest 9
unfoldable pub late_writer : Option Writer
unfolding prints run
late_writer = writer_of (guid 1) (guid 1) (run (fresh 0) (S 1 1 1 (pos 5) None 7 9 0 ∷ R nobody 0 ∷ S 1 1 0 (pos 4) None 9 8 0 ∷ [])).writers

pub record OfferFigures : Type 0 where
  -- 256 entries, pending or held: a late sample is late, a new number is refused 4; with 255 it is stored
  pub full_late : offer_refusal (storing (replicate 256 pend) []) (brings 1 0 (pos 0)) ≡ None
  pub full_new : offer_refusal (storing (replicate 256 pend) []) (brings 1 0 (pos 2)) ≡ Some 4
  pub full_held : offer_refusal (storing (pend ∷ []) (replicate 255 member)) (brings 1 0 (pos 2)) ≡ Some 4
  pub almost_new : offer_refusal (storing (replicate 255 pend) []) (brings 1 0 (pos 2)) ≡ None
  -- an end that replaces its pair's adds nothing, another's adds one
  pub full_replaces : offer_refusal (storing [] (replicate 255 member ++ (kept_end ∷ []))) (ends 0) ≡ None
  pub full_adds : offer_refusal (storing [] (replicate 255 member ++ (kept_end ∷ []))) (ends 1) ≡ Some 4
  -- the eighth group, the 32nd pair and reader 7 are taken, the next ones refused, in the order of their numbers
  pub last_taken : offer_refusal (crowd 7 31) (brings 1 7 (pos 1)) ≡ None
  pub ninth_group : offer_refusal (crowd 8 32) (brings 1 0 (pos 1)) ≡ Some 2
  pub pair_33 : offer_refusal (crowd 7 32) (brings 1 0 (pos 1)) ≡ Some 3
  pub reader_eight : offer_refusal (crowd 8 32) (brings 1 8 (pos 1)) ≡ Some 1
  pub known_taken : offer_refusal (crowd 8 32) (brings 9 0 (pos 1)) ≡ None
  pub beat_taken : (heartbeat (crowd 7 31) (beat 1)).0 ≡ answered tt
  pub beat_ninth : (heartbeat (crowd 8 32) (beat 1)).0 ≡ refused 2
  pub beat_pair_33 : (heartbeat (crowd 7 32) (beat 1)).0 ≡ refused 3
  pub gap_taken : (gap (crowd 7 31) (gap_to 1 7)).0 ≡ answered tt
  pub gap_ninth : (gap (crowd 8 32) (gap_to 1 0)).0 ≡ refused 2
  pub gap_pair_33 : (gap (crowd 7 32) (gap_to 1 0)).0 ≡ refused 3
  pub gap_eight : (gap (crowd 8 32) (gap_to 1 8)).0 ≡ refused 1
  -- a refused call alters nothing
  pub offer_keeps : step (crowd 8 32) (S 1 1 0 (pos 1) None 7 5 0) ≡ (is_refused 2, crowd 8 32)
  pub beat_keeps : step (crowd 8 32) (H 1 1 (pos 1) (pos 2) (pos 3) None None) ≡ (is_refused 2, crowd 8 32)
  pub gap_keeps : step (crowd 8 32) (G 1 1 0 (pos 3)) ≡ (is_refused 2, crowd 8 32)
  -- a late sample, a late end without a set and one of no open set are each counted once
  pub late_once : prints 1000 (S 1 1 0 (pos 0) None 7 1 0 ∷ R nobody 0 ∷ []) ≡ late' ∷ out' [] 0 0 0 1 ∷ []
  pub late_ends : prints 1000 (E 1 1 0 (pos 0) None 7 None None 0 ∷ E 1 1 0 (pos 0) (Some (pos 1)) 7 None None 0 ∷ R nobody 0 ∷ [])
      ≡ late' ∷ late' ∷ out' [] 0 0 0 2 ∷ []
  -- committed itself is late
  pub at_committed : prints 1000 (S 1 1 0 (pos 1) None 7 5 0 ∷ R nobody 0 ∷ S 1 1 1 (pos 1) None 7 6 0 ∷ [])
      ≡ stored' ∷ out' ((0, 5) ∷ []) 0 0 0 0 ∷ late' ∷ []
  -- a late offer raises the number seen and stores the digest too
  pub late_marks : late_writer ≡ Some (record {
    group = guid 1;
    writer = guid 1;
    seen = 4 ∷ 5 ∷ replicate 6 0;
    gaps = replicate 8 0;
    first = 0;
    last = 0;
    current = 0;
    digest = Some 9;
    secure = None;
  })
  -- only an end joins, and only an open set of its group
  pub joins : prints 1000 (S 1 1 0 (pos 1) (Some (pos 1)) 7 9 0 ∷ R nobody 0 ∷ S 1 1 0 (pos 1) (Some (pos 1)) 7 8 0 ∷ E 1 1 0 (pos 1) (Some (pos 2)) 7 None None 0 ∷ E 2 1 0 (pos 0) (Some (pos 1)) 7 None None 0 ∷ E 1 1 0 (pos 0) (Some (pos 1)) 7 None None 0 ∷ [])
      ≡ stored' ∷ out' [] 0 0 0 0 ∷ late' ∷ late' ∷ late' ∷ joined' ∷ []
  -- a joining end does not mark its set ended
  pub joined_unmarked : prints 1000 (S 1 1 0 (pos 1) (Some (pos 1)) 7 9 0 ∷ R nobody 0 ∷ E 1 1 0 (pos 1) (Some (pos 1)) 7 (Some (pos 1)) (Some (pos 2)) 0 ∷ R nobody 0 ∷ [])
      ≡ stored' ∷ out' [] 0 0 0 0 ∷ joined' ∷ out' [] 0 0 0 0 ∷ []
  -- it replaces its pair's earlier end and no other's, and an ended set stays ended
  pub joined_replaces : prints 1000 (S 1 1 0 (pos 1) (Some (pos 1)) 7 9 0 ∷ E 1 1 0 (pos 2) (Some (pos 1)) 7 (Some (pos 1)) (Some (pos 3)) 0 ∷ R both 0 ∷ E 1 1 0 (pos 2) (Some (pos 1)) 7 (Some (pos 1)) (Some (pos 2)) 0 ∷ E 1 2 0 (pos 2) (Some (pos 1)) 7 (Some (pos 2)) (Some (pos 2)) 0 ∷ R both 0 ∷ [])
      ≡ stored' ∷ stored' ∷ out' [] 0 0 0 0 ∷ joined' ∷ joined' ∷ out' ((0, 9) ∷ []) 0 0 0 0 ∷ []
  -- counts stop at 2^64 − 1
  pub last_count : plus 18446744073709551614 1 ≡ 18446744073709551615
  pub count_stops : plus 18446744073709551615 1 ≡ 18446744073709551615

pub offer_figures : OfferFigures
unfolding prints run storing crowd late_writer offer_refusal heartbeat gap plus writer_of
offer_figures = record {
  full_late = refl;
  full_new = refl;
  full_held = refl;
  almost_new = refl;
  full_replaces = refl;
  full_adds = refl;
  last_taken = refl;
  ninth_group = refl;
  pair_33 = refl;
  reader_eight = refl;
  known_taken = refl;
  beat_taken = refl;
  beat_ninth = refl;
  beat_pair_33 = refl;
  gap_taken = refl;
  gap_ninth = refl;
  gap_pair_33 = refl;
  gap_eight = refl;
  offer_keeps = refl;
  beat_keeps = refl;
  gap_keeps = refl;
  late_once = refl;
  late_ends = refl;
  at_committed = refl;
  late_marks = refl;
  joins = refl;
  joined_unmarked = refl;
  joined_replaces = refl;
  last_count = refl;
  count_stops = refl;
}
