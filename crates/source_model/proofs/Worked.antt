-- Document 01's call list, computed by the model of the source.
use Prim.Native.Nat.{ℕ}
use mathlib.Core.Path.{◌≡◌, refl}
use mathlib.Core.List.{List, [], ◌∷◌}
use Rattle.std.specs.Prelude.{Some, None}
use lib.IntN.{pos, negsuc}
use Rattle.laws.specs.Lists.{filter, list_all, list_any, count, find, is_some}
use Rattle.guids.specs.Guid.{compare_guid, same_guid, before}
use Rattle.rules.specs.Commit.{accepted, secure_accepted}
use Rattle.rules.specs.Offer.{refusal}
use Rattle.rules.specs.declared.call.Fate.{Fate}
use Rattle.rules.specs.declared.call.Fate.TheVariants.{Stored, Joined, Late}
use Rattle.rules.specs.Release.{View, malformed}
use Rattle.rules.specs.Run.{Call}
use Rattle.rules.proofs.Figures.{S, E, H, G, R, C, D, view, nobody, Line, ok, stored', joined', late', refused', out'}
use Rattle.source_model.specs.Map.{guids, numbers, readers, pairs, get, insert, entry, remove, put, collect}
use Rattle.rules.specs.declared.state.ReleaseCounts.{ReleaseCounts}
use Rattle.source_model.specs.Source.{GroupOrder, no_progress, is_past, no_set, no_group, none_counted, sum_of, sees, heard, gap_to, with_writer, pushed, with_sets, with_end, offer_to, late, offer_does, offer_entry, offer, announce, heartbeat, gap, new, walk, set_known, passable, copies_arrived, with_member, ended, commit, items, discarding, complete, finish_set, stale, drop_all, commit_each, skips, taken, take_next, is_ready, all_ends, turn, release_group, release_each, release}
use Rattle.source_model.specs.Calls.{Told, told_refused, told_done, told_offered, told_released, info_of, group_info, entry_of, view_of, group_at, ninth, pair33, stored_in, stored, samples_in, samples, offer_refusal, step}

abbrev line_f : Fate → Line
line_f Stored = stored'
line_f Joined = joined'
line_f Late = late'

abbrev line : Told ℕ → ReleaseCounts → Line
line (told_refused n) c = refused' n
line (told_offered f) c = line_f f
line told_done c = ok
line (told_released o) c = out' o c.skipped_after_timeout c.incomplete_sets c.discarded_samples c.late_samples

prints_from : GroupOrder ℕ → List (Call ℕ) → List Line
prints_from s [] = []
prints_from s (c ∷ cs) = line (step 513 s c).0 (step 513 s c).1.counts ∷ prints_from (step 513 s c).1 cs

-- what a list prints from a fresh start with a timeout
unfoldable pub prints : ℕ → List (Call ℕ) → List Line
unfolding prints_from count is_some compare_guid same_guid before accepted secure_accepted refusal malformed guids numbers readers pairs get insert entry remove put collect no_progress is_past no_set no_group none_counted sum_of sees heard gap_to with_writer pushed with_sets with_end offer_to late offer_does offer_entry offer announce heartbeat gap new walk set_known passable copies_arrived with_member ended commit items discarding complete finish_set stale drop_all commit_each skips taken take_next is_ready all_ends turn release_group release_each release info_of group_info entry_of view_of group_at ninth pair33 stored_in stored samples_in samples offer_refusal step
prints t cs = prints_from (new t) cs

-- document 01's list
pub worked :
    let rows : View = view (C 1 1 0 ∷ C 1 2 1 ∷ []) (D 1 7 ∷ []) in
    prints 1000
    (S 1 1 0 (pos 1) (Some (pos 1)) 7 50 0 ∷ S 1 2 1 (pos 2) (Some (pos 1)) 7 51 0 ∷ E 1 1 0 (pos 3) (Some (pos 1)) 7 (Some (pos 1)) (Some (pos 2)) 0 ∷ R rows 10
    ∷ E 1 2 1 (pos 3) (Some (pos 1)) 7 (Some (pos 1)) (Some (pos 2)) 10 ∷ R rows 10 ∷ [])
    ≡ stored' ∷ stored' ∷ stored' ∷ out' [] 0 0 0 0 ∷ joined' ∷ out' ((0, 50) ∷ (1, 51) ∷ []) 0 0 0 0 ∷ []
unfolding prints
worked = refl

-- number 5 alone: held before the timeout, handed out at it with four skipped
pub skipped_four : prints 1000 (S 1 1 0 (pos 5) None 7 50 0 ∷ R nobody 999 ∷ R nobody 1000 ∷ S 1 1 0 (pos 5) None 7 51 0 ∷ [])
    ≡ stored' ∷ out' [] 0 0 0 0 ∷ out' ((0, 50) ∷ []) 4 0 0 0 ∷ late' ∷ []
unfolding prints
skipped_four = refl

-- lists on which a wrong model prints something else; group_order.rs prints this
pub record Others : Type 0 where
  -- number 3: 1 and 2 are ruled out by a heartbeat that announces it and a gap of the other pair; a later gap and an absent secure digest
  pub ruled_out : prints 1000
      (S 1 1 0 (pos 3) None 7 50 0 ∷ H 1 1 (pos 1) (pos 0) (pos 3) (Some 7) (Some 1) ∷ H 1 1 (pos 1) (pos 0) (pos 3) (Some 7) None ∷ G 1 2 1 (pos 2) ∷ G 1 2 1 (pos 1)
      ∷ R (view (C 1 1 0 ∷ C 1 2 1 ∷ []) (D 1 7 ∷ [])) 0 ∷ [])
      ≡ stored' ∷ ok ∷ ok ∷ ok ∷ ok ∷ out' ((0, 50) ∷ []) 0 0 0 0 ∷ []
  -- another writer's copy is a copy; entries of a number leave in the order of their offers
  pub copies : prints 1000 (S 1 1 0 (pos 1) None 7 50 0 ∷ S 1 2 1 (pos 1) None 7 51 0 ∷ R (view (C 1 1 0 ∷ C 1 1 1 ∷ []) []) 0 ∷ [])
      ≡ stored' ∷ stored' ∷ out' ((0, 50) ∷ (1, 51) ∷ []) 0 0 0 0 ∷ []
  -- an end without a first number agrees with no members alone
  pub no_first : prints 1000 (S 1 1 0 (pos 1) (Some (pos 1)) 7 50 0 ∷ E 1 1 0 (pos 2) (Some (pos 1)) 7 None (Some (pos 2)) 0 ∷ R (view (C 1 1 0 ∷ []) []) 0 ∷ [])
      ≡ stored' ∷ stored' ∷ out' [] 0 1 1 0 ∷ []
  -- a joining end does not end its set
  pub joined : prints 1000
      (S 1 1 0 (pos 1) (Some (pos 1)) 7 50 0 ∷ R (view (C 1 1 0 ∷ []) []) 0 ∷ E 1 1 0 (pos 1) (Some (pos 1)) 7 (Some (pos 1)) (Some (pos 2)) 0 ∷ R (view (C 1 1 0 ∷ []) []) 0 ∷ [])
      ≡ stored' ∷ out' [] 0 0 0 0 ∷ joined' ∷ out' [] 0 0 0 0 ∷ []
  -- an end opens no set
  pub late_end : prints 1000 (E 1 1 0 (negsuc 0) (Some (pos 1)) 7 (Some (pos 1)) (Some (pos 2)) 0 ∷ R nobody 0 ∷ []) ≡ late' ∷ out' [] 0 0 0 1 ∷ []
  -- an ended set is not discarded at the number that ended it
  pub ended_spared : prints 1000 (S 1 1 0 (pos 1) (Some (pos 1)) 7 50 0 ∷ E 1 1 0 (pos 2) (Some (pos 1)) 7 (Some (pos 1)) (Some (pos 2)) 0 ∷ S 1 2 1 (pos 2) None 7 51 0 ∷ R nobody 0 ∷ [])
      ≡ stored' ∷ stored' ∷ stored' ∷ out' ((1, 51) ∷ (0, 50) ∷ []) 0 0 0 0 ∷ []
  -- groups in the order of their GUIDs
  pub both_groups : prints 1000 (S 2 1 0 (pos 1) None 7 60 0 ∷ S 1 1 0 (pos 1) None 7 50 0 ∷ R nobody 0 ∷ []) ≡ stored' ∷ stored' ∷ out' ((0, 50) ∷ (0, 60) ∷ []) 0 0 0 0 ∷ []

pub others : Others
unfolding prints
others = record { ruled_out = refl; copies = refl; no_first = refl; joined = refl; late_end = refl; ended_spared = refl; both_groups = refl }
