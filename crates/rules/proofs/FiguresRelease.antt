-- Figures of the release: refusals at their limits, when a number is ready, what is counted, handed out and read (specs/Commit.antt, Release.antt, Run.antt).
use Prim.Native.Nat.{ℕ}
use mathlib.Core.Path.{◌≡◌, refl}
use mathlib.Core.Bool.{true, false}
use mathlib.Core.List.{[], ◌∷◌, ◌++◌}
use Rattle.std.specs.Prelude.{Some, None}
use lib.IntN.{pos}
use lib.ListN.{replicate}
use Rattle.rules.specs.Entry.{Sample, Entry}
use Rattle.rules.specs.State.{State, no_counts, fresh}
use Rattle.rules.specs.Commit.{accepted}
use Rattle.rules.specs.Release.{View, malformed, release_refusal}
use Rattle.rules.specs.Run.{is_refused, is_released, run, waiting, nothing_waits, place_of, written}
use Rattle.rules.proofs.Figures.{guid, S, E, H, G, R, C, D, view, nobody, alone, both, ok, stored', out', prints, emptied}

-- a sample and an end are pending
unfoldable pub two : State ℕ
unfolding prints run
two = run (fresh 1000) (S 1 1 0 (pos 1) (Some (pos 1)) 7 9 0 ∷ E 1 1 0 (pos 2) (Some (pos 1)) 7 None None 0 ∷ [])

-- the same as a member and a kept end: the set is ended, and another pair's end is missing
unfoldable pub held : State ℕ
unfolding prints run
held = run (fresh 1000) (S 1 1 0 (pos 1) (Some (pos 1)) 7 9 0 ∷ E 1 1 0 (pos 2) (Some (pos 1)) 7 None None 0 ∷ R both 0 ∷ [])

-- a lone end is pending
unfoldable pub ending : State ℕ
unfolding prints run
ending = run (fresh 1000) (E 1 1 0 (pos 2) (Some (pos 1)) 7 None None 0 ∷ [])

-- item 5 of a reader
abbrev plain : ℕ → Entry ℕ
plain r = record { group = guid 1; writer = guid 1; reader = r; number = 1; set = None; what = Sample 5; time = 0; ended = None }

-- it alone is pending; of reader 8 no call stores it
abbrev lone : ℕ → State ℕ
lone r = record { groups = []; writers = []; pending = plain r ∷ []; held = []; counts = no_counts; timeout = 1000 }

-- the group's digest row
abbrev rowed : View
rowed = view (C 1 1 0 ∷ []) (D 1 7 ∷ [])

pub record ReleaseFigures : Type 0 where
  -- refusal 9 at its limits, and before 5
  pub rows_256 : malformed (view (replicate 256 (C 1 1 0)) []) ≡ false
  pub rows_257 : malformed (view (replicate 257 (C 1 1 0)) []) ≡ true
  pub digests_8 : malformed (view [] (replicate 8 (D 1 7))) ≡ false
  pub digests_9 : malformed (view [] (replicate 9 (D 1 7))) ≡ true
  pub row_seven : malformed (view (C 1 1 7 ∷ []) []) ≡ false
  pub row_eight : malformed (view (C 1 1 0 ∷ C 1 1 8 ∷ []) []) ≡ true
  pub unlike : malformed (view [] (D 1 7 ∷ D 2 7 ∷ D 1 8 ∷ [])) ≡ true
  pub unlike_groups : malformed (view [] (D 1 7 ∷ D 2 8 ∷ [])) ≡ false
  pub nine_first : release_refusal two (view (C 1 1 8 ∷ []) []) 0 ≡ Some 9
  -- refusal 5 counts samples, pending or held, no ends
  pub room_for_samples : release_refusal two nobody 1 ≡ None
  pub no_room : release_refusal two nobody 0 ≡ Some 5
  pub room_for_members : release_refusal held nobody 1 ≡ None
  pub no_room_held : release_refusal held nobody 0 ≡ Some 5
  -- the lent list: reader and item, and the places behind; any other answer leaves it
  pub placed : written (is_released (plain 3 ∷ []) (plain 4 ∷ plain 4 ∷ [])) (0 ∷ 1 ∷ 2 ∷ []) ≡ 12884901893 ∷ 1 ∷ 2 ∷ []
  pub unplaced : written (is_refused 5) (1 ∷ 2 ∷ []) ≡ 1 ∷ 2 ∷ []
  -- waiting figures count a reader's samples, pending or held, no ends; of readers to 7
  pub waiting_pending : waiting two 0 ≡ 1
  pub waiting_held : waiting held 0 ≡ 1
  pub waiting_other : waiting two 1 ≡ 0
  pub held_other : waiting held 1 ≡ 0
  pub waiting_seven : waiting (lone 7) 7 ≡ 1
  pub waiting_eight : waiting (lone 8) 8 ≡ 0
  -- a pending end waits, a held member does; an ended set without members does not
  pub end_waits : nothing_waits ending ≡ false
  pub member_waits : nothing_waits held ≡ false
  pub empty_idle : nothing_waits emptied ≡ true
  -- the number after committed is ready, and committed is kept for the next release
  pub in_turn : prints 1000 (S 1 1 0 (pos 2) None 7 6 0 ∷ S 1 1 0 (pos 1) None 7 5 0 ∷ R alone 0 ∷ S 1 1 0 (pos 3) None 7 4 0 ∷ R alone 0 ∷ [])
      ≡ stored' ∷ stored' ∷ out' ((0, 5) ∷ (0, 6) ∷ []) 0 0 0 0 ∷ stored' ∷ out' ((0, 4) ∷ []) 0 0 0 0 ∷ []
  -- entries of one number leave in offer order
  pub offer_order : prints 1000 (S 1 2 1 (pos 1) None 7 6 0 ∷ S 1 1 0 (pos 1) None 7 5 0 ∷ R nobody 0 ∷ [])
      ≡ stored' ∷ stored' ∷ out' ((1, 6) ∷ (0, 5) ∷ []) 0 0 0 0 ∷ []
  -- each group is served, in the order of the GUIDs, by its own committed number
  pub groups_served : prints 1000 (S 2 1 0 (pos 1) None 7 6 0 ∷ S 1 1 0 (pos 1) None 7 5 0 ∷ R nobody 0 ∷ S 1 1 0 (pos 2) None 7 5 0 ∷ S 2 1 0 (pos 2) None 7 6 0 ∷ R nobody 0 ∷ [])
      ≡ stored' ∷ stored' ∷ out' ((0, 5) ∷ (0, 6) ∷ []) 0 0 0 0 ∷ stored' ∷ stored' ∷ out' ((0, 5) ∷ (0, 6) ∷ []) 0 0 0 0 ∷ []
  -- the first entry of the lowest number is asked how long it waited; 0 where the clock went back; skipped adds up
  pub first_waited : prints 1000 (S 1 1 0 (pos 3) None 7 5 100 ∷ S 1 1 1 (pos 3) None 7 6 900 ∷ S 1 1 0 (pos 5) None 7 7 200 ∷ R nobody 1099 ∷ R nobody 1100 ∷ R nobody 1200 ∷ [])
      ≡ stored' ∷ stored' ∷ stored' ∷ out' [] 0 0 0 0 ∷ out' ((0, 5) ∷ (1, 6) ∷ []) 2 0 0 0 ∷ out' ((0, 7) ∷ []) 3 0 0 0 ∷ []
  pub clock_back : prints 1000 (S 1 1 0 (pos 2) None 7 5 5000 ∷ R nobody 0 ∷ []) ≡ stored' ∷ out' [] 0 0 0 0 ∷ []
  pub no_timeout : prints 0 (S 1 1 0 (pos 2) None 7 5 5000 ∷ R nobody 0 ∷ []) ≡ stored' ∷ out' ((0, 5) ∷ []) 1 0 0 0 ∷ []
  -- ruled out: every counted pair is past every missing number; what is ruled out is not skipped
  pub not_past : prints 1000 (S 1 1 0 (pos 3) None 7 5 0 ∷ H 1 2 (pos 1) (pos 1) (pos 3) None None ∷ R (view (C 1 1 0 ∷ C 1 2 0 ∷ []) (D 1 7 ∷ [])) 0 ∷ G 1 2 0 (pos 1) ∷ R (view (C 1 1 0 ∷ C 1 2 0 ∷ []) (D 1 7 ∷ [])) 0 ∷ [])
      ≡ stored' ∷ ok ∷ out' [] 0 0 0 0 ∷ ok ∷ out' ((0, 5) ∷ []) 0 0 0 0 ∷ []
  pub last_missing : prints 1000 (S 1 1 0 (pos 3) None 7 5 0 ∷ H 1 2 (pos 2) (pos 2) (pos 3) None None ∷ R (view (C 1 1 0 ∷ C 1 2 0 ∷ []) (D 1 7 ∷ [])) 0 ∷ [])
      ≡ stored' ∷ ok ∷ out' [] 0 0 0 0 ∷ []
  -- and the number itself is announced, by any writer
  pub not_announced : prints 1000 (S 1 1 0 (pos 3) None 7 5 0 ∷ H 1 1 (pos 3) (pos 3) (pos 2) None None ∷ R rowed 0 ∷ H 1 2 (pos 3) (pos 3) (pos 3) None None ∷ R rowed 0 ∷ [])
      ≡ stored' ∷ ok ∷ out' [] 0 0 0 0 ∷ ok ∷ out' ((0, 5) ∷ []) 0 0 0 0 ∷ []
  pub stays_announced : prints 1000 (S 1 1 0 (pos 2) None 7 5 0 ∷ H 1 1 (pos 3) (pos 3) (pos 2) None None ∷ H 1 2 (pos 3) (pos 3) (pos 1) None None ∷ R rowed 0 ∷ [])
      ≡ stored' ∷ ok ∷ ok ∷ out' ((0, 5) ∷ []) 0 0 0 0 ∷ []
  -- and every writer's digests are accepted: the last one it sent, of the group's writers, by the group's row
  pub digest_offered : prints 1000 (H 1 1 (pos 3) (pos 3) (pos 2) (Some 8) None ∷ S 1 1 0 (pos 2) None 7 5 0 ∷ R rowed 0 ∷ [])
      ≡ ok ∷ stored' ∷ out' ((0, 5) ∷ []) 0 0 0 0 ∷ []
  pub digest_kept : prints 1000 (S 1 1 0 (pos 2) None 7 5 0 ∷ H 1 1 (pos 3) (pos 3) (pos 2) (Some 8) None ∷ H 1 1 (pos 3) (pos 3) (pos 2) None None ∷ R rowed 0 ∷ [])
      ≡ stored' ∷ ok ∷ ok ∷ out' [] 0 0 0 0 ∷ []
  pub digest_elsewhere : prints 1000 (H 2 1 (pos 0) (pos 0) (pos 0) (Some 8) (Some 1) ∷ S 1 1 0 (pos 2) None 7 5 0 ∷ H 1 1 (pos 3) (pos 3) (pos 2) None None ∷ R rowed 0 ∷ [])
      ≡ ok ∷ stored' ∷ ok ∷ out' ((0, 5) ∷ []) 0 0 0 0 ∷ []
  pub digest_uncounted : prints 1000 (H 1 2 (pos 0) (pos 0) (pos 0) (Some 8) None ∷ S 1 1 0 (pos 2) None 7 5 0 ∷ H 1 1 (pos 3) (pos 3) (pos 2) None None ∷ R rowed 0 ∷ [])
      ≡ ok ∷ stored' ∷ ok ∷ out' [] 0 0 0 0 ∷ []
  pub secure_cleared : prints 1000 (S 1 1 0 (pos 2) None 7 5 0 ∷ H 1 1 (pos 3) (pos 3) (pos 2) None (Some 1) ∷ R rowed 0 ∷ H 1 1 (pos 3) (pos 3) (pos 2) None None ∷ R rowed 0 ∷ [])
      ≡ stored' ∷ ok ∷ out' [] 0 0 0 0 ∷ ok ∷ out' ((0, 5) ∷ []) 0 0 0 0 ∷ []
  pub secure_zero : prints 1000 (S 1 1 0 (pos 2) None 7 5 0 ∷ H 1 1 (pos 3) (pos 3) (pos 2) None (Some 0) ∷ R rowed 0 ∷ [])
      ≡ stored' ∷ ok ∷ out' ((0, 5) ∷ []) 0 0 0 0 ∷ []
  pub four_bytes : accepted (replicate 11 0 ++ (1 ∷ replicate 4 0)) [] (Some 7) ≡ true
  pub fifth_byte : accepted (replicate 12 0 ++ (1 ∷ replicate 3 0)) [] (Some 7) ≡ false
  pub own_row : accepted (guid 1) (D 2 8 ∷ D 1 7 ∷ []) (Some 7) ≡ true
  pub other_row : accepted (guid 1) (D 2 7 ∷ []) (Some 7) ≡ false
  pub no_digest : accepted (guid 1) [] None ≡ true
  -- copies arrived: at each counted reader of the entry's writer, from whatever writer, or it is past
  pub copy_missing : prints 1000 (S 1 1 0 (pos 1) None 7 5 0 ∷ R (view (C 1 1 0 ∷ C 1 1 1 ∷ C 1 2 2 ∷ []) []) 0 ∷ S 1 1 1 (pos 1) None 7 6 0 ∷ R (view (C 1 1 0 ∷ C 1 1 1 ∷ C 1 2 2 ∷ []) []) 0 ∷ [])
      ≡ stored' ∷ out' [] 0 0 0 0 ∷ stored' ∷ out' ((0, 5) ∷ (1, 6) ∷ []) 0 0 0 0 ∷ []
  pub copy_of_another : prints 1000 (S 1 1 0 (pos 1) None 7 5 0 ∷ S 1 2 1 (pos 1) None 7 6 0 ∷ R (view (C 1 1 0 ∷ C 1 1 1 ∷ []) []) 0 ∷ [])
      ≡ stored' ∷ stored' ∷ out' ((0, 5) ∷ (1, 6) ∷ []) 0 0 0 0 ∷ []
  pub copy_past : prints 1000 (S 1 1 0 (pos 1) None 7 5 0 ∷ G 1 1 1 (pos 1) ∷ R (view (C 1 1 0 ∷ C 1 1 1 ∷ []) []) 0 ∷ [])
      ≡ stored' ∷ ok ∷ out' ((0, 5) ∷ []) 0 0 0 0 ∷ []
  pub each_entry : prints 1000 (S 1 2 0 (pos 1) None 7 5 0 ∷ S 1 1 0 (pos 1) None 7 6 0 ∷ R (view (C 1 1 1 ∷ []) []) 0 ∷ [])
      ≡ stored' ∷ stored' ∷ out' [] 0 0 0 0 ∷ []
  pub copy_elsewhere : prints 1000 (S 2 1 1 (pos 1) None 7 4 0 ∷ S 1 1 0 (pos 1) None 7 5 0 ∷ R (view (C 1 1 1 ∷ C 2 1 0 ∷ []) []) 0 ∷ [])
      ≡ stored' ∷ stored' ∷ out' [] 0 0 0 0 ∷ []
  -- where what is missing is ruled out and a copy is not there, the number waits; timed out, it counts as skipped
  pub ruled_not_copied : prints 1000 (S 1 1 0 (pos 2) None 7 5 0 ∷ H 1 1 (pos 3) (pos 3) (pos 2) None None ∷ R (view (C 1 1 0 ∷ C 1 1 1 ∷ []) (D 1 7 ∷ [])) 0 ∷ R (view (C 1 1 0 ∷ C 1 1 1 ∷ []) (D 1 7 ∷ [])) 1000 ∷ [])
      ≡ stored' ∷ ok ∷ out' [] 0 0 0 0 ∷ out' ((0, 5) ∷ []) 1 0 0 0 ∷ []

pub release_figures : ReleaseFigures
unfolding prints run two held ending emptied accepted malformed release_refusal place_of waiting nothing_waits
release_figures = record {
  rows_256 = refl;
  rows_257 = refl;
  digests_8 = refl;
  digests_9 = refl;
  row_seven = refl;
  row_eight = refl;
  unlike = refl;
  unlike_groups = refl;
  nine_first = refl;
  room_for_samples = refl;
  no_room = refl;
  room_for_members = refl;
  no_room_held = refl;
  placed = refl;
  unplaced = refl;
  waiting_pending = refl;
  waiting_held = refl;
  waiting_other = refl;
  held_other = refl;
  waiting_seven = refl;
  waiting_eight = refl;
  end_waits = refl;
  member_waits = refl;
  empty_idle = refl;
  in_turn = refl;
  offer_order = refl;
  groups_served = refl;
  first_waited = refl;
  clock_back = refl;
  no_timeout = refl;
  not_past = refl;
  last_missing = refl;
  not_announced = refl;
  stays_announced = refl;
  digest_offered = refl;
  digest_kept = refl;
  digest_elsewhere = refl;
  digest_uncounted = refl;
  secure_cleared = refl;
  secure_zero = refl;
  four_bytes = refl;
  fifth_byte = refl;
  own_row = refl;
  other_row = refl;
  no_digest = refl;
  copy_missing = refl;
  copy_of_another = refl;
  copy_past = refl;
  each_entry = refl;
  copy_elsewhere = refl;
  ruled_not_copied = refl;
}
