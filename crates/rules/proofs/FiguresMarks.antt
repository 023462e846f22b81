-- Figures of what offers, heartbeats and gaps tell: the marks of each writer and group, and what is past (specs/Marks.antt).
use Prim.Native.Nat.{ℕ}
use mathlib.Core.Path.{◌≡◌, refl}
use mathlib.Core.Bool.{true, false}
use mathlib.Core.List.{List, [], ◌∷◌, map}
use Rattle.std.specs.Prelude.{Option, Some, None}
use lib.IntN.{pos, negsuc}
use lib.ListN.{replicate}
use Rattle.rules.specs.State.{Group, Writer, fresh}
use Rattle.rules.specs.Marks.{past, past_of}
use Rattle.rules.specs.Run.{Call, run}
use Rattle.rules.proofs.Figures.{guid, S, H, G, prints, told}

-- the writers after a list of calls
unfoldable pub writers_of : List (Call ℕ) → List Writer
unfolding prints run
writers_of cs = (run (fresh 1000) cs).writers

unfoldable pub groups_of : List (Call ℕ) → List Group
unfolding prints run
groups_of cs = (run (fresh 1000) cs).groups

-- a writer of group 1 that was told this
abbrev writer : ℕ → List ℕ → List ℕ → ℕ → ℕ → ℕ → Option ℕ → Option ℕ → Writer
writer w s g f l c d e = record { group = guid 1; writer = guid w; seen = s; gaps = g; first = f; last = l; current = c; digest = d; secure = e }

abbrev zeros : List ℕ
zeros = replicate 8 0

pub record MarksFigures : Type 0 where
  -- seen is raised for its reader and never lowered, by samples and ends; the last digest is kept
  pub seen_raised : writers_of (S 1 1 1 (pos 5) None 7 0 0 ∷ S 1 1 1 (pos 3) None 8 0 0 ∷ S 1 1 7 (pos 2) None 9 0 0 ∷ [])
      ≡ writer 1 (0 ∷ 5 ∷ 0 ∷ 0 ∷ 0 ∷ 0 ∷ 0 ∷ 2 ∷ []) zeros 0 0 0 (Some 9) None ∷ []
  -- so is a gap end
  pub gap_raised : writers_of (G 1 1 2 (pos 4) ∷ G 1 1 2 (pos 3) ∷ G 1 1 7 (pos 1) ∷ G 1 1 0 (negsuc 5) ∷ [])
      ≡ writer 1 zeros (0 ∷ 0 ∷ 4 ∷ 0 ∷ 0 ∷ 0 ∷ 0 ∷ 1 ∷ []) 0 0 0 None None ∷ []
  -- a heartbeat replaces range, current number and secure digest, and leaves the marks of offers and gaps
  pub beat_replaces : writers_of (S 1 1 1 (pos 5) None 7 0 0 ∷ G 1 1 2 (pos 4) ∷ H 1 1 (pos 8) (pos 9) (pos 12) (Some 6) (Some 3) ∷ H 1 1 (pos 4) (pos 6) (pos 10) None None ∷ [])
      ≡ writer 1 (0 ∷ 5 ∷ replicate 6 0) (0 ∷ 0 ∷ 4 ∷ replicate 5 0) 4 6 10 (Some 6) None ∷ []
  -- offers and gaps leave what a heartbeat told
  pub others_leave : writers_of (H 1 1 (pos 4) (pos 6) (pos 10) (Some 6) (Some 3) ∷ S 1 1 1 (pos 5) None 7 0 0 ∷ G 1 1 2 (pos 4) ∷ [])
      ≡ writer 1 (0 ∷ 5 ∷ replicate 6 0) (0 ∷ 0 ∷ 4 ∷ replicate 5 0) 4 6 10 (Some 7) (Some 3) ∷ []
  -- each pair of group and writer has its own marks
  pub each_writer : writers_of (G 1 1 0 (pos 1) ∷ G 1 2 0 (pos 2) ∷ G 2 1 0 (pos 3) ∷ G 1 2 0 (pos 4) ∷ [])
      ≡ writer 1 (zeros) (1 ∷ replicate 7 0) 0 0 0 None None ∷ writer 2 zeros (4 ∷ replicate 7 0) 0 0 0 None None ∷ record { group = guid 2; writer = guid 1; seen = zeros; gaps = 3 ∷ replicate 7 0; first = 0; last = 0; current = 0; digest = None; secure = None } ∷ []
  -- the announced number is raised by current alone, and never lowered; groups stand in the order of their GUIDs
  pub announced_raised : groups_of (H 2 1 (pos 4) (pos 20) (pos 10) None None ∷ H 2 2 (pos 4) (pos 6) (pos 8) None None ∷ H 3 1 (pos 1) (pos 1) (negsuc 3) None None ∷ G 1 1 0 (pos 5) ∷ S 1 1 0 (pos 5) None 7 0 0 ∷ [])
      ≡ record { guid = guid 1; committed = 0; announced = 0 } ∷ record { guid = guid 2; committed = 0; announced = 10 } ∷ record { guid = guid 3; committed = 0; announced = 0 } ∷ []
  -- the range's first and last number are not past, nor is current; before a heartbeat nothing is
  pub past_three : past_of told 0 3 ≡ true
  pub not_four : past_of told 0 4 ≡ false
  pub past_below : past_of told 7 1 ≡ true
  pub unknown_none : past_of None 0 1 ≡ false
  -- past is seen > n, or gap end >= n, each of its own reader
  pub seen_past : map (λ w. past w 1 4) (writers_of (S 1 1 1 (pos 5) None 7 0 0 ∷ [])) ≡ true ∷ []
  pub seen_open : map (λ w. past w 1 5) (writers_of (S 1 1 1 (pos 5) None 7 0 0 ∷ [])) ≡ false ∷ []
  pub seen_own : map (λ w. past w 0 4) (writers_of (S 1 1 1 (pos 5) None 7 0 0 ∷ [])) ≡ false ∷ []
  pub gap_past : map (λ w. past w 2 4) (writers_of (G 1 1 2 (pos 4) ∷ [])) ≡ true ∷ []
  pub gap_open : map (λ w. past w 2 5) (writers_of (G 1 1 2 (pos 4) ∷ [])) ≡ false ∷ []
  pub gap_own : map (λ w. past w 0 4) (writers_of (G 1 1 2 (pos 4) ∷ [])) ≡ false ∷ []

pub marks_figures : MarksFigures
unfolding prints run writers_of groups_of past past_of told
marks_figures = record {
  seen_raised = refl;
  gap_raised = refl;
  beat_replaces = refl;
  others_leave = refl;
  each_writer = refl;
  announced_raised = refl;
  past_three = refl;
  not_four = refl;
  past_below = refl;
  unknown_none = refl;
  seen_past = refl;
  seen_open = refl;
  seen_own = refl;
  gap_past = refl;
  gap_open = refl;
  gap_own = refl;
}
