-- Figures of the page of all groups and readers (specs/Page.antt).
use Prim.Native.Nat.{ℕ}
use mathlib.Core.Path.{◌≡◌, refl}
use mathlib.Core.List.{List, [], ◌∷◌}
use Rattle.std.specs.Prelude.{Option, Some, None}
use lib.IntN.{pos}
use lib.ListN.{get_or}
use Rattle.laws.specs.Answer.{refused, answered}
use Rattle.laws.specs.Lists.{index_of}
use Rattle.rules.specs.State.{fresh}
use Rattle.rules.specs.Run.{Call, run}
use Rattle.rules.specs.Page.{Row, Page, empty_row, start_rows, at_row, row_of, read_entry, read_all, page_of, page}
use Rattle.rules.proofs.Figures.{S, E, R, both, prints}

-- group 1 has reader 0's sample held in a set, its kept end and a pending sample; group 2 an end and reader 3's samples pending
abbrev stocked : List (Call ℕ)
stocked =
    S 2 1 3 (pos 5) None 7 1 6 ∷ S 2 1 3 (pos 4) None 7 2 8 ∷ E 2 1 3 (pos 6) None 7 None None 1 ∷ S 1 1 0 (pos 1) (Some (pos 1)) 7 9 4
    ∷ E 1 1 0 (pos 1) (Some (pos 1)) 7 None None 2 ∷ R both 8 ∷ S 1 1 0 (pos 3) None 7 9 7 ∷ []

unfoldable pub filled : Page
unfolding prints run page_of read_all read_entry row_of at_row start_rows empty_row index_of
filled = page_of (run (fresh 1000) stocked)

abbrev row : ℕ → ℕ → Option ℕ → Option Row
row p h o = Some (record { pending = p; held = h; oldest = o })

pub record PageFigures : Type 0 where
  -- groups in the order of their GUIDs, readers ascending; samples alone, the oldest offer of both kinds
  pub first_row : get_or filled.rows 0 None ≡ row 1 1 (Some 4)
  pub second_row : get_or filled.rows 1 None ≡ row 0 0 None
  pub other_group : get_or filled.rows 11 None ≡ row 2 0 (Some 6)
  pub last_known : get_or filled.rows 15 None ≡ row 0 0 None
  -- rows past the last known group are absent
  pub unknown : get_or filled.rows 16 None ≡ None
  pub last_row : get_or filled.rows 63 None ≡ None
  -- six entries are stored and read
  pub entries : filled.read ≡ 6
  pub room_63 : page (fresh {X = ℕ} 1000) 63 ≡ refused 5
  pub room_64 : page (fresh {X = ℕ} 1000) 64 ≡ answered (page_of (fresh {X = ℕ} 1000))

pub page_figures : PageFigures
unfolding filled page
page_figures = record { first_row = refl; second_row = refl; other_group = refl; last_known = refl; unknown = refl; last_row = refl; entries = refl; room_63 = refl; room_64 = refl }
