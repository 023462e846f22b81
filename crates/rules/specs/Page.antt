-- The page of all groups and readers (document 02, U5): one walk over the stored entries fills 64 rows and counts its steps.
use Rattle.std.specs.Prelude.{ℕ, zero, suc, ◌+◌, ◌*◌, min, Bool, true, false, ◌&&◌, cond, List, [], ◌∷◌, ◌++◌, map, ltb, eqb, replicate}
use Rattle.std.specs.Prelude.{Option, Some, None}
use Rattle.laws.specs.Answer.{Answer, refused, answered}
use Rattle.laws.specs.Lists.{filter, count, index_of}
use Rattle.guids.specs.Guid.{Guid}
use Rattle.rules.specs.Entry.{Entry, is_sample, of_group}
use Rattle.rules.specs.State.{State, Group, is_group}

-- of a group and a reader: the samples pending, those held in sets, and their oldest offer time
pub record Row : Type 0 where
  pub pending : ℕ
  pub held : ℕ
  pub oldest : Option ℕ

-- the rows, none where no group is known, and the entries read
pub record Page : Type 0 where
  pub rows : List (Option Row)
  pub read : ℕ

unfoldable pub empty_row : Row
empty_row = record { pending = 0; held = 0; oldest = None }

-- eight rows for each of k places for groups: the known groups', and absent ones behind
unfoldable pub start_rows : ℕ → List Group → List (Option Row)
start_rows zero gs = []
start_rows (suc k) [] = replicate 8 None ++ start_rows k []
start_rows (suc k) (g ∷ gs) = replicate 8 (Some empty_row) ++ start_rows k gs

abbrev pub older : ℕ → Option ℕ → Option ℕ
older t None = Some t
older t (Some s) = Some (min s t)

-- one sample more, offered at that time: pending or held
abbrev pub counted : Bool → ℕ → Row → Row
counted true t r = record { pending = suc r.pending; held = r.held; oldest = older t r.oldest }
counted false t r = record { pending = r.pending; held = suc r.held; oldest = older t r.oldest }

abbrev pub in_row : (Row → Row) → Option Row → Option Row
in_row f None = None
in_row f (Some r) = Some (f r)

-- the row at a place, changed
unfoldable pub at_row : ℕ → (Row → Row) → List (Option Row) → List (Option Row)
at_row i f [] = []
at_row zero f (r ∷ l) = in_row f r ∷ l
at_row (suc i) f (r ∷ l) = r ∷ at_row i f l

module _ {X : Type 0} where
  -- groups in the order of their GUIDs, readers ascending
  unfoldable pub row_of : List Group → Entry X → ℕ
  row_of gs e = 8 * index_of (λ g. is_group e.group g) gs + e.reader

  -- an entry is read: a sample is counted in its row
  unfoldable pub read_entry : Bool → List Group → Entry X → Page → Page
  read_entry b gs e p = record {
    rows = cond (is_sample e) (at_row (row_of gs e) (counted b e.time) p.rows) p.rows;
    read = suc p.read;
  }

  unfoldable pub read_all : Bool → List Group → List (Entry X) → Page → Page
  read_all b gs [] p = p
  read_all b gs (e ∷ l) p = read_all b gs l (read_entry b gs e p)

  -- the walk: the pending entries, then the held ones
  unfoldable pub page_of : State X → Page
  page_of s =
      read_all false s.groups s.held
      (read_all true s.groups s.pending (record { rows = start_rows 8 s.groups; read = 0 }))

  -- 5: a list of fewer than 64 rows
  unfoldable pub page : State X → ℕ → Answer Page
  page s room = cond (ltb room 64) (refused 5) (answered (page_of s))

-- ---- what a row is, without the walk

-- the oldest of some times
unfoldable pub oldest_of : List ℕ → Option ℕ
oldest_of [] = None
oldest_of (t ∷ l) = older t (oldest_of l)

module _ {X : Type 0} where
  -- a sample of the group at the reader
  unfoldable pub in_cell : Guid → ℕ → Entry X → Bool
  in_cell g r e = is_sample e && (of_group g e && eqb r e.reader)

  unfoldable pub cell : State X → Guid → ℕ → Row
  cell s g r = record {
    pending = count (λ e. in_cell g r e) s.pending;
    held = count (λ e. in_cell g r e) s.held;
    oldest = oldest_of (map (λ e. e.time) (filter (λ e. in_cell g r e) (s.pending ++ s.held)));
  }
