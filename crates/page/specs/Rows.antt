-- The rows of the code, and how many samples each counts.
use Rattle.std.specs.Prelude.{ℕ, ◌≡◌, ◌+◌, ◌≤◌, Bool, List, [], ◌∷◌, map, Option, Some, None, option_map}
use Rattle.rules.specs.declared.entry.Entry.{Entry}
use Rattle.rules.specs.declared.state.Group.{Group}
use Rattle.rules.specs.Page.{Page, read_all}
use Rattle.rules.specs.Page as P
use Rattle.page.specs.declared.row.Row.{Row}

abbrev pub row_as : Row → P.Row
row_as r = record { pending = r.pending; held = r.held; oldest = r.oldest }

abbrev pub rows_as : List (Option Row) → List (Option P.Row)
rows_as l = map (λ o. option_map (λ r. row_as r) o) l

-- at most n samples pending, and at most n held
abbrev pub FewIn : ℕ → Option P.Row → Type 0
FewIn n None = Unit {0}
FewIn n (Some r) = (r.pending ≤ n) × (r.held ≤ n)

-- the same of each row
abbrev pub Few : ℕ → List (Option P.Row) → Type 0
Few n [] = Unit {0}
Few n (o ∷ l) = FewIn n o × Few n l

-- the rows after the entries are read, whatever was read before
abbrev pub ReadRows : Bool → List Group → List (Entry ℕ) → List (Option Row) → List (Option Row) → Type 0
ReadRows b gs es l m = (p : Page) → p.rows ≡ rows_as l → rows_as m ≡ (read_all b gs es p).rows

-- so many entries are read, whatever was read before
abbrev pub ReadCount : Bool → List Group → List (Entry ℕ) → ℕ → Type 0
ReadCount b gs es n = (p : Page) → (read_all b gs es p).read ≡ p.read + n
