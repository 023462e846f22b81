-- Entries by their places, and the readers that they are for.
use Rattle.std.specs.Prelude.{ℕ, ◌^◌, Bool, false, ◌||◌, not, cond, ltb, eqb, List, filter_map, slice_get, option_map, unwrap_or}
use Rattle.std.specs.Int.RustNames.{bit_or}
use Rattle.std.specs.List.{fold}
use Rattle.laws.specs.Lists.{list_any}
use Rattle.guids.specs.Guid.{same_guid}
use Rattle.rules.specs.declared.entry.Entry.{Entry}
use Rattle.rules.specs.declared.view.Pair.{Pair}
use Rattle.rules.specs.Commit.{Turn, pair_past}

-- the entries at some places of a list, in the places' order; past its end there is none
abbrev pub entries_at : List (Entry ℕ) → List ℕ → List (Entry ℕ)
entries_at ps places = filter_map (λ i. slice_get ps i) places

-- the entry at a place passes
abbrev pub passes_at : (Entry ℕ → Bool) → List (Entry ℕ) → ℕ → Bool
passes_at p ps i = unwrap_or (option_map p (slice_get ps i)) false

-- the bit of a reader below 8; none of one above
abbrev pub bit_of : ℕ → ℕ
bit_of r = cond (ltb r 8) (2 ^ r) 0

-- the bit of the reader of the entry at a place
abbrev pub bit_at_place : List (Entry ℕ) → ℕ → ℕ
bit_at_place ps i = unwrap_or (option_map (λ e. bit_of e.reader) (slice_get ps i)) 0

-- the bits of the readers of some entries
unfoldable pub readers_of : List (Entry ℕ) → ℕ
readers_of l = fold (λ m e. bit_or m (bit_of e.reader)) 0 l

-- a counted pair's reader has an entry or is past the number, or its writer has no entry
abbrev pub copied : Turn → ℕ → List (Entry ℕ) → Pair → Bool
copied t n l p = list_any (λ o. eqb p.reader o.reader) l || pair_past t p.writer p.reader n || not (list_any (λ e. same_guid e.writer p.writer) l)
