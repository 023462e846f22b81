-- TbfHold and time_after of presentation.rs, function by function; K and S are numbers, and a map is an ascending list (source_model's
-- specs/Map.antt). u128 is whole numbers: with separations of document 01's form no sum of time_after reaches 2^64.
use Rattle.std.specs.Prelude.{ℕ, ◌+◌, ◌-◌, ◌*◌, ◌/◌, ◌%◌, ◌^◌, Bool, cond, List, [], ◌∷◌, map, ℤ, pos, negsuc, ltb, eqb, length}
use Rattle.std.specs.Prelude.{Option, Some, None}
use Rattle.laws.specs.Lists.{filter}
use Rattle.filter_hold.specs.Tbf.{not_after}
use Rattle.filter_hold.specs.declared.tbf.Time.{Time}
use Rattle.source_model.specs.Map.{readers, get, insert, remove}

-- u64::try_from(at.sec).unwrap_or(0)
abbrev pub or_zero : ℤ → ℕ
or_zero (pos n) = n
or_zero (negsuc n) = 0

-- i32::try_from(n).unwrap_or(i32::MAX)
abbrev pub or_max : ℕ → ℕ
or_max n = cond (ltb n (2 ^ 31)) n (2 ^ 31 - 1)

-- time_after
unfoldable pub time_after : Time → ℕ → Time
time_after at nanos =
    let total : ℕ = or_zero at.sec * 1000000000 + at.nanosec + nanos in
    record { sec = pos (or_max (total / 1000000000)); nanosec = total % 1000000000 }

-- BTreeMap<K, (S, Time)>
abbrev pub Hold : Type 0
Hold = List (ℕ × (ℕ × Time))

-- Default
abbrev pub new : Hold
new = []

unfoldable pub hold : Hold → ℕ → ℕ → Time → ℕ → Hold
hold held instance sample arrival minimum_separation_nanos = insert readers instance (sample, time_after arrival minimum_separation_nanos) held

unfoldable pub supersede : Hold → ℕ → Hold
supersede held instance = remove readers instance held

-- filter_map(|k| self.held.remove(&k).map(|(s, _)| (k, s)))
abbrev pub and_item : Option (ℕ × Time) → ℕ → List (ℕ × ℕ) × Hold → List (ℕ × ℕ) × Hold
and_item None k r = r
and_item (Some v) k r = ((k, v.0) ∷ r.0, r.1)

unfoldable pub take_each : List ℕ → Hold → List (ℕ × ℕ) × Hold
take_each [] held = ([], held)
take_each (k ∷ due) held = and_item (get readers k held) k (take_each due (remove readers k held))

-- take_due; Time is ordered by seconds, then nanoseconds (document 01)
unfoldable pub take_due : Hold → Time → List (ℕ × ℕ) × Hold
take_due held now = take_each (map (λ x. x.0) (filter (λ x. not_after x.1.1 now) held)) held

unfoldable pub is_empty : Hold → Bool
is_empty held = eqb (length held) 0

abbrev pub clear : Hold → Hold
clear held = []
