-- Figures of the third demand's bound: it is reached, and its conditions ask no more than document 01 does (specs/Claim.antt).
use Prim.Native.Nat.{ℕ}
use mathlib.Core.Path.{◌≡◌, refl}
use mathlib.Core.Bool.{true, ◌&&◌}
use mathlib.Core.List.{List, [], ◌∷◌}
use Rattle.std.specs.Prelude.{Some, None}
use lib.IntN.{pos}
use lib.Dec.{leb}
use Rattle.laws.specs.Lists.{count}
use Rattle.rules.specs.Entry.{of_group}
use Rattle.rules.specs.State.{fresh}
use Rattle.rules.specs.Run.{Call, run}
use Rattle.rules.specs.Names.{named, map_call, map_offer}
use Rattle.rules.specs.Claim.{Counted, finished, passed, counts, clock_holds, never_empty, clock_of, empty_stop, stops_empty, release_time, is_pending, has_name, stores_in, stored_by}
use Rattle.rules.proofs.Figures.{guid, S, E, R, nobody, both, prints}

-- of name k, timeout 10: m counted releases, and so many entries stored with numbers up to n
pub record Reached (cs : List (Call ℕ)) (k n m stored : ℕ) : Type 0 where
  pub clock : clock_holds 0 (fresh 10) (named 0 cs) ≡ true
  pub nonempty : never_empty (fresh 10) (named 0 cs) ≡ true
  pub counted : Counted k None (fresh 10) (named 0 cs) m
  pub bound : count (λ e. of_group (guid 1) e && leb e.number n) (stored_by (fresh 10) (named 0 cs)) ≡ stored

-- a sample of number 5 stays pending through two counted releases, the second a timeout after the first and behind a later sample of number 3
pub bound_reached : Reached (S 1 1 0 (pos 5) None 7 9 0 ∷ R nobody 0 ∷ S 1 1 0 (pos 3) None 7 8 10 ∷ R nobody 10 ∷ []) 0 5 2 2
unfolding prints run clock_holds never_empty clock_of empty_stop stops_empty release_time is_pending has_name stores_in stored_by named map_call map_offer
bound_reached = record { clock = refl; nonempty = refl; counted = passed (counts refl refl refl refl (passed (counts refl refl refl refl finished))); bound = refl }

-- behind an ended set with a member; an end that joins, a late sample, another group and a higher number are not counted, and the clock is not asked of the first two
pub set_reached : Reached (S 1 1 0 (pos 1) (Some (pos 1)) 7 9 0 ∷ E 1 1 0 (pos 2) (Some (pos 1)) 7 None None 0 ∷ S 1 1 0 (pos 3) None 7 8 0
    ∷ S 1 1 0 (pos 4) None 7 7 1 ∷ S 2 1 0 (pos 1) None 7 6 1 ∷ R both 9 ∷ E 1 1 0 (pos 2) (Some (pos 1)) 7 None None 0 ∷ S 1 1 0 (pos 0) None 7 5 0 ∷ []) 2 3 1 3
unfolding prints run clock_holds never_empty clock_of empty_stop stops_empty release_time is_pending has_name stores_in stored_by named map_call map_offer
set_reached = record { clock = refl; nonempty = refl; counted = passed (passed (passed (passed (passed (counts refl refl refl refl (passed (passed finished))))))); bound = refl }
