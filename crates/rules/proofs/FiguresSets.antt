-- Figures of coherent sets: which are ended, whole or discarded, and in what order members leave (specs/Sets.antt, Release.antt).
use Prim.Native.Nat.{ℕ}
use mathlib.Core.Path.{◌≡◌, refl}
use mathlib.Core.List.{List, [], ◌∷◌}
use Rattle.std.specs.Prelude.{Option, Some, None}
use lib.IntN.{pos, negsuc}
use Rattle.rules.specs.Entry.{set_end, Entry}
use Rattle.rules.specs.State.{fresh}
use Rattle.rules.specs.Run.{Call, run}
use Rattle.rules.proofs.Figures.{guid, S, E, R, C, view, nobody, alone, both, stored', joined', late', out', prints}

-- what is held after a list of calls
unfoldable pub held_after : List (Call ℕ) → List (Entry ℕ)
unfolding prints run
held_after cs = (run (fresh 1000) cs).held

-- a kept end of set 1 at number 2
abbrev kept : ℕ → ℕ → Option ℕ → Entry ℕ
kept w t m = record { group = guid 1; writer = guid w; reader = 0; number = 2; set = Some (pos 1); what = set_end None None; time = t; ended = m }

pub record SetsFigures : Type 0 where
  -- each counted pair's end is asked, by its own members: of its writer, of its reader, of the set
  pub own_writer : prints 1000 (S 1 1 0 (pos 1) (Some (pos 1)) 7 9 0 ∷ S 1 2 0 (pos 2) (Some (pos 1)) 7 8 0 ∷ E 1 1 0 (pos 3) (Some (pos 1)) 7 (Some (pos 1)) (Some (pos 2)) 0 ∷ R alone 0 ∷ [])
      ≡ stored' ∷ stored' ∷ stored' ∷ out' ((0, 9) ∷ (0, 8) ∷ []) 0 0 0 0 ∷ []
  pub own_reader : prints 1000 (S 1 1 0 (pos 1) (Some (pos 1)) 7 9 0 ∷ S 1 1 1 (pos 2) (Some (pos 1)) 7 8 0 ∷ E 1 1 0 (pos 3) (Some (pos 1)) 7 (Some (pos 1)) (Some (pos 2)) 0 ∷ R alone 0 ∷ [])
      ≡ stored' ∷ stored' ∷ stored' ∷ out' ((0, 9) ∷ (1, 8) ∷ []) 0 0 0 0 ∷ []
  pub own_set : prints 1000 (S 1 1 0 (pos 1) (Some (pos 1)) 7 9 0 ∷ E 1 1 0 (pos 2) (Some (pos 1)) 7 (Some (pos 1)) (Some (pos 2)) 0 ∷ S 1 1 0 (pos 2) (Some (pos 2)) 7 8 0 ∷ R alone 0 ∷ [])
      ≡ stored' ∷ stored' ∷ stored' ∷ out' ((0, 9) ∷ []) 0 0 0 0 ∷ []
  -- one pair's end agrees and the other's does not: discarded, with the members of both
  pub one_disagrees : prints 1000 (S 1 1 0 (pos 1) (Some (pos 1)) 7 9 0 ∷ S 1 2 0 (pos 1) (Some (pos 1)) 7 8 0 ∷ E 1 1 0 (pos 2) (Some (pos 1)) 7 (Some (pos 1)) (Some (pos 2)) 0 ∷ E 1 2 0 (pos 2) (Some (pos 1)) 7 (Some (pos 1)) (Some (pos 3)) 0 ∷ R both 0 ∷ [])
      ≡ stored' ∷ stored' ∷ stored' ∷ stored' ∷ out' [] 0 1 2 0 ∷ []
  -- first present, own absent: agrees; own − first over whole numbers
  pub own_absent : prints 1000 (S 1 1 0 (pos 1) (Some (pos 1)) 7 9 0 ∷ E 1 1 0 (pos 2) (Some (pos 1)) 7 (Some (pos 5)) None 0 ∷ R alone 0 ∷ [])
      ≡ stored' ∷ stored' ∷ out' ((0, 9) ∷ []) 0 0 0 0 ∷ []
  pub below_zero : prints 1000 (S 1 1 0 (pos 1) (Some (negsuc 1)) 7 9 0 ∷ E 1 1 0 (pos 2) (Some (negsuc 1)) 7 (Some (negsuc 0)) (Some (pos 0)) 0 ∷ R alone 0 ∷ [])
      ≡ stored' ∷ stored' ∷ out' ((0, 9) ∷ []) 0 0 0 0 ∷ []
  -- no counted pairs: whole
  pub none_counted : prints 1000 (S 1 1 0 (pos 1) (Some (pos 1)) 7 9 0 ∷ E 1 1 0 (pos 2) (Some (pos 1)) 7 (Some (pos 1)) (Some (pos 9)) 0 ∷ R nobody 0 ∷ [])
      ≡ stored' ∷ stored' ∷ out' ((0, 9) ∷ []) 0 0 0 0 ∷ []
  -- a counted pair of another group is not asked
  pub other_group : prints 1000 (S 1 1 0 (pos 1) (Some (pos 1)) 7 9 0 ∷ E 1 1 0 (pos 2) (Some (pos 1)) 7 (Some (pos 1)) (Some (pos 2)) 0 ∷ R (view (C 1 1 0 ∷ C 2 2 0 ∷ []) []) 0 ∷ [])
      ≡ stored' ∷ stored' ∷ out' ((0, 9) ∷ []) 0 0 0 0 ∷ []
  -- an end missing: held until the first member waited the timeout, whatever came later, then discarded
  pub missing_waits : prints 1000 (S 1 1 0 (pos 1) (Some (pos 1)) 7 9 100 ∷ S 1 1 0 (pos 2) (Some (pos 1)) 7 8 50 ∷ E 1 1 0 (pos 3) (Some (pos 1)) 7 None None 0 ∷ R both 1099 ∷ R both 1100 ∷ [])
      ≡ stored' ∷ stored' ∷ stored' ∷ out' [] 0 0 0 0 ∷ out' [] 0 1 2 0 ∷ []
  -- a set whose ends are all there is finished at once
  pub none_missing : prints 1000 (S 1 1 0 (pos 1) (Some (pos 1)) 7 9 100 ∷ E 1 1 0 (pos 2) (Some (pos 1)) 7 (Some (pos 1)) (Some (pos 3)) 100 ∷ R alone 100 ∷ [])
      ≡ stored' ∷ stored' ∷ out' [] 0 1 1 0 ∷ []
  -- the end of another reader, or of another set, does not stand in for the pair's
  pub reader_missing : prints 1000 (S 1 1 0 (pos 1) (Some (pos 1)) 7 9 0 ∷ E 1 1 1 (pos 2) (Some (pos 1)) 7 None None 0 ∷ R alone 0 ∷ [])
      ≡ stored' ∷ stored' ∷ out' [] 0 0 0 0 ∷ []
  pub set_missing : prints 1000 (S 1 1 0 (pos 1) (Some (pos 1)) 7 9 0 ∷ E 1 1 0 (pos 2) (Some (pos 1)) 7 (Some (pos 1)) (Some (pos 2)) 0 ∷ E 1 2 0 (pos 2) (Some (pos 2)) 7 None None 0 ∷ R both 0 ∷ [])
      ≡ stored' ∷ stored' ∷ stored' ∷ out' [] 0 0 0 0 ∷ []
  -- an ended set without members and with an end missing: a timeout of 0 lets nothing wait
  pub empty_no_timeout : prints 0 (E 1 1 0 (pos 1) (Some (pos 1)) 7 None None 0 ∷ R both 0 ∷ []) ≡ stored' ∷ out' [] 0 1 0 0 ∷ []
  -- of two ended sets the lower is finished first, by sign too
  pub lower_first : prints 1000 (S 1 1 0 (pos 1) (Some (pos 1)) 7 9 0 ∷ E 1 1 0 (pos 2) (Some (pos 1)) 7 None None 0 ∷ S 1 2 0 (pos 2) (Some (pos 2)) 7 8 0 ∷ E 1 2 0 (pos 2) (Some (pos 2)) 7 None None 0 ∷ R nobody 0 ∷ [])
      ≡ stored' ∷ stored' ∷ stored' ∷ stored' ∷ out' ((0, 9) ∷ (0, 8) ∷ []) 0 0 0 0 ∷ []
  pub sign_first : prints 1000 (S 1 1 0 (pos 1) (Some (pos 1)) 7 9 0 ∷ E 1 1 0 (pos 2) (Some (pos 1)) 7 None None 0 ∷ S 1 2 0 (pos 2) (Some (negsuc 1)) 7 8 0 ∷ E 1 2 0 (pos 2) (Some (negsuc 1)) 7 None None 0 ∷ R nobody 0 ∷ [])
      ≡ stored' ∷ stored' ∷ stored' ∷ stored' ∷ out' ((0, 8) ∷ (0, 9) ∷ []) 0 0 0 0 ∷ []
  -- an ended set that waits stops its group, though the next number is ready
  pub ended_first : prints 1000 (S 1 1 0 (pos 1) (Some (pos 1)) 7 9 0 ∷ E 1 1 0 (pos 2) (Some (pos 1)) 7 None None 0 ∷ S 1 1 0 (pos 3) None 7 8 0 ∷ R both 0 ∷ [])
      ≡ stored' ∷ stored' ∷ stored' ∷ out' [] 0 0 0 0 ∷ []
  -- and no other group
  pub stops_own : prints 1000 (S 1 1 0 (pos 1) (Some (pos 1)) 7 9 0 ∷ E 1 1 0 (pos 2) (Some (pos 1)) 7 None None 0 ∷ S 2 1 0 (pos 1) None 7 8 0 ∷ R both 0 ∷ [])
      ≡ stored' ∷ stored' ∷ stored' ∷ out' ((0, 8) ∷ []) 0 0 0 0 ∷ []
  -- a sample of the end's own number discards no ended set
  pub ended_spared : prints 1000 (S 1 1 0 (pos 1) (Some (pos 1)) 7 9 0 ∷ E 1 1 0 (pos 2) (Some (pos 1)) 7 (Some (pos 1)) (Some (pos 2)) 0 ∷ S 1 2 1 (pos 2) None 7 8 0 ∷ R nobody 0 ∷ [])
      ≡ stored' ∷ stored' ∷ stored' ∷ out' ((1, 8) ∷ (0, 9) ∷ []) 0 0 0 0 ∷ []
  -- a member discards other open sets, and not its own
  pub own_spared : prints 1000 (S 1 1 0 (pos 1) (Some (pos 1)) 7 9 0 ∷ S 1 1 0 (pos 2) (Some (pos 2)) 7 8 0 ∷ S 1 1 0 (pos 3) (Some (pos 2)) 7 7 0 ∷ E 1 1 0 (pos 4) (Some (pos 2)) 7 (Some (pos 1)) (Some (pos 3)) 0 ∷ R nobody 0 ∷ [])
      ≡ stored' ∷ stored' ∷ stored' ∷ stored' ∷ out' ((0, 8) ∷ (0, 7) ∷ []) 0 1 1 0 ∷ []
  -- so does a plain sample, and an end without a set, which is dropped; of its own group alone
  pub plain_discards : prints 1000 (S 1 1 0 (pos 1) (Some (pos 1)) 7 9 0 ∷ S 1 1 0 (pos 2) None 7 8 0 ∷ R nobody 0 ∷ [])
      ≡ stored' ∷ stored' ∷ out' ((0, 8) ∷ []) 0 1 1 0 ∷ []
  pub end_discards : prints 1000 (S 1 1 0 (pos 1) (Some (pos 1)) 7 9 0 ∷ E 1 1 0 (pos 2) None 7 None None 0 ∷ R nobody 0 ∷ [])
      ≡ stored' ∷ stored' ∷ out' [] 0 1 1 0 ∷ []
  pub end_dropped : held_after (E 1 1 0 (pos 1) None 7 None None 0 ∷ R nobody 0 ∷ []) ≡ []
  pub group_spared : prints 1000 (S 1 1 0 (pos 1) (Some (pos 1)) 7 9 0 ∷ S 2 1 0 (pos 1) None 7 8 0 ∷ R nobody 0 ∷ E 1 1 0 (pos 2) (Some (pos 1)) 7 None None 0 ∷ R nobody 0 ∷ [])
      ≡ stored' ∷ stored' ∷ out' ((0, 8) ∷ []) 0 0 0 0 ∷ stored' ∷ out' ((0, 9) ∷ []) 0 0 0 0 ∷ []
  -- sets of one number in two groups are two sets
  pub two_groups : prints 1000 (S 1 1 0 (pos 1) (Some (pos 1)) 7 9 0 ∷ S 2 1 0 (pos 1) (Some (pos 1)) 7 8 0 ∷ R nobody 0 ∷ E 1 1 0 (pos 2) (Some (pos 1)) 7 None None 0 ∷ R nobody 0 ∷ [])
      ≡ stored' ∷ stored' ∷ out' [] 0 0 0 0 ∷ stored' ∷ out' ((0, 9) ∷ []) 0 0 0 0 ∷ []
  -- the kept ends of a discarded set are not counted, and leave with it
  pub ends_uncounted : prints 1000 (S 1 1 0 (pos 1) (Some (pos 1)) 7 9 0 ∷ R nobody 0 ∷ E 1 1 0 (pos 1) (Some (pos 1)) 7 None None 0 ∷ S 1 1 0 (pos 2) None 7 8 0 ∷ R nobody 0 ∷ E 1 1 0 (pos 1) (Some (pos 1)) 7 None None 0 ∷ R nobody 0 ∷ [])
      ≡ stored' ∷ out' [] 0 0 0 0 ∷ joined' ∷ stored' ∷ out' ((0, 8) ∷ []) 0 1 1 0 ∷ late' ∷ out' [] 0 1 1 1 ∷ []
  -- members leave in the order of their commits, behind what was handed out before
  pub members_ordered : prints 1000 (S 1 1 0 (pos 2) (Some (pos 1)) 7 51 0 ∷ S 1 1 0 (pos 1) (Some (pos 1)) 7 50 0 ∷ E 1 1 0 (pos 3) (Some (pos 1)) 7 (Some (pos 1)) (Some (pos 3)) 0 ∷ R nobody 0 ∷ [])
      ≡ stored' ∷ stored' ∷ stored' ∷ out' ((0, 50) ∷ (0, 51) ∷ []) 0 0 0 0 ∷ []
  -- the set is marked by the offer time of its first committed end, in offer order; a later end of the pair takes the earlier one's place
  pub marked_first : held_after (E 1 1 0 (pos 2) (Some (pos 1)) 7 None None 5 ∷ E 1 2 0 (pos 2) (Some (pos 1)) 7 None None 3 ∷ R (view (C 1 3 0 ∷ []) []) 1005 ∷ E 1 1 0 (pos 2) (Some (pos 1)) 7 None None 9 ∷ [])
      ≡ kept 2 3 (Some 5) ∷ kept 1 9 (Some 5) ∷ []

pub sets_figures : SetsFigures
unfolding prints run held_after
sets_figures = record {
  own_writer = refl;
  own_reader = refl;
  own_set = refl;
  one_disagrees = refl;
  own_absent = refl;
  below_zero = refl;
  none_counted = refl;
  other_group = refl;
  missing_waits = refl;
  none_missing = refl;
  reader_missing = refl;
  set_missing = refl;
  empty_no_timeout = refl;
  lower_first = refl;
  sign_first = refl;
  ended_first = refl;
  stops_own = refl;
  ended_spared = refl;
  own_spared = refl;
  plain_discards = refl;
  end_discards = refl;
  end_dropped = refl;
  group_spared = refl;
  two_groups = refl;
  ends_uncounted = refl;
  members_ordered = refl;
  marked_first = refl;
}
