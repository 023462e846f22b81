-- Open sets of a group: whether one is ended, whether it is whole.
use Rattle.std.specs.Prelude.{ℕ, Bool, true, false, ◌&&◌, not, cond, List, [], ◌∷◌, ℤ, pos, ◌-ℤ◌, eqb}
use Rattle.std.specs.Prelude.{Option, Some, None}
use Rattle.std.specs.Int.Signed.{lt_z}
use Rattle.laws.specs.Whole.{eq_z}
use Rattle.laws.specs.Lists.{filter, list_all, list_any, count, find}
use Rattle.guids.specs.Guid.{Guid}
use Rattle.rules.specs.Entry.{What, Sample, End, Entry, of_group, in_set, is_member, is_end_of, of_pair, marks, same_set}
use Rattle.rules.specs.Offer.{shares}
-- a counted row (document 01, Forms)
pub use Rattle.rules.specs.declared.view.Pair.{Pair}

abbrev pub lesser : Option ℤ → Option ℤ → Option ℤ
lesser None b = b
lesser (Some a) None = Some a
lesser (Some a) (Some b) = Some (cond (lt_z b a) b a)

-- first and own number present: members = own − first, over whole numbers; first absent: zero members; own absent: agrees
-- (document 01, Finish; DDSI-RTPS 2.5 §8.7.6)
abbrev pub agrees_end : ℕ → Option ℤ → Option ℤ → Bool
agrees_end m None o = eqb m 0
agrees_end m (Some f) None = true
agrees_end m (Some f) (Some o) = eq_z (pos m) (o -ℤ f)

module _ {X : Type 0} where
  -- the lowest set number among entries
  unfoldable pub lowest_set : List (Entry X) → Option ℤ
  lowest_set [] = None
  lowest_set (e ∷ l) = lesser e.set (lowest_set l)

  -- the ended set with the lowest set number (document 01, release, step 1)
  unfoldable pub lowest_ended : Guid → List (Entry X) → Option ℤ
  lowest_ended g l = lowest_set (filter (λ h. of_group g h && marks h) l)

  -- a counted pair's end is missing (document 01, release, step 1; DDSI-RTPS 2.5 §8.7.6)
  unfoldable pub end_missing : Guid → ℤ → List Pair → List (Entry X) → Bool
  end_missing g z ps l = list_any (λ p. not (list_any (λ h. is_end_of g z p.writer p.reader h) l)) ps

  unfoldable pub members_of : Guid → ℤ → List (Entry X) → List (Entry X)
  members_of g z l = filter (λ h. is_member g z h) l

  unfoldable pub members_of_pair : Guid → ℤ → Pair → List (Entry X) → ℕ
  members_of_pair g z p l = count (λ h. is_member g z h && of_pair p.writer p.reader h) l

  abbrev pub agrees_w : ℕ → What X → Bool
  agrees_w m (Sample x) = true
  agrees_w m (End u) = agrees_end m u.first u.own

  abbrev pub agrees_e : ℕ → Option (Entry X) → Bool
  agrees_e m None = false
  agrees_e m (Some e) = agrees_w m e.what

  -- the pair's end is there and agrees with the pair's members
  unfoldable pub agrees : Guid → ℤ → List (Entry X) → Pair → Bool
  agrees g z l p = agrees_e (members_of_pair g z p l) (find (λ h. is_end_of g z p.writer p.reader h) l)

  -- whole: no end is missing and each counted pair's end agrees; with no counted pair it is (document 01, Finish; DDSI-RTPS 2.5 §8.7.6)
  unfoldable pub whole : Guid → ℤ → List Pair → List (Entry X) → Bool
  whole g z ps l = not (end_missing g z ps l) && list_all (λ p. agrees g z l p) ps

  unfoldable pub without : Guid → ℤ → List (Entry X) → List (Entry X)
  without g z l = filter (λ h. not (in_set g z h)) l

  -- h's set is neither ended nor e's (document 01, release, step 3)
  unfoldable pub is_stale : Entry X → List (Entry X) → Entry X → Bool
  is_stale e l h = of_group e.group h && not (list_any (λ m. shares h m && marks m) l) && not (same_set e.set h.set)

  unfoldable pub lowest_stale : Entry X → List (Entry X) → Option ℤ
  lowest_stale e l = lowest_set (filter (λ h. is_stale e l h) l)
