-- A set is whole when each of its counted pairs agrees: one that agrees has its end.
use Rattle.std.proofs.Common.{◌≡◌, Bool, true, false, not, List, [], ◌∷◌, refl, arith}
use Rattle.std.specs.Prelude.{ℤ, ◌&&◌, ◌||◌, Some, None}
use Rattle.laws.specs.Lists.{list_any, list_all, find, is_some}
use Rattle.laws.proofs.Lists.{find_any}
use Rattle.guids.specs.Guid.{Guid}
use Rattle.rules.specs.declared.entry.Entry.{Entry}
use Rattle.rules.specs.declared.view.Pair.{Pair}
use Rattle.rules.specs.Entry.{is_end_of}
use Rattle.rules.specs.Sets.{agrees, agrees_e, members_of_pair, end_missing, whole}

-- a first pair with its end where it agrees, before others that are so
first_too : (e a n r : Bool) → e && a ≡ a → not n && r ≡ r → not (not e || n) && (a && r) ≡ a && r
first_too true true n r h k = k
first_too true false true r h k = refl
first_too true false false r h k = refl
first_too false true n r h k = grind arith
first_too false false n r h k = refl

module _ {X : Type 0} (g : Guid) (z : ℤ) (l : List (Entry X)) where
  end_there : (p : Pair) → list_any (λ h. is_end_of g z p.writer p.reader h) l && agrees g z l p ≡ agrees g z l p
  unfolding agrees is_some
  end_there p =
      rw (← find_any (λ h. is_end_of g z p.writer p.reader h) l)
      (elim (find (λ h. is_end_of g z p.writer p.reader h) l) as (λ o. is_some o && agrees_e (members_of_pair g z p l) o ≡ agrees_e (members_of_pair g z p l) o) [ None ↦ refl | Some h ↦ refl ])

  pub whole_all : (ps : List Pair) → whole g z ps l ≡ list_all (λ p. agrees g z l p) ps
  unfolding whole end_missing
  whole_all [] = refl
  whole_all (p ∷ ps) = first_too _ _ _ _ (end_there p) (whole_all ps)
