-- Laws of a field that is made a GUID, or that may be absent.
use Rattle.std.proofs.Common.{◌≡◌, ℕ, ◌-◌, ◌^◌, true, false, List, [], ◌∷◌, Option, Some, None, refl, sym}
use Rattle.std.proofs.lemmas.Option.{none-some}
use Rattle.std.proofs.lemmas.Bool.{false≢true}
use Rattle.fields.specs.Fields.{up_to}
use Rattle.fields.specs.Left.{first_as, is_dash}
use Rattle.call_line.specs.Line.{◌⊛◌, optional, guid_of}
use Rattle.call_line.specs.Taken.{guid_as}

pub guid_none : (l : List (List ℕ)) → None ≡ first_as (λ f. up_to (2 ^ 8 - 1) f) l → None ≡ first_as (λ f. guid_as f) l
unfolding first_as guid_as ◌⊛◌
guid_none [] e = refl
guid_none (f ∷ l) e = rw (← e)

pub guid_some : (k : ℕ) (l : List (List ℕ)) → Some k ≡ first_as (λ f. up_to (2 ^ 8 - 1) f) l → Some (guid_of k) ≡ first_as (λ f. guid_as f) l
unfolding first_as guid_as ◌⊛◌
guid_some k [] e = absurd (none-some k (sym e))
guid_some k (f ∷ l) e = rw (← e)

module _ {A : Type 0} (d : List ℕ → Option A) where
  pub dash_none : (l : List (List ℕ)) → true ≡ is_dash l → Some None ≡ first_as (λ f. optional (d f) f) l
  unfolding first_as is_dash optional
  dash_none [] e = absurd (false≢true (sym e))
  dash_none (f ∷ l) e = rw (← e)

  pub there_none : (l : List (List ℕ)) → false ≡ is_dash l → None ≡ first_as d l → None ≡ first_as (λ f. optional (d f) f) l
  unfolding first_as is_dash optional ◌⊛◌
  there_none [] e h = refl
  there_none (f ∷ l) e h = rw (← e, ← h)

  pub there_some : (a : A) (l : List (List ℕ)) → false ≡ is_dash l → Some a ≡ first_as d l → Some (Some a) ≡ first_as (λ f. optional (d f) f) l
  unfolding first_as is_dash optional ◌⊛◌
  there_some a [] e h = absurd (none-some a (sym h))
  there_some a (f ∷ l) e h = rw (← e, ← h)
