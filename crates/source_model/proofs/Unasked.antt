-- What finish_set would make of an absent end is never asked: where all ends are there, any answer gives the same.
use Prim.Native.Nat.{ℕ}
use mathlib.Core.Path.{◌≡◌, refl, ap, ◌∙◌}
use mathlib.Core.Bool.{Bool, true, false, ◌&&◌}
use mathlib.Core.List.{List, [], ◌∷◌}
use Rattle.std.specs.Prelude.{Option, Some, None}
use lib.Dec.{eqb}
use Rattle.laws.specs.Lists.{list_all, count, is_some}
use Rattle.guids.specs.Guid.{Guid, same_guid}
use Rattle.laws.proofs.Lists.{and_left, and_right, not_both}
use Rattle.source_model.specs.Map.{pairs, get}
use Rattle.source_model.specs.Source.{SetEnd, OpenSet, is_some_and, agrees_with, complete}

abbrev or_else : Bool → (SetEnd → Bool) → Option SetEnd → Bool
or_else d p None = d
or_else d p (Some e) = p e

present : (d : Bool) (p : SetEnd → Bool) (u : Option SetEnd) → is_some u ≡ true → is_some_and p u ≡ or_else d p u
unfolding is_some
present d p None h = not_both false h refl
present d p (Some e) h = refl

module _ {I : Type 0} where
  -- the pair's end agrees, and d where it has none
  unfoldable pub agrees_or : Bool → OpenSet I → Guid × ℕ → Bool
  agrees_or d set pair = or_else d (λ x. agrees_with (count (λ m. same_guid pair.0 m.writer && eqb pair.1 m.reader) set.members) x.first_sn x.ecs_sn) (get pairs pair set.ends)

  each : (d : Bool) (set : OpenSet I) (counted : List (Guid × ℕ)) → list_all (λ p. is_some (get pairs p set.ends)) counted ≡ true
      → list_all (λ pair. is_some_and (λ x. agrees_with (count (λ m. same_guid pair.0 m.writer && eqb pair.1 m.reader) set.members) x.first_sn x.ecs_sn) (get pairs pair set.ends)) counted ≡ list_all (λ p. agrees_or d set p) counted
  unfolding agrees_or
  each d set [] h = refl
  each d set (p ∷ ps) h =
      let f : SetEnd → Bool = λ x. agrees_with (count (λ m. same_guid p.0 m.writer && eqb p.1 m.reader) set.members) x.first_sn x.ecs_sn in
      ap (λ b. b && list_all (λ pair. is_some_and (λ x. agrees_with (count (λ m. same_guid pair.0 m.writer && eqb pair.1 m.reader) set.members) x.first_sn x.ecs_sn) (get pairs pair set.ends)) ps) (present d f (get pairs p set.ends) (and_left (is_some (get pairs p set.ends)) _ h)) ∙ ap (λ b. or_else d f (get pairs p set.ends) && b) (each d set ps (and_right (is_some (get pairs p set.ends)) _ h))

  asked : (d : Bool) (set : OpenSet I) (counted : List (Guid × ℕ)) (b : Bool) → list_all (λ p. is_some (get pairs p set.ends)) counted ≡ b
      → b && list_all (λ pair. is_some_and (λ x. agrees_with (count (λ m. same_guid pair.0 m.writer && eqb pair.1 m.reader) set.members) x.first_sn x.ecs_sn) (get pairs pair set.ends)) counted ≡ b && list_all (λ p. agrees_or d set p) counted
  asked d set counted true e = each d set counted e
  asked d set counted false e = refl

  -- complete is asked with whether all ends are there
  pub absent_unasked : (d : Bool) (set : OpenSet I) (counted : List (Guid × ℕ))
      → complete set counted (list_all (λ p. is_some (get pairs p set.ends)) counted) ≡ list_all (λ p. is_some (get pairs p set.ends)) counted && list_all (λ p. agrees_or d set p) counted
  unfolding complete
  absent_unasked d set counted = asked d set counted (list_all (λ p. is_some (get pairs p set.ends)) counted) refl
