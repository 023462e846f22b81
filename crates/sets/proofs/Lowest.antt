-- The lowest set number, found from the front.
use Rattle.std.proofs.Common.{◌≡◌, List, [], ◌∷◌, Less, Equal, Greater, refl, ap, ◌∙◌, arith}
use Rattle.std.specs.Prelude.{ℤ, Option, Some, None}
use Rattle.std.specs.List.{filter_map, reduce, fold, cons_option}
use Rattle.std.specs.Int.{int_min}
use Rattle.std.specs.Ordering.{int_cmp, min_by_ordering, MatchOrdering}
use Rattle.std.specs.Int.Signed.{◌<ℤ◌}
use Rattle.std.specs.Cmp.{int_ranks}
use Rattle.std.proofs.lemmas.Int.{clamps, ints}
use Rattle.rules.specs.declared.entry.Entry.{Entry}
use Rattle.rules.specs.Sets.{lesser, lowest_set}

-- the lower of two, the first where they are alike
abbrev pub first_min : ℤ → ℤ → ℤ
first_min x y = min_by_ordering (int_cmp x y) x y

first_min_is : (x y : ℤ) → first_min x y ≡ int_min x y
first_min_is x y =
    (elim (int_cmp x y) as (λ o. MatchOrdering o (x <ℤ y) (x ≡ y) (y <ℤ x) → min_by_ordering o x y ≡ int_min x y) [ Less ↦ λ h. omega (arith, clamps, ints) | Equal ↦ λ h. omega (arith, clamps, ints) | Greater ↦ λ h. omega (arith, clamps, ints) ]) (int_ranks x y)

min_assoc : (x y z : ℤ) → int_min (int_min x y) z ≡ int_min x (int_min y z)
min_assoc x y z = omega (arith, clamps, ints)

lesser_min : (x y : ℤ) (o : Option ℤ) → lesser (Some (first_min x y)) o ≡ lesser (Some x) (lesser (Some y) o)
lesser_min x y None = ap Some (first_min_is x y)
lesser_min x y (Some z) = ap (λ m. Some (int_min m z)) (first_min_is x y) ∙ ap Some (min_assoc x y z)

module _ {X : Type 0} where
  lowest_from : (x : ℤ) (l : List (Entry X)) → Some (fold first_min x (filter_map (λ h. h.set) l)) ≡ lesser (Some x) (lowest_set l)
  unfolding lowest_set
  lowest_from x [] = refl
  lowest_from x (e ∷ l) =
      elim e.set as (λ s. Some (fold first_min x (cons_option s (filter_map (λ h. h.set) l))) ≡ lesser (Some x) (lesser s (lowest_set l))) [
        | None ↦ lowest_from x l
        | Some y ↦ lowest_from (first_min x y) l ∙ lesser_min x y (lowest_set l)
      ]

  pub lowest_reduce : (l : List (Entry X)) → reduce first_min (filter_map (λ h. h.set) l) ≡ lowest_set l
  unfolding lowest_set
  lowest_reduce [] = refl
  lowest_reduce (e ∷ l) =
      elim e.set as (λ s. reduce first_min (cons_option s (filter_map (λ h. h.set) l)) ≡ lesser s (lowest_set l)) [
        | None ↦ lowest_reduce l
        | Some y ↦ lowest_from y l
      ]
