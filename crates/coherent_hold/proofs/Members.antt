-- Which members leave: what the tests of the code say, and lists under them.
use Prim.Native.Nat.{◌≤◌, ◌<◌}
use mathlib.Core.Path.{◌≡◌, refl, sym, ap, ◌∙◌}
use mathlib.Core.Bool.{Bool, true, false, ◌||◌, not, cond}
use mathlib.Core.List.{List, [], ◌∷◌, map}
use native.Mathlib.Omega.{arith}
use lib.Dec.{eqb, eqb-suc-zero}
use lib.ListN.{length-map}
use borrow.Author.Tests.{lt-leb, both_ways}
use lib.IntN.{ℤ, pos, negsuc}
use Rattle.std.specs.Prelude.{Option, Some, None, nat_eq, filter}
use Rattle.std.specs.List.{list_any}
use Rattle.std.specs.Option.{option_eq}
use Rattle.std.specs.Ordering.{int_eq}
use Rattle.std.specs.Cmp.Lexicographic.{pointwise, bytes_decides}
use Rattle.std.proofs.Common.{length}
use Rattle.std.proofs.lemmas.Bool.Decides.{nat_tests}
use Rattle.laws.specs.Whole.{eq_z}
use Rattle.laws.specs.Lists.{filter, count}
use Rattle.guids.specs.Guid.{Guid, same_guid}
use Rattle.guids.proofs.Guids.{same_refl, same_eq}
use Rattle.laws.proofs.Lists.{true_or_false, count_map, keep_map, length_keep}
use Rattle.coherent_hold.specs.Gate.{Item, same_mark, leaves, is_full, member_as}
use Rattle.coherent_hold.specs.declared.items.Member.{Member}

pub same_bytes : (a b : Guid) → pointwise nat_eq a b ≡ same_guid a b
same_bytes a b =
    (elim (pointwise nat_eq a b) as (λ t. pointwise nat_eq a b ≡ t → t ≡ same_guid a b) [
      | true ↦ λ e. sym (ap (λ x. same_guid x b) ((bytes_decides a b).0 e) ∙ same_refl b)
      | false ↦ λ e. sym (true_or_false (same_guid a b) (λ h. both_ways (pointwise nat_eq a b) e ((bytes_decides a b).1 (same_eq a b h))))
    ]) refl

same_int : (x y : ℤ) → int_eq x y ≡ eq_z x y
same_int (pos a) (pos b) = grind (arith, nat_tests)
same_int (pos a) (negsuc b) = refl
same_int (negsuc a) (pos b) = refl
same_int (negsuc a) (negsuc b) = grind (arith, nat_tests)

pub same_set : (s : Option ℤ) (z : ℤ) → option_eq int_eq s (Some z) ≡ same_mark s (Some z)
same_set None z = refl
same_set (Some x) z = same_int x z

module _ {A : Type 0} (p : A → Bool) where
  -- none passes
  none_count : (l : List A) → eqb (count p l) 0 ≡ not (list_any p l)
  unfolding count
  none_count [] = refl
  none_count (x ∷ l) =
      (elim (p x) as (λ b. eqb (length (cond b (x ∷ filter p l) (filter p l))) 0 ≡ not (b || list_any p l)) [ true ↦ eqb-suc-zero (length (filter p l)) | false ↦ none_count l ])

-- none of the members leaves
none_leaves : (w : Guid) (s : Option ℤ) (l : List Member) → eqb (count (λ h. leaves w s h) (map (λ m. member_as m) l)) 0 ≡ not (list_any (λ m. leaves w s (member_as m)) l)
none_leaves w s l = ap (λ n. eqb n 0) (count_map (λ h. leaves w s h) (λ m. member_as m) l) ∙ none_count (λ m. leaves w s (member_as m)) l

-- the members that pass, as items
pub kept_members : (p : Item → Bool) (l : List Member) → map (λ m. member_as m) (filter (λ m. p (member_as m)) l) ≡ filter p (map (λ m. member_as m) l)
kept_members p l = sym (keep_map p (λ m. member_as m) l)

-- 64 are held: full where none leaves
module _ (l : List Member) (m : Member) where
  pub full_where : (b : Bool) → length l ≡ 64 → b ≡ list_any (λ x. leaves m.writer (Some m.set) (member_as x)) l → not b ≡ is_full (map (λ x. member_as x) l) (member_as m)
  unfolding is_full
  full_where b e h = rw (none_leaves m.writer (Some m.set) l, length-map, e, h)

  pub full_never : length l < 64 → false ≡ is_full (map (λ x. member_as x) l) (member_as m)
  unfolding is_full
  full_never h = rw (length-map, lt-leb 64 (length l) h)

-- as many members as items
pub as_many : (r : List Member) (x : List Item) → map (λ m. member_as m) r ≡ x → length r ≡ length x
as_many r x e = sym (length-map r (λ m. member_as m)) ∙ ap length e

pub no_more : (r : List Member) (p : Item → Bool) (l : List Item) → map (λ m. member_as m) r ≡ filter p l → length r ≤ length l
no_more r p l e = omega (arith, as_many r (filter p l) e, length_keep p l)

-- the items of a slice of those members
pub shown : (d r : List Member) (x : List Item) → d ≡ r → map (λ m. member_as m) r ≡ x → map (λ m. member_as m) d ≡ x
shown d r x e f = ap (map (λ m. member_as m)) e ∙ f
