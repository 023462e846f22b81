-- The readers of some entries, by bits.
use Rattle.std.proofs.Common.{◌≡◌, ℕ, ◌*◌, ◌^◌, ◌<◌, max, Bool, true, false, not, ◌||◌, cond, eqb, ltb, List, [], ◌∷◌, bit_and, bit_or, fold, unwrap_or, option_map, slice_get, Some, None, refl, ap, ◌∙◌, arith, pow_pos, zero-mul}
use Rattle.std.specs.Int.{bit_at}
use Rattle.std.proofs.lemmas.Nat.Bits.{bit_at_or, bit_at-pow_same, bit_at-pow_other, bit_at-zero, and_pow}
use borrow.Author.Tests.{ne_eqb, lt-ltb, eqb-true, eqb-false}
use Rattle.std.specs.List.{cons_option}
use Rattle.std.specs.Int.Bits.{or_zero_r}
use Rattle.laws.specs.Lists.{list_any}
use Rattle.rules.specs.declared.entry.Entry.{Entry}
use Rattle.ready.specs.Places.{entries_at, passes_at, bit_of, bit_at_place, readers_of}

module _ (ps : List (Entry ℕ)) where
  fold_there : (m : ℕ) (places : List ℕ) → fold (λ b i. bit_or b (bit_at_place ps i)) m places ≡ fold (λ b e. bit_or b (bit_of e.reader)) m (entries_at ps places)
  fold_there m [] = refl
  fold_there m (i ∷ places) =
      elim (slice_get ps i) as (λ o. fold (λ b j. bit_or b (bit_at_place ps j)) (bit_or m (unwrap_or (option_map (λ e. bit_of e.reader) o) 0)) places ≡ fold (λ b e. bit_or b (bit_of e.reader)) m (cons_option o (entries_at ps places))) [
        | None ↦ ap (λ x. fold (λ b j. bit_or b (bit_at_place ps j)) x places) (or_zero_r m) ∙ fold_there m places
        | Some e ↦ fold_there (bit_or m (bit_of e.reader)) places
      ]

  pub readers_there : (places : List ℕ) → fold (λ b i. bit_or b (bit_at_place ps i)) 0 places ≡ readers_of (entries_at ps places)
  unfolding readers_of
  readers_there places = fold_there 0 places

  -- one of the entries at the places passes
  pub any_there : (p : Entry ℕ → Bool) (places : List ℕ) → list_any (λ i. passes_at p ps i) places ≡ list_any p (entries_at ps places)
  any_there p [] = refl
  any_there p (i ∷ places) =
      elim (slice_get ps i) as (λ o. unwrap_or (option_map p o) false || list_any (λ j. unwrap_or (option_map p (slice_get ps j)) false) places ≡ list_any p (cons_option o (entries_at ps places))) [
        | None ↦ any_there p places
        | Some e ↦ ap (λ x. p e || x) (any_there p places)
      ]

bit_at_bit : (k r : ℕ) → r < 8 → bit_at (bit_of k) r ≡ cond (eqb r k) 1 0
bit_at_bit k r h =
    (elim (eqb r k) as (λ t. eqb r k ≡ t → bit_at (bit_of k) r ≡ cond t 1 0) [
      | true ↦ λ e. let q : r ≡ k = eqb-true r k e in let b : k < 8 = omega arith in rw (lt-ltb k 8 b, q) (bit_at-pow_same k)
      | false ↦ λ e. elim (ltb k 8) as (λ u. bit_at (cond u (2 ^ k) 0) r ≡ 0) [ true ↦ bit_at-pow_other k r (eqb-false r k e) | false ↦ bit_at-zero r ]
    ]) refl

max_or : (a : ℕ) (x y : Bool) → max (max a (cond x 1 0)) (cond y 1 0) ≡ max a (cond (x || y) 1 0)
max_or a true true = omega arith
max_or a true false = omega arith
max_or a false y = elim y as (λ y. max (max a 0) (cond y 1 0) ≡ max a (cond y 1 0)) [ true ↦ omega arith | false ↦ omega arith ]

is_set : (x : Bool) (r : ℕ) → not (eqb (cond x 1 0 * 2 ^ r) 0) ≡ x
is_set true r = ap (λ t. not t) (ne_eqb (1 * 2 ^ r) 0 (λ e. omega (arith, e, pow_pos r)))
is_set false r = ap (λ n. not (eqb n 0)) (zero-mul (2 ^ r))

module _ (r : ℕ) (h : r < 8) where
  bit_at_fold : (m : ℕ) (l : List (Entry ℕ)) → bit_at (fold (λ b e. bit_or b (bit_of e.reader)) m l) r ≡ max (bit_at m r) (cond (list_any (λ e. eqb r e.reader) l) 1 0)
  bit_at_fold m [] = omega arith
  bit_at_fold m (e ∷ l) =
      bit_at_fold (bit_or m (bit_of e.reader)) l
      ∙ ap (λ x. max x (cond (list_any (λ d. eqb r d.reader) l) 1 0)) (bit_at_or m (bit_of e.reader) r ∙ ap (λ x. max (bit_at m r) x) (bit_at_bit e.reader r h))
      ∙ max_or (bit_at m r) (eqb r e.reader) (list_any (λ d. eqb r d.reader) l)

  pub reader_marked : (l : List (Entry ℕ)) → not (eqb (bit_and (readers_of l) (bit_of r)) 0) ≡ list_any (λ e. eqb r e.reader) l
  unfolding readers_of
  reader_marked l =
      rw (lt-ltb r 8 h)
      (ap (λ n. not (eqb n 0)) (and_pow (readers_of l) r ∙ ap (λ x. x * 2 ^ r) (bit_at_fold 0 l ∙ ap (λ x. max x (cond (list_any (λ e. eqb r e.reader) l) 1 0)) (bit_at-zero r) ∙ omega arith))
      ∙ is_set (list_any (λ e. eqb r e.reader) l) r)
