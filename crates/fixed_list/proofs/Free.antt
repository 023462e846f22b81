-- The free places of a list hold blanks: also when fewer are free, and when one more is. And the items of a list of which some changed.
use Rattle.std.proofs.Common.{◌≡◌, ℕ, zero, suc, ◌+◌, ◌-◌, ◌<◌, ◌≤◌, List, [], ◌∷◌, ◌++◌, length, take, drop, set, replicate, refl, sym, ap, ◌∙◌, arith, drop-set-lt}
use Rattle.std.proofs.lemmas.List.{drop-drop, drop-replicate, drop-set, take_at, drop_at, length-append, length-drop}

module _ {X : Type 0} (room : ℕ) (blank : X) where
  pub fewer : (places : List X) (n m : ℕ) → n ≤ m → drop n places ≡ replicate (room - n) blank → drop m places ≡ replicate (room - m) blank
  fewer places n m le free =
      let past : m ≡ n + (m - n) = omega (arith, le) in
      let left : room - n - (m - n) ≡ room - m = omega (arith, le) in
      ap (λ k. drop k places) past ∙ sym (drop-drop (m - n) n places) ∙ ap (drop (m - n)) free ∙ drop-replicate (m - n) (room - n) blank
      ∙ ap (λ k. replicate k blank) left

  pub one_fewer : (places : List X) (n : ℕ) (x : X) → drop n places ≡ replicate (room - n) blank
      → drop (n + 1) (set places n x) ≡ replicate (room - (n + 1)) blank
  one_fewer places n x free = drop-set-lt (n + 1) places n x (omega arith) ∙ fewer places n (n + 1) (omega arith) free

  pub one_more : (places : List X) (n : ℕ) → length places ≡ room → n < room → drop (n + 1) places ≡ replicate (room - (n + 1)) blank
      → drop n (set places n blank) ≡ replicate (room - n) blank
  one_more places n whole lt free =
      let count : suc (room - (n + 1)) ≡ room - n = omega (arith, lt) in
      drop-set places n blank (omega (arith, whole, lt)) ∙ ap (λ l. blank ∷ l) free ∙ ap (λ k. replicate k blank) count

module _ {X : Type 0} where
  -- an item set is set among the first n, or behind them
  pub take_of_set : (n : ℕ) (l : List X) (i : ℕ) (x : X) → take n (set l i x) ≡ set (take n l) i x
  take_of_set zero l i x = refl
  take_of_set (suc n) [] i x = refl
  take_of_set (suc n) (y ∷ l) zero x = refl
  take_of_set (suc n) (y ∷ l) (suc i) x = ap (λ r. y ∷ r) (take_of_set n l i x)

  -- behind a front of n items the list stays
  module _ (front places : List X) (n : ℕ) (long : length front ≡ n) where
    pub take_front : take n (front ++ drop n places) ≡ front
    take_front = take_at front (drop n places) n long

    pub drop_front : drop n (front ++ drop n places) ≡ drop n places
    drop_front = drop_at front (drop n places) n long

    pub length_front : n ≤ length places → length (front ++ drop n places) ≡ length places
    length_front le = omega (arith, length-append front (drop n places), long, length-drop n places, le)
