-- An item that goes to a place of a list, where each from there on is carried one up.
use Rattle.std.proofs.Common.{◌≡◌, ℕ, zero, suc, ◌+◌, ◌<◌, ◌≤◌, List, [], ◌∷◌, ◌++◌, length, take, drop, set, get_or, refl, sym, ap, ◌∙◌, arith, drop-set-lt, length-set}
use Rattle.std.specs.List.{insert}
use Rattle.std.proofs.lemmas.List.{drop-drop, drop_all, take_all, take_at, take_more, take_more_set, get_or-drop, length-take-le, length-take}
use Rattle.std.proofs.lemmas.List.Edits.{insert-append_left}

-- two lists that end alike from i on have the same item there
same_item : {X : Type 0} (xs ys : List X) (i : ℕ) (d : X) → drop i xs ≡ drop i ys → get_or xs i d ≡ get_or ys i d
same_item xs ys i d same =
    let first : i ≡ i + 0 = omega arith in
    ap (λ k. get_or xs k d) first ∙ sym (get_or-drop i xs 0 d) ∙ ap (λ l. get_or l 0 d) same ∙ get_or-drop i ys 0 d ∙ ap (λ k. get_or ys k d) (sym first)

-- the one that is last goes to a place, and those from there on one up
pub last_inserted : {X : Type 0} (rest : List X) (at : ℕ) (x : X) → take (suc (length rest)) (insert (rest ++ x ∷ []) at x) ≡ insert rest at x
last_inserted [] zero x = refl
last_inserted [] (suc at) x = refl
last_inserted (y ∷ rest) zero x = ap (λ l. x ∷ y ∷ l) (take_at rest (x ∷ []) (length rest) refl)
last_inserted (y ∷ rest) (suc at) x = ap (λ l. y ∷ l) (last_inserted rest at x)

module _ {X : Type 0} (xs : List X) (at : ℕ) (x : X) where
  -- ys began as xs: with the one carried behind them its first i are those of xs with x among them, and from i on none moved
  pub record Carried (ys : List X) (carried : X) (i : ℕ) : Type 0 where
    pub behind : at ≤ i
    pub long : length ys ≡ length xs
    pub rest : drop i ys ≡ drop i xs
    pub front : take i ys ++ carried ∷ [] ≡ insert (take i xs) at x

  pub at_first : Carried xs x at
  at_first =
      let front : List X = take at xs in
      let short : length front ≤ at = omega (arith, length-take at xs) in
      let left : take at front ≡ front = take_all at front short in
      let none : drop at front ≡ [] = drop_all at front short in
      record { behind = omega arith; long = refl; rest = refl; front = rw (left, none) }

  pub carried_on : {ys : List X} {carried next : X} {i : ℕ} → Carried ys carried i → i < length ys → next ≡ get_or ys i next → Carried (set ys i carried) next (i + 1)
  carried_on {ys} {carried} {next} {i} h lt is =
      let there : next ≡ get_or xs i next = is ∙ same_item ys xs i next h.rest in
      let within : i < length xs = omega (arith, lt, h.long) in
      record {
        behind = omega (arith, h.behind);
        long = length-set ys i carried ∙ h.long;
        rest = drop-set-lt (i + 1) ys i carried (omega arith) ∙ sym (drop-drop 1 i ys) ∙ ap (drop 1) h.rest ∙ drop-drop 1 i xs;
        front = ap (λ l. l ++ next ∷ []) (take_more_set ys i carried lt ∙ h.front)
            ∙ sym (insert-append_left (take i xs) (next ∷ []) at x (omega (arith, h.behind, length-take-le i xs (omega (arith, within)))))
            ∙ ap (λ l. insert l at x) (ap (λ y. take i xs ++ y ∷ []) there ∙ sym (take_more xs i next within));
      }

  pub all_carried : {ys : List X} {carried : X} {i : ℕ} → Carried ys carried i → length xs ≤ i → ys ≡ take (length xs) (insert xs at x)
  all_carried {ys} {carried} {i} h le =
      sym (take_at ys (carried ∷ []) (length xs) h.long)
      ∙ ap (take (length xs)) (ap (λ l. l ++ carried ∷ []) (sym (take_all i ys (omega (arith, h.long, le)))) ∙ h.front ∙ ap (λ l. insert l at x) (take_all i xs le))
