-- The places of a list and its length, from its items: behind them stand blanks. No public clause cites this module.
use Rattle.std.specs.Prelude.{◌≡◌, ℕ, ◌-◌, ◌≤◌, List, ◌++◌, length, take, drop, replicate}
use Rattle.std.proofs.Common.{sym, ap, subst, ◌∙◌, length-take-le}
use Rattle.std.proofs.lemmas.List.{take-append-drop}

module _ {X : Type 0} (places : List X) (len room : ℕ) where
  pub len_back : len ≤ room → length places ≡ room → length (take len places) ≡ len
  len_back fits whole = length-take-le len places (subst (λ n. len ≤ n) (sym whole) fits)

  pub places_back : (blank : X) → len ≤ room → length places ≡ room → drop len places ≡ replicate (room - len) blank
      → take len places ++ replicate (room - length (take len places)) blank ≡ places
  places_back blank fits whole free =
      ap (λ n. take len places ++ replicate (room - n) blank) (len_back fits whole)
      ∙ ap (λ rest. take len places ++ rest) (sym free)
      ∙ take-append-drop len places
