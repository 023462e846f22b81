-- The first n calls of a list have the names and the answers that they have in it, and leave the same state.
use Prim.Native.Nat.{ℕ, zero, suc, ◌<◌}
use mathlib.Core.Path.{◌≡◌, refl, ap}
use mathlib.Core.List.{List, [], ◌∷◌}
use Rattle.std.specs.Prelude.{Some}
use native.Mathlib.Omega.{arith}
use lib.ListN.{length, take}
use Rattle.laws.specs.Lists.{nth}
use Rattle.rules.specs.State.{State}
use Rattle.rules.specs.Run.{Call, step, run, answers, states_after}
use Rattle.rules.specs.Names.{map_call, named}

pub named_first : (n k : ℕ) (cs : List (Call ℕ)) → named k (take n cs) ≡ take n (named k cs)
unfolding named
named_first zero k cs = refl
named_first (suc n) k [] = refl
named_first (suc n) k (c ∷ cs) = ap (λ l. map_call (λ i. (k, i)) c ∷ l) (named_first n (suc k) cs)

module _ {X : Type 0} where
  pub answers_first : (n : ℕ) (s : State X) (cs : List (Call X)) → answers s (take n cs) ≡ take n (answers s cs)
  unfolding answers
  answers_first zero s cs = refl
  answers_first (suc n) s [] = refl
  answers_first (suc n) s (c ∷ cs) = ap (λ l. (step s c).0 ∷ l) (answers_first n (step s c).1 cs)

  pub state_after : (n : ℕ) (s : State X) (cs : List (Call X)) → n < length cs → nth n (states_after s cs) ≡ Some (run s (take (suc n) cs))
  unfolding states_after nth run
  state_after n s [] h = absurd (omega arith)
  state_after zero s (c ∷ cs) h = refl
  state_after (suc n) s (c ∷ cs) h = state_after n (step s c).1 cs (omega arith)
