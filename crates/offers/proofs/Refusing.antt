-- Refusals asked one after another.
use Rattle.std.specs.Prelude.{ℕ, Bool, true, false, cond, List, [], ◌∷◌, ◌++◌, ◌≡◌, Option, Some, None}
use Rattle.std.proofs.Common.{refl, sym, ap, ◌∙◌}
use Prim.{Unit, tt}
use Rattle.laws.specs.Answer.{Answer, refused, answered}
use Rattle.rules.specs.State.{State}
use Rattle.rules.specs.Offer.{refusal, done}

-- the first that holds is the first of more
pub refused_first : (l m : List (ℕ × Bool)) (n : ℕ) → refusal l ≡ Some n → refusal (l ++ m) ≡ Some n
unfolding refusal
refused_first [] m n e = cc
refused_first (t ∷ l) m n e = (elim t.1 as (λ b. cond b (Some t.0) (refusal l) ≡ Some n → cond b (Some t.0) (refusal (l ++ m)) ≡ Some n) [ true ↦ λ h. h | false ↦ λ h. refused_first l m n h ]) e

-- where none holds, the others decide
pub refused_then : (l m : List (ℕ × Bool)) → refusal l ≡ None → refusal (l ++ m) ≡ refusal m
unfolding refusal
refused_then [] m e = refl
refused_then (t ∷ l) m e = (elim t.1 as (λ b. cond b (Some t.0) (refusal l) ≡ None → cond b (Some t.0) (refusal (l ++ m)) ≡ refusal m) [ true ↦ λ h. cc | false ↦ λ h. refused_then l m h ]) e

-- then none of them holds
pub refused_none : (n : ℕ) (b : Bool) (l : List (ℕ × Bool)) → refusal ((n, b) ∷ l) ≡ None → (b ≡ false) × (refusal l ≡ None)
unfolding refusal
refused_none n true l e = cc
refused_none n false l e = (refl, e)

-- what a call that is refused answers and leaves, and one that is not
pub is_refused : (r : Option ℕ) (n : ℕ) (s t : State ℕ) → r ≡ Some n → ◌≡◌ {A = Answer (Unit {0}) × State ℕ} (refused n, s) (done r s t)
is_refused r n s t e = sym (ap (λ r. done r s t) e)

pub is_done : (r : Option ℕ) (s t u : State ℕ) → r ≡ None → u ≡ t → ◌≡◌ {A = Answer (Unit {0}) × State ℕ} (answered tt, u) (done r s t)
is_done r s t u e h = ap (λ v. (answered tt, v)) h ∙ sym (ap (λ r. done r s t) e)
