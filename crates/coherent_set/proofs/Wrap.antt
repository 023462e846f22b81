-- What wrapping means: a count of w bits goes on by remainder, and both counts of the access scope do.
use Rattle.std.proofs.Common.{◌≡◌, ℕ, zero, suc, ◌+◌, ◌%◌, ◌^◌, ◌<◌, sym, refl, ap, ◌∙◌, add-zero, add-suc, mod-eq_of_lt, add-one, eq-eqb, ne_eqb}
use Prim.{⊥}
use native.Mathlib.Nat.{mod_self, mod-add-mod}
use Rattle.coherent_set.specs.declared.GroupAccessScope.{GroupAccessScope}
use Rattle.coherent_set.specs.Access.{next, begin_access}

-- f, k times
unfoldable pub times : {X : Type 0} → (X → X) → ℕ → X → X
times f zero x = x
times f (suc k) x = f (times f k x)

-- ---- one law for every width

pub next_steps : (w n : ℕ) → (n + 1 < 2 ^ w → next w n ≡ n + 1) × (n + 1 ≡ 2 ^ w → next w n ≡ 0)
next_steps w n = (λ h. mod-eq_of_lt h, λ e. ap (λ m. m % 2 ^ w) e ∙ mod_self (2 ^ w))

pub next_times : (w k n : ℕ) → n < 2 ^ w → times (next w) k n ≡ (n + k) % 2 ^ w
unfolding times
next_times w zero n h = sym (ap (λ m. m % 2 ^ w) (add-zero n) ∙ mod-eq_of_lt h)
next_times w (suc k) n h =
    ap (next w) (next_times w k n h) ∙ mod-add-mod (n + k) (2 ^ w) 1 ∙ ap (λ m. m % 2 ^ w) (add-one (n + k) ∙ sym (add-suc n k))

-- ---- the access scope

counts : (k : ℕ) (s : GroupAccessScope) → (times begin_access k s).open_count ≡ times (next 32) k s.open_count
unfolding times
counts zero s = refl
counts (suc k) s = ap (next 32) (counts k s)

-- k begins from count c make it (c + k) % 2^32
pub begins_count : (k : ℕ) (s : GroupAccessScope) → s.open_count < 2 ^ 32 → (times begin_access k s).open_count ≡ (s.open_count + k) % 2 ^ 32
begins_count k s h = counts k s ∙ next_times 32 k s.open_count h

-- a begin from count 0 moves the generation, which wraps at 2^64
pub begin_moves : (s : GroupAccessScope) → s.open_count ≡ 0
    → (s.snapshot_generation + 1 < 2 ^ 64 → (begin_access s).snapshot_generation ≡ s.snapshot_generation + 1)
    × (s.snapshot_generation + 1 ≡ 2 ^ 64 → (begin_access s).snapshot_generation ≡ 0)
begin_moves s e = simp (eq-eqb s.open_count 0 e) (next_steps 64 s.snapshot_generation)

-- and a begin from any other count leaves it
pub begin_keeps : (s : GroupAccessScope) → (s.open_count ≡ 0 → ⊥) → (begin_access s).snapshot_generation ≡ s.snapshot_generation
begin_keeps s h = simp (ne_eqb s.open_count 0 h)
