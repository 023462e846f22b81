-- Numbers of 0 or less are alike: every question that the rules ask of a mark, over whole numbers, has the same answer for the mark
-- counted as 0 (`number`), since only numbers from 1 on are asked about and all marks start at 0.
use Prim.Native.Nat.{ℕ, suc, max}
use mathlib.Core.Path.{◌≡◌, refl, sym}
use mathlib.Core.Bool.{Bool, true, false, ◌&&◌, ◌||◌, not, cond}
use native.Mathlib.Omega.{arith}
use lib.IntN.{ℤ, pos, negsuc}
use lib.Signed.{lt_z, le_z}
use lib.Dec.{ltb, leb}
use borrow.Author.Tests.{ltb-true, ltb-false, lt-leb, le-leb, le-ltb}
use Rattle.rules.specs.Marks.{number, past_marks}

-- the larger of two whole numbers
unfoldable pub max_z : ℤ → ℤ → ℤ
max_z a b = cond (lt_z a b) b a

-- "past" over whole numbers, as document 01 has it
unfoldable pub past_z : ℤ → ℤ → ℤ → ℤ → ℤ → ℤ → Bool
past_z seen gap first last current n = lt_z n seen || le_z n gap || (lt_z n current && not (le_z first n && le_z n last))

-- below a mark, at most a mark, at least a mark: the same for the mark counted as 0, of numbers from 1 on
pub below : (n : ℕ) (m : ℤ) → lt_z (pos n) m ≡ ltb n (number m)
unfolding number
below n (pos m) = refl
below n (negsuc m) = sym (le-ltb n 0 (omega arith))

pub at_most : (n : ℕ) (m : ℤ) → le_z (pos (suc n)) m ≡ leb (suc n) (number m)
unfolding number
at_most n (pos m) = refl
at_most n (negsuc m) = sym (lt-leb (suc n) 0 (omega arith))

pub at_least : (n : ℕ) (m : ℤ) → le_z m (pos n) ≡ leb (number m) n
unfolding number
at_least n (pos m) = refl
at_least n (negsuc m) = sym (le-leb 0 n (omega arith))

-- an offer's number against committed, an announced number against the head
pub above_committed : (c : ℕ) (n : ℤ) → lt_z (pos c) n ≡ ltb c (number n)
above_committed c n = below c n

pub past_same : (seen gap first last current : ℤ) (n : ℕ)
    → past_z seen gap first last current (pos (suc n)) ≡ past_marks (number seen) (number gap) (number first) (number last) (number current) (suc n)
unfolding past_z past_marks
past_same s g f l c n = rw (below (suc n) s, at_most n g, below (suc n) c, at_least (suc n) f, at_most n l)

-- a mark raised: the larger of both, counted from 0
pub raised_same : (a b : ℤ) → number (max_z a b) ≡ max (number a) (number b)
unfolding max_z number
raised_same (pos a) (pos b) =
    (elim (ltb a b) as (λ t. ltb a b ≡ t → number (cond t (pos b) (pos a)) ≡ max a b)
    [ true ↦ λ e. let h = ltb-true a b e in omega arith | false ↦ λ e. let h = ltb-false a b e in omega arith ]) refl
raised_same (pos a) (negsuc b) = omega arith
raised_same (negsuc a) (pos b) = omega arith
raised_same (negsuc a) (negsuc b) =
    elim (ltb b a) as (λ t. number (cond t (negsuc b) (negsuc a)) ≡ max 0 0) [ true ↦ omega arith | false ↦ omega arith ]
