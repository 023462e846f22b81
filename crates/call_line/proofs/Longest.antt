-- No good line has 256 bytes: its fields are few and short. So a line cut to 256 bytes spells what the whole does.
use Prim.Native.Nat.{ℕ, zero, suc, ◌+◌, ◌-◌, ◌^◌, ◌≤◌, ◌<◌}
use mathlib.Core.Path.{◌≡◌, refl, ap, ◌∙◌, sym}
use mathlib.Core.Bool.{true, false, cond}
use mathlib.Core.List.{List, [], ◌∷◌}
use Rattle.std.specs.Prelude.{Option, None, Some}
use native.Mathlib.Omega.{arith}
use borrow.Author.Tests.{ltb-true, ltb-false, leb-true, leb-false, eqb-true, eqb-false}
use lib.Dec.{eqb, ltb, leb}
use lib.ListN.{length, get_or, take}
use lib.Seq.{take_all, length-take-le}
use Rattle.decimal.specs.Read.{at_most}
use Rattle.decimal.proofs.Lengths.{unsigned_long, signed_long}
use Rattle.std.proofs.lemmas.Option.{none-some}
use Rattle.fields.specs.Fields.{lengthen, fields_of, field_at, only, up_to, byte, word, long, number}
use Rattle.call_line.specs.Line.{◌⊛◌, optional, guid_of, guid, number_if, word_if, sized, start_line, counted_line, digest_line, sample_line, end_line, heartbeat_line, gap_line, release_line, line_by, line_of}
use Rattle.fields.proofs.Fields.{some_field}
use Rattle.call_line.proofs.Told.{neither}

-- ---- a line's length, from its fields'

-- the bytes of n fields from the i-th on, with a space behind each
unfoldable sum : ℕ → ℕ → List (List ℕ) → ℕ
sum i zero fs = 0
sum i (suc n) fs = suc (length (get_or fs i [])) + sum (suc i) n fs

sum_rest : (i n : ℕ) (f : List ℕ) (fs : List (List ℕ)) → sum (suc i) n (f ∷ fs) ≡ sum i n fs
unfolding sum
sum_rest i zero f fs = refl
sum_rest i (suc n) f fs = ap (λ k. suc (length (get_or fs i [])) + k) (sum_rest (suc i) n f fs)

sum_lengthen : (b : ℕ) (fs : List (List ℕ)) → 0 < length fs
    → sum 0 (length (lengthen b fs)) (lengthen b fs) ≡ suc (sum 0 (length fs) fs)
unfolding sum lengthen
sum_lengthen b [] h = absurd (omega arith)
sum_lengthen b (f ∷ fs) h = omega (arith, sum_rest 0 (length fs) (b ∷ f) fs, sum_rest 0 (length fs) f fs)

sum_fields : (l : List ℕ) → sum 0 (length (fields_of l)) (fields_of l) ≡ suc (length l)
unfolding sum fields_of
sum_fields [] = refl
sum_fields (b ∷ l) = (elim (eqb b 32)
    as (λ t. sum 0 (length (cond t ([] ∷ fields_of l) (lengthen b (fields_of l)))) (cond t ([] ∷ fields_of l) (lengthen b (fields_of l))) ≡ suc (suc (length l))) [
      | true ↦ omega (arith, sum_rest 0 (length (fields_of l)) [] (fields_of l), sum_fields l)
      | false ↦ sum_lengthen b (fields_of l) (some_field l) ∙ ap suc (sum_fields l)
    ])

-- ---- what is read of n bytes is bad where they are more than m

record Short {A : Type 0} (n m : ℕ) (r : Option A) : Type 0 where
  bad : m < n → r ≡ None

good : {A : Type 0} (a : A) → Short 0 0 (Some a)
good a = record { bad = λ h. absurd (omega arith) }

both : {A B : Type 0} (n m k j : ℕ) (f : Option (A → B)) (r : Option A) → (m < n → f ≡ None) → (j < k → r ≡ None) → m + j < n + k → f ⊛ r ≡ None
unfolding ◌⊛◌
both n m k j None r p q h = refl
both n m k j (Some f) None p q h = refl
both n m k j (Some f) (Some a) p q h = (elim (ltb m n)
    as (λ t. ltb m n ≡ t → Some (f a) ≡ None) [
      | true ↦ λ e. absurd (none-some f (sym (p (ltb-true m n e))))
      | false ↦ λ e. absurd (none-some a (sym (q (omega (arith, ltb-false m n e, h)))))
    ]) refl

infixl 40 ◌&◌
◌&◌ : {A B : Type 0} {n m k j : ℕ} {f : Option (A → B)} {r : Option A} → Short n m f → Short k j r → Short (n + k) (m + j) (f ⊛ r)
p & q = record { bad = both _ _ _ _ _ _ p.bad q.bad }

-- ---- the fields

dash_long : {A : Type 0} (r : Option A) (s : List ℕ) → 1 < length s → r ≡ None → optional r s ≡ None
unfolding optional only ◌⊛◌
dash_long r [] h e = absurd (omega arith)
dash_long r (b ∷ []) h e = absurd (omega arith)
dash_long r (b ∷ c ∷ s) h e = ap (λ r. Some (λ a. Some a) ⊛ r) e

optional_short : {A : Type 0} (r : Option A) (s : List ℕ) → Short (length s) 21 r → Short (length s) 21 (optional r s)
optional_short r s p = record { bad = λ h. dash_long r s (omega arith) (p.bad h) }

module _ (l : List ℕ) where
  long_short : (k : ℕ) → Short (length (field_at k l)) 21 (long k l)
  unfolding long
  long_short k = record { bad = λ h. unsigned_long (field_at k l) (omega arith) }

  up_to_short : (m k : ℕ) → Short (length (field_at k l)) 21 (up_to m (field_at k l))
  unfolding up_to at_most
  up_to_short m k = record { bad = λ h. ap (λ r. at_most m r) (unsigned_long (field_at k l) (omega arith)) }

  byte_short : (k : ℕ) → Short (length (field_at k l)) 21 (byte k l)
  unfolding byte
  byte_short k = up_to_short (2 ^ 8 - 1) k

  word_short : (k : ℕ) → Short (length (field_at k l)) 21 (word k l)
  unfolding word
  word_short k = up_to_short (2 ^ 32 - 1) k

  guid_short : (k : ℕ) → Short (length (field_at k l)) 21 (guid k l)
  unfolding guid ◌⊛◌
  guid_short k = record { bad = λ h. ap (λ r. Some (λ n. guid_of n) ⊛ r) ((byte_short k).bad h) }

  number_short : (k : ℕ) → Short (length (field_at k l)) 21 (number k l)
  unfolding number
  number_short k = record { bad = λ h. signed_long (field_at k l) h }

  number_if_short : (k : ℕ) → Short (length (field_at k l)) 21 (number_if k l)
  unfolding number_if
  number_if_short k = optional_short (number k l) (field_at k l) (number_short k)

  word_if_short : (k : ℕ) → Short (length (field_at k l)) 21 (word_if k l)
  unfolding word_if
  word_if_short k = optional_short (word k l) (field_at k l) (word_short k)

  -- ---- the lines

  module _ (z : length (field_at 0 l) ≤ 1) (h : 256 ≤ length l) where
    sized_long : {A : Type 0} {k j : ℕ} {r : Option A} (n : ℕ) → Short k j r
        → (sum 0 n (fields_of l) ≡ suc (length l) → j < k) → sized n l r ≡ None
    unfolding sized
    sized_long {r = r} n p f = (elim (eqb (length (fields_of l)) n)
        as (λ t. eqb (length (fields_of l)) n ≡ t → cond t r None ≡ None) [
          | true ↦ λ e. p.bad (f (ap (λ m. sum 0 m (fields_of l)) (sym (eqb-true (length (fields_of l)) n e)) ∙ sum_fields l))
          | false ↦ λ e. refl
        ]) refl

    start_long : start_line l ≡ None
    unfolding start_line sum field_at
    start_long = sized_long 2 (good _ & long_short 1) (λ e. omega arith)

    counted_long : counted_line l ≡ None
    unfolding counted_line sum field_at
    counted_long = sized_long 4 (good _ & guid_short 1 & guid_short 2 & byte_short 3) (λ e. omega arith)

    digest_long : digest_line l ≡ None
    unfolding digest_line sum field_at
    digest_long = sized_long 3 (good _ & guid_short 1 & word_short 2) (λ e. omega arith)

    sample_long : sample_line l ≡ None
    unfolding sample_line sum field_at
    sample_long =
        sized_long 9
        (good _ & guid_short 1 & guid_short 2 & byte_short 3 & number_short 4 & number_if_short 5 & word_short 6
        & word_short 7 & long_short 8)
        (λ e. omega arith)

    end_long : end_line l ≡ None
    unfolding end_line sum field_at
    end_long =
        sized_long 10
        (good _ & guid_short 1 & guid_short 2 & byte_short 3 & number_short 4 & number_if_short 5 & word_short 6
        & number_if_short 7 & number_if_short 8 & long_short 9)
        (λ e. omega arith)

    heartbeat_long : heartbeat_line l ≡ None
    unfolding heartbeat_line sum field_at
    heartbeat_long =
        sized_long 8
        (good _ & guid_short 1 & guid_short 2 & number_short 3 & number_short 4 & number_short 5 & word_if_short 6 & word_if_short 7)
        (λ e. omega arith)

    gap_long : gap_line l ≡ None
    unfolding gap_line sum field_at
    gap_long = sized_long 5 (good _ & guid_short 1 & guid_short 2 & byte_short 3 & number_short 4) (λ e. omega arith)

    release_long : release_line l ≡ None
    unfolding release_line sum field_at
    release_long = sized_long 2 (good _ & long_short 1) (λ e. omega arith)

    letter_long : (c : ℕ) → line_by c l ≡ None
    unfolding line_by
    letter_long c =
        neither (eqb c 84) start_long (neither (eqb c 86) counted_long (neither (eqb c 68) digest_long (neither (eqb c 83) sample_long
        (neither (eqb c 69) end_long (neither (eqb c 72) heartbeat_long (neither (eqb c 71) gap_long (neither (eqb c 82) release_long refl)))))))

-- ---- the theorem

-- a letter is one byte
letter_one : (f : List ℕ) → (only f ≡ 0 → ⊥) → length f ≤ 1
unfolding only
letter_one [] h = omega arith
letter_one (b ∷ []) h = omega arith
letter_one (b ∷ c ∷ f) h = absurd (h refl)

pub long_bad : (l : List ℕ) → 256 ≤ length l → line_of l ≡ None
unfolding line_of line_by
long_bad l h = (elim (eqb (only (field_at 0 l)) 0)
    as (λ t. eqb (only (field_at 0 l)) 0 ≡ t → line_by (only (field_at 0 l)) l ≡ None) [
      | true ↦ λ e. ap (λ c. line_by c l) (eqb-true (only (field_at 0 l)) 0 e)
      | false ↦ λ e. letter_long l (letter_one (field_at 0 l) (eqb-false (only (field_at 0 l)) 0 e)) h (only (field_at 0 l))
    ]) refl

-- what stands past 256 bytes changes nothing
pub cut_same : (l : List ℕ) → line_of (take 256 l) ≡ line_of l
cut_same l = (elim (leb (length l) 256)
    as (λ t. leb (length l) 256 ≡ t → line_of (take 256 l) ≡ line_of l) [
      | true ↦ λ e. ap (λ s. line_of s) (take_all 256 l (leb-true (length l) 256 e))
      | false ↦ λ e.
          let h : 256 ≤ length l = omega (arith, leb-false (length l) 256 e) in
          long_bad (take 256 l) (omega (arith, length-take-le 256 l h)) ∙ sym (long_bad l h)
    ]) refl
