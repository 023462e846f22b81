-- GUIDs compare as the numbers that their bytes make.
use Rattle.std.specs.Prelude.{◌≡◌, ℕ, zero, suc, ◌+◌, ◌-◌, ◌*◌, ◌^◌, ◌<◌, List, [], ◌∷◌, length, get_or, nat_eq}
use Rattle.std.specs.declared.cmp.Ordering.{Ordering}
use Rattle.std.specs.declared.cmp.Ordering.TheVariants.{Less, Equal, Greater}
use Rattle.std.specs.Ordering.{MatchOrdering, nat_cmp, ordering_then, is_eq}
use Rattle.std.proofs.lemmas.Cmp.{ranked}
use Rattle.std.specs.Cmp.{nat_cmp_is}
use Rattle.std.specs.Cmp.Lexicographic.{slice_cmp}
use Rattle.std.specs.Int.{w128, from_be_bytes, byte_worth, sum_through}
use Rattle.std.proofs.Common.{refl, sym, ap, ◌∙◌, arith, add_assoc, rules}
use native.Mathlib.Nat.{suc-mul, mul-le-mul_right}
use Rattle.laws.specs.Bytes.{number_of}
use Rattle.laws.proofs.Bytes.{Bytes, number_of_lt}
use Rattle.guids.specs.Guid.{Guid, compare_guid}

-- numbers compare by their high digits first
pub digits_cmp : (p a r b s : ℕ) → r < p → s < p → nat_cmp (a * p + r) (b * p + s) ≡ ordering_then (nat_cmp a b) (nat_cmp r s)
digits_cmp p a r b s h k = case (nat_cmp a b) (ranked a b _ refl)
  where
    x : ℕ
    x = a * p + r

    y : ℕ
    y = b * p + s

    even : (o : Ordering) → a ≡ b → MatchOrdering o (r < s) (r ≡ s) (s < r) → o ≡ nat_cmp x y
    even Less e l = nat_cmp_is x y Less (rw e (omega arith))
    even Equal e l = nat_cmp_is x y Equal (rw (e, l) refl)
    even Greater e l = nat_cmp_is x y Greater (rw e (omega arith))

    case : (o : Ordering) → MatchOrdering o (a < b) (a ≡ b) (b < a) → nat_cmp x y ≡ ordering_then o (nat_cmp r s)
    case Less l = sym (nat_cmp_is x y Less (omega (arith, mul-le-mul_right p l, suc-mul a p)))
    case Equal e = sym (even (nat_cmp r s) e (ranked r s _ refl))
    case Greater l = sym (nat_cmp_is x y Greater (omega (arith, mul-le-mul_right p l, suc-mul b p)))

number_cmp : (a b : Guid) → length a ≡ length b → Bytes a → Bytes b → slice_cmp nat_cmp a b ≡ nat_cmp (number_of a) (number_of b)
unfolding number_of
number_cmp [] [] e h k = refl
number_cmp [] (b ∷ m) e h k = absurd (omega arith)
number_cmp (a ∷ l) [] e h k = absurd (omega arith)
number_cmp (a ∷ l) (b ∷ m) e h k =
    let f : length l ≡ length m = omega arith in
    let r : number_of m < 256 ^ length l = rw f (number_of_lt m (λ i. k (suc i))) in
    ap (ordering_then (nat_cmp a b)) (number_cmp l m f (λ i. h (suc i)) (λ i. k (suc i)))
    ∙ sym (digits_cmp (256 ^ length l) a (number_of l) b (number_of m) (number_of_lt l (λ i. h (suc i))) r)
    ∙ ap (λ n. nat_cmp (a * 256 ^ length l + number_of l) (b * 256 ^ n + number_of m)) f

-- ---- std's sum of bytes

sum_first : (f : ℕ → ℕ) (k : ℕ) → sum_through f (suc k) ≡ f 0 + sum_through (λ i. f (suc i)) k
sum_first f zero = refl
sum_first f (suc k) = ap (λ m. m + f (suc (suc k))) (sum_first f k) ∙ add_assoc (f 0) (sum_through (λ i. f (suc i)) k) (f (suc (suc k)))

sum_alike : (f g : ℕ → ℕ) → ((i : ℕ) → f i ≡ g i) → (k : ℕ) → sum_through f k ≡ sum_through g k
sum_alike f g e zero = e 0
sum_alike f g e (suc k) = rw (sum_alike f g e k, e (suc k)) refl

pub sum_number : (k : ℕ) (l : List ℕ) → length l ≡ suc k → sum_through (λ i. byte_worth (k - i) (get_or l i 0)) k ≡ number_of l
unfolding number_of
sum_number k [] e = absurd (omega arith)
sum_number zero (b ∷ []) e = omega arith
sum_number zero (b ∷ c ∷ l) e = absurd (omega arith)
sum_number (suc k) (b ∷ l) e =
    let f : length l ≡ suc k = omega arith in
    let d : suc k - 0 ≡ suc k = omega arith in
    sum_first (λ i. byte_worth (suc k - i) (get_or (b ∷ l) i 0)) k
    ∙ rw (d, f) (ap (λ n. b * 256 ^ suc k + n) (sum_alike _ (λ i. byte_worth (k - i) (get_or l i 0)) (λ i. let d : suc k - suc i ≡ k - i = omega arith in ap (λ j. byte_worth j (get_or l i 0)) d) k ∙ sum_number k l f))

-- ---- GUIDs

pub eq_cmp : (m n : ℕ) → nat_eq m n ≡ is_eq (nat_cmp m n)
eq_cmp m n = search rules

module _ (a b : Guid) (la : length a ≡ 16) (lb : length b ≡ 16) (ha : Bytes a) (hb : Bytes b) where
  pub guid_cmp : nat_cmp (from_be_bytes w128 a) (from_be_bytes w128 b) ≡ compare_guid a b
  unfolding compare_guid
  guid_cmp = rw (sum_number 15 a la, sum_number 15 b lb) (sym (number_cmp a b (la ∙ sym lb) ha hb))
