-- Numbers as bytes, the most significant first: laws of `bytes_of` and `number_of` for any number of bytes.
use mathlib.Core.Path.{◌≡◌, refl, sym, ap, ◌∙◌}
use Prim.Native.Nat.{ℕ, zero, suc, ◌+◌, ◌*◌, ◌/◌, ◌%◌, ◌^◌, ◌≤◌, ◌<◌}
use native.Mathlib.Nat.{one-le-pow, pow-succ', suc-add, mod-lt, mul_assoc, add-mul, add_assoc, zero-mul, zero-add, mul-add-div_right, mul-add-mod_self_right, div-add-mod', div-div-eq-div-mul, mul_comm, mod-one, mod-eq_of_lt, lt_of_lt_of_le, le_trans, pow-le-pow_right}
use native.Mathlib.Omega.{arith}
use mathlib.Core.List.{List, [], ◌∷◌, ◌++◌}
use lib.Dec.{lit<}
use lib.Arith.{digits_lt, digits_div, mod-mul}
use lib.Pow.{pow-add}
use lib.ListN.{length, get_or, take, drop, length-append, length-take}
use lib.Seq.{get_or-drop}
use Rattle.laws.specs.Bytes.{bytes_of, number_of}

-- every element is a byte
abbrev pub Bytes : List ℕ → Type 0
Bytes bs = (i : ℕ) → get_or bs i 0 < 256

pub pow_pos : (k : ℕ) → 0 < 256 ^ k
pow_pos k = one-le-pow k 256 (lit< tt)

-- ---- the bytes of a number

pub bytes_of_length : (k n : ℕ) → length (bytes_of k n) ≡ k
unfolding bytes_of
bytes_of_length zero n = refl
bytes_of_length (suc k) n = ap suc (bytes_of_length k n)

pub bytes_of_bytes : (k n : ℕ) → Bytes (bytes_of k n)
unfolding bytes_of
bytes_of_bytes zero n i = lit< tt
bytes_of_bytes (suc k) n zero = mod-lt (n / 256 ^ k) (lit< tt)
bytes_of_bytes (suc k) n (suc i) = bytes_of_bytes k n i

-- the bytes above the k low ones don't count
pub bytes_of_low : (k q r : ℕ) → bytes_of k (q * 256 ^ k + r) ≡ bytes_of k r
unfolding bytes_of
bytes_of_low zero q r = refl
bytes_of_low (suc k) q r =
    ap (λ n. (n / 256 ^ k) % 256 ∷ bytes_of k n) at
    ∙ ap (λ m. m % 256 ∷ bytes_of k (q * 256 * 256 ^ k + r)) (mul-add-div_right (pow_pos k) (q * 256) r)
    ∙ ap (λ m. m ∷ bytes_of k (q * 256 * 256 ^ k + r)) (mul-add-mod_self_right q 256 (r / 256 ^ k))
    ∙ ap (λ l. (r / 256 ^ k) % 256 ∷ l) (bytes_of_low k (q * 256) r)
  where
    at : q * 256 ^ suc k + r ≡ q * 256 * 256 ^ k + r
    at = ap (λ m. q * m + r) (pow-succ' 256 k) ∙ ap (λ m. m + r) (sym (mul_assoc q 256 (256 ^ k)))

pub bytes_of_mod : (k n : ℕ) → bytes_of k (n % 256 ^ k) ≡ bytes_of k n
bytes_of_mod k n = sym (bytes_of_low k (n / 256 ^ k) (n % 256 ^ k)) ∙ ap (λ m. bytes_of k m) (div-add-mod' n (256 ^ k))

pub bytes_of_append : (a b n : ℕ) → bytes_of (a + b) n ≡ bytes_of a (n / 256 ^ b) ++ bytes_of b n
unfolding bytes_of
bytes_of_append zero b n = ap (λ m. bytes_of m n) (zero-add b)
bytes_of_append (suc a) b n =
    ap (λ m. bytes_of m n) (suc-add a b)
    ∙ ap (λ m. m % 256 ∷ bytes_of (a + b) n) at
    ∙ ap (λ l. (n / 256 ^ b / 256 ^ a) % 256 ∷ l) (bytes_of_append a b n)
  where
    at : n / 256 ^ (a + b) ≡ n / 256 ^ b / 256 ^ a
    at = ap (λ m. n / m) (pow-add 256 a b ∙ mul_comm (256 ^ a) (256 ^ b)) ∙ sym (div-div-eq-div-mul n (256 ^ b) (256 ^ a))

-- ---- the number that bytes make

pub number_of_lt : (bs : List ℕ) → Bytes bs → number_of bs < 256 ^ length bs
unfolding number_of
number_of_lt [] h = lit< tt
number_of_lt (b ∷ bs) h = rw pow-succ' (digits_lt (h 0) (number_of_lt bs (λ i. h (suc i))))

pub number_of_append : (cs bs : List ℕ) → number_of (cs ++ bs) ≡ number_of cs * 256 ^ length bs + number_of bs
unfolding number_of
number_of_append [] bs = sym (ap (λ m. m + number_of bs) (zero-mul (256 ^ length bs)) ∙ zero-add (number_of bs))
number_of_append (c ∷ cs) bs =
    ap (λ m. c * m + number_of (cs ++ bs)) (ap (λ m. 256 ^ m) (length-append cs bs) ∙ pow-add 256 (length cs) (length bs))
    ∙ simp (number_of_append cs bs, add-mul, mul_assoc, add_assoc)

-- ---- there and back

pub number_of_bytes_of : (k n : ℕ) → number_of (bytes_of k n) ≡ n % 256 ^ k
unfolding bytes_of number_of
number_of_bytes_of zero n = sym (mod-one n)
number_of_bytes_of (suc k) n =
    ap (λ m. (n / 256 ^ k) % 256 * 256 ^ m + number_of (bytes_of k n)) (bytes_of_length k n)
    ∙ rw (number_of_bytes_of k n, pow-succ') (sym (mod-mul n (lit< tt) (pow_pos k)))

pub bytes_of_number_of : (bs : List ℕ) → Bytes bs → bytes_of (length bs) (number_of bs) ≡ bs
unfolding bytes_of number_of
bytes_of_number_of [] h = refl
bytes_of_number_of (b ∷ bs) h =
    ap (λ m. m % 256 ∷ bytes_of (length bs) (b * 256 ^ length bs + number_of bs)) (digits_div b (number_of_lt bs t))
    ∙ ap (λ m. m ∷ bytes_of (length bs) (b * 256 ^ length bs + number_of bs)) (mod-eq_of_lt (h 0))
    ∙ ap (λ l. b ∷ l) (bytes_of_low (length bs) b (number_of bs) ∙ bytes_of_number_of bs t)
  where
    t : Bytes bs
    t i = h (suc i)

-- ---- the first bytes, and the others

pub take_bytes : (i : ℕ) (bs : List ℕ) → Bytes bs → Bytes (take i bs)
take_bytes zero bs h j = lit< tt
take_bytes (suc i) [] h j = lit< tt
take_bytes (suc i) (b ∷ bs) h zero = h zero
take_bytes (suc i) (b ∷ bs) h (suc j) = take_bytes i bs (λ k. h (suc k)) j

pub drop_bytes : (i : ℕ) (bs : List ℕ) → Bytes bs → Bytes (drop i bs)
drop_bytes i bs h j = rw (get_or-drop i bs j 0) (h (i + j))

-- i ≤ k bytes make less than 256 ^ k
pub number_of_take_lt : (bs : List ℕ) (i k : ℕ) → Bytes bs → i ≤ k → number_of (take i bs) < 256 ^ k
number_of_take_lt bs i k h le =
    lt_of_lt_of_le (number_of_lt (take i bs) (take_bytes i bs h)) (pow-le-pow_right (lit< tt) (le_trans (omega (arith, length-take i bs)) le))
