-- A GUID as two words, each the number of eight of its bytes.
use Rattle.std.specs.Prelude.{◌≡◌, ℕ, zero, suc, ◌+◌, ◌*◌, ◌/◌, ◌%◌, ◌^◌, ◌<◌, ◌&&◌, List, [], ◌∷◌, ◌++◌, length, get_or, take, drop}
use Rattle.std.specs.declared.cmp.Ordering.{Ordering}
use Rattle.std.specs.declared.cmp.Ordering.TheVariants.{Less, Equal, Greater}
use Rattle.std.specs.Ordering.{nat_cmp, ordering_then, is_eq}
use Rattle.std.specs.Cmp.{tied_then}
use Rattle.std.specs.Int.{w64, from_be_bytes}
use Rattle.std.proofs.Common.{refl, sym, ap, ◌∙◌, arith}
use mathlib.Core.List.{append-nil}
use native.Mathlib.Nat.{mod-lt, mod-one, mod-eq_of_lt, pow-succ'}
use lib.Arith.{mod-mul}
use lib.Dec.{lit<, eqb}
use lib.ListN.{drop_of_length-le}
use lib.Seq.{drop-cons}
use Rattle.laws.specs.Bytes.{bytes_of, number_of}
use Rattle.laws.proofs.Bytes.{Bytes, pow_pos, number_of_bytes_of, bytes_of_number_of}
use Rattle.guids.specs.Guid.{Guid, compare_guid, same_guid}
use Rattle.guids.specs.Keys.{guid_of}
use Rattle.guids.proofs.Numbers.{digits_cmp, sum_number, eq_cmp}

then_assoc : (o p q : Ordering) → ordering_then o (ordering_then p q) ≡ ordering_then (ordering_then o p) q
then_assoc Less p q = refl
then_assoc Equal p q = refl
then_assoc Greater p q = refl

then_none : (o : Ordering) → ordering_then o Equal ≡ o
then_none Less = refl
then_none Equal = refl
then_none Greater = refl

-- k bytes compare as the numbers that they make, then what stands behind them
pub bytes_compare : (k a b : ℕ) (x y : Guid)
    → compare_guid (bytes_of k a ++ x) (bytes_of k b ++ y) ≡ ordering_then (nat_cmp (a % 256 ^ k) (b % 256 ^ k)) (compare_guid x y)
unfolding compare_guid bytes_of
bytes_compare zero a b x y = rw (mod-one a, mod-one b)
bytes_compare (suc k) a b x y =
    let p : ℕ = 256 ^ k in
    let h : a % 256 ^ suc k ≡ (a / p % 256) * p + a % p = ap (λ m. a % m) (pow-succ' 256 k) ∙ mod-mul a (lit< tt) (pow_pos k) in
    let g : b % 256 ^ suc k ≡ (b / p % 256) * p + b % p = ap (λ m. b % m) (pow-succ' 256 k) ∙ mod-mul b (lit< tt) (pow_pos k) in
    rw (h, g, digits_cmp p (a / p % 256) (a % p) (b / p % 256) (b % p) (mod-lt a (pow_pos k)) (mod-lt b (pow_pos k)), bytes_compare k a b x y)
    (then_assoc (nat_cmp (a / p % 256) (b / p % 256)) (nat_cmp (a % p) (b % p)) (compare_guid x y))

-- k bytes from i on
abbrev pub slots : ℕ → ℕ → Guid → List ℕ
slots i zero g = []
slots i (suc k) g = get_or g i 0 ∷ slots (suc i) k g

slots_drop : (i k : ℕ) (g : Guid) → i + k ≡ length g → slots i k g ≡ drop i g
slots_drop i zero g e = let h : length g < suc i = omega arith in sym (drop_of_length-le g (omega arith))
slots_drop i (suc k) g e = let h : i < length g = omega arith in rw (slots_drop (suc i) k g (omega arith)) (sym (drop-cons g i 0 h))

slots_bytes : (i k : ℕ) (g : Guid) → Bytes g → Bytes (slots i k g)
slots_bytes i zero g h j = lit< tt
slots_bytes i (suc k) g h zero = h i
slots_bytes i (suc k) g h (suc j) = slots_bytes (suc i) k g h j

word_bytes : (i : ℕ) (g : Guid) → Bytes g → bytes_of 8 (from_be_bytes w64 (slots i 8 g)) ≡ slots i 8 g
word_bytes i g h = rw (sum_number 7 (slots i 8 g) refl) (bytes_of_number_of (slots i 8 g) (slots_bytes i 8 g h))

-- a GUID's two words make it
pub guid_words : (g : Guid) → length g ≡ 16 → Bytes g → guid_of (from_be_bytes w64 (slots 0 8 g)) (from_be_bytes w64 (slots 8 8 g)) ≡ g
unfolding guid_of
guid_words g e h = rw (word_bytes 0 g h, word_bytes 8 g h) (slots_drop 0 16 g (sym e))

word_number : (n : ℕ) → n < 2 ^ 64 → number_of (bytes_of 8 n) ≡ n
word_number n f = number_of_bytes_of 8 n ∙ mod-eq_of_lt f

-- a word is the number that its half of the GUID makes
module _ (g : Guid) (a b : ℕ) (fa : a < 2 ^ 64) (fb : b < 2 ^ 64) (e : guid_of a b ≡ g) where
  pub high_word : a ≡ number_of (take 8 g)
  unfolding guid_of bytes_of
  high_word = sym (ap (λ x. number_of (take 8 x)) (sym e) ∙ word_number a fa)

  pub low_word : b ≡ number_of (take 8 (drop 8 g))
  unfolding guid_of bytes_of
  low_word = sym (ap (λ x. number_of (take 8 (drop 8 x))) (sym e) ∙ word_number b fb)

-- GUIDs compare as their words do
module _ (a b c d : ℕ) (fa : a < 2 ^ 64) (fb : b < 2 ^ 64) (fc : c < 2 ^ 64) (fd : d < 2 ^ 64) where
  pub key_compare : compare_guid (guid_of a b) (guid_of c d) ≡ ordering_then (nat_cmp a c) (nat_cmp b d)
  unfolding guid_of compare_guid
  key_compare =
      bytes_compare 8 a c (bytes_of 8 b) (bytes_of 8 d)
      ∙ rw (mod-eq_of_lt fa, mod-eq_of_lt fc)
      (ap (ordering_then (nat_cmp a c))
      (ap (λ m. compare_guid m (bytes_of 8 d)) (sym (append-nil (bytes_of 8 b))) ∙ ap (compare_guid (bytes_of 8 b ++ [])) (sym (append-nil (bytes_of 8 d)))
      ∙ bytes_compare 8 b d [] [] ∙ rw (mod-eq_of_lt fb, mod-eq_of_lt fd) (then_none (nat_cmp b d))))

  pub key_same : same_guid (guid_of a b) (guid_of c d) ≡ eqb a c && eqb b d
  unfolding same_guid
  key_same =
      ap is_eq key_compare
      ∙ sym (tied_then (nat_cmp a c) (nat_cmp b d))
      ∙ ap (λ t. t && is_eq (nat_cmp b d)) (sym (eq_cmp a c))
      ∙ ap (λ t. eqb a c && t) (sym (eq_cmp b d))
