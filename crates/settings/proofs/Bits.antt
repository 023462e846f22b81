-- The packed bytes are the fields' bits, one field behind the other, the highest bit first.
use Prim.Native.Nat.{ℕ, zero, suc, ◌+◌, ◌*◌, ◌/◌, ◌%◌, ◌^◌}
use mathlib.Core.Path.{◌≡◌, refl, sym, ap, ◌∙◌}
use mathlib.Core.Bool.{true}
use mathlib.Core.List.{[], ◌∷◌, ◌++◌}
use native.Mathlib.Nat.{pow-succ', suc-add, zero-add, mul_assoc, mul_comm, mul-add-div_right, mul-add-mod_self_right, div-div-eq-div-mul, div-add-mod'}
use native.Mathlib.Omega.{arith}
use lib.Arith.{digits_div}
use lib.Dec.{ltb}
use lib.Pow.{pow_pos, pow-add}
use Rattle.laws.specs.Bytes.{bytes_of}
use Rattle.laws.proofs.Lists.{and_right}
use Rattle.settings.specs.Layout.{Field, Layout, layout, size, width, within, joined}
use Rattle.settings.specs.Bits.{bits_of, field_bits, byte_bits}
use Rattle.settings.specs.Setting.{value_of, fits_at, packed_at}
use Rattle.settings.specs.declared.setting.Setting.{Setting}
use Rattle.settings.proofs.Fields.{byte_bits_lem, joined_lt}
use Rattle.settings.proofs.Shown.{size_width}

-- the bits above the w low ones don't count
bits_low : (w q r : ℕ) → bits_of w (q * 2 ^ w + r) ≡ bits_of w r
bits_low zero q r = refl
bits_low (suc w) q r =
    ap (λ n. (n / 2 ^ w) % 2 ∷ bits_of w n) at
    ∙ ap (λ m. m % 2 ∷ bits_of w (q * 2 * 2 ^ w + r)) (mul-add-div_right (pow_pos w) (q * 2) r)
    ∙ ap (λ m. m ∷ bits_of w (q * 2 * 2 ^ w + r)) (mul-add-mod_self_right q 2 (r / 2 ^ w))
    ∙ ap (λ l. (r / 2 ^ w) % 2 ∷ l) (bits_low w (q * 2) r)
  where
    at : q * 2 ^ suc w + r ≡ q * 2 * 2 ^ w + r
    at = ap (λ m. q * m + r) (pow-succ' 2 w) ∙ ap (λ m. m + r) (sym (mul_assoc q 2 (2 ^ w)))

bits_append : (a b n : ℕ) → bits_of (a + b) n ≡ bits_of a (n / 2 ^ b) ++ bits_of b n
bits_append zero b n = ap (λ m. bits_of m n) (zero-add b)
bits_append (suc a) b n =
    ap (λ m. bits_of m n) (suc-add a b)
    ∙ ap (λ m. m % 2 ∷ bits_of (a + b) n) at
    ∙ ap (λ l. (n / 2 ^ b / 2 ^ a) % 2 ∷ l) (bits_append a b n)
  where
    at : n / 2 ^ (a + b) ≡ n / 2 ^ b / 2 ^ a
    at = ap (λ m. n / m) (pow-add 2 a b ∙ mul_comm (2 ^ a) (2 ^ b)) ∙ sym (div-div-eq-div-mul n (2 ^ b) (2 ^ a))

pub bits_joined : (x : Field → ℕ) (l : Layout) → within x l ≡ true → bits_of (width l) (joined x l) ≡ field_bits x l
bits_joined x [] h = refl
bits_joined x (p ∷ l) h =
    let r = and_right (ltb (x p.0) (2 ^ p.1)) (within x l) h in
    let n = joined x l in
    bits_append p.1 (width l) (x p.0 * 2 ^ width l + n)
    ∙ ap (λ m. bits_of p.1 m ++ bits_of (width l) (x p.0 * 2 ^ width l + n)) (digits_div (x p.0) (joined_lt x l r))
    ∙ ap (λ t. bits_of p.1 (x p.0) ++ t) (bits_low (width l) (x p.0) n ∙ bits_joined x l r)

bits_bytes : (k n : ℕ) → bits_of (k * 8) n ≡ byte_bits (bytes_of k n)
unfolding bytes_of
bits_bytes zero n = refl
bits_bytes (suc k) n =
    let e : suc k * 8 ≡ 8 + k * 8 = omega arith in
    ap (λ w. bits_of w n) e
    ∙ bits_append 8 (k * 8) n
    ∙ ap (λ m. bits_of 8 (n / m) ++ bits_of (k * 8) n) (byte_bits_lem k)
    ∙ ap (λ l. l ++ bits_of (k * 8) n) (one (n / 256 ^ k))
    ∙ ap (λ l. bits_of 8 ((n / 256 ^ k) % 256) ++ l) (bits_bytes k n)
  where
    one : (m : ℕ) → bits_of 8 m ≡ bits_of 8 (m % 256)
    one m = ap (λ i. bits_of 8 i) (sym (div-add-mod' m 256)) ∙ bits_low 8 (m / 256) (m % 256)

pub packed_bits : (v : ℕ) (x : Setting) → fits_at v x ≡ true → byte_bits (packed_at v x) ≡ field_bits (λ f. value_of v x f) (layout v)
packed_bits v x f =
    let n = joined (λ f. value_of v x f) (layout v) in
    sym (bits_bytes (size v) n) ∙ ap (λ w. bits_of w n) (size_width v) ∙ bits_joined (λ f. value_of v x f) (layout v) f
