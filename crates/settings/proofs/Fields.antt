-- Laws of packed fields, for any layout.
use Prim.Native.Nat.{ℕ, zero, suc, ◌+◌, ◌*◌, ◌/◌, ◌%◌, ◌^◌, ◌<◌}
use mathlib.Core.Path.{◌≡◌, refl, sym, ap, ◌∙◌}
use mathlib.Core.Bool.{true}
use mathlib.Core.List.{[], ◌∷◌, ◌++◌, map}
use native.Mathlib.Nat.{pow-succ', mul_assoc, add-mul, add_assoc, zero-mul, zero-add, mul_comm, mul-add-div_right, mul-add-mod_self_right, div-div-eq-div-mul, mod-eq_of_lt}
use native.Mathlib.Omega.{arith}
use borrow.Author.Tests.{ltb-true}
use lib.Arith.{digits_lt, digits_div}
use lib.Dec.{lit<, ltb}
use lib.Pow.{pow_pos, pow-add}
use Rattle.laws.proofs.Lists.{and_left, and_right}
use Rattle.settings.specs.Layout.{Field, Layout, width, within, joined, parted}

-- k bytes have k * 8 bits
pub byte_bits_lem : (k : ℕ) → 2 ^ (k * 8) ≡ 256 ^ k
byte_bits_lem zero = refl
byte_bits_lem (suc k) =
    let e : suc k * 8 ≡ 8 + k * 8 = omega arith in
    ap (λ n. 2 ^ n) e ∙ pow-add 2 8 (k * 8) ∙ ap (λ n. 256 * n) (byte_bits_lem k) ∙ sym (pow-succ' 256 k)

pub width_append : (l m : Layout) → width (l ++ m) ≡ width l + width m
width_append [] m = sym (zero-add (width m))
width_append (p ∷ l) m = ap (λ n. p.1 + n) (width_append l m) ∙ sym (add_assoc p.1 (width l) (width m))

-- the bits above the layout's don't count
pub parted_low : (l : Layout) (q r : ℕ) → parted l (q * 2 ^ width l + r) ≡ parted l r
parted_low [] q r = refl
parted_low (p ∷ l) q r =
    ap (λ n. (p.0, (n / 2 ^ width l) % 2 ^ p.1) ∷ parted l n) at
    ∙ ap (λ m. (p.0, m % 2 ^ p.1) ∷ parted l (q * 2 ^ p.1 * 2 ^ width l + r)) (mul-add-div_right (pow_pos (width l)) (q * 2 ^ p.1) r)
    ∙ ap (λ m. (p.0, m) ∷ parted l (q * 2 ^ p.1 * 2 ^ width l + r)) (mul-add-mod_self_right q (2 ^ p.1) (r / 2 ^ width l))
    ∙ ap (λ t. (p.0, (r / 2 ^ width l) % 2 ^ p.1) ∷ t) (parted_low l (q * 2 ^ p.1) r)
  where
    at : q * 2 ^ (p.1 + width l) + r ≡ q * 2 ^ p.1 * 2 ^ width l + r
    at = ap (λ m. q * m + r) (pow-add 2 p.1 (width l)) ∙ ap (λ m. m + r) (sym (mul_assoc q (2 ^ p.1) (2 ^ width l)))

-- what further fields follow has no bearing on the fields before them
pub parted_append : (l m : Layout) (n : ℕ) → parted (l ++ m) n ≡ parted l (n / 2 ^ width m) ++ parted m n
parted_append [] m n = refl
parted_append (p ∷ l) m n =
    ap (λ k. (p.0, k % 2 ^ p.1) ∷ parted (l ++ m) n) at
    ∙ ap (λ t. (p.0, (n / 2 ^ width m / 2 ^ width l) % 2 ^ p.1) ∷ t) (parted_append l m n)
  where
    at : n / 2 ^ width (l ++ m) ≡ n / 2 ^ width m / 2 ^ width l
    at =
        ap (λ k. n / 2 ^ k) (width_append l m)
        ∙ ap (λ k. n / k) (pow-add 2 (width l) (width m) ∙ mul_comm (2 ^ width l) (2 ^ width m))
        ∙ sym (div-div-eq-div-mul n (2 ^ width m) (2 ^ width l))

module _ (x : Field → ℕ) where
  pub joined_append : (l m : Layout) → joined x (l ++ m) ≡ joined x l * 2 ^ width m + joined x m
  joined_append [] m = sym (ap (λ k. k + joined x m) (zero-mul (2 ^ width m)) ∙ zero-add (joined x m))
  joined_append (p ∷ l) m =
      ap (λ k. x p.0 * 2 ^ k + joined x (l ++ m)) (width_append l m)
      ∙ ap (λ k. x p.0 * k + joined x (l ++ m)) (pow-add 2 (width l) (width m))
      ∙ simp (joined_append l m, add-mul, mul_assoc, add_assoc)

  pub joined_lt : (l : Layout) → within x l ≡ true → joined x l < 2 ^ width l
  joined_lt [] h = lit< tt
  joined_lt (p ∷ l) h =
      let t = ltb-true (x p.0) (2 ^ p.1) (and_left (ltb (x p.0) (2 ^ p.1)) (within x l) h) in
      rw pow-add (digits_lt t (joined_lt l (and_right (ltb (x p.0) (2 ^ p.1)) (within x l) h)))

  -- values that fit come back from their bits
  pub parted_joined : (l : Layout) → within x l ≡ true → parted l (joined x l) ≡ map (λ p. (p.0, x p.0)) l
  parted_joined [] h = refl
  parted_joined (p ∷ l) h =
      let n = joined x l in
      let t = ltb-true (x p.0) (2 ^ p.1) (and_left (ltb (x p.0) (2 ^ p.1)) (within x l) h) in
      let r = and_right (ltb (x p.0) (2 ^ p.1)) (within x l) h in
      ap (λ m. (p.0, m % 2 ^ p.1) ∷ parted l (x p.0 * 2 ^ width l + n)) (digits_div (x p.0) (joined_lt l r))
      ∙ ap (λ m. (p.0, m) ∷ parted l (x p.0 * 2 ^ width l + n)) (mod-eq_of_lt t)
      ∙ ap (λ t. (p.0, x p.0) ∷ t) (parted_low l (x p.0) n ∙ parted_joined l r)
