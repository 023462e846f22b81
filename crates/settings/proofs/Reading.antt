-- A stretch of bytes as a number, within the number of more bytes.
use Prim.Native.Nat.{ℕ, suc, ◌+◌, ◌*◌, ◌/◌, ◌%◌, ◌^◌, ◌≤◌, ◌<◌}
use mathlib.Core.Path.{◌≡◌, ap, ◌∙◌}
use mathlib.Core.List.{List}
use native.Mathlib.Nat.{mod-eq_of_lt, mul-add-mod_self_right}
use native.Mathlib.Omega.{arith}
use lib.Arith.{digits_div}
use lib.ListN.{length, take, drop, get_or, length-drop}
use lib.Seq.{take-add, length-take-le, drop-cons}
use Rattle.laws.specs.Bytes.{number_of}
use Rattle.laws.proofs.Bytes.{Bytes, number_of_append, number_of_lt, take_bytes, drop_bytes}

module _ (bs : List ℕ) (k e : ℕ) (h : k + e ≤ length bs) (b : Bytes bs) where
  behind_length : length (take e (drop k bs)) ≡ e
  behind_length = length-take-le e (drop k bs) (omega (arith, length-drop k bs))

  behind_lt : number_of (take e (drop k bs)) < 256 ^ e
  behind_lt = rw behind_length at (number_of_lt (take e (drop k bs)) (take_bytes e (drop k bs) (drop_bytes k bs b)))

  parts : number_of (take (k + e) bs) ≡ number_of (take k bs) * 256 ^ e + number_of (take e (drop k bs))
  parts =
      ap number_of (take-add k e bs)
      ∙ number_of_append (take k bs) (take e (drop k bs))
      ∙ ap (λ n. number_of (take k bs) * 256 ^ n + number_of (take e (drop k bs))) behind_length

  -- without the last e bytes
  pub front : number_of (take (k + e) bs) / 256 ^ e ≡ number_of (take k bs)
  front = ap (λ n. n / 256 ^ e) parts ∙ digits_div (number_of (take k bs)) behind_lt

  -- the last e bytes
  pub back : number_of (take (k + e) bs) % 256 ^ e ≡ number_of (take e (drop k bs))
  back =
      ap (λ n. n % 256 ^ e) parts
      ∙ mul-add-mod_self_right (number_of (take k bs)) (256 ^ e) (number_of (take e (drop k bs)))
      ∙ mod-eq_of_lt behind_lt

pub one_byte : (bs : List ℕ) (k : ℕ) → k < length bs → number_of (take 1 (drop k bs)) ≡ get_or bs k 0
unfolding number_of
one_byte bs k h = rw (drop-cons bs k 0 h) (omega arith)

pub two_bytes : (bs : List ℕ) (k : ℕ) → k + 1 < length bs → number_of (take 2 (drop k bs)) ≡ get_or bs k 0 * 256 + get_or bs (k + 1) 0
unfolding number_of
two_bytes bs k h =
    let e : k + 1 ≡ suc k = omega arith in
    rw (e, drop-cons bs k 0 (omega arith), drop-cons bs (suc k) 0 (omega arith)) (omega arith)
