-- What is put is read back; examples of the definitions.
use Prim.Native.Nat.{ℕ, suc, ◌+◌, ◌-◌, ◌/◌, ◌%◌, ◌<◌}
use mathlib.Core.Path.{◌≡◌, refl}
use mathlib.Core.Bool.{Bool, true, false}
use mathlib.Core.List.{List, [], ◌∷◌}
use Rattle.std.specs.Prelude.{None, Some}
use native.Mathlib.Nat.{div-add-mod'}
use native.Mathlib.Omega.{arith}
use borrow.Author.Tests.{ltb-true, ltb-false, le-leb, lt-leb}
use lib.Dec.{ltb}
use lib.ListN.{get_or}
use Rattle.hex_digits.specs.Hex.{digit_by, digit_of, hex_of, value_by, value_of, before, unhex}

digit_by_lem : (n : ℕ) → n < 16 → (t : Bool) → ltb n 10 ≡ t → value_of (digit_by t n) ≡ Some n
unfolding digit_by value_of value_by
digit_by_lem n h true e =
    let l = ltb-true n 10 e in
    let d : 48 + n - 48 ≡ n = omega arith in
    rw (le-leb 48 (48 + n) (omega arith), le-leb (48 + n) 57 (omega arith), d)
digit_by_lem n h false e =
    let l = ltb-false n 10 e in
    let d : 87 + n - 87 ≡ n = omega arith in
    rw (
      le-leb 48 (87 + n) (omega arith),
      lt-leb (87 + n) 57 (omega arith),
      le-leb 97 (87 + n) (omega arith),
      le-leb (87 + n) 102 (omega arith),
      d,
    )

digit_read : (n : ℕ) → n < 16 → value_of (digit_of n) ≡ Some n
unfolding digit_of
digit_read n h = digit_by_lem n h (ltb n 10) refl

pub unhex_hex : (s : List ℕ) → ((i : ℕ) → get_or s i 0 < 256) → unhex (hex_of s) ≡ Some s
unfolding hex_of unhex before
unhex_hex [] h = refl
unhex_hex (b ∷ s) h =
    let l : b < 256 = h 0 in
    rw (digit_read (b / 16) (omega arith), digit_read (b % 16) (omega arith), unhex_hex s (λ i. h (suc i)), div-add-mod' b 16)

-- ---- examples: 0f, 1, 0g, 0F

puts_byte : hex_of (15 ∷ []) ≡ 48 ∷ 102 ∷ []
unfolding hex_of digit_of digit_by
puts_byte = refl

refuses_one : unhex (49 ∷ []) ≡ None
unfolding unhex
refuses_one = refl

refuses_g : unhex (48 ∷ 103 ∷ []) ≡ None
unfolding unhex before value_of value_by
refuses_g = refl

refuses_upper_case : unhex (48 ∷ 70 ∷ []) ≡ None
unfolding unhex before value_of value_by
refuses_upper_case = refl
