-- Bytes put as digits, and read of digits, one by one.
use Rattle.std.proofs.Common.{◌≡◌, ℕ, zero, suc, ◌+◌, ◌-◌, ◌*◌, ◌/◌, ◌%◌, ◌≤◌, ◌<◌, Bool, true, false, ◌&&◌, leb, List, [], ◌∷◌, ◌++◌, length, get_or, take, drop, Option, Some, None, refl, sym, ap, ◌∙◌, arith, le-leb, append_assoc, append-nil, length-append, add-one}
use Rattle.std.proofs.lemmas.Bool.{lt-leb, leb-true, and_parts}
use Rattle.std.proofs.lemmas.List.{take_all}
use Rattle.decimal.proofs.Putting.{put_behind}
use Rattle.hex_digits.specs.Hex.{digit_of, hex_of, value_by, value_of, before, unhex, given, within}

-- ---- a digit's value

pub decimal_digit : (b : ℕ) → 48 ≤ b → b ≤ 57 → Some (b - 48) ≡ value_of b
unfolding value_of value_by
decimal_digit b h l = rw (le-leb 48 b h, le-leb b 57 l)

pub letter_digit : (b : ℕ) → 97 ≤ b → b ≤ 102 → Some (b - 97 + 10) ≡ value_of b
unfolding value_of value_by
letter_digit b h l =
    let e : b - 97 + 10 ≡ b - 87 = omega arith in rw (le-leb 48 b (omega arith), lt-leb b 57 (omega arith), le-leb 97 b h, le-leb b 102 l, e)

pub low_byte : (b : ℕ) → b < 48 → None ≡ value_of b
unfolding value_of value_by
low_byte b h = rw (lt-leb 48 b h, lt-leb 97 b (omega arith))

pub mid_byte : (b : ℕ) → 57 < b → b < 97 → None ≡ value_of b
unfolding value_of value_by
mid_byte b h l = rw (le-leb 48 b (omega arith), lt-leb b 57 h, lt-leb 97 b l)

pub high_byte : (b : ℕ) → 102 < b → None ≡ value_of b
unfolding value_of value_by
high_byte b h = rw (le-leb 48 b (omega arith), lt-leb b 57 (omega arith), le-leb 97 b (omega arith), lt-leb b 102 h)

small_by : (t u : Bool) (b n : ℕ) → (t ≡ true → b ≤ 57) → (u ≡ true → b ≤ 102) → value_by t u b ≡ Some n → n < 16
unfolding value_by
small_by true u b n f g e = let q : b - 48 ≡ n = cc in omega (arith, f refl)
small_by false true b n f g e = let q : b - 87 ≡ n = cc in omega (arith, g refl)
small_by false false b n f g e = let z : ◌≡◌ {A = ℕ} 0 1 = cc in absurd (omega arith)

pub value_small : (b n : ℕ) → value_of b ≡ Some n → n < 16
unfolding value_of
value_small b n e =
    small_by (leb 48 b && leb b 57) (leb 97 b && leb b 102) b n
    (λ t. leb-true b 57 (and_parts (leb 48 b) (leb b 57) t).1)
    (λ t. leb-true b 102 (and_parts (leb 97 b) (leb b 102) t).1)
    e

-- ---- bytes put

pub hex_more : (s : List ℕ) (i : ℕ) → i < length s
    → hex_of (take i s) ++ (digit_of (get_or s i 0 / 16) ∷ digit_of (get_or s i 0 % 16) ∷ []) ≡ hex_of (take (suc i) s)
unfolding hex_of
hex_more [] i h = absurd (omega arith)
hex_more (b ∷ s) zero h = refl
hex_more (b ∷ s) (suc i) h = ap (λ (t : List ℕ). digit_of (b / 16) ∷ digit_of (b % 16) ∷ t) (hex_more s i (omega arith))

pub put_none : (n : ℕ) (out : List ℕ) → length out ≤ n → out ≡ take n (out ++ hex_of [])
unfolding hex_of
put_none n out h = rw append-nil (sym (take_all n out h))

pub put_more : (n : ℕ) (out now s : List ℕ) (i : ℕ) → i < length s → now ≡ take n (out ++ hex_of (take i s))
    → take n (now ++ (digit_of (get_or s i 0 / 16) ∷ digit_of (get_or s i 0 % 16) ∷ [])) ≡ take n (out ++ hex_of (take (i + 1) s))
put_more n out now s i h e =
    let d = digit_of (get_or s i 0 / 16) ∷ digit_of (get_or s i 0 % 16) ∷ [] in
    rw e (put_behind n (out ++ hex_of (take i s)) d)
    ∙ ap (λ (l : List ℕ). take n l) (append_assoc out (hex_of (take i s)) d ∙ ap (λ (l : List ℕ). out ++ l) (hex_more s i h))
    ∙ rw add-one

-- ---- bytes read before others

unfoldable pub onto : List ℕ → Option (List ℕ) → Option (List ℕ)
onto xs None = None
onto xs (Some s) = Some (xs ++ s)

pub onto_none : (s : Option (List ℕ)) → s ≡ onto [] s
unfolding onto
onto_none None = refl
onto_none (Some s) = refl

onto_nothing : (xs s : List ℕ) → length s ≡ 0 → onto xs (unhex s) ≡ Some xs
unfolding onto unhex
onto_nothing xs [] e = rw append-nil
onto_nothing xs (a ∷ s) e = absurd (omega arith)

pub one_bad : (s : List ℕ) → length s ≡ 1 → unhex s ≡ None
unfolding unhex
one_bad [] e = absurd (omega arith)
one_bad (a ∷ []) e = refl
one_bad (a ∷ b ∷ s) e = absurd (omega arith)

-- two digits and those behind them
pub two_first : (s : List ℕ) → 2 ≤ length s → s ≡ get_or s 0 0 ∷ get_or s 1 0 ∷ drop 2 s
two_first [] h = absurd (omega arith)
two_first (a ∷ []) h = absurd (omega arith)
two_first (a ∷ b ∷ s) h = refl

module _ (s : List ℕ) (h : 2 ≤ length s) where
  unhex_two : unhex s ≡ before (value_of (get_or s 0 0)) (value_of (get_or s 1 0)) (unhex (drop 2 s))
  unfolding unhex
  unhex_two = ap (λ t. unhex t) (two_first s h)

  pub first_bad : None ≡ value_of (get_or s 0 0) → unhex s ≡ None
  unfolding before
  first_bad e = unhex_two ∙ rw (← e)

  pub second_bad : (m : ℕ) → Some m ≡ value_of (get_or s 0 0) → None ≡ value_of (get_or s 1 0) → unhex s ≡ None
  unfolding before
  second_bad m e f = unhex_two ∙ rw (← e, ← f)

  pub both_good : (m n : ℕ) → Some m ≡ value_of (get_or s 0 0) → Some n ≡ value_of (get_or s 1 0) → unhex s ≡ before (Some m) (Some n) (unhex (drop 2 s))
  both_good m n e f = unhex_two ∙ rw (← e, ← f)

onto_before : (xs : List ℕ) (m n : ℕ) (z : Option (List ℕ)) → onto xs (before (Some m) (Some n) z) ≡ onto (xs ++ (m * 16 + n) ∷ []) z
unfolding onto before
onto_before xs m n None = refl
onto_before xs m n (Some s) = ap (λ l. Some l) (sym (append_assoc xs ((m * 16 + n) ∷ []) s))

over_room : (r : ℕ) (xs : List ℕ) (z : Option (List ℕ)) → r < length xs → None ≡ within r (onto xs z)
unfolding onto within given
over_room r xs None h = refl
over_room r xs (Some s) h = rw (lt-leb (length (xs ++ s)) r (omega (arith, length-append xs s)))

-- all of the text is read up to s, as xs, with room for r bytes
module _ (r : ℕ) (text xs s : List ℕ) (e : unhex text ≡ onto xs (unhex s)) where
  pub read_bad : unhex s ≡ None → None ≡ within r (unhex text)
  unfolding onto within
  read_bad f = rw (e, f)

  pub read_all : length s ≡ 0 → length xs ≤ r → Some xs ≡ within r (unhex text)
  unfolding within given
  read_all f h = rw (e, onto_nothing xs s f, le-leb (length xs) r h)

  module _ (h : 2 ≤ length s) (m n : ℕ) (p : Some m ≡ value_of (get_or s 0 0)) (q : Some n ≡ value_of (get_or s 1 0)) where
    pub read_more : unhex text ≡ onto (xs ++ (m * 16 + n) ∷ []) (unhex (drop 2 s))
    read_more = e ∙ ap (λ z. onto xs z) (both_good s h m n p q) ∙ onto_before xs m n (unhex (drop 2 s))

    pub no_room : length xs ≡ r → None ≡ within r (unhex text)
    no_room l = rw read_more (over_room r (xs ++ (m * 16 + n) ∷ []) (unhex (drop 2 s)) (omega (arith, length-append xs ((m * 16 + n) ∷ []))))
