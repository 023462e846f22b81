-- A number at the front of a text, digit by digit, and what stands behind it.
use Rattle.std.proofs.Common.{◌≡◌, ℕ, zero, suc, ◌+◌, ◌-◌, ◌*◌, ◌^◌, ◌≤◌, ◌<◌, Bool, true, false, eqb, leb, List, [], ◌∷◌, length, get_or, take, drop, Option, Some, None, refl, sym, ap, subst, ◌∙◌, arith, le-leb, ne_eqb, length-drop, ℤ, pos, ◌-ℤ◌, neg_ℤ, Result, Ok, Err, SomeIff, MatchOption}
use Rattle.std.proofs.lemmas.Int.{ints}
use Rattle.std.specs.Bool.{then_some}
use Rattle.std.specs.Result.{OkIff, result_ok}
use mir.Syntax.{w64}
use mir.Val.{SFits}
use Rattle.std.proofs.lemmas.List.{take_all, drop-drop}
use Rattle.std.proofs.lemmas.List.Sums.{prefix_len-le-length}
use Rattle.std.proofs.lemmas.Bool.{leb-true, leb-false, eqb-true, eqb-false}
use Rattle.decimal.specs.Read.{given, is_digit, read_on, at_most, plain, read_number, read_unsigned, plus, minus, read_signed, unsigned_len, unsigned_front, sign_len, signed_len, signed_front}
use Rattle.decimal.proofs.Reading.{at_most_both, read_above, signed_minus, signed_plus}

abbrev limit : Option ℕ → Option ℕ
limit r = at_most (2 ^ 64 - 1) r

-- ---- the digits of a text that begins with one, and of one that doesn't

module _ (b : ℕ) (s : List ℕ) where
  len_digit : is_digit b ≡ true → unsigned_len (b ∷ s) ≡ suc (unsigned_len s)
  unfolding unsigned_len
  len_digit e = rw e (omega arith)

  len_other : is_digit b ≡ false → unsigned_len (b ∷ s) ≡ 0
  unfolding unsigned_len
  len_other e = rw e

  front_digit : is_digit b ≡ true → unsigned_front (b ∷ s) ≡ b ∷ unsigned_front s
  unfolding unsigned_front
  front_digit e = rw (len_digit e)

len_none : unsigned_len [] ≡ 0
unfolding unsigned_len
len_none = refl

front_none : (s : List ℕ) → unsigned_len s ≡ 0 → unsigned_front s ≡ []
unfolding unsigned_front
front_none s e = rw e

pub len_le : (s : List ℕ) → unsigned_len s ≤ length s
unfolding unsigned_len
len_le s = prefix_len-le-length (λ b. is_digit b) s

-- ---- digit by digit

-- what the digits of s make of the number before them
unfoldable pub onward : Option ℕ → List ℕ → Option ℕ
onward None s = None
onward (Some n) s = limit (read_on n (unsigned_front s))

-- n, with one digit more
unfoldable pub grown : Option ℕ → ℕ → Option ℕ
grown None d = None
grown (Some n) d = limit (Some (n * 10 + d))

-- a number past the limit stays past it
limited : (v : ℕ) (s : List ℕ) (t : Bool) → leb v (2 ^ 64 - 1) ≡ t → limit (read_on v (unsigned_front s)) ≡ onward (given t (Some v)) s
unfolding onward given
limited v s true e = refl
limited v s false e = read_above (2 ^ 64 - 1) v (unsigned_front s) (leb-false v (2 ^ 64 - 1) e)

read_more : (n b : ℕ) (s : List ℕ) → is_digit b ≡ true → limit (read_on n (b ∷ unsigned_front s)) ≡ onward (limit (Some (n * 10 + (b - 48)))) s
unfolding read_on given at_most
read_more n b s e = rw e (limited (n * 10 + (b - 48)) s (leb (n * 10 + (b - 48)) (2 ^ 64 - 1)) refl)

grown_fits : (n : Option ℕ) (d : ℕ) → grown n d ≡ limit (grown n d)
unfolding grown at_most
grown_fits None d = refl
grown_fits (Some n) d = sym (at_most_both (2 ^ 64 - 1) (2 ^ 64 - 1) (Some (n * 10 + d)) (omega arith))

-- the digits of s before t are read, as n
pub record Digits (s : List ℕ) (n : Option ℕ) (t : List ℕ) : Type 0 where
  pub few : length t ≤ length s
  pub behind : t ≡ drop (length s - length t) s
  pub len : unsigned_len s ≡ length s - length t + unsigned_len t
  pub number : onward (Some 0) s ≡ onward n t
  pub fits : n ≡ limit n

pub none_read : (s : List ℕ) → Digits s (Some 0) s
unfolding at_most given
none_read s =
    let z : length s - length s ≡ 0 = omega arith in
    record { few = omega arith; behind = rw z; len = omega arith; number = refl; fits = refl }

onward_more : (n : Option ℕ) (b : ℕ) (t : List ℕ) → is_digit b ≡ true → onward n (b ∷ t) ≡ onward (grown n (b - 48)) t
unfolding onward grown
onward_more None b t e = refl
onward_more (Some n) b t e = rw (front_digit b t e) (read_more n b t e)

pub one_read : (s t u : List ℕ) (b : ℕ) (n m : Option ℕ) → is_digit b ≡ true → t ≡ b ∷ u → m ≡ grown n (b - 48) → Digits s n t → Digits s m u
one_read s t u b n m e p q d =
    let l : length t ≡ suc (length u) = ap length p in
    let k : length s - length u ≡ length s - length t + 1 = omega (arith, l, d.few) in
    record {
      few = omega (arith, l, d.few);
      behind = rw (k, ← drop-drop 1 (length s - length t) s, ← d.behind, p);
      len = d.len ∙ rw (p, len_digit b u e, k) (omega arith);
      number = d.number ∙ rw (p, q) (onward_more n b u e);
      fits = rw q (grown_fits n (b - 48));
    }

pub rest_behind : (s t : List ℕ) (n : Option ℕ) → Digits s n t → drop (unsigned_len t) t ≡ drop (unsigned_len s) s
rest_behind s t n d =
    let k = length s - length t in
    ap (λ (l : List ℕ). drop (unsigned_len t) l) d.behind ∙ drop-drop (unsigned_len t) k s ∙ ap (λ (i : ℕ). drop i s) (sym d.len)

-- a digit behind which the number is too large
module _ (s t : List ℕ) (d : Digits s None t) where
  large_front : limit (read_on 0 (unsigned_front s)) ≡ None
  unfolding onward
  large_front = d.number

  pub large_number : None ≡ read_unsigned (unsigned_front s)
  unfolding read_unsigned read_number given at_most
  large_number =
      (elim (plain (unsigned_front s)) as (λ t. None ≡ at_most (2 ^ 64 - 1) (given t (read_on 0 (unsigned_front s)))) [
        | true ↦ sym large_front
        | false ↦ refl
      ])

-- one digit less stands in front
pub behind_one : (t u : List ℕ) (b : ℕ) → is_digit b ≡ true → t ≡ b ∷ u → drop (unsigned_len t) t ≡ drop (unsigned_len u) u
behind_one t u b e p = rw (p, len_digit b u e)

pub behind_none : (t : List ℕ) → unsigned_len t ≡ 0 → t ≡ drop (unsigned_len t) t
behind_none t e = rw e

-- all digits are read, as n
module _ (s t : List ℕ) (n : Option ℕ) (d : Digits s n t) (e : unsigned_len t ≡ 0) where
  pub all_len : unsigned_len s ≡ length s - length t
  all_len = omega (arith, d.len)

  pub all_behind : t ≡ drop (unsigned_len s) s
  all_behind = d.behind ∙ ap (λ k. drop k s) (sym all_len)

  at_end : (m : Option ℕ) → m ≡ limit m → onward m t ≡ m
  unfolding onward read_on
  at_end None f = refl
  at_end (Some v) f = rw (front_none t e) (sym f)

  all_number : limit (read_on 0 (unsigned_front s)) ≡ n
  unfolding onward
  all_number = d.number ∙ at_end n d.fits

  pub plain_front : plain (unsigned_front s) ≡ true → n ≡ read_unsigned (unsigned_front s)
  unfolding read_unsigned read_number given
  plain_front p = rw p (sym all_number)

pub other_front : (f : List ℕ) → plain f ≡ false → None ≡ read_unsigned f
unfolding read_unsigned read_number given at_most
other_front f e = rw e

pub no_byte : (t : List ℕ) → length t ≡ 0 → unsigned_len t ≡ 0
no_byte [] e = len_none
no_byte (b ∷ t) e = absurd (omega arith)

pub no_digit : (t u : List ℕ) (b : ℕ) → t ≡ b ∷ u → is_digit b ≡ false → unsigned_len t ≡ 0
no_digit t u b p e = rw p (len_other b u e)

-- the first i bytes are digits, which spell n, and no digit stands behind them
module _ (s : List ℕ) (i n : ℕ) (d : Digits s (Some n) (drop i s)) (h : i ≤ length s) (e : unsigned_len (drop i s) ≡ 0) where
  front_is : take i s ≡ unsigned_front s
  unfolding unsigned_front
  front_is = let k : i ≡ unsigned_len s = omega (arith, all_len s (drop i s) (Some n) d e, length-drop i s) in ap (λ (j : ℕ). take j s) k

  pub part_behind : drop i s ≡ drop (unsigned_len s) s
  part_behind = all_behind s (drop i s) (Some n) d e

  by_plain : (t : Bool) → plain (unsigned_front s) ≡ t → then_some t n ≡ read_unsigned (unsigned_front s)
  by_plain true p = plain_front s (drop i s) (Some n) d e p
  by_plain false p = other_front (unsigned_front s) p

  pub part_front : then_some (plain (take i s)) n ≡ read_unsigned (unsigned_front s)
  part_front = rw front_is (by_plain (plain (unsigned_front s)) refl)

-- ---- the whole text

front_all : (s : List ℕ) → length (drop (unsigned_len s) s) ≡ 0 → unsigned_front s ≡ s
unfolding unsigned_front
front_all s e = take_all (unsigned_len s) s (omega (arith, length-drop (unsigned_len s) s))

-- a byte that is no digit
read_other : (v : ℕ) (s : List ℕ) → 0 < length (drop (unsigned_len s) s) → read_on v s ≡ None
unfolding read_on given
read_other v [] h = absurd (omega (arith, length-drop {A = ℕ} (unsigned_len []) []))
read_other v (b ∷ s) h =
    (elim (is_digit b) as (λ t. is_digit b ≡ t → given t (read_on (v * 10 + (b - 48)) s) ≡ None) [
      | true ↦ λ e. read_other (v * 10 + (b - 48)) s (rw (len_digit b s e) at h)
      | false ↦ λ e. refl
    ]) refl

given_nothing : (t : Bool) → limit (given t None) ≡ None
unfolding given at_most
given_nothing true = refl
given_nothing false = refl

pub part_none : (s : List ℕ) → 0 < length (drop (unsigned_len s) s) → read_unsigned s ≡ None
unfolding read_unsigned read_number
part_none s h = rw (read_other 0 s h) (given_nothing (plain s))

-- the rest behind the digits is t
module _ (s t : List ℕ) (n : Option ℕ) (p : n ≡ read_unsigned (unsigned_front s)) (q : t ≡ drop (unsigned_len s) s) where
  pub whole_number : length t ≡ 0 → n ≡ read_unsigned s
  whole_number e = rw (front_all s (rw (← q) e)) at p

  pub part_number : 0 < length t → None ≡ read_unsigned s
  part_number h = sym (part_none s (rw (← q) h))

-- ---- with a sign, or without

pub sign_first : (s : List ℕ) → get_or s 0 0 ≡ 45 → s ≡ 45 ∷ take (length s - 1) (drop 1 s)
sign_first [] e = absurd (omega arith)
sign_first (b ∷ s) e =
    let n : suc (length s) - 1 ≡ length s = omega arith in rw (e, n, take_all (length s) s (omega arith))

module _ (s t : List ℕ) (p : s ≡ 45 ∷ t) where
  minus_len : signed_len s ≡ suc (unsigned_len t)
  unfolding signed_len sign_len
  minus_len = rw p (omega arith)

  pub minus_behind : drop (unsigned_len t) t ≡ drop (signed_len s) s
  minus_behind = rw (minus_len, p)

  minus_front : signed_front s ≡ 45 ∷ unsigned_front t
  unfolding signed_front unsigned_front
  minus_front = rw (minus_len, p)

  pub minus_number : read_signed (signed_front s) ≡ minus (at_most (2 ^ 63) (read_unsigned (unsigned_front t)))
  minus_number = rw minus_front (signed_minus (45 ∷ unsigned_front t) refl)

front_no_sign : (s : List ℕ) → get_or (unsigned_front s) 0 0 ≡ 45 → get_or s 0 0 ≡ 45
front_no_sign [] e = rw (front_none [] len_none) at e
front_no_sign (b ∷ s) e =
    (elim (is_digit b) as (λ t. is_digit b ≡ t → b ≡ 45) [
      | true ↦ λ d. rw (front_digit b s d) at e
      | false ↦ λ d. absurd (let z : 0 ≡ 45 = rw (front_none (b ∷ s) (len_other b s d)) at e in omega arith)
    ]) refl

module _ (s : List ℕ) (p : get_or s 0 0 ≡ 45 → ⊥) where
  plus_len : signed_len s ≡ unsigned_len s
  unfolding signed_len sign_len
  plus_len = rw (ne_eqb (get_or s 0 0) 45 p) (omega arith)

  pub plus_behind : drop (unsigned_len s) s ≡ drop (signed_len s) s
  plus_behind = rw plus_len

  pub plus_number : read_signed (signed_front s) ≡ plus (at_most (2 ^ 63 - 1) (read_unsigned (unsigned_front s)))
  unfolding signed_front unsigned_front
  plus_number = rw plus_len (signed_plus (unsigned_front s) (λ e. p (front_no_sign s e)))

signed_all : (s : List ℕ) → length (drop (signed_len s) s) ≡ 0 → signed_front s ≡ s
unfolding signed_front
signed_all s e = take_all (signed_len s) s (omega (arith, length-drop (signed_len s) s))

pub signed_part : (s : List ℕ) → 0 < length (drop (signed_len s) s) → None ≡ read_signed s
unfolding plus minus at_most
signed_part [] h = absurd (omega (arith, length-drop {A = ℕ} (signed_len []) []))
signed_part (b ∷ s) h =
    (elim (eqb b 45) as (λ t. eqb b 45 ≡ t → None ≡ read_signed (b ∷ s)) [
      | true ↦ λ e.
          let f : b ≡ 45 = eqb-true b 45 e in
          let k : 0 < length (drop (unsigned_len s) s) = rw (minus_behind (b ∷ s) s (ap (λ x. x ∷ s) f)) h in
          rw (signed_minus (b ∷ s) f, part_none s k)
      | false ↦ λ e.
          let f : b ≡ 45 → ⊥ = eqb-false b 45 e in
          let k : 0 < length (drop (unsigned_len (b ∷ s)) (b ∷ s)) = rw (plus_behind (b ∷ s) f) h in
          rw (signed_plus (b ∷ s) f, part_none (b ∷ s) k)
    ]) refl

-- the rest behind the number is t
module _ (s t : List ℕ) (n : Option ℤ) (p : n ≡ read_signed (signed_front s)) (q : t ≡ drop (signed_len s) s) where
  pub whole_signed : length t ≡ 0 → n ≡ read_signed s
  whole_signed e = rw (signed_all s (rw (← q) e)) at p

  pub part_signed : 0 < length t → None ≡ read_signed s
  part_signed h = signed_part s (rw (← q) h)

-- ---- in 64 bits

plus_fits : (n : ℕ) (t : Bool) → leb n (2 ^ 63 - 1) ≡ t → (SFits w64 (pos n) → ⊥) → None ≡ plus (given t (Some n))
unfolding plus given
plus_fits n false e h = refl
plus_fits n true e h = absurd (h (record { sfits = omega (arith, leb-true n (2 ^ 63 - 1) e) }))

pub plus_is : {E : Type 0} (r : Result ℤ E) (n : ℕ) → OkIff r (SFits w64 (pos n)) (pos n) → result_ok r ≡ plus (at_most (2 ^ 63 - 1) (Some n))
unfolding plus at_most given
plus_is (Ok x) n h = let b : n < 2 ^ 63 = h.0.sfits in rw (le-leb n (2 ^ 63 - 1) (omega arith)) (ap (λ z. Some z) h.1)
plus_is (Err e) n h = plus_fits n (leb n (2 ^ 63 - 1)) refl h

minus_same : (n : ℕ) → pos 0 -ℤ pos n ≡ neg_ℤ (pos n)
minus_same n = omega (arith, ints)

fits_low : (n : ℕ) → SFits w64 (neg_ℤ (pos n)) → n ≤ 2 ^ 63
fits_low zero h = omega arith
fits_low (suc n) h = let b : n < 2 ^ 63 = h.sfits in omega arith

low_fits : (n : ℕ) → n ≤ 2 ^ 63 → SFits w64 (neg_ℤ (pos n))
low_fits zero h = record { sfits = omega arith }
low_fits (suc n) h = record { sfits = omega arith }

minus_fits : (n : ℕ) (t : Bool) → leb n (2 ^ 63) ≡ t → (SFits w64 (neg_ℤ (pos n)) → ⊥) → None ≡ minus (given t (Some n))
unfolding minus given
minus_fits n false e h = refl
minus_fits n true e h = absurd (h (low_fits n (leb-true n (2 ^ 63) e)))

pub minus_is : (r : Option ℤ) (n : ℕ) → SomeIff r (SFits w64 (pos 0 -ℤ pos n)) (pos 0 -ℤ pos n) → r ≡ minus (at_most (2 ^ 63) (Some n))
unfolding minus at_most given
minus_is (Some x) n h =
    rw (le-leb n (2 ^ 63) (fits_low n (subst (λ (z : ℤ). SFits w64 z) (minus_same n) h.0))) (ap (λ z. Some z) (h.1 ∙ minus_same n))
minus_is None n h = minus_fits n (leb n (2 ^ 63)) refl (λ f. h (subst (λ (z : ℤ). SFits w64 z) (sym (minus_same n)) f))

-- what f makes of a number, where there is one
pub by_number : (f : Option ℕ → Option ℤ) (o : Option ℕ) (r : Option ℤ) → f None ≡ None → MatchOption o (r ≡ None) (λ n. r ≡ f (Some n)) → r ≡ f o
by_number f None r e h = h ∙ sym e
by_number f (Some n) r e h = h
