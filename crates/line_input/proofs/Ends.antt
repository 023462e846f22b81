-- Where the first newline of what is left stands, and what a line takes of it.
use Rattle.std.proofs.Common.{◌≡◌, ℕ, ◌+◌, ◌-◌, ◌≤◌, ◌<◌, min, true, false, List, ◌∷◌, ◌++◌, length, take, drop, Bool, Option, None, Some, refl, sym, ap, subst, ◌∙◌, arith, lt-ltb, le-ltb, append-nil}
use Rattle.std.specs.Prelude.{◌==◌, eqb, leb, cond, Ok, Err}
use Rattle.std.specs.Prelude.{Result}
use Rattle.std.specs.Io.KnownBytes.{Consumes, ReadConsumes, WriteAppends}
use Rattle.std.specs.Result.{result_unwrap_or}
use Rattle.std.specs.List.{position_or_len}
use Rattle.std.proofs.lemmas.List.Sums.{position_or_len_is}
use Rattle.std.proofs.lemmas.Bool.{false_from_ne_true}
use Rattle.memchr.specs.Find.{IsFirstByte, is_byte}
use Rattle.std.specs.Option.{is_some}
use Rattle.std.proofs.lemmas.List.{drop-take, length-take, take_all, take_min}
use Rattle.std.proofs.lemmas.List.Recursion.{is_position_or_len}
use Rattle.std.proofs.Common.{length-drop, leb-true, leb-false}
use Rattle.std.proofs.Math.Seq.{take-append-add}
use Rattle.std.proofs.lemmas.List.{take-append-le, take-append-drop}
use lib.Seq.{drop-drop}
use Rattle.decimal.specs.Split.{stop_or, before}
use Rattle.decimal.proofs.Splitting.{before_le}
use Rattle.line_input.specs.declared.ahead.Ahead.{Ahead}
use Rattle.line_input.specs.Input.{IsEnd, left, has_line, with_part}

-- as the code names what is left
pub left_is : (xs : List ℕ) (at count : ℕ) → at ≤ count → take (count - at) (drop at xs) ≡ drop at (take count xs)
left_is xs at count h =
    let e : at + (count - at) ≡ count = omega arith in
    sym (drop-take at (count - at) xs) ∙ ap (λ n. drop at (take n xs)) e

pub left_fits : (a : Ahead) (n : ℕ) → n ≤ length (left a) → a.at + n ≤ a.count
unfolding left
left_fits a n h = omega (arith, h, a.ordered, length-drop a.at (take a.count a.chunk), length-take a.count a.chunk)

pub left_on : (a a' : Ahead) (n : ℕ) → a'.chunk ≡ a.chunk → a'.at ≡ a.at + n → a'.count ≡ a.count → left a' ≡ drop n (left a)
unfolding left
left_on a a' n c p q =
    ap (λ k. drop k (take a'.count a'.chunk)) p
    ∙ ap (λ l. drop (a.at + n) (take a'.count l)) c
    ∙ ap (λ k. drop (a.at + n) (take k a.chunk)) q
    ∙ sym (drop-drop n a.at (take a.count a.chunk))

-- ---- the first newline

pub end_is : (s : List ℕ) (r : Option ℕ) → IsFirstByte (is_byte 10) s r → IsEnd s r
unfolding before stop_or
end_is s r h =
    let p : ℕ → Bool = λ b. b == 10 in
    let step : (b : ℕ) (t : List ℕ) → before 10 (b ∷ t) ≡ cond (eqb b 10) 0 (1 + before 10 t) =
    λ b t. elim (eqb b 10) as (λ x. stop_or x (before 10 t) ≡ cond x 0 (1 + before 10 t)) [ true ↦ refl | false ↦ omega arith ] in
    let first : before 10 s ≡ position_or_len p s = is_position_or_len (before 10) p refl step s in
    (elim r as (λ x. IsFirstByte (is_byte 10) s x → IsEnd s x) [
      | None ↦ λ n.
          first ∙ position_or_len_is p s (length s) 0 (omega arith) (λ k l. false_from_ne_true _ (n k (omega arith) l)) (λ l. absurd (omega (arith, l)))
      | Some k ↦ λ n. (
        sym (first ∙ position_or_len_is p s k 0 (omega (arith, n.0.high)) (λ j l. false_from_ne_true _ (n.0.before j (omega arith) l)) (λ _. n.1)),
        n.0.high,
      )
    ]) h

pub has_is : (a : Ahead) (r : Option ℕ) → IsEnd (left a) r → is_some r ≡ has_line a
unfolding has_line
has_is a None h = sym (le-ltb (before 10 (left a)) (length (left a)) (omega (arith, h)))
has_is a (Some n) h = sym (lt-ltb (before 10 (left a)) (length (left a)) (omega (arith, h.0, h.1)))

-- ---- what a line takes

pub part_written : {E : Type 0} (line line' part : List ℕ) (r : Result ℕ E) → WriteAppends (Some line) (Some line') r part
    → r ≡ Ok (min (256 - length line) (length part)) → line' ≡ with_part line part
unfolding with_part
part_written {E} line line' part r w e =
    (subst (λ (x : Result ℕ E). WriteAppends (Some line) (Some line') x part) e w) ∙ ap (λ l. line ++ l) (take_min (256 - length line) part)

-- of a text of which it took the front
pub part_on : (line s part : List ℕ) → line ≡ take 256 s → with_part line part ≡ take 256 (s ++ part)
unfolding with_part
part_on line s part e =
    (elim (leb (length s) 256) as (λ t. leb (length s) 256 ≡ t → with_part line part ≡ take 256 (s ++ part)) [
      | true ↦ λ h.
          let p : length s ≤ 256 = leb-true (length s) 256 h in
          let q : line ≡ s = e ∙ take_all 256 s p in
          let k : length s + (256 - length s) ≡ 256 = omega arith in
          ap (λ l. l ++ take (256 - length l) part) q ∙ sym (take-append-add s part (256 - length s)) ∙ ap (λ n. take n (s ++ part)) k
      | false ↦ λ h.
          let p : 256 < length s = leb-false (length s) 256 h in
          let k : 256 - length line ≡ 0 = omega (arith, ap (λ l. length l) e, length-take 256 s) in
          ap (λ n. line ++ take n part) k ∙ rw append-nil (e ∙ sym (take-append-le 256 s part (omega arith)))
    ]) refl

-- up to its newline
pub take_to : (s : List ℕ) → take 256 (take (before 10 s) s) ≡ take (min (before 10 s) 256) s
take_to s =
    let b = before 10 s in
    let l : length (take b s) ≡ b = omega (arith, length-take b s, before_le 10 s) in
    (elim (leb b 256) as (λ t. leb b 256 ≡ t → take 256 (take b s) ≡ take (min b 256) s) [
      | true ↦ λ h.
          let p : b ≤ 256 = leb-true b 256 h in
          let m : b ≡ min b 256 = omega arith in
          take_all 256 (take b s) (omega arith) ∙ ap (λ n. take n s) m
      | false ↦ λ h.
          let p : 256 < b = leb-false b 256 h in
          let m : 256 ≡ min b 256 = omega arith in
          sym (take-append-le 256 (take b s) (drop b s) (omega arith)) ∙ ap (λ x. take 256 x) (take-append-drop b s) ∙ ap (λ n. take n s) m
    ]) refl

-- ---- what a read brings

pub read_bytes : {E : Type 0} (known known' : Option (List ℕ)) (r : Result ℕ E) (buf : List ℕ) (n : ℕ) → ReadConsumes known known' r buf
    → n ≡ result_unwrap_or r 0 → Consumes known known' (take n buf)
read_bytes {E} known known' (Ok n) buf m h e = subst (λ k. Consumes known known' (take k buf)) (sym e) h.0
read_bytes {E} None known' (Err x) buf m h e = tt
read_bytes {E} (Some xs) None (Err x) buf m h e = h
read_bytes {E} (Some xs) (Some ys) (Err x) buf m h e = subst (λ k. xs ≡ take k buf ++ ys) (sym e) (sym h)

pub read_left : (a : Ahead) → a.at ≡ 0 → left a ≡ take a.count a.chunk
unfolding left
read_left a e = ap (λ k. drop k (take a.count a.chunk)) e
