-- Laws of the filter hold: the derived order of times, and lists under a test in std's words.
use Prim.Native.Nat.{ℕ, suc, ◌+◌, ◌*◌, ◌/◌, ◌%◌, ◌≤◌, ◌<◌, min}
use mathlib.Core.Path.{◌≡◌, refl, sym, ap, ◌∙◌}
use mathlib.Core.Bool.{true, false, cond, ◌||◌, ◌&&◌, not}
use mathlib.Core.List.{List, [], ◌∷◌, ◌++◌, append_assoc}
use native.Mathlib.Numerals.{add-one}
use native.Mathlib.Omega.{arith}
use borrow.Author.Tests.{ltb-true, ltb-false, lt-leb, leb-false}
use lib.Dec.{leb, ltb, eqb}
use lib.IntN.{ℤ, pos, negsuc, nat_abs}
use lib.Signed.{lt_z}
use lib.ListN.{length, take, drop, set, get_or, length-append}
use lib.Seq.{take-suc, drop-cons, set_at, length-take-le}
use mir.Syntax.{w32}
use mir.Val.{SFits}
use Rattle.std.specs.Prelude.{Option, Some, Result, Ok, Err}
use Rattle.std.specs.Bool.{◌==◌}
use Rattle.std.specs.Int.{FitsUnsignedBits}
use Rattle.std.specs.Result.{OkIff, result_unwrap_or}
use Rattle.std.specs.declared.cmp.Ordering.{Ordering}
use Rattle.std.specs.declared.cmp.Ordering.TheVariants.{Less, Equal, Greater}
use Rattle.std.specs.List.{filter, list_any, prefix_len}
use Rattle.std.specs.Ordering.{is_some_and, is_le, partial_ordering_then, int_cmp, nat_cmp}
use Rattle.std.proofs.lemmas.Bool.Decides.{nat_tests}
use Rattle.laws.specs.Whole.{eq_z}
use Rattle.laws.specs.Lists.{filter, list_any, index_of}
use Rattle.laws.proofs.Lists.{keep_none, keep_fewer, length_keep, length_split}
use Rattle.filter_hold.specs.declared.tbf.Time.{Time}
use Rattle.filter_hold.specs.declared.tbf.Held.{Held}
use Rattle.filter_hold.specs.Tbf.{not_after, from_zero, time_of, is_of, follows, supersede, words, written}

-- what the code reads past a list's end
abbrev pub free : Held
free = record { instance = 0; item = 0; due = record { sec = pos 0; nanosec = 0 } }

-- ---- due times

-- what stands for u64::try_from(sec).unwrap_or(0)
pub not_negative : {E : Type 0} (z : ℤ) (r : Result ℕ E) → OkIff r (FitsUnsignedBits 64 z) (nat_abs z) → SFits w32 z → result_unwrap_or r 0 ≡ from_zero z
not_negative (pos n) (Ok x) h f = h.1
not_negative (pos n) (Err e) h f = absurd (h (omega (arith, f.sfits)))
not_negative (negsuc n) (Ok x) h f = absurd h.0
not_negative (negsuc n) (Err e) h f = refl

-- i32::try_from(sec).unwrap_or(i32::MAX)
pub stopped : {E : Type 0} (n : ℕ) (r : Result ℤ E) → OkIff r (SFits w32 (pos n)) (pos n) → result_unwrap_or r (pos 2147483647) ≡ pos (min n 2147483647)
stopped n (Ok x) h = let f = h.0 in h.1 ∙ ap pos (let e : n ≡ min n 2147483647 = omega (arith, f.sfits) in e)
stopped n (Err e) h =
    (elim (ltb n 2147483648) as (λ b. ltb n 2147483648 ≡ b → pos 2147483647 ≡ pos (min n 2147483647)) [
      | true ↦ λ t. absurd (h (record { sfits = omega (arith, ltb-true n 2147483648 t) }))
      | false ↦ λ t. ap pos (let e : 2147483647 ≡ min n 2147483647 = omega (arith, ltb-false n 2147483648 t) in e)
    ]) refl

pub time_split : (s r n : ℕ) → r < 1000000000 → s * 1000000000 + r ≡ n → time_of n ≡ record { sec = pos (min s 2147483647); nanosec = r }
unfolding time_of
time_split s r n h e =
    let q : n / 1000000000 ≡ s = omega arith in
    let m : n % 1000000000 ≡ r = omega arith in
    rw (q, m)

-- ---- the order of times

not_below : (s t : ℤ) → lt_z s t ≡ false → eq_z s t ≡ not (lt_z t s)
not_below (pos a) (pos b) h = grind (arith, nat_tests)
not_below (pos a) (negsuc b) h = refl
not_below (negsuc a) (pos b) h = cc
not_below (negsuc a) (negsuc b) h = grind (arith, nat_tests)

at_most : (m n : ℕ) → is_le (nat_cmp m n) ≡ leb m n
at_most m n = grind (arith, nat_tests)

-- what the derived order says
pub before : (a b : Time) → is_some_and is_le (partial_ordering_then (Some (int_cmp a.sec b.sec)) (Some (nat_cmp a.nanosec b.nanosec))) ≡ not_after a b
unfolding not_after
before a b =
    let n : Option Ordering = Some (nat_cmp a.nanosec b.nanosec) in
    (elim (lt_z a.sec b.sec) as (λ v. lt_z a.sec b.sec ≡ v → is_some_and is_le (partial_ordering_then (Some (cond v Less (cond (lt_z b.sec a.sec) Greater Equal))) n) ≡ v || (eq_z a.sec b.sec && leb a.nanosec b.nanosec)) [
      | true ↦ λ e. refl
      | false ↦ λ e.
          rw (not_below a.sec b.sec e)
          (elim (lt_z b.sec a.sec) as (λ v. is_some_and is_le (partial_ordering_then (Some (cond v Greater Equal)) n) ≡ not v && leb a.nanosec b.nanosec) [
            | true ↦ refl
            | false ↦ at_most a.nanosec b.nanosec
          ])
    ]) refl

-- ---- lists

pub held_any : (k : ℕ) (l : List Held) → list_any (λ x. x.instance == k) l ≡ list_any (λ x. is_of k x) l
unfolding is_of
held_any k [] = refl
held_any k (x ∷ l) = let e : (x.instance == k) ≡ eqb k x.instance = grind (arith, nat_tests) in rw (e, held_any k l)

-- ---- a new instance among 32

pub full_at : (n : ℕ) → n ≤ 32 → (n == 32) ≡ leb 32 n
full_at n h = grind (arith, nat_tests)

-- a replacement isn't refused
pub replaces : (k : ℕ) (l : List Held) → list_any (λ x. x.instance == k) l ≡ true → not (list_any (λ x. is_of k x) l) && leb 32 (length l) ≡ false
replaces k l e = ap (λ b. not b && leb 32 (length l)) (sym (held_any k l) ∙ e)

-- nor a sample where fewer are held
pub few : (k : ℕ) (l : List Held) → length l ≤ 32 → (length l == 32) ≡ false → not (list_any (λ x. is_of k x) l) && leb 32 (length l) ≡ false
few k l h e =
    ap (λ b. not (list_any (λ x. is_of k x) l) && b) (sym (full_at (length l) h) ∙ e)
    ∙ elim (list_any (λ x. is_of k x) l) as (λ b. not b && false ≡ false) [ true ↦ refl | false ↦ refl ]

-- a new instance finds all 32 places taken exactly where the others take them all
pub full_same : (k : ℕ) (l : List Held) → length l ≤ 32 → not (list_any (λ x. is_of k x) l) && leb 32 (length l) ≡ leb 32 (length (supersede k l))
unfolding supersede
full_same k l h =
    (elim (list_any (λ x. is_of k x) l) as (λ b. list_any (λ x. is_of k x) l ≡ b → not b && leb 32 (length l) ≡ leb 32 (length (filter (λ x. not (is_of k x)) l))) [
      | true ↦ λ e. sym (lt-leb 32 (length (filter (λ x. not (is_of k x)) l)) (omega (arith, keep_fewer (λ x. is_of k x) l e)))
      | false ↦ λ e. ap (λ n. leb 32 n) (let n : length l ≡ length (filter (λ x. not (is_of k x)) l) = omega (arith, length_split (λ x. is_of k x) l, ap length (keep_none (λ x. is_of k x) l e)) in n)
    ]) refl

-- one that isn't refused has room
pub room : (k : ℕ) (l : List Held) → length l ≤ 32 → not (list_any (λ x. is_of k x) l) && leb 32 (length l) ≡ false → length (supersede k l) < 32
unfolding supersede
room k l h =
    (elim (list_any (λ x. is_of k x) l) as (λ b. list_any (λ x. is_of k x) l ≡ b → not b && leb 32 (length l) ≡ false → length (filter (λ x. not (is_of k x)) l) < 32) [
      | true ↦ λ e t. omega (arith, keep_fewer (λ x. is_of k x) l e)
      | false ↦ λ e t. omega (arith, length_keep (λ x. not (is_of k x)) l, leb-false 32 (length l) t)
    ]) refl

-- ---- the place of a sample

not_larger : (k j : ℕ) → leb j k ≡ not (ltb k j)
not_larger k j = grind (arith, nat_tests)

-- the first of a larger instance stands behind those that are not larger
pub place_index : (k : ℕ) (l : List Held) → prefix_len (λ x. leb x.instance k) l ≡ index_of (λ x. follows k x) l
unfolding index_of follows
place_index k [] = refl
place_index k (x ∷ l) =
    ap (λ n. cond (leb x.instance k) (1 + n) 0) (place_index k l)
    ∙ ap (λ b. cond b (1 + index_of (λ x. follows k x) l) 0) (not_larger k x.instance)
    ∙ elim (ltb k x.instance) as (λ b. cond (not b) (1 + index_of (λ x. follows k x) l) 0 ≡ cond b 0 (suc (index_of (λ x. follows k x) l))) [ true ↦ refl | false ↦ omega arith ]

-- ---- the words of samples

pub words_append : (l m : List Held) → words (l ++ m) ≡ words l ++ words m
unfolding words
words_append [] m = refl
words_append (x ∷ l) m = ap (λ y. x.instance ∷ x.item ∷ y) (words_append l m)

pub length_words : (l : List Held) → length (words l) ≡ length l * 2
unfolding words
length_words [] = refl
length_words (x ∷ l) = let ih = length_words l in omega arith

-- two places written behind a front
two_set : (w r : List ℕ) (y z a b k : ℕ) → length w ≡ k → set (set (w ++ (y ∷ z ∷ r)) k a) (k + 1) b ≡ w ++ (a ∷ b ∷ r)
two_set w r y z a b k h =
    let e : length (w ++ (a ∷ [])) ≡ k + 1 = length-append w (a ∷ []) ∙ omega arith in
    ap (λ x. set x (k + 1) b) (set_at w y (z ∷ r) a k h)
    ∙ ap (λ x. set x (k + 1) b) (sym (append_assoc w (a ∷ []) (z ∷ r)))
    ∙ set_at (w ++ (a ∷ [])) z r b (k + 1) e
    ∙ append_assoc w (a ∷ []) (b ∷ r)

-- the samples of l are written
pub written_more : (l : List Held) (x : Held) (out : List ℕ) → length l * 2 + 2 ≤ length out
    → set (set (written l out) (length l * 2) x.instance) (length l * 2 + 1) x.item ≡ written (l ++ (x ∷ [])) out
unfolding written words
written_more l x out h =
    let k : ℕ = length l * 2 in
    let e : length (l ++ (x ∷ [])) * 2 ≡ suc (suc k) = ap (λ n. n * 2) (length-append l (x ∷ [])) ∙ omega arith in
    let two : drop k out ≡ get_or out k 0 ∷ get_or out (suc k) 0 ∷ drop (suc (suc k)) out = drop-cons out k 0 (omega arith) ∙ ap (λ y. get_or out k 0 ∷ y) (drop-cons out (suc k) 0 (omega arith)) in
    ap (λ y. set (set (words l ++ y) k x.instance) (k + 1) x.item) two
    ∙ two_set (words l) (drop (suc (suc k)) out) (get_or out k 0) (get_or out (suc k) 0) x.instance x.item k (length_words l)
    ∙ sym (append_assoc (words l) (x.instance ∷ x.item ∷ []) (drop (suc (suc k)) out))
    ∙ ap (λ y. y ++ drop (suc (suc k)) out) (sym (words_append l (x ∷ [])))
    ∙ ap (λ n. words (l ++ (x ∷ [])) ++ drop n out) (sym e)

-- one sample more of an array is written
pub written_at : (held : List Held) (out₀ out : List ℕ) (i : ℕ) (d : Held) → out ≡ written (take i held) out₀ → i < length held → i * 2 + 2 ≤ length out₀
    → set (set out (i * 2) (get_or held i d).instance) (i * 2 + 1) (get_or held i d).item ≡ written (take (i + 1) held) out₀
written_at held out₀ out i d e h k =
    let n : length (take i held) ≡ i = length-take-le i held (omega arith) in
    let x : Held = get_or held i d in
    ap (λ o. set (set o (i * 2) x.instance) (i * 2 + 1) x.item) e
    ∙ ap (λ j. set (set (written (take i held) out₀) (j * 2) x.instance) (j * 2 + 1) x.item) (sym n)
    ∙ written_more (take i held) x out₀ (omega arith)
    ∙ ap (λ l. written l out₀) (sym (ap (λ j. take j held) (add-one i) ∙ take-suc held i d h))
