-- Laws of the fields that are left: the first one, and those behind it.
use Rattle.std.proofs.Common.{◌≡◌, ℕ, zero, suc, ◌+◌, ◌-◌, ◌≤◌, ◌<◌, Bool, true, false, cond, eqb, leb, ◌||◌, ◌&&◌, List, [], ◌∷◌, length, get_or, take, drop, Option, Some, None, refl, sym, ap, ◌∙◌, arith, ne_eqb, length-drop, ltb, slice_get, MatchOption, ℤ, Result, Ok, Err, unwrap_or, le-leb}
use Rattle.std.specs.Result.{OkIff, result_ok}
use Rattle.std.specs.List.{position_or_len}
use Rattle.std.proofs.lemmas.Option.{none-some}
use Rattle.std.proofs.lemmas.List.Recursion.{is_position_or_len}
use Rattle.std.proofs.lemmas.Bool.{eqb-true, eqb-false, ltb-false, leb-true, and_parts, false≢true}
use Rattle.std.proofs.lemmas.List.{take_all, drop-drop}
use Rattle.decimal.specs.Read.{given, is_digit, read_unsigned, read_signed, at_most, unsigned_len, unsigned_front, sign_len, signed_len, signed_front}
use Rattle.decimal.specs.Split.{stop_or, before}
use Rattle.decimal.proofs.Fronts.{len_le, part_none, signed_part}
use Rattle.fields.specs.Fields.{lengthen, fields_of, only, up_to}
use Rattle.fields.specs.Front.{ends, line_in, field_in}
use Rattle.fields.specs.declared.line.Fields.{Fields}
use Rattle.fields.specs.Left.{left, behind, Passes, first_as, sole, is_dash, behind_newline, PartRead, next_fields, next_behind}

abbrev pub tail : Bool → List ℕ → List ℕ
tail nl s = drop (length (field_in nl s)) s

-- a line's first byte ends the line, or is a space, or neither
newline_no_space : (nl : Bool) (b : ℕ) → ends nl b ≡ true → eqb b 32 ≡ false
unfolding ends
newline_no_space true b e = ne_eqb b 32 (λ q. omega (arith, q, eqb-true b 10 e))
newline_no_space false b e = absurd (false≢true e)

module _ (nl : Bool) (b : ℕ) (s : List ℕ) where
  at_newline : ends nl b ≡ true → (line_in nl (b ∷ s) ≡ []) × (field_in nl (b ∷ s) ≡ [])
  unfolding line_in field_in
  at_newline e = (rw e, rw (e, newline_no_space nl b e))

  at_space : ends nl b ≡ false → eqb b 32 ≡ true → (line_in nl (b ∷ s) ≡ b ∷ line_in nl s) × (field_in nl (b ∷ s) ≡ [])
  unfolding line_in field_in
  at_space e q = (rw e, rw q)

  at_other : ends nl b ≡ false → eqb b 32 ≡ false → (line_in nl (b ∷ s) ≡ b ∷ line_in nl s) × (field_in nl (b ∷ s) ≡ b ∷ field_in nl s)
  unfolding line_in field_in
  at_other e q = (rw e, rw (q, e))

line_goes_on : (nl : Bool) (b : ℕ) (s : List ℕ) → ends nl b ≡ false → length (line_in nl (b ∷ s)) ≡ suc (length (line_in nl s))
unfolding line_in
line_goes_on nl b s e = rw e

pub line_fields : (nl : Bool) (s : List ℕ) → fields_of (line_in nl s) ≡ field_in nl s ∷ next_fields nl (tail nl s)
unfolding fields_of next_fields lengthen line_in field_in
line_fields nl [] = refl
line_fields nl (b ∷ s) =
    (elim (ends nl b) as (λ t. ends nl b ≡ t → fields_of (line_in nl (b ∷ s)) ≡ field_in nl (b ∷ s) ∷ next_fields nl (tail nl (b ∷ s))) [
      | true ↦ λ e. rw ((at_newline nl b s e).0, (at_newline nl b s e).1, newline_no_space nl b e)
      | false ↦ λ e.
          (elim (eqb b 32) as (λ t. eqb b 32 ≡ t → fields_of (line_in nl (b ∷ s)) ≡ field_in nl (b ∷ s) ∷ next_fields nl (tail nl (b ∷ s))) [
            | true ↦ λ q. rw ((at_space nl b s e q).0, (at_space nl b s e q).1, q)
            | false ↦ λ q. rw ((at_other nl b s e q).0, (at_other nl b s e q).1, q, line_fields nl s)
          ]) refl
    ]) refl

pub line_behind : (nl : Bool) (s : List ℕ) → drop (length (line_in nl s)) s ≡ next_behind nl (tail nl s)
unfolding next_behind line_in field_in
line_behind nl [] = refl
line_behind nl (b ∷ s) =
    (elim (ends nl b) as (λ t. ends nl b ≡ t → drop (length (line_in nl (b ∷ s))) (b ∷ s) ≡ next_behind nl (tail nl (b ∷ s))) [
      | true ↦ λ e. rw ((at_newline nl b s e).0, (at_newline nl b s e).1, newline_no_space nl b e)
      | false ↦ λ e.
          (elim (eqb b 32) as (λ t. eqb b 32 ≡ t → drop (length (line_in nl (b ∷ s))) (b ∷ s) ≡ next_behind nl (tail nl (b ∷ s))) [
            | true ↦ λ q. rw ((at_space nl b s e q).0, (at_space nl b s e q).1, q)
            | false ↦ λ q. rw ((at_other nl b s e q).0, (at_other nl b s e q).1) (line_behind nl s)
          ]) refl
    ]) refl

pub tail_stops : (nl : Bool) (s : List ℕ) → field_in nl (tail nl s) ≡ []
unfolding field_in
tail_stops nl [] = refl
tail_stops nl (b ∷ s) =
    (elim (eqb b 32 || ends nl b) as (λ t. (eqb b 32 || ends nl b) ≡ t → field_in nl (drop (length (cond t [] (b ∷ field_in nl s))) (b ∷ s)) ≡ []) [
      | true ↦ λ e. rw e
      | false ↦ λ e. tail_stops nl s
    ]) refl

-- what is left of the first field behind its first k bytes
field_part : (nl : Bool) (s : List ℕ) (k : ℕ) → k ≤ length (field_in nl s) → k + length (field_in nl (drop k s)) ≡ length (field_in nl s)
unfolding field_in
field_part nl s zero h = omega arith
field_part nl [] (suc k) h = absurd (omega arith)
field_part nl (b ∷ s) (suc k) h =
    (elim (eqb b 32 || ends nl b) as (λ t. suc k ≤ length (cond t [] (b ∷ field_in nl s)) → suc k + length (field_in nl (drop k s)) ≡ length (cond t [] (b ∷ field_in nl s))) [
      | true ↦ λ g. absurd (omega arith)
      | false ↦ λ g. omega (arith, field_part nl s k (omega arith))
    ]) h

pub unread_tail : (f : Fields) (s : List ℕ) → PartRead f s → drop (length (field_in f.newlines s)) s ≡ tail f.newlines f.rest.now
unread_tail f s p =
    rw (p.is, drop-drop) (ap (λ n. drop n f.rest.now) (field_part f.newlines f.rest.now p.len p.within))

no_fields : (nl : Bool) (t : List ℕ) → (get_or t 0 0 ≡ 32 → ⊥) → next_fields nl t ≡ []
unfolding next_fields
no_fields nl [] z = refl
no_fields nl (b ∷ t) z = rw (ne_eqb b 32 z)

-- ---- a field taken

module _ (old new : Fields) (t : List ℕ) (m : old.more ≡ true) (p : t ≡ tail old.newlines old.rest.now) where
  pub passes : left new ≡ next_fields old.newlines t → behind new ≡ next_behind old.newlines t → Passes old new
  unfolding left behind
  passes f b = record {
    fields = f ∙ rw (m, line_fields old.newlines old.rest.now, p);
    behind = b ∙ rw p (sym (line_behind old.newlines old.rest.now));
  }

-- ---- those behind a field's end

module _ (nl : Bool) (t : List ℕ) (f : Fields) (n : f.newlines ≡ nl) where
  module _ (u : List ℕ) (p : t ≡ 32 ∷ u) (m : f.more ≡ true) (r : f.rest.now ≡ u) where
    pub space_fields : left f ≡ next_fields nl t
    unfolding left next_fields
    space_fields = rw (p, m, r, n)

    pub space_behind : behind f ≡ next_behind nl t
    unfolding behind next_behind
    space_behind = rw (p, r, n)

  module _ (z : get_or t 0 0 ≡ 32 → ⊥) (e : field_in nl t ≡ []) (m : f.more ≡ false) (r : f.rest.now ≡ t) where
    pub other_fields : left f ≡ next_fields nl t
    unfolding left
    other_fields = rw m (sym (no_fields nl t z))

    pub other_behind : behind f ≡ next_behind nl t
    unfolding behind
    other_behind = rw (r, n) (line_behind nl t ∙ rw e)

pub first_is : (a : ℕ) (s : List ℕ) → 0 < a → get_or s 0 0 ≡ a → s ≡ a ∷ take (length s - 1) (drop 1 s)
first_is a [] h e = absurd (omega arith)
first_is a (b ∷ s) h e =
    let n : suc (length s) - 1 ≡ length s = omega arith in rw (e, n, take_all (length s) s (omega arith))

pub space_first : (s : List ℕ) → get_or s 0 0 ≡ 32 → s ≡ 32 ∷ take (length s - 1) (drop 1 s)
space_first s e = first_is 32 s (omega arith) e

pub newline_behind : (l : List ℕ) (b : ℕ) (u : List ℕ) → l ≡ b ∷ u → Some u ≡ behind_newline l
unfolding behind_newline
newline_behind l b u e = rw e

pub nothing_behind : (l : List ℕ) → length l ≡ 0 → None ≡ behind_newline l
unfolding behind_newline
nothing_behind [] e = refl
nothing_behind (b ∷ l) e = absurd (omega arith)

pub behind_at : (f : Fields) (k : ℕ) → k ≡ length (line_in f.newlines f.rest.now) → drop k f.rest.now ≡ behind f
unfolding behind
behind_at f k e = rw e

-- a field that a space ends
module _ (old new : Fields) (s u : List ℕ) (q : PartRead old s) (p : s ≡ 32 ∷ u) where
  space_here : field_in old.newlines s ≡ []
  unfolding field_in
  space_here = rw p

  pub space_whole : true ≡ eqb (length (field_in old.newlines s)) 0
  space_whole = rw space_here

  here : s ≡ tail old.newlines old.rest.now
  here = sym (ap (λ (f : List ℕ). drop (length f) s) space_here) ∙ unread_tail old s q

  pub space_passes : new.newlines ≡ old.newlines → new.more ≡ true → new.rest.now ≡ u → Passes old new
  space_passes n m r = passes old new s q.more here (space_fields old.newlines s new n u p m r) (space_behind old.newlines s new n u p m r)

-- a field that the line's end ends
pub line_nothing : (nl : Bool) (s : List ℕ) → length s ≡ 0 → true ≡ eqb (length (line_in nl s)) 0
unfolding line_in
line_nothing nl [] e = refl
line_nothing nl (b ∷ s) e = absurd (omega arith)

pub line_first_end : (nl : Bool) (s : List ℕ) → 0 < length s → (nl && eqb (get_or s 0 0) 10) ≡ eqb (length (line_in nl s)) 0
unfolding line_in ends
line_first_end nl [] h = absurd (omega arith)
line_first_end nl (b ∷ s) h =
    elim (nl && eqb b 10) as (λ t. t ≡ eqb (length (cond t [] (b ∷ line_in nl s))) 0) [
      | true ↦ refl
      | false ↦ sym (ne_eqb (suc (length (line_in nl s))) 0 (λ e. omega (arith, e)))
    ]

line_over : (nl : Bool) (s : List ℕ) → length (line_in nl s) ≡ 0 → (field_in nl s ≡ []) × (get_or s 0 0 ≡ 32 → ⊥)
unfolding field_in
line_over nl [] e = (refl, λ z. omega (arith, z))
line_over nl (b ∷ s) e =
    (elim (ends nl b) as (λ t. ends nl b ≡ t → (field_in nl (b ∷ s) ≡ []) × (b ≡ 32 → ⊥)) [
      | true ↦ λ q. ((at_newline nl b s q).1, λ z. eqb-false b 32 (newline_no_space nl b q) z)
      | false ↦ λ q. absurd (let l : length (line_in nl (b ∷ s)) ≡ suc (length (line_in nl s)) = line_goes_on nl b s q in omega arith)
    ]) refl

module _ (old new : Fields) (s : List ℕ) (q : PartRead old s) (e : length (line_in old.newlines s) ≡ 0) where
  pub end_whole : true ≡ eqb (length (field_in old.newlines s)) 0
  end_whole = rw (line_over old.newlines s e).0

  there : s ≡ tail old.newlines old.rest.now
  there = sym (ap (λ (f : List ℕ). drop (length f) s) (line_over old.newlines s e).0) ∙ unread_tail old s q

  pub end_passes : new.newlines ≡ old.newlines → new.more ≡ false → new.rest.now ≡ s → Passes old new
  end_passes n m r =
      let h = line_over old.newlines s e in
      passes old new s q.more there (other_fields old.newlines s new n h.1 h.0 m r) (other_behind old.newlines s new n h.1 h.0 m r)

-- a byte that ends nothing
pub unread_whole : (nl : Bool) (s : List ℕ) → (get_or s 0 0 ≡ 32 → ⊥) → (length (line_in nl s) ≡ 0 → ⊥) → false ≡ eqb (length (field_in nl s)) 0
unfolding line_in field_in
unread_whole nl [] z l = absurd (l refl)
unread_whole nl (b ∷ s) z l =
    (elim (ends nl b) as (λ t. (length (cond t [] (b ∷ line_in nl s)) ≡ 0 → ⊥) → false ≡ eqb (length (cond (eqb b 32 || t) [] (b ∷ field_in nl s))) 0) [
      | true ↦ λ k. absurd (k refl)
      | false ↦ λ k. rw (ne_eqb b 32 z) (sym (ne_eqb (suc (length (field_in nl s))) 0 (λ e. omega (arith, e))))
    ]) l

-- ---- what is left, and the next field

module _ (f : Fields) where
  pub none_left : f.more ≡ false → left f ≡ []
  unfolding left
  none_left m = rw m

  pub some_left : f.more ≡ true → left f ≡ field_in f.newlines f.rest.now ∷ next_fields f.newlines (tail f.newlines f.rest.now)
  unfolding left
  some_left m = rw m (line_fields f.newlines f.rest.now)

  pub none_passes : f.more ≡ false → Passes f f
  none_passes m = record { fields = rw (none_left m); behind = refl }

module _ {A : Type 0} (d : List ℕ → Option A) where
  pub first_none : (f : Fields) → f.more ≡ false → None ≡ first_as d (left f)
  unfolding first_as
  first_none f m = rw (none_left f m)

  pub first_some : (f : Fields) → f.more ≡ true → d (field_in f.newlines f.rest.now) ≡ first_as d (left f)
  unfolding first_as
  first_some f m = rw (some_left f m)

  pub text_none : (l : List (List ℕ)) → None ≡ slice_get l 0 → None ≡ first_as d l
  unfolding first_as
  text_none [] e = refl
  text_none (f ∷ l) e = absurd (none-some f e)

  pub text_some : (l : List (List ℕ)) (f : List ℕ) → Some f ≡ slice_get l 0 → d f ≡ first_as d l
  unfolding first_as
  text_some [] f e = absurd (none-some f (sym e))
  text_some (g ∷ l) f e = ap d (cc)

field_nothing : (nl : Bool) → field_in nl [] ≡ []
unfolding field_in
field_nothing nl = refl

-- ---- a field's bytes

pub field_take : (nl : Bool) (s : List ℕ) → take (length (field_in nl s)) s ≡ field_in nl s
unfolding field_in
field_take nl [] = refl
field_take nl (b ∷ s) =
    (elim (eqb b 32 || ends nl b) as (λ t. take (length (cond t [] (b ∷ field_in nl s))) (b ∷ s) ≡ cond t [] (b ∷ field_in nl s)) [
      | true ↦ refl
      | false ↦ ap (λ f. b ∷ f) (field_take nl s)
    ])

pub field_short : (nl : Bool) (s : List ℕ) → length (field_in nl s) ≤ length s
unfolding field_in
field_short nl [] = omega arith
field_short nl (b ∷ s) =
    (elim (eqb b 32 || ends nl b) as (λ t. length (cond t [] (b ∷ field_in nl s)) ≤ suc (length s)) [
      | true ↦ omega arith
      | false ↦ omega (arith, field_short nl s)
    ])

by_test : (t : Bool) (b : ℕ) (f : List ℕ) → length (cond t [] (b ∷ f)) ≡ cond t 0 (1 + length f)
by_test true b f = refl
by_test false b f = omega arith

abbrev stops : Bool → ℕ → Bool
stops nl b = eqb b 32 || ends nl b

field_position : (nl : Bool) (s : List ℕ) → length (field_in nl s) ≡ position_or_len (λ b. stops nl b) s
unfolding field_in
field_position nl s =
    is_position_or_len (λ s. length (field_in nl s)) (λ b. stops nl b) refl (λ b s. by_test (stops nl b) b (field_in nl s)) s

at_place : (len n r : ℕ) (t : Bool) → MatchOption (cond t (Some n) None) (r ≡ len) (λ n. r ≡ n) → (t ≡ false → len ≡ n) → r ≡ n
at_place len n r true h e = h
at_place len n r false h e = h ∙ e refl

-- the first byte that ends the field, or the text's end
pub field_found : (nl : Bool) (s : List ℕ) (r : ℕ) (found : Option ℕ)
    → found ≡ cond (ltb (position_or_len (λ b. stops nl b) s) (length s)) (Some (position_or_len (λ b. stops nl b) s)) None
    → MatchOption found (r ≡ length s) (λ n. r ≡ n) → r ≡ length (field_in nl s)
field_found nl s r found e h =
    let n = length (field_in nl s) in
    let q : ltb n (length s) ≡ false → length s ≡ n = λ k. omega (arith, ltb-false n (length s) k, field_short nl s) in
    let m : MatchOption (cond (ltb n (length s)) (Some n) None) (r ≡ length s) (λ n. r ≡ n) = rw (field_position nl s, ← e) h in
    at_place (length s) n r (ltb n (length s)) m q

pub line_short : (nl : Bool) (s : List ℕ) → length (line_in nl s) ≤ length s
unfolding line_in
line_short nl [] = omega arith
line_short nl (b ∷ s) =
    (elim (ends nl b) as (λ t. length (cond t [] (b ∷ line_in nl s)) ≤ suc (length s)) [ true ↦ omega arith | false ↦ omega (arith, line_short nl s) ])

pub line_whole : (s : List ℕ) → line_in false s ≡ s
unfolding line_in ends
line_whole [] = refl
line_whole (b ∷ s) = ap (λ t. b ∷ t) (line_whole s)

line_position : (s : List ℕ) → length (line_in true s) ≡ position_or_len (λ b. eqb b 10) s
unfolding line_in ends
line_position s =
    is_position_or_len (λ s. length (line_in true s)) (λ b. eqb b 10) refl (λ b s. by_test (eqb b 10) b (line_in true s)) s

-- a text's first line is its front
pub line_first : (s : List ℕ) → line_in true s ≡ take (before 10 s) s
unfolding line_in ends before stop_or
line_first [] = refl
line_first (b ∷ s) = (elim (eqb b 10) as (λ t. cond t [] (b ∷ line_in true s) ≡ take (stop_or t (before 10 s)) (b ∷ s)) [ true ↦ refl | false ↦ ap (λ l. b ∷ l) (line_first s) ])

-- the first newline, or the text's end
pub line_found : (s : List ℕ) (found : Option ℕ)
    → found ≡ cond (ltb (position_or_len (λ b. eqb b 10) s) (length s)) (Some (position_or_len (λ b. eqb b 10) s)) None
    → unwrap_or found (length s) ≡ length (line_in true s)
line_found s found e =
    let n = length (line_in true s) in
    let f : found ≡ cond (ltb n (length s)) (Some n) None = rw (line_position s) e in
    rw f
    ((elim (ltb n (length s)) as (λ t. ltb n (length s) ≡ t → unwrap_or (cond t (Some n) None) (length s) ≡ n) [
      | true ↦ λ k. refl
      | false ↦ λ k. omega (arith, ltb-false n (length s) k, line_short true s)
    ]) refl)

-- ---- numbers

no_stop : (nl : Bool) (b : ℕ) → (b ≡ 32 → ⊥) → (b ≡ 10 → ⊥) → stops nl b ≡ false
unfolding ends
no_stop true b p q = rw (ne_eqb b 32 p, ne_eqb b 10 q)
no_stop false b p q = rw (ne_eqb b 32 p)

digit_no_stop : (nl : Bool) (b : ℕ) → is_digit b ≡ true → stops nl b ≡ false
unfolding is_digit
digit_no_stop nl b e = let l : 48 ≤ b = leb-true 48 b (and_parts (leb 48 b) (leb b 57) e).0 in no_stop nl b (λ q. omega arith) (λ q. omega arith)

-- the digits at a text's front are those of its first field
digits_same : (nl : Bool) (s : List ℕ) → unsigned_len (field_in nl s) ≡ unsigned_len s
unfolding unsigned_len field_in
digits_same nl [] = refl
digits_same nl (b ∷ s) =
    (elim (is_digit b) as (λ t. is_digit b ≡ t → unsigned_len (field_in nl (b ∷ s)) ≡ unsigned_len (b ∷ s)) [
      | true ↦ λ e. rw (digit_no_stop nl b e, e) (ap (λ n. 1 + n) (digits_same nl s))
      | false ↦ λ e.
          rw e
          (elim (stops nl b) as (λ t. unsigned_len (cond t [] (b ∷ field_in nl s)) ≡ 0) [ true ↦ refl | false ↦ rw e ])
    ]) refl

minus_len : (s : List ℕ) → signed_len (45 ∷ s) ≡ 1 + unsigned_len s
unfolding signed_len sign_len
minus_len s = refl

plus_len : (s : List ℕ) → (get_or s 0 0 ≡ 45 → ⊥) → signed_len s ≡ unsigned_len s
unfolding signed_len sign_len
plus_len s p = rw (ne_eqb (get_or s 0 0) 45 p) (omega arith)

field_minus : (nl : Bool) (s : List ℕ) → field_in nl (45 ∷ s) ≡ 45 ∷ field_in nl s
unfolding field_in
field_minus nl s = rw (no_stop nl 45 (λ e. omega (arith, e)) (λ e. omega (arith, e)))

field_first : (nl : Bool) (b : ℕ) (s : List ℕ) → (b ≡ 45 → ⊥) → get_or (field_in nl (b ∷ s)) 0 0 ≡ 45 → ⊥
unfolding field_in
field_first nl b s p =
    elim (stops nl b) as (λ t. get_or (cond t [] (b ∷ field_in nl s)) 0 0 ≡ 45 → ⊥) [ true ↦ λ e. omega (arith, e) | false ↦ p ]

signed_same : (nl : Bool) (s : List ℕ) → signed_len (field_in nl s) ≡ signed_len s
signed_same nl [] = rw (field_nothing nl)
signed_same nl (b ∷ s) =
    (elim (eqb b 45) as (λ t. eqb b 45 ≡ t → signed_len (field_in nl (b ∷ s)) ≡ signed_len (b ∷ s)) [
      | true ↦ λ e. rw (eqb-true b 45 e, field_minus nl s, minus_len (field_in nl s), minus_len s) (ap (λ n. 1 + n) (digits_same nl s))
      | false ↦ λ e.
          let p : b ≡ 45 → ⊥ = eqb-false b 45 e in
          plus_len (field_in nl (b ∷ s)) (field_first nl b s p) ∙ digits_same nl (b ∷ s) ∙ sym (plus_len (b ∷ s) p)
    ]) refl

signed_le : (s : List ℕ) → signed_len s ≤ length s
signed_le [] = rw (plus_len [] (λ e. omega (arith, e))) (len_le [])
signed_le (b ∷ s) =
    (elim (eqb b 45) as (λ t. eqb b 45 ≡ t → signed_len (b ∷ s) ≤ suc (length s)) [
      | true ↦ λ e. rw (eqb-true b 45 e, minus_len s) (omega (arith, len_le s))
      | false ↦ λ e. rw (plus_len (b ∷ s) (eqb-false b 45 e)) (len_le (b ∷ s))
    ]) refl

-- what d makes of the first k bytes is what it makes of the field, where the field ends there; else it makes nothing of it
module _ {A : Type 0} (d : List ℕ → Option A) (len : List ℕ → ℕ) (f : Fields) (m : f.more ≡ true) where
  abbrev field : List ℕ
  field = field_in f.newlines f.rest.now

  module _ (same : len field ≡ len f.rest.now) (few : len field ≤ length field) (s : List ℕ) (e : s ≡ drop (len f.rest.now) f.rest.now) where
    pub read_part : PartRead f s
    read_part = record { more = m; len = len f.rest.now; within = rw (← same) few; is = e }

    unread : len field + length (field_in f.newlines s) ≡ length field
    unread = rw (e, ← same) (field_part f.newlines f.rest.now (len field) few)

    pub read_whole : (n : Option A) → n ≡ d (take (len f.rest.now) f.rest.now) → length (field_in f.newlines s) ≡ 0 → n ≡ first_as d (left f)
    read_whole n p h =
        let k : len f.rest.now ≡ length field = omega (arith, unread, same) in
        p ∙ rw (k, field_take f.newlines f.rest.now) (first_some d f m)

    pub read_more : (0 < length (drop (len field) field) → None ≡ d field) → 0 < length (field_in f.newlines s) → None ≡ first_as d (left f)
    read_more none h = none (omega (arith, unread, length-drop (len field) field)) ∙ first_some d f m

module _ (f : Fields) (m : f.more ≡ true) (s : List ℕ) where
  module _ (e : s ≡ drop (unsigned_len f.rest.now) f.rest.now) where
    pub unsigned_read : PartRead f s
    unsigned_read = read_part (λ t. read_unsigned t) (λ t. unsigned_len t) f m (digits_same f.newlines f.rest.now) (len_le (field_in f.newlines f.rest.now)) s e

    pub unsigned_whole : (n : Option ℕ) → n ≡ read_unsigned (unsigned_front f.rest.now) → length (field_in f.newlines s) ≡ 0
        → n ≡ first_as (λ t. read_unsigned t) (left f)
    unfolding unsigned_front
    unsigned_whole n p h =
        read_whole (λ t. read_unsigned t) (λ t. unsigned_len t) f m (digits_same f.newlines f.rest.now) (len_le (field_in f.newlines f.rest.now)) s e n p h

    pub unsigned_more : 0 < length (field_in f.newlines s) → None ≡ first_as (λ t. read_unsigned t) (left f)
    unsigned_more h =
        read_more (λ t. read_unsigned t) (λ t. unsigned_len t) f m (digits_same f.newlines f.rest.now) (len_le (field_in f.newlines f.rest.now)) s e
        (λ k. sym (part_none (field_in f.newlines f.rest.now) k))
        h

  module _ (e : s ≡ drop (signed_len f.rest.now) f.rest.now) where
    pub signed_read : PartRead f s
    signed_read = read_part (λ t. read_signed t) (λ t. signed_len t) f m (signed_same f.newlines f.rest.now) (signed_le (field_in f.newlines f.rest.now)) s e

    pub signed_whole : (n : Option ℤ) → n ≡ read_signed (signed_front f.rest.now) → length (field_in f.newlines s) ≡ 0
        → n ≡ first_as (λ t. read_signed t) (left f)
    unfolding signed_front
    signed_whole n p h =
        read_whole (λ t. read_signed t) (λ t. signed_len t) f m (signed_same f.newlines f.rest.now) (signed_le (field_in f.newlines f.rest.now)) s e n p h

    pub signed_more : 0 < length (field_in f.newlines s) → None ≡ first_as (λ t. read_signed t) (left f)
    signed_more h =
        read_more (λ t. read_signed t) (λ t. signed_len t) f m (signed_same f.newlines f.rest.now) (signed_le (field_in f.newlines f.rest.now)) s e
        (λ k. signed_part (field_in f.newlines f.rest.now) k)
        h

-- ---- narrower numbers

pub narrow_none : (m : ℕ) (l : List (List ℕ)) → first_as (λ t. read_unsigned t) l ≡ None → None ≡ first_as (λ t. up_to m t) l
unfolding first_as up_to at_most
narrow_none m [] e = refl
narrow_none m (f ∷ l) e = rw e

narrow_some : (m n : ℕ) (l : List (List ℕ)) → first_as (λ t. read_unsigned t) l ≡ Some n → at_most m (Some n) ≡ first_as (λ t. up_to m t) l
unfolding first_as up_to
narrow_some m n [] e = absurd (none-some n e)
narrow_some m n (f ∷ l) e = rw e

limit_fits : (m n : ℕ) (t : Bool) → leb n m ≡ t → (n < suc m → ⊥) → None ≡ given t (Some n)
unfolding given
limit_fits m n true e h = absurd (h (omega (arith, leb-true n m e)))
limit_fits m n false e h = refl

-- what is left of a number in a narrower type, whose values are at most m
pub narrowed : {E : Type 0} (m n : ℕ) (l : List (List ℕ)) (r : Result ℕ E) → first_as (λ t. read_unsigned t) l ≡ Some n → OkIff r (n < suc m) n
    → result_ok r ≡ first_as (λ t. up_to m t) l
unfolding at_most given
narrowed m n l (Ok x) e h = rw (← narrow_some m n l e, le-leb n m (omega (arith, h.0))) (ap (λ z. Some z) h.1)
narrowed m n l (Err x) e h = limit_fits m n (leb n m) refl h ∙ narrow_some m n l e
