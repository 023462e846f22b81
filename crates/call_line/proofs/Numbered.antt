-- A line read from the front is the line read by the numbers of its fields.
use Rattle.std.proofs.Common.{◌≡◌, ℕ, zero, suc, ◌+◌, ◌-◌, ◌^◌, ◌≤◌, Bool, true, false, cond, eqb, leb, List, [], ◌∷◌, length, get_or, drop, Option, Some, None, refl, sym, ap, ◌∙◌, arith, option_and_then, ne_eqb, eq-eqb, length-drop}
use Rattle.std.proofs.lemmas.Option.{none-some}
use Rattle.std.proofs.lemmas.Bool.{eqb-true, eqb-false, leb-true, leb-false}
use Rattle.std.proofs.lemmas.List.{drop-drop}
use Rattle.decimal.specs.Read.{given, at_most, plain, read_number, read_unsigned, read_signed_by, read_signed, plus}
use Rattle.fields.specs.Fields.{fields_of, field_at, only, up_to, byte, word, long, number}
use Rattle.fields.specs.Left.{left, first_as, sole, Passes}
use Rattle.fields.specs.declared.line.Fields.{Fields}
use Rattle.fields.proofs.Fields.{some_field}
use Rattle.call_line.specs.declared.line.Line.{Line}
use Rattle.call_line.specs.Line.{◌⊛◌, optional, guid_of, guid, number_if, word_if, sized, start_line, counted_line, digest_line, sample_line, end_line, heartbeat_line, gap_line, release_line, line_by, line_of}
use Rattle.call_line.specs.Taken.{taking, ending, guid_as, take_timeout, take_counted, take_digest, take_sample, take_end, take_heartbeat, take_gap, take_release}

-- ---- field k

get_none : (fs : List (List ℕ)) (k : ℕ) → length fs ≤ k → get_or fs k [] ≡ []
get_none [] k h = refl
get_none (f ∷ fs) zero h = absurd (omega arith)
get_none (f ∷ fs) (suc k) h = get_none fs k (omega arith)

first_at : {A : Type 0} (d : List ℕ → Option A) → d [] ≡ None → (k : ℕ) (fs : List (List ℕ)) → first_as d (drop k fs) ≡ d (get_or fs k [])
unfolding first_as
first_at d n zero [] = sym n
first_at d n zero (f ∷ fs) = refl
first_at d n (suc k) [] = sym n
first_at d n (suc k) (f ∷ fs) = first_at d n k fs

there : {A : Type 0} (d : List ℕ → Option A) → d [] ≡ None → (k : ℕ) (fs : List (List ℕ)) (a : A) → d (get_or fs k []) ≡ Some a → suc k ≤ length fs
there d n k fs a e =
    (elim (leb (length fs) k) as (λ t. leb (length fs) k ≡ t → suc k ≤ length fs) [
      | true ↦ λ h. absurd (none-some a (sym n ∙ sym (ap d (get_none fs k (leb-true (length fs) k h))) ∙ e))
      | false ↦ λ h. omega (arith, leb-false (length fs) k h)
    ]) refl

either : (t : Bool) → ◌≡◌ {A = Option Line} None (cond t None None)
either true = refl
either false = refl

-- ---- the fields from k on

module _ (n : ℕ) (l : List ℕ) where
  abbrev fs : List (List ℕ)
  fs = fields_of l

  -- what `go` makes of a value and of the fields from k on is what `read` makes of the value and of the line
  record Same {A : Type 0} (k : ℕ) (go : A → List (List ℕ) → Option Line) (read : Option A → Option Line) : Type 0 where
    none : None ≡ sized n l (read None)
    some : (a : A) → k ≤ length fs → go a (drop k fs) ≡ sized n l (read (Some a))

  last : Same n (λ (a : Line). ending a) (λ h. h)
  unfolding sized ending
  last = record {
    none = either (eqb (length fs) n);
    some = λ a h.
        (elim (eqb (length fs) n) as (λ t. eqb (length fs) n ≡ t → cond (eqb (length (drop n fs)) 0) (Some a) None ≡ cond t (Some a) None) [
          | true ↦ λ e. rw (eq-eqb (length (drop n fs)) 0 (omega (arith, length-drop n fs, eqb-true (length fs) n e)))
          | false ↦ λ e. rw (ne_eqb (length (drop n fs)) 0 (λ q. eqb-false (length fs) n e (omega (arith, length-drop n fs, q, h))))
        ]) refl;
  }

  module _ {A C : Type 0} (d : List ℕ → Option C) (e : d [] ≡ None) (k : ℕ) {go : A → List (List ℕ) → Option Line} {read : Option A → Option Line} where
    taken : Same (suc k) go read → (f : C → A) (o : Option C) → d (get_or fs k []) ≡ o
        → option_and_then (λ c. go (f c) (drop 1 (drop k fs))) o ≡ sized n l (read (Some f ⊛ o))
    unfolding ◌⊛◌
    taken s f None q = s.none
    taken s f (Some c) q =
        let m : k + 1 ≡ suc k = omega arith in
        ap (λ t. go (f c) t) (drop-drop 1 k fs ∙ ap (λ i. drop i fs) m) ∙ s.some (f c) (there d e k fs c q)

    next : Same (suc k) go read → Same k (λ f. taking d (λ c. go (f c))) (λ h. read (h ⊛ d (field_at k l)))
    unfolding taking ◌⊛◌ field_at
    next s = record {
      none = s.none;
      some = λ f h. ap (λ o. option_and_then (λ c. go (f c) (drop 1 (drop k fs))) o) (first_at d e k fs) ∙ taken s f (d (get_or fs k [])) refl;
    }

-- ---- an empty field is bad

up_to_none : (m : ℕ) → up_to m [] ≡ None
unfolding up_to at_most read_unsigned read_number plain given
up_to_none m = refl

long_none : read_unsigned [] ≡ None
unfolding at_most read_unsigned read_number plain given
long_none = refl

signed_none : read_signed [] ≡ None
unfolding at_most read_signed read_signed_by read_number plain given plus
signed_none = refl

optional_none : {A : Type 0} (r : Option A) → r ≡ None → optional r [] ≡ None
unfolding optional only ◌⊛◌
optional_none r e = rw e

-- ---- the kinds of field

module _ (n : ℕ) (l : List ℕ) {A : Type 0} {read : Option A → Option Line} where
  guid_next : (k : ℕ) {go : A → List (List ℕ) → Option Line} → Same n l (suc k) go read → Same n l k (λ f. taking (λ s. guid_as s) (λ c. go (f c))) (λ h. read (h ⊛ guid k l))
  unfolding guid byte guid_as ◌⊛◌
  guid_next k s = next n l (λ s. guid_as s) (ap (λ o. Some (λ k. guid_of k) ⊛ o) (up_to_none (2 ^ 8 - 1))) k s

  byte_next : (k : ℕ) {go : A → List (List ℕ) → Option Line} → Same n l (suc k) go read → Same n l k (λ f. taking (λ s. up_to (2 ^ 8 - 1) s) (λ c. go (f c))) (λ h. read (h ⊛ byte k l))
  unfolding byte
  byte_next k s = next n l (λ s. up_to (2 ^ 8 - 1) s) (up_to_none (2 ^ 8 - 1)) k s

  word_next : (k : ℕ) {go : A → List (List ℕ) → Option Line} → Same n l (suc k) go read → Same n l k (λ f. taking (λ s. up_to (2 ^ 32 - 1) s) (λ c. go (f c))) (λ h. read (h ⊛ word k l))
  unfolding word
  word_next k s = next n l (λ s. up_to (2 ^ 32 - 1) s) (up_to_none (2 ^ 32 - 1)) k s

  long_next : (k : ℕ) {go : A → List (List ℕ) → Option Line} → Same n l (suc k) go read → Same n l k (λ f. taking (λ s. read_unsigned s) (λ c. go (f c))) (λ h. read (h ⊛ long k l))
  unfolding long
  long_next k s = next n l (λ s. read_unsigned s) (long_none) k s

  number_next : (k : ℕ) {go : A → List (List ℕ) → Option Line} → Same n l (suc k) go read → Same n l k (λ f. taking (λ s. read_signed s) (λ c. go (f c))) (λ h. read (h ⊛ number k l))
  unfolding number
  number_next k s = next n l (λ s. read_signed s) (signed_none) k s

  number_if_next : (k : ℕ) {go : A → List (List ℕ) → Option Line} → Same n l (suc k) go read → Same n l k (λ f. taking (λ s. optional (read_signed s) s) (λ c. go (f c))) (λ h. read (h ⊛ number_if k l))
  unfolding number_if number
  number_if_next k s = next n l (λ s. optional (read_signed s) s) (optional_none (read_signed []) signed_none) k s

  word_if_next : (k : ℕ) {go : A → List (List ℕ) → Option Line} → Same n l (suc k) go read → Same n l k (λ f. taking (λ s. optional (up_to (2 ^ 32 - 1) s) s) (λ c. go (f c))) (λ h. read (h ⊛ word_if k l))
  unfolding word_if word
  word_if_next k s = next n l (λ s. optional (up_to (2 ^ 32 - 1) s) s) (optional_none (up_to (2 ^ 32 - 1) []) (up_to_none (2 ^ 32 - 1))) k s

-- ---- the lines

module _ (l : List ℕ) where
  at_least_one : 1 ≤ length (fields_of l)
  at_least_one = omega (arith, some_field l)

  pub timeout_same : take_timeout (drop 1 (fields_of l)) ≡ start_line l
  unfolding start_line
  timeout_same = (long_next 2 l 1 (last 2 l)).some _ at_least_one

  pub release_same : take_release (drop 1 (fields_of l)) ≡ release_line l
  unfolding release_line
  release_same = (long_next 2 l 1 (last 2 l)).some _ at_least_one

  pub digest_same : take_digest (drop 1 (fields_of l)) ≡ digest_line l
  unfolding digest_line
  digest_same = (guid_next 3 l 1 (word_next 3 l 2 (last 3 l))).some _ at_least_one

  pub gap_same : take_gap (drop 1 (fields_of l)) ≡ gap_line l
  unfolding gap_line
  gap_same = (guid_next 5 l 1 (guid_next 5 l 2 (byte_next 5 l 3 (number_next 5 l 4 (last 5 l))))).some _ at_least_one

  pub counted_same : take_counted (drop 1 (fields_of l)) ≡ counted_line l
  unfolding counted_line
  counted_same = (guid_next 4 l 1 (guid_next 4 l 2 (byte_next 4 l 3 (last 4 l)))).some _ at_least_one

  pub heartbeat_same : take_heartbeat (drop 1 (fields_of l)) ≡ heartbeat_line l
  unfolding heartbeat_line
  heartbeat_same =
      (guid_next 8 l 1 (guid_next 8 l 2 (number_next 8 l 3 (number_next 8 l 4 (number_next 8 l 5 (word_if_next 8 l 6 (word_if_next 8 l 7 (last 8 l)))))))).some
      _
      at_least_one

  pub sample_same : take_sample (drop 1 (fields_of l)) ≡ sample_line l
  unfolding sample_line
  sample_same =
      (guid_next 9 l 1 (guid_next 9 l 2 (byte_next 9 l 3 (number_next 9 l 4 (number_if_next 9 l 5 (word_next 9 l 6 (word_next 9 l 7 (long_next 9 l 8 (last 9 l))))))))).some
      _
      at_least_one

  pub end_same : take_end (drop 1 (fields_of l)) ≡ end_line l
  unfolding end_line
  end_same =
      (guid_next 10 l 1 (guid_next 10 l 2 (byte_next 10 l 3 (number_next 10 l 4 (number_if_next 10 l 5 (word_next 10 l 6 (number_if_next 10 l 7 (number_if_next 10 l 8 (long_next 10 l 9 (last 10 l)))))))))).some
      _
      at_least_one

-- ---- the letter

only_some : (c : ℕ) (fs : List (List ℕ)) → Some c ≡ first_as (λ f. sole f) fs → only (get_or fs 0 []) ≡ c
unfolding first_as sole only
only_some c [] e = absurd (none-some c (sym e))
only_some c ([] ∷ fs) e = absurd (none-some c (sym e))
only_some c ((b ∷ []) ∷ fs) e = cc
only_some c ((b ∷ a ∷ f) ∷ fs) e = absurd (none-some c (sym e))

only_none : (fs : List (List ℕ)) → None ≡ first_as (λ f. sole f) fs → only (get_or fs 0 []) ≡ 0
unfolding first_as sole only
only_none [] e = refl
only_none ([] ∷ r) e = refl
only_none ((b ∷ []) ∷ r) e = absurd (none-some b e)
only_none ((b ∷ a ∷ f) ∷ r) e = refl

module _ (f : Fields) (l : List ℕ) (e : left f ≡ fields_of l) where
  line_is : (c : ℕ) → Some c ≡ first_as (λ f. sole f) (left f) → line_of l ≡ line_by c l
  unfolding line_of field_at
  line_is c h = ap (λ k. line_by k l) (only_some c (fields_of l) (h ∙ ap (λ fs. first_as (λ f. sole f) fs) e))

  -- the line of a letter
  pub with_letter : (g : Fields) (take : List (List ℕ) → Option Line) (c k : ℕ) → Passes f g → Some c ≡ first_as (λ f. sole f) (left f) → c ≡ k
      → take (drop 1 (fields_of l)) ≡ line_by k l → take (left g) ≡ line_of l
  with_letter g take c k p h q t = ap take (p.fields ∙ ap (λ fs. drop 1 fs) e) ∙ t ∙ sym (line_is c h ∙ ap (λ k. line_by k l) q)

  pub no_letter : None ≡ first_as (λ f. sole f) (left f) → None ≡ line_of l
  unfolding line_of line_by field_at
  no_letter h = sym (ap (λ k. line_by k l) (only_none (fields_of l) (h ∙ ap (λ fs. first_as (λ f. sole f) fs) e)))

  pub other_letter : (c : ℕ) → Some c ≡ first_as (λ f. sole f) (left f)
      → (c ≡ 84 → ⊥) → (c ≡ 86 → ⊥) → (c ≡ 68 → ⊥) → (c ≡ 83 → ⊥) → (c ≡ 69 → ⊥) → (c ≡ 72 → ⊥) → (c ≡ 71 → ⊥) → (c ≡ 82 → ⊥) → None ≡ line_of l
  unfolding line_by
  other_letter c h t v d s n b g r =
      sym (line_is c h ∙ simp (ne_eqb c 84 t, ne_eqb c 86 v, ne_eqb c 68 d, ne_eqb c 83 s, ne_eqb c 69 n, ne_eqb c 72 b, ne_eqb c 71 g, ne_eqb c 82 r))
