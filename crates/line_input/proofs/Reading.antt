-- A line on its way, read by read.
use Rattle.std.proofs.Common.{◌≡◌, ℕ, suc, ◌+◌, ◌<◌, min, Bool, true, false, List, [], ◌∷◌, ◌++◌, length, take, drop, Option, None, Some, refl, sym, ap, subst, ◌∙◌, arith, append-nil, append_assoc, ltb-true, ltb-false, lt-ltb, ne_eqb, length-append}
use Rattle.std.specs.Prelude.{eqb, ltb, not}
use Rattle.std.specs.Io.KnownBytes.{Consumes}
use Rattle.std.proofs.lemmas.List.{length-take, take_all}
use Rattle.std.proofs.Math.Seq.{take-append-add, drop-append-add}
use lib.ListN.{drop_of_length-le}
use Rattle.arrayvec.specs.ArrayVec.{ArrayVec}
use Rattle.decimal.specs.Split.{stop_or, before}
use Rattle.decimal.proofs.Splitting.{before_le}
use Rattle.line_input.specs.declared.Lines.{Lines}
use Rattle.line_input.specs.declared.ahead.Ahead.{Ahead}
use Rattle.line_input.specs.Input.{IsUnread, left, has_line, line_if, first_line, LineOf, NextLine, PartTaken}
use Rattle.line_input.proofs.Ends.{left_on, part_on, take_to}

-- ---- where the first newline of two texts stands

-- behind a text that has none
before_on : (s t : List ℕ) → before 10 s ≡ length s → before 10 (s ++ t) ≡ length s + before 10 t
unfolding before stop_or
before_on [] t h = omega arith
before_on (b ∷ s) t h =
    (elim (eqb b 10) as (λ x. stop_or x (before 10 s) ≡ suc (length s) → stop_or x (before 10 (s ++ t)) ≡ suc (length s) + before 10 t) [
      | true ↦ λ e. absurd (omega (arith, e))
      | false ↦ λ e. let p : before 10 s ≡ length s = omega (arith, e) in omega (arith, before_on s t p)
    ]) h

-- in a text that has one
before_in : (s t : List ℕ) → before 10 s < length s → before 10 (s ++ t) ≡ before 10 s
unfolding before stop_or
before_in [] t h = absurd (omega (arith, h))
before_in (b ∷ s) t h =
    (elim (eqb b 10) as (λ x. stop_or x (before 10 s) < suc (length s) → stop_or x (before 10 (s ++ t)) ≡ stop_or x (before 10 s)) [
      | true ↦ λ e. refl
      | false ↦ λ e. let p : before 10 s < length s = omega (arith, e) in omega (arith, before_in s t p)
    ]) h

clear_on : (s t : List ℕ) → before 10 s ≡ length s → before 10 t ≡ length t → before 10 (s ++ t) ≡ length (s ++ t)
clear_on s t h k = before_on s t h ∙ omega (arith, k, length-append s t)

-- ---- the known bytes that two reads bring

consumed_none : (a : Option (List ℕ)) → Consumes a a []
consumed_none None = tt
consumed_none (Some x) = refl

consumed_on : (a b c : Option (List ℕ)) (xs ys : List ℕ) → Consumes a b xs → Consumes b c ys → Consumes a c (xs ++ ys)
consumed_on None b c xs ys p q = tt
consumed_on (Some x) None c xs ys p q = absurd p
consumed_on (Some x) (Some y) None xs ys p q = absurd q
consumed_on (Some x) (Some y) (Some z) xs ys p q = p ∙ ap (λ l. xs ++ l) q ∙ sym (append_assoc xs ys z)

-- ---- what a part says

unread_left : (a : Ahead) → IsUnread a → left a ≡ []
unfolding left
unread_left a u =
    ap (λ n. drop a.at (take n a.chunk)) u.1 ∙ drop_of_length-le (take 0 a.chunk) {i = a.at} (omega (arith, length-take 0 a.chunk))

has_not : (a : Ahead) → false ≡ has_line a → before 10 (left a) ≡ length (left a)
unfolding has_line
has_not a e = omega (arith, ltb-false (before 10 (left a)) (length (left a)) (sym e), before_le 10 (left a))

has_one : (a : Ahead) → true ≡ has_line a → before 10 (left a) < length (left a)
unfolding has_line
has_one a e = ltb-true (before 10 (left a)) (length (left a)) (sym e)

some_line : (t : List ℕ) → not (eqb (length (take 256 t)) 0) ≡ ltb 0 (length t)
some_line [] = refl
some_line (b ∷ t) = ap not (ne_eqb (suc (length (take 255 t))) 0 (λ e. omega (arith, e))) ∙ sym (lt-ltb 0 (suc (length t)) (omega arith))

-- ---- the line so far

-- nothing is left, and there was no newline in what came
pub record Taking {R : Type 0} (remaining : R → Option (List ℕ)) (l m : Lines R) : Type 0 where
  pub came : List ℕ
  pub clear : before 10 (left l.ahead ++ came) ≡ length (left l.ahead ++ came)
  pub text : m.line.items ≡ take 256 (left l.ahead ++ came)
  pub known : Consumes (remaining l.reader) (remaining m.reader) came
  pub unread : IsUnread m.ahead

-- the line of a text without a newline and one behind it
line_whole : {R : Type 0} (t : List ℕ) (mid now : Lines R) → before 10 t ≡ length t → mid.line.items ≡ take 256 t → PartTaken mid true now
    → LineOf (t ++ left mid.ahead) (line_if true now.line.items) now.ahead
unfolding first_line
line_whole {R} t mid now c e p =
    let u = left mid.ahead in
    let h = has_one mid.ahead p.is_whole in
    let w = p.whole refl in
    let b : before 10 (t ++ u) ≡ length t + before 10 u = before_on t u c in
    let o : length t + suc (before 10 u) ≡ suc (length t + before 10 u) = omega arith in
    let text : now.line.items ≡ take (min (before 10 (t ++ u)) 256) (t ++ u) =
    p.line ∙ part_on mid.line.items t (take (before 10 u) u) e
    ∙ ap (λ x. take 256 x) (sym (take-append-add t u (before 10 u)) ∙ ap (λ n. take n (t ++ u)) (sym b))
    ∙ take_to (t ++ u) in
    record {
      line =
          ap (λ x. line_if true x) text
          ∙ ap (λ x. line_if x (take (min (before 10 (t ++ u)) 256) (t ++ u))) (sym (lt-ltb 0 (length (t ++ u)) (omega (arith, h, length-append t u))));
      rest =
          left_on mid.ahead now.ahead (suc (before 10 u)) w.0 w.1 w.2
          ∙ sym (drop-append-add t u (suc (before 10 u)))
          ∙ ap (λ n. drop n (t ++ u)) (o ∙ ap (λ n. suc n) (sym b));
    }

module _ {R : Type 0} (remaining : R → Option (List ℕ)) (l : Lines R) where
  abbrev s : List ℕ
  s = left l.ahead

  -- the newline is in what was left
  pub found_here : {line₀ : ArrayVec ℕ} {now : Lines R} → line₀.items ≡ []
      → PartTaken (record { reader = l.reader; ahead = l.ahead; line = line₀ }) true now → NextLine remaining l (line_if true now.line.items) now
  unfolding before
  found_here {line₀} {now} e p =
      let mid : Lines R = record { reader = l.reader; ahead = l.ahead; line = line₀ } in
      let o : LineOf s (line_if true now.line.items) now.ahead = line_whole [] mid now refl e p in
      let o' = subst (λ x. LineOf x (line_if true now.line.items) now.ahead) (sym (append-nil s)) o in
      let h = has_one l.ahead p.is_whole in
      let w = p.whole refl in
      record {
        read =
            record {
              came = [];
              next = o';
              here = λ _. (refl, w.0, w.1, w.2);
              read = λ k. absurd (omega (arith, h, k));
            };
        taken =
            record {
              came = [];
              read = subst (λ x. Consumes (remaining l.reader) (remaining x) []) (sym p.reader) (consumed_none (remaining l.reader));
              next = o';
            };
        waits = λ _. p.reader;
      }

  pub begun : {line₀ : ArrayVec ℕ} {now : Lines R} → line₀.items ≡ []
      → PartTaken (record { reader = l.reader; ahead = l.ahead; line = line₀ }) false now → Taking remaining l now
  begun {line₀} {now} e p =
      let c = has_not l.ahead p.is_whole in
      record {
        came = [];
        clear = rw append-nil c;
        text =
            p.line ∙ part_on line₀.items [] (take (before 10 s) s) e
            ∙ ap (λ x. take 256 x) (ap (λ n. take n s) c ∙ take_all (length s) s (omega arith) ∙ sym (append-nil s));
        known = subst (λ x. Consumes (remaining l.reader) (remaining x) []) (sym p.reader) (consumed_none (remaining l.reader));
        unread = p.begun refl;
      }

  not_here : {m : Lines R} → Taking remaining l m → before 10 s < length s → ⊥
  not_here t h = omega (arith, h, before_in s t.came h, t.clear, length-append s t.came)

  module _ {m : Lines R} (t : Taking remaining l m) (r : R) (a : Ahead) (k : Consumes (remaining m.reader) (remaining r) (left a)) where
    abbrev mid : Lines R
    mid = record { reader = r; ahead = a; line = m.line }

    abbrev came' : List ℕ
    came' = t.came ++ left a

    known_on : Consumes (remaining l.reader) (remaining r) came'
    known_on = consumed_on (remaining l.reader) (remaining m.reader) (remaining r) t.came (left a) t.known k

    -- a read brought no newline
    pub read_on : {now : Lines R} → PartTaken mid false now → Taking remaining l now
    read_on {now} p =
        let c = has_not a p.is_whole in
        record {
          came = came';
          clear = rw (← append_assoc s t.came (left a)) (clear_on (s ++ t.came) (left a) t.clear c);
          text =
              p.line ∙ part_on m.line.items (s ++ t.came) (take (before 10 (left a)) (left a)) t.text
              ∙ ap (λ x. take 256 x) (ap (λ n. (s ++ t.came) ++ take n (left a)) c ∙ ap (λ x. (s ++ t.came) ++ x) (take_all (length (left a)) (left a) (omega arith)) ∙ append_assoc s t.came (left a));
          known = subst (λ x. Consumes (remaining l.reader) (remaining x) came') (sym p.reader) known_on;
          unread = p.begun refl;
        }

    -- or one
    pub found_later : {now : Lines R} → left a ≡ take a.count a.chunk → PartTaken mid true now → NextLine remaining l (line_if true now.line.items) now
    found_later {now} e p =
        let o = line_whole (s ++ t.came) mid now t.clear t.text p in
        let o' : LineOf (s ++ came') (line_if true now.line.items) now.ahead =
        subst (λ x. LineOf x (line_if true now.line.items) now.ahead) (append_assoc s t.came (left a)) o in
        let w = p.whole refl in
        record {
          read =
              record {
                came = came';
                next = o';
                here = λ h. absurd (not_here t h);
                read =
                    λ _. (t.came, ap (λ x. t.came ++ x) (e ∙ ap (λ n. take n a.chunk) (sym w.2) ∙ ap (λ x. take now.ahead.count x) (sym w.0)));
              };
          taken =
              record {
                came = came';
                read = subst (λ x. Consumes (remaining l.reader) (remaining x) came') (sym p.reader) known_on;
                next = o';
              };
          waits = λ h. absurd (not_here t (has_one l.ahead (sym h)));
        }

    -- or no byte
    pub at_end : IsUnread a → Taking remaining l mid
    at_end u =
        let e : came' ≡ t.came = ap (λ x. t.came ++ x) (unread_left a u) ∙ append-nil t.came in
        record {
          came = t.came;
          clear = t.clear;
          text = t.text;
          known = subst (λ x. Consumes (remaining l.reader) (remaining r) x) e known_on;
          unread = u;
        }

  -- the last line
  pub line_last : {m : Lines R} (more : Bool) → Taking remaining l m → more ≡ not (eqb (length m.line.items) 0) → NextLine remaining l (line_if more m.line.items) m
  unfolding first_line
  line_last {m} more t e =
      let x = s ++ t.came in
      let n = before 10 x in
      let b : more ≡ ltb 0 (length x) = e ∙ ap (λ y. not (eqb (length y) 0)) t.text ∙ some_line x in
      let text : m.line.items ≡ take (min n 256) x = t.text ∙ ap (λ y. take 256 y) (sym (take_all n x (omega (arith, t.clear)))) ∙ take_to x in
      let o : LineOf x (line_if more m.line.items) m.ahead =
      record {
        line = ap (λ y. line_if y m.line.items) b ∙ ap (λ y. line_if (ltb 0 (length x)) y) text;
        rest = unread_left m.ahead t.unread ∙ sym (drop_of_length-le x {i = suc n} (omega (arith, t.clear)));
      } in
      record {
        read =
            record {
              came = t.came;
              next = o;
              here = λ h. absurd (not_here t h);
              read = λ _. (t.came, sym (append-nil t.came) ∙ ap (λ k. t.came ++ take k m.ahead.chunk) (sym t.unread.1));
            };
        taken = record { came = t.came; read = t.known; next = o };
        waits = λ h. absurd (not_here t (has_one l.ahead (sym h)));
      }
