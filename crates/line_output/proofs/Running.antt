-- Lines that are answered in turn.
use Rattle.std.proofs.Common.{◌≡◌, ℕ, ◌+◌, Bool, true, false, List, [], ◌∷◌, ◌++◌, length, take, Option, None, Some, refl, sym, ap, subst, ◌∙◌, arith, append-nil, append_assoc, true≢false, length-append}
use Rattle.std.specs.Prelude.{◌⊎◌, ◌-◌, ◌^◌, IsSome, IsNone, flat_map}
use Rattle.std.specs.Option.{is_some}
use Rattle.std.specs.List.{FoldsTo}
use Rattle.std.proofs.lemmas.Fn.{FoldsTo-push}
use Rattle.std.proofs.lemmas.List.{append_cancel_left}
use Rattle.std.proofs.Math.Seq.{take-append-add}
use Rattle.line_input.specs.declared.Lines.{Lines}
use Rattle.line_input.specs.Input.{NextLine}
use Rattle.line_output.specs.declared.Output.{Output}
use Rattle.line_output.specs.Output.{pending, Passes, Written, Flushed, Before}
use Rattle.line_output.specs.Answers.{Turn, Answered}
use Rattle.line_output.proofs.Writing.{Front, front_in}

-- ---- one text after another

passes_on : (a b c : Option (List ℕ)) (before t u p q : List ℕ) → Passes a b before t p → Passes b c p u q → Passes a c before (t ++ u) q
passes_on None b c before t u p q h k = tt
passes_on (Some x) None c before t u p q h k = absurd h
passes_on (Some x) (Some y) None before t u p q h k = absurd k
passes_on (Some x) (Some y) (Some z) before t u p q h k =
    k ∙ sym (append_assoc y p u) ∙ ap (λ l. l ++ u) h ∙ append_assoc x (before ++ t) u ∙ ap (λ l. x ++ l) (append_assoc before t u)

front_on : (a b c : Option (List ℕ)) (before t u p : List ℕ) → Passes a b before t p → Front a b (before ++ t) → Front b c (p ++ u) → Front a c ((before ++ t) ++ u)
front_on None b c before t u p h j k = (0, tt)
front_on (Some x) None c before t u p h j k = absurd h
front_on (Some x) (Some y) None before t u p h j k = absurd k.1
front_on (Some x) (Some y) (Some z) before t u p h j k =
    let s = before ++ t in
    let f = take j.0 s in
    let q : s ≡ f ++ p = append_cancel_left x s (f ++ p) (sym h ∙ ap (λ l. l ++ p) j.1 ∙ append_assoc x f p) in (
      length f + k.0,
      k.1
          ∙ ap (λ l. l ++ take k.0 (p ++ u)) j.1
          ∙ append_assoc x f (take k.0 (p ++ u))
          ∙ ap (λ l. x ++ l) (sym (take-append-add f (p ++ u) k.0))
          ∙ ap (λ l. x ++ take (length f + k.0) l) (sym (append_assoc f p u) ∙ ap (λ l. l ++ u) (sym q)),
    )

module _ {W : Type 0} (contents : W → Option (List ℕ)) where
  pub written_on : (k : Option (List ℕ)) (before t u : List ℕ) (o r : Output W) → Written k (contents o.writer) before t o
      → Written (contents o.writer) (contents r.writer) (pending o) u r → (IsSome o.failed → r ≡ o) → Written k (contents r.writer) before (t ++ u) r
  written_on k before t u o r w v s =
      (elim (is_some o.failed) as (λ x. is_some o.failed ≡ x → Written k (contents r.writer) before (t ++ u) r) [
        | true ↦ λ h. subst (λ y. Written k (contents y.writer) before (t ++ u) y) (sym (s h))
            (record {
              whole = λ n. absurd (true≢false (sym h ∙ n));
              front = subst (λ l. Front k (contents o.writer) l) (append_assoc before t u) (front_in k (contents o.writer) (before ++ t) u w.front);
            })
        | false ↦ λ h. record {
          whole = λ n. passes_on k (contents o.writer) (contents r.writer) before t u (pending o) (pending r) (w.whole h) (v.whole n);
          front =
              subst (λ l. Front k (contents r.writer) l) (append_assoc before t u)
              (front_on k (contents o.writer) (contents r.writer) before t u (pending o) (w.whole h) w.front v.front);
        }
      ]) refl

  -- with no text
  pub written_more : (k : Option (List ℕ)) (before t : List ℕ) (o r : Output W) → Written k (contents o.writer) before t o
      → Written (contents o.writer) (contents r.writer) (pending o) [] r → (IsSome o.failed → r ≡ o) → Written k (contents r.writer) before t r
  written_more k before t o r w v s =
      subst (λ l. Written k (contents r.writer) before l r) (append-nil t) (written_on k before t [] o r w v s)

pub before_stays : {W : Type 0} (b : Bool) (o r : Output W) → Before b o r → IsSome o.failed → r ≡ o
before_stays true o r e h = e
before_stays false o r e h = e.broken h

pub written_nothing : {W : Type 0} (k : Option (List ℕ)) (o : Output W) → Written k k (pending o) [] o
written_nothing None o = record { whole = λ _. tt; front = (0, tt) }
written_nothing (Some x) o =
    record { whole = λ _. ap (λ l. x ++ l) (sym (append-nil (pending o))); front = (0, sym (append-nil x)) }

pub texts_more : (said : List (List ℕ × List ℕ)) (x : List ℕ × List ℕ) → flat_map (λ x. x.1) (said ++ x ∷ []) ≡ flat_map (λ x. x.1) said ++ x.1
texts_more [] x = append-nil x.1
texts_more (y ∷ said) x = ap (λ l. y.1 ++ l) (texts_more said x) ∙ sym (append_assoc y.1 (flat_map (λ x. x.1) said) x.1)

-- ---- the run so far

module _
    {A R W : Type 0} (answers : A → List ℕ → List ℕ → List ℕ → A → Type 0)
    (remaining : R → Option (List ℕ)) (contents : W → Option (List ℕ)) where
  -- the turns led to `out`, and what was gathered there may be written since
  pub record Running (a₀ : A) (l₀ : Lines R) (o₀ : Output W) (n : ℕ) (a : A) (l : Lines R) (out o : Output W) : Type 0 where
    pub said : List (List ℕ × List ℕ)
    pub count : length said ≡ n
    pub turns : FoldsTo (Turn answers remaining contents) (a₀, l₀, o₀) said (a, l, out)
    pub written : Written (contents o₀.writer) (contents o.writer) (pending o₀) (flat_map (λ x. x.1) said) o

  module _ {a₀ : A} {l₀ : Lines R} {o₀ : Output W} where
    pub run_begun : Running a₀ l₀ o₀ 0 a₀ l₀ o₀ o₀
    run_begun = record { said = []; count = refl; turns = refl; written = written_nothing (contents o₀.writer) o₀ }

    module _ {n : ℕ} {a : A} {l : Lines R} {out o : Output W} (t : Running a₀ l₀ o₀ n a l out o) where
      pub run_flushed : (r : Output W) → Written (contents o.writer) (contents r.writer) (pending o) [] r → (IsSome o.failed → r ≡ o) → Running a₀ l₀ o₀ n a l out r
      run_flushed r v s =
          record {
            said = t.said;
            count = t.count;
            turns = t.turns;
            written = written_more contents (contents o₀.writer) (pending o₀) (flat_map (λ x. x.1) t.said) o r t.written v s;
          }

      pub run_turned : (x : List ℕ × List ℕ) (a' : A) (l' : Lines R) (r : Output W) → Turn answers remaining contents (a, l, out) x (a', l', r)
          → Written (contents o.writer) (contents r.writer) (pending o) x.1 r → (IsSome o.failed → r ≡ o) → Running a₀ l₀ o₀ (n + 1) a' l' r r
      run_turned x a' l' r turn v s =
          record {
            said = t.said ++ x ∷ [];
            count = omega (arith, t.count, length-append t.said (x ∷ []));
            turns =
                FoldsTo-push (Turn answers remaining contents) (a₀, l₀, o₀) t.said (a, l, out) x (a', l', r) t.turns turn;
            written =
                subst (λ y. Written (contents o₀.writer) (contents r.writer) (pending o₀) y r) (sym (texts_more t.said x))
                (written_on contents (contents o₀.writer) (pending o₀) (flat_map (λ x. x.1) t.said) x.1 o r t.written v s);
          }

      pub run_ended : (l' : Lines R) (r : Output W) → Written (contents o.writer) (contents r.writer) (pending o) [] r → Flushed o r
          → (IsNone o.failed → (n ≡ 2 ^ 64 - 1) ⊎ NextLine remaining l None l') → Answered answers remaining contents a₀ l₀ o₀ a l' r
      run_ended l' r v s e =
          let back : IsNone r.failed → IsNone o.failed = λ h.
          (elim (is_some o.failed) as (λ x. is_some o.failed ≡ x → IsNone o.failed) [
            | true ↦ λ k. absurd (true≢false (sym (ap (λ (y : Output W). is_some y.failed) (s.broken k) ∙ k) ∙ h))
            | false ↦ λ k. k
          ]) refl in
          record {
            said = t.said;
            at = l;
            out = out;
            turns = t.turns;
            written = written_more contents (contents o₀.writer) (pending o₀) (flat_map (λ x. x.1) t.said) o r t.written v s.broken;
            flushed = λ h. s.none (back h);
            ended = λ h. subst (λ k. (k ≡ 2 ^ 64 - 1) ⊎ NextLine remaining l None l') (sym t.count) (e (back h));
          }
