-- What a writer gets, where its bytes are known.
use Rattle.std.proofs.Common.{◌≡◌, ℕ, ◌+◌, ◌-◌, List, [], ◌++◌, length, take, drop, min, Option, None, Some, sym, ap, subst, ◌∙◌, arith, append-nil, append_assoc}
use Rattle.std.specs.Prelude.{IsNone}
use Rattle.std.specs.Io.KnownBytes.{Appends, Keeps}
use Rattle.std.proofs.lemmas.List.{take_min, take-append-le, take-append-drop, take_rest}
use Rattle.std.proofs.Math.Seq.{take-append-add, take-append_seam}
use Rattle.line_output.specs.declared.Output.{Output}
use Rattle.line_output.specs.Output.{pending, Passes, Written}

-- ---- known bytes
pub added_on : (a b c : Option (List ℕ)) (xs ys : List ℕ) → Appends a b xs → Appends b c ys → Appends a c (xs ++ ys)
added_on None b c xs ys p q = tt
added_on (Some x) None c xs ys p q = absurd p
added_on (Some x) (Some y) None xs ys p q = absurd q
added_on (Some x) (Some y) (Some z) xs ys p q = q ∙ ap (λ l. l ++ ys) p ∙ append_assoc x xs ys

pub added_kept : (a b c : Option (List ℕ)) (xs : List ℕ) → Appends a b xs → Keeps b c → Appends a c xs
added_kept None b c xs p q = tt
added_kept (Some x) None c xs p q = absurd p
added_kept (Some x) (Some y) None xs p q = absurd q
added_kept (Some x) (Some y) (Some z) xs p q = q ∙ p

-- ---- a front part of a text

abbrev pub Front : Option (List ℕ) → Option (List ℕ) → List ℕ → Type 0
Front a b s = (n : ℕ) × Appends a b (take n s)

pub front_of : (a b : Option (List ℕ)) (front rest s : List ℕ) → s ≡ front ++ rest → Appends a b front → Front a b s
front_of a b front rest s e p =
    (length front, subst (λ l. Appends a b l) (sym (ap (λ l. take (length front) l) e ∙ take-append_seam front rest)) p)

pub all_of : (a b : Option (List ℕ)) (front rest s : List ℕ) → s ≡ front ++ rest → rest ≡ [] → Appends a b front → Appends a b s
all_of a b front rest s e n p = subst (λ l. Appends a b l) (sym (e ∙ ap (λ l. front ++ l) n ∙ append-nil front)) p

-- one more piece
pub piece_on : (a b c : Option (List ℕ)) (front rest s : List ℕ) (n : ℕ) → s ≡ front ++ rest → Appends a b front → Appends b c (take n rest)
    → (more : List ℕ) × (s ≡ more ++ take (length rest - n) (drop n rest)) × Appends a c more
piece_on a b c front rest s n e p q = (
  front ++ take n rest,
  e
      ∙ ap (λ l. front ++ l) (sym (take-append-drop n rest))
      ∙ sym (append_assoc front (take n rest) (drop n rest))
      ∙ ap (λ l. (front ++ take n rest) ++ l) (sym (take_rest rest n)),
  added_on a b c front (take n rest) p q,
)

pub front_kept : (a b c : Option (List ℕ)) (front rest s : List ℕ) → s ≡ front ++ rest → Appends a b front → Keeps b c → Front a c s
front_kept a b c front rest s e p k = front_of a c front rest s e (added_kept a b c front p k)

pub front_in : (a b : Option (List ℕ)) (s t : List ℕ) → Front a b s → Front a b (s ++ t)
front_in a b s t p =
    let m = min p.0 (length s) in
    let e : take p.0 s ≡ take m (s ++ t) = sym (take-append-le m s t (omega arith) ∙ take_min p.0 s) in
    (m, subst (λ l. Appends a b l) e p.1)

front_behind : (a b c : Option (List ℕ)) (s t : List ℕ) → Appends a b s → Front b c t → Front a c (s ++ t)
front_behind a b c s t p q =
    (length s + q.0, subst (λ l. Appends a c l) (sym (take-append-add s t q.0)) (added_on a b c s (take q.0 t) p q.1))

-- ---- what was gathered, and then a text

passes_first : (a b : Option (List ℕ)) (before text : List ℕ) → Appends a b before → Passes a b before text text
passes_first None b before text p = tt
passes_first (Some x) None before text p = absurd p
passes_first (Some x) (Some y) before text p = ap (λ l. l ++ text) p ∙ append_assoc x before text

passes_sent : (a b : Option (List ℕ)) (before text : List ℕ) → Appends a b (before ++ text) → Passes a b before text []
passes_sent None b before text p = tt
passes_sent (Some x) None before text p = absurd p
passes_sent (Some x) (Some y) before text p = append-nil y ∙ p

sent_of : (a b : Option (List ℕ)) (before : List ℕ) → Passes a b before [] [] → Appends a b before
sent_of None b before p = tt
sent_of (Some x) None before p = absurd p
sent_of (Some x) (Some y) before p = sym (append-nil y) ∙ p ∙ ap (λ l. x ++ l) (append-nil before)

module _ {W : Type 0} (k m : Option (List ℕ)) (before : List ℕ) (e : Output W) (w : Written k m before [] e) where
  flushed_all : IsNone e.failed → pending e ≡ [] → Appends k m before
  flushed_all n p = sent_of k m before (subst (λ l. Passes k m before [] l) p (w.whole n))

  flushed_front : Front k m before
  flushed_front = (w.front.0, subst (λ l. Appends k m (take w.front.0 l)) (append-nil before) w.front.1)

  -- the text is gathered
  pub gathered_first : (text : List ℕ) (r : Output W) → IsNone e.failed → pending e ≡ [] → pending r ≡ text → Written k m before text r
  gathered_first text r n p q =
      let a = flushed_all n p in
      record {
        whole = λ _. subst (λ l. Passes k m before text l) (sym q) (passes_first k m before text a);
        front = front_in k m before text (front_of k m before [] before (sym (append-nil before)) a);
      }

  -- a write failed before it
  pub failed_first : (text : List ℕ) (r : Output W) → (IsNone r.failed → ⊥) → Written k m before text r
  failed_first text r n = record { whole = λ f. absurd (n f); front = front_in k m before text flushed_front }

  -- it is written at once
  pub written_too : (k' : Option (List ℕ)) (text : List ℕ) (r : Output W) → IsNone e.failed → pending e ≡ [] → pending r ≡ []
      → (IsNone r.failed → Appends m k' text) → Front m k' text → Written k k' before text r
  written_too k' text r n p q a f =
      let b = flushed_all n p in
      record {
        whole = λ g. subst (λ l. Passes k k' before text l) (sym q) (passes_sent k k' before text (added_on k m k' before text b (a g)));
        front = front_behind k m k' before text b f;
      }
