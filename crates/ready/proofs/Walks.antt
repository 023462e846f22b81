-- Walks over numbers, over a list of pairs and over entries, in one order and another.
use Rattle.std.proofs.Common.{◌≡◌, ℕ, zero, suc, ◌+◌, ◌-◌, ◌≤◌, min, Bool, true, false, ◌&&◌, ◌||◌, not, cond, eqb, leb, List, [], ◌∷◌, Some, None, refl, sym, ap, ap₂, ◌∙◌, arith}
use borrow.Author.Tests.{eq-eqb, ne_eqb, le-leb, lt-leb, leb-true, leb-false}
use Rattle.laws.specs.Lists.{filter, list_all, list_any}
use Rattle.laws.proofs.Lists.{all_always, or_true_right}
use Rattle.guids.specs.Guid.{Guid, same_guid}
use Rattle.rules.specs.declared.entry.Entry.{Entry}
use Rattle.rules.specs.declared.state.Writer.{Writer}
use Rattle.rules.specs.State.{writer_of}
use Rattle.rules.specs.Marks.{past, past_of}
use Rattle.rules.specs.Commit.{Turn, all_from, lowest_open, pair_past, copies_arrived}
use Rattle.rules.proofs.Open.{all_walk}
use Rattle.ready.specs.Places.{copied}

and_swap : (a b c d : Bool) → (a && b) && (c && d) ≡ (a && c) && (b && d)
and_swap true true c d = refl
and_swap true false true d = refl
and_swap true false false d = refl
and_swap false b c d = refl

-- ---- walks over numbers

from_always : (a k : ℕ) → all_from a k (λ n. true) ≡ true
unfolding all_from
from_always a zero = refl
from_always a (suc k) = from_always (suc a) k

from_both : (a k : ℕ) (p q : ℕ → Bool) → all_from a k (λ n. p n && q n) ≡ all_from a k p && all_from a k q
unfolding all_from
from_both a zero p q = refl
from_both a (suc k) p q = ap (λ t. (p a && q a) && t) (from_both (suc a) k p q) ∙ and_swap (p a) (q a) (all_from (suc a) k p) (all_from (suc a) k q)

-- every one of a list passes each number: each number passes every one
pub from_all : {A : Type 0} (a k : ℕ) (p : A → ℕ → Bool) (l : List A) → all_from a k (λ n. list_all (λ x. p x n) l) ≡ list_all (λ x. all_from a k (λ n. p x n)) l
from_all a k p [] = from_always a k
from_all a k p (x ∷ l) = from_both a k (λ n. p x n) (λ n. list_all (λ y. p y n) l) ∙ ap (λ t. all_from a k (λ n. p x n) && t) (from_all a k p l)

-- all of those that a test picks pass: each is not picked or passes
pub all_of : {A : Type 0} (p q : A → Bool) (l : List A) → list_all (λ x. not (p x) || q x) l ≡ list_all q (filter p l)
all_of p q [] = refl
all_of p q (x ∷ l) =
    ap (λ t. (not (p x) || q x) && t) (all_of p q l)
    ∙ (elim (p x) as (λ b. (not b || q x) && list_all q (filter p l) ≡ list_all q (cond b (x ∷ filter p l) (filter p l))) [ true ↦ refl | false ↦ refl ])

-- from the number behind c, where no number is above the highest
pub from_next : (c n top : ℕ) (p : ℕ → Bool) → n ≤ top → all_from (min (c + 1) top) (n - min (c + 1) top) p ≡ all_from (suc c) (n - suc c) p
unfolding all_from
from_next c n top p h =
    (elim (leb (c + 1) top) as (λ t. leb (c + 1) top ≡ t → all_from (min (c + 1) top) (n - min (c + 1) top) p ≡ all_from (suc c) (n - suc c) p) [
      | true ↦ λ e. let m : min (c + 1) top ≡ suc c = omega (arith, leb-true (c + 1) top e) in rw m
      | false ↦ λ e. let u : n - min (c + 1) top ≡ 0 = omega (arith, leb-false (c + 1) top e) in let v : n - suc c ≡ 0 = omega (arith, leb-false (c + 1) top e) in rw (u, v)
    ]) refl

-- ---- what a pair was told

open_within : (p : ℕ → Bool) (a k : ℕ) → (a ≤ lowest_open p a k) × (lowest_open p a k ≤ a + k)
unfolding lowest_open
open_within p a zero = (omega arith, omega arith)
open_within p a (suc k) =
    let ih = open_within p (suc a) k in
    elim (p a) as (λ t. (a ≤ cond t (lowest_open p (suc a) k) a) × (cond t (lowest_open p (suc a) k) a ≤ a + suc k)) [ true ↦ (omega arith, omega arith) | false ↦ (omega arith, omega arith) ]

at_end : (a b n : ℕ) → a ≤ n → n ≤ a + (b - a) → leb b n ≡ eqb n (a + (b - a))
at_end a b n h i =
    (elim (leb b n) as (λ t. leb b n ≡ t → t ≡ eqb n (a + (b - a))) [
      | true ↦ λ e. sym (eq-eqb n (a + (b - a)) (omega (arith, leb-true b n e)))
      | false ↦ λ e. sym (ne_eqb n (a + (b - a)) (λ d. omega (arith, leb-false b n e, d)))
    ]) refl

from_never : (a b : ℕ) → leb b a ≡ all_from a (b - a) (λ n. false)
unfolding all_from
from_never a b =
    (elim (b - a) as (λ k. b - a ≡ k → leb b a ≡ all_from a k (λ n. false)) [
      | zero ↦ λ e. le-leb b a (omega arith)
      | suc k ↦ λ e. lt-leb b a (omega arith)
    ]) refl

module _ (t : Turn) (w : Guid) (r a b : ℕ) where
  pub past_known : (x : Writer) (n : ℕ) → writer_of t.guid w t.writers ≡ Some x → n ≡ lowest_open (λ m. past x r m) a (b - a)
      → leb b n ≡ all_from a (b - a) (λ m. pair_past t w r m)
  unfolding pair_past past_of
  past_known x n e h =
      let i = open_within (λ m. past x r m) a (b - a) in
      at_end a b n (rw h i.0) (rw h i.1) ∙ rw h (sym (all_walk (λ m. past x r m) (b - a) a)) ∙ sym (ap (λ o. all_from a (b - a) (λ m. past_of o r m)) e)

  pub past_unknown : writer_of t.guid w t.writers ≡ None → leb b a ≡ all_from a (b - a) (λ m. pair_past t w r m)
  unfolding pair_past past_of
  past_unknown e = from_never a b ∙ sym (ap (λ o. all_from a (b - a) (λ m. past_of o r m)) e)

-- ---- of each entry its writer's pairs, or of each pair whether its writer has an entry

module _ {A B : Type 0} (t : A → B → Bool) (c d : B → Bool) where
  all_both : (p q r : B → Bool) → ((b : B) → p b && q b ≡ r b) → (l : List B) → list_all p l && list_all q l ≡ list_all r l
  all_both p q r h [] = refl
  all_both p q r h (b ∷ l) = and_swap (p b) (list_all p l) (q b) (list_all q l) ∙ ap₂ (λ x y. x && y) (h b) (all_both p q r h l)

  both_test : (x y u v : Bool) → (not x || u || v) && (u || v || not y) ≡ (u || v || not (x || y))
  both_test true y true v = refl
  both_test true y false true = refl
  both_test true y false false = refl
  both_test false y true v = refl
  both_test false y false true = refl
  both_test false y false false = refl

  all_turned : (xs : List A) (ys : List B) → list_all (λ a. list_all (λ b. not (t a b) || c b || d b) ys) xs ≡ list_all (λ b. c b || d b || not (list_any (λ a. t a b) xs)) ys
  all_turned [] ys = sym (all_always _ (λ b. or_true_right (c b || d b) true refl) ys)
  all_turned (a ∷ xs) ys =
      ap (λ x. list_all (λ b. not (t a b) || c b || d b) ys && x) (all_turned xs ys)
      ∙ all_both (λ b. not (t a b) || c b || d b) (λ b. c b || d b || not (list_any (λ e. t e b) xs)) _ (λ b. both_test (t a b) (list_any (λ e. t e b) xs) (c b) (d b)) ys

module _ (t : Turn) (n : ℕ) (l : List (Entry ℕ)) where
  pub copies_turned : list_all (λ p. copied t n l p) t.counted ≡ copies_arrived t n l
  unfolding copies_arrived
  copies_turned = sym (all_turned (λ e p. same_guid e.writer p.writer) (λ p. list_any (λ o. eqb p.reader o.reader) l) (λ p. pair_past t p.writer p.reader n) l t.counted)
