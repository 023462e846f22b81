-- The entries of a group's lowest pending number, and what is left without them.
use Prim.Native.Nat.{ℕ, zero, suc, ◌+◌, ◌<◌}
use mathlib.Core.Path.{◌≡◌, refl, sym, ap, ◌∙◌}
use mathlib.Core.Bool.{Bool, true, false, ◌&&◌, ◌||◌, not, cond}
use mathlib.Core.List.{List, [], ◌∷◌, ◌++◌}
use Rattle.std.specs.Prelude.{Option, Some, None, slice_get}
use native.Mathlib.Omega.{arith}
use lib.Dec.{leb, eqb}
use lib.ListN.{length, get_or, take, drop}
use borrow.Author.Tests.{leb-true, leb-false, le-leb, lt-leb, eqb-true, eqb-false, ne_eqb, eq-eqb, not-true}
use Rattle.std.proofs.lemmas.Option.{slice_get-get_or, same_Some}
use Rattle.std.proofs.lemmas.List.{take-append-drop, take_more}
use Rattle.std.proofs.Math.Seq.{drop-cons}
use Rattle.std.proofs.lemmas.List.Elements.{filter_map-append}
use Rattle.laws.specs.Lists.{filter, list_all, list_any, find}
use Rattle.rules.specs.Entry.{of_group}
use Rattle.rules.specs.declared.entry.Entry.{Entry}
use Rattle.rules.specs.Commit.{Turn, lowest_number, next, is_head, head_of}
use Rattle.ready.specs.Places.{entries_at}
use Rattle.release.specs.Order.{by_number, AllBelow}
use Rattle.release.specs.Left.{left}
use Rattle.laws.proofs.Lists.{and_left, and_right, keep_keep, keep_same, all_unkept, any_kept, all_snoc, not_both}
use Rattle.rules.proofs.Minima.{next_lower, next_head}
use Rattle.release.proofs.Sorted.{Entries, first_is, first_none}

-- ---- entries at places

module _ (ps : Entries) where
  pub entries_split : (k : ℕ) (is : List ℕ) → entries_at ps (take k is) ++ entries_at ps (drop k is) ≡ entries_at ps is
  entries_split k is = sym (filter_map-append (λ i. slice_get ps i) (take k is) (drop k is)) ∙ ap (λ l. entries_at ps l) (take-append-drop k is)

  pub entries_cons : (i : ℕ) (is : List ℕ) (d : Entry ℕ) → i < length ps → entries_at ps (i ∷ is) ≡ get_or ps i d ∷ entries_at ps is
  entries_cons i is d h = rw (slice_get-get_or ps i d h)

  pub below_tail : (n i : ℕ) (is : List ℕ) → AllBelow n (i ∷ is) → AllBelow n is
  below_tail n i is h = λ k b d. h (suc k) (omega (arith, b)) d

  pub below_head : (n i : ℕ) (is : List ℕ) → AllBelow n (i ∷ is) → i < n
  below_head n i is h = h 0 (omega arith) 0

  pub below_drop : (n m : ℕ) (is : List ℕ) → AllBelow n is → AllBelow n (drop m is)
  below_drop n zero is h = h
  below_drop n (suc m) [] h = h
  below_drop n (suc m) (i ∷ is) h = below_drop n m is (below_tail n i is h)

  some_at : (l : Entries) (k : ℕ) → k < length l → (x : Entry ℕ) × (slice_get l k ≡ Some x)
  some_at [] k h = absurd (omega (arith, h))
  some_at (x ∷ l) zero h = (x, refl)
  some_at (x ∷ l) (suc k) h = some_at l k (omega (arith, h))

  length_cons : (i : ℕ) (is : List ℕ) → i < length ps → length (entries_at ps (i ∷ is)) ≡ suc (length (entries_at ps is))
  length_cons i is h = let s = some_at ps i h in rw s.1

  pub entries_length : (is : List ℕ) → AllBelow (length ps) is → length (entries_at ps is) ≡ length is
  entries_length [] h = refl
  entries_length (i ∷ is) h =
      length_cons i is (below_head (length ps) i is h) ∙ ap suc (entries_length is (below_tail (length ps) i is h))

-- ---- a group's lowest number

find_keep : {A : Type 0} (p q : A → Bool) (l : List A) → find (λ x. q x && p x) l ≡ find p (filter q l)
find_keep p q [] = refl
find_keep p q (a ∷ l) = elim (q a) as (λ b. cond (b && p a) (Some a) (find (λ x. q x && p x) l) ≡ find p (cond b (a ∷ filter q l) (filter q l))) [
  | true ↦ ap (λ o. cond (p a) (Some a) o) (find_keep p q l)
  | false ↦ find_keep p q l
]

and_not : (a b : Bool) → not (a && b) && a ≡ a && not b
and_not true true = refl
and_not true false = refl
and_not false b = refl

module _ (t : Turn) (x : Entries) where
  abbrev pub own : Entries
  own = filter (λ e. of_group t.guid e) x

  pub next_first : (h : Entry ℕ) → slice_get (by_number own) 0 ≡ Some h → next t x ≡ Some h.number
  unfolding next
  next_first h e = (first_is own h e).0

  pub next_empty : slice_get (by_number own) 0 ≡ None → next t x ≡ None
  unfolding next lowest_number
  next_empty e = rw (first_none own e) refl

  pub find_first : (h : Entry ℕ) → slice_get (by_number own) 0 ≡ Some h → find (λ e. is_head t h.number e) x ≡ Some h
  unfolding is_head
  find_first h e = find_keep (λ y. eqb h.number y.number) (λ y. of_group t.guid y) x ∙ (first_is own h e).1

  pub head_of_own : (n : ℕ) → head_of t n x ≡ filter (λ e. eqb n e.number) own
  unfolding head_of is_head
  head_of_own n = sym (keep_keep (λ e. eqb n e.number) (λ e. of_group t.guid e) x)

  pub own_left : (n : ℕ) → filter (λ e. of_group t.guid e) (filter (λ e. not (is_head t n e)) x) ≡ filter (λ e. not (eqb n e.number)) own
  unfolding is_head
  own_left n =
      keep_keep (λ e. of_group t.guid e) (λ e. not (of_group t.guid e && eqb n e.number)) x
      ∙ keep_same (λ e. not (of_group t.guid e && eqb n e.number) && of_group t.guid e) (λ e. of_group t.guid e && not (eqb n e.number)) (λ e. and_not (of_group t.guid e) (eqb n e.number)) x
      ∙ sym (keep_keep (λ e. not (eqb n e.number)) (λ e. of_group t.guid e) x)

-- ---- what is left

filter_on : {A : Type 0} (p q r : A → Bool) → ((a : A) → r a ≡ true → p a ≡ q a) → (l : List A) → list_all r l ≡ true → filter p l ≡ filter q l
filter_on p q r f [] h = refl
filter_on p q r f (a ∷ l) h = rw (f a (and_left (r a) (list_all r l) h), filter_on p q r f l (and_right (r a) (list_all r l) h))

not_eq : (n k : ℕ) → leb n k ≡ true → not (eqb n k) ≡ not (leb k n)
not_eq n k h = (elim (eqb n k) as (λ b. eqb n k ≡ b → not b ≡ not (leb k n)) [
  | true ↦ λ e. rw (le-leb k n (omega (arith, eqb-true n k e)))
  | false ↦ λ e. rw (lt-leb k n (omega (arith, leb-true n k h, eqb-false n k e)))
]) refl

own_not : (o : Bool) (n k : ℕ) → not o || leb n k ≡ true → not (o && eqb n k) ≡ not (o && leb k n)
own_not true n k h = not_eq n k h
own_not false n k h = refl

own_low : (o : Bool) (m n k : ℕ) → m < n → not (not (o && leb k m)) || (not o || leb n k) ≡ true → not (o && leb k m) && not (o && eqb n k) ≡ not (o && leb k n)
own_low false m n k l h = refl
own_low true m n k l h = (elim (leb k m) as (λ b. leb k m ≡ b → not (not b) || leb n k ≡ true → not b && not (eqb n k) ≡ not (leb k n)) [
  | true ↦ λ e q. rw (le-leb k n (omega (arith, leb-true k m e, l)))
  | false ↦ λ e q. not_eq n k q
]) refl h

any_const : {A : Type 0} (b : Bool) (l : List A) → list_any (λ a. b) l ≡ true → b ≡ true
any_const true l h = refl
any_const false [] h = h
any_const false (a ∷ l) h = any_const false l h

above_last : (t : Turn) (m n : ℕ) (ps : Entries) → next t (left t.guid (Some m) ps) ≡ Some n → m < n
unfolding is_head
above_last t m n ps e =
    let h = next_head t (left t.guid (Some m) ps) n e in
    let z = any_kept (λ y. of_group t.guid y && eqb n y.number) (λ y. not (of_group t.guid y && leb y.number m)) (λ y. not (leb n m))
    (λ y q p. is_above (of_group t.guid y) m n y.number q p) ps h in
    omega (arith, leb-false n m (not-true (leb n m) (any_const (not (leb n m)) ps z)))
  where
    is_above : (o : Bool) (m n k : ℕ) → not (o && leb k m) ≡ true → o && eqb n k ≡ true → not (leb n m) ≡ true
    is_above true m n k q p = let s : n ≡ k = eqb-true n k p in rw s q
    is_above false m n k q p = not_both false p refl

pub left_next : (t : Turn) (r : Option ℕ) (ps : Entries) (n : ℕ) → next t (left t.guid r ps) ≡ Some n → filter (λ e. not (is_head t n e)) (left t.guid r ps) ≡ left t.guid (Some n) ps
unfolding is_head
left_next t None ps n e =
    filter_on (λ y. not (of_group t.guid y && eqb n y.number)) (λ y. not (of_group t.guid y && leb y.number n)) (λ y. not (of_group t.guid y) || leb n y.number)
    (λ y h. own_not (of_group t.guid y) n y.number h) ps (next_lower t ps n e)
left_next t (Some m) ps n e =
    keep_keep (λ y. not (of_group t.guid y && eqb n y.number)) (λ y. not (of_group t.guid y && leb y.number m)) ps
    ∙ filter_on (λ y. not (of_group t.guid y && leb y.number m) && not (of_group t.guid y && eqb n y.number)) (λ y. not (of_group t.guid y && leb y.number n))
    (λ y. not (not (of_group t.guid y && leb y.number m)) || (not (of_group t.guid y) || leb n y.number))
    (λ y h. own_low (of_group t.guid y) m n y.number (above_last t m n ps e) h) ps
    (all_unkept (λ y. not (of_group t.guid y) || leb n y.number) (λ y. not (of_group t.guid y && leb y.number m)) ps (next_lower t (left t.guid (Some m) ps) n e))

-- ---- how many places are of the number

module _ (ps : Entries) (is : List ℕ) (n k : ℕ) (d : Entry ℕ) (b : AllBelow (length ps) is) (h : k < length is) where
  here : entries_at ps (get_or is k 0 ∷ []) ≡ get_or ps (get_or is k 0) d ∷ []
  here = entries_cons ps (get_or is k 0) [] d (b k h 0)

  pub heads_more : list_all (λ e. eqb n e.number) (entries_at ps (take k is)) ≡ true → n ≡ (get_or ps (get_or is k 0) d).number → list_all (λ e. eqb n e.number) (entries_at ps (take (k + 1) is)) ≡ true
  heads_more q e =
      let s : entries_at ps (take (k + 1) is) ≡ entries_at ps (take k is) ++ (get_or ps (get_or is k 0) d ∷ []) =
      ap (λ l. entries_at ps l) (take_more is k 0 h) ∙ filter_map-append (λ i. slice_get ps i) (take k is) (get_or is k 0 ∷ []) ∙ ap (λ l. entries_at ps (take k is) ++ l) here in
      rw s (all_snoc (λ e. eqb n e.number) (entries_at ps (take k is)) (get_or ps (get_or is k 0) d) q (eq-eqb n (get_or ps (get_or is k 0) d).number e))

  pub heads_end : (n ≡ (get_or ps (get_or is k 0) d).number → ⊥) → (e : Entry ℕ) → slice_get (entries_at ps (drop k is)) 0 ≡ Some e → eqb n e.number ≡ false
  heads_end q e r =
      let s : entries_at ps (drop k is) ≡ get_or ps (get_or is k 0) d ∷ entries_at ps (drop (suc k) is) =
      ap (λ l. entries_at ps l) (drop-cons is k 0 h) ∙ entries_cons ps (get_or is k 0) (drop (suc k) is) d (b k h 0) in
      let z : get_or ps (get_or is k 0) d ≡ e = same_Some _ _ (sym (ap (λ l. slice_get l 0) s) ∙ r) in
      ne_eqb n e.number (λ y. q (y ∙ ap (λ a. a.number) (sym z)))
