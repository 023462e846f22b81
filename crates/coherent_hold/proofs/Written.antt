-- The words of the lent list.
use Prim.Native.Nat.{ℕ, ◌+◌, ◌*◌, ◌≤◌, ◌<◌}
use mathlib.Core.Path.{◌≡◌, refl, sym, ap, ◌∙◌}
use mathlib.Core.List.{List, [], ◌∷◌, ◌++◌, map, map-append, append_assoc, append-nil}
use native.Mathlib.Numerals.{add-one}
use native.Mathlib.Omega.{arith}
use lib.ListN.{length, take, drop, get_or, length-append, length-drop, length-map}
use lib.Seq.{drop-drop, drop-append-add, take-suc, take_at, length-take-le, paste}
use Rattle.coherent_hold.specs.Gate.{Item, words_of, words, written, member_as}
use Rattle.coherent_hold.specs.declared.items.Member.{Member}

words_length : (l : List Item) → length (words l) ≡ length l * 5
unfolding words
words_length [] = refl
words_length (i ∷ l) = let n = words_length l in omega arith

words_more : (l : List Item) (i : Item) → words (l ++ (i ∷ [])) ≡ words l ++ words_of i
unfolding words
words_more [] i = append-nil (words_of i)
words_more (x ∷ l) i = ap (λ w. words_of x ++ w) (words_more l i) ∙ sym (append_assoc (words_of x) (words l) (words_of i))

pub written_none : (o : List ℕ) → o ≡ written [] o
unfolding written words
written_none o = refl

-- no more than the lent list has
pub written_length : (l : List Item) (o : List ℕ) → length l * 5 ≤ length o → length (written l o) ≡ length o
unfolding written
written_length l o h = length-append (words l) (drop (length l * 5) o) ∙ omega (arith, words_length l, length-drop (length l * 5) o)

-- one more item behind those written
pub written_more : (l : List Item) (o : List ℕ) (i : Item) → paste (written l o) (length l * 5) (words_of i) 5 ≡ written (l ++ (i ∷ [])) o
unfolding written
written_more l o i =
    let n : ℕ = length l * 5 in
    let w : List ℕ = drop n o in
    let e : length (words l) ≡ n = words_length l in
    let back : drop (n + 5) (words l ++ w) ≡ drop (n + 5) o = ap (λ m. drop (m + 5) (words l ++ w)) (sym e) ∙ drop-append-add (words l) w 5 ∙ drop-drop 5 n o in
    let more : length (l ++ (i ∷ [])) * 5 ≡ n + 5 = omega (arith, length-append l (i ∷ [])) in
    ap (λ x. x ++ words_of i ++ drop (n + 5) (words l ++ w)) (take_at (words l) w n e)
    ∙ ap (λ x. words l ++ words_of i ++ x) back
    ∙ sym (ap (λ x. x ++ drop (length (l ++ (i ∷ [])) * 5) o) (words_more l i) ∙ ap (λ m. words l ++ words_of i ++ drop m o) more)

pub written_one : (o : List ℕ) (i : Item) → paste o 0 (words_of i) 5 ≡ written (i ∷ []) o
written_one o i = ap (λ y. paste y 0 (words_of i) 5) (written_none o) ∙ written_more [] o i

-- member k behind those before it
pub written_next : (l : List Member) (k : ℕ) (d : Member) (o m : List ℕ) → k < length l → m ≡ written (map (λ x. member_as x) (take k l)) o
    → paste m (k * 5) (words_of (member_as (get_or l k d))) 5 ≡ written (map (λ x. member_as x) (take (k + 1) l)) o
written_next l k d o m h e =
    let f : List Member → List Item = map (λ x. member_as x) in
    let n : length (f (take k l)) ≡ k = length-map (take k l) (λ x. member_as x) ∙ length-take-le k l (omega arith) in
    let more : f (take (k + 1) l) ≡ f (take k l) ++ (member_as (get_or l k d) ∷ []) = ap f (ap (λ j. take j l) (add-one k) ∙ take-suc l k d h) ∙ map-append (λ x. member_as x) (take k l) (get_or l k d ∷ []) in
    ap (λ y. paste y (k * 5) (words_of (member_as (get_or l k d))) 5) e
    ∙ ap (λ j. paste (written (f (take k l)) o) (j * 5) (words_of (member_as (get_or l k d))) 5) (sym n)
    ∙ written_more (f (take k l)) o (member_as (get_or l k d))
    ∙ ap (λ y. written y o) (sym more)
