-- The rows' words, written one row after the other.
use Rattle.std.proofs.Common.{◌≡◌, ℕ, ◌+◌, ◌*◌, ◌<◌, ◌≤◌, List, [], ◌∷◌, ◌++◌, length, take, drop, get_or, Some, None, refl, sym, ap, ◌∙◌, arith, append_assoc, length-append, length-take-le, drop-drop}
use Rattle.std.specs.Prelude.{Option}
use Rattle.std.proofs.lemmas.List.{take_more, take_at, drop_at}
use borrow.Rule.Slice.PartMut.{put_mid}
use Rattle.rules.specs.Page.{Row}
use Rattle.page.specs.Words.{words_of, known_words, listed}

listed_append : (rs ss : List (Option Row)) (m : List ℕ) → listed (rs ++ ss) m ≡ listed rs (listed ss m)
unfolding listed
listed_append [] ss m = refl
listed_append (o ∷ rs) ss m = ap (λ x. words_of o ++ x) (listed_append rs ss m)

listed_split : (rs : List (Option Row)) (m : List ℕ) → listed rs m ≡ listed rs [] ++ m
unfolding listed
listed_split [] m = refl
listed_split (o ∷ rs) m = ap (λ x. words_of o ++ x) (listed_split rs m) ∙ sym (append_assoc (words_of o) (listed rs []) m)

words_length : (o : Option Row) → length (words_of o) ≡ 4
words_length None = refl
words_length (Some r) = elim r.oldest as (λ t. length (known_words r.pending r.held t) ≡ 4) [ None ↦ refl | Some t ↦ refl ]

listed_length : (rs : List (Option Row)) → length (listed rs []) ≡ 4 * length rs
unfolding listed
listed_length [] = refl
listed_length (o ∷ rs) = omega (arith, length-append (words_of o) (listed rs []), words_length o, listed_length rs)

pub write_more : (rs : List (Option Row)) (k n : ℕ) (all l ws : List ℕ) (d : Option Row) → n ≡ 4 → k < length rs → 4 * k + 4 ≤ length all → l ≡ listed (take k rs) (drop (4 * k) all) → ws ≡ words_of (get_or rs k d)
    → put_mid (4 * k) n l ws ≡ listed (take (k + 1) rs) (drop (4 * (k + 1)) all)
unfolding listed
write_more rs k n all l ws d f h i e w =
    let a : List ℕ = listed (take k rs) [] in
    let m : List ℕ = drop (4 * k) all in
    let z : length a ≡ 4 * k = omega (arith, listed_length (take k rs), length-take-le k rs (omega arith)) in
    let s : l ≡ a ++ m = e ∙ listed_split (take k rs) m in
    let q : drop 4 m ≡ drop (4 * (k + 1)) all = drop-drop 4 (4 * k) all ∙ ap (λ j. drop j all) (omega arith) in
    rw (f, s, take_at a m (4 * k) z, drop_at a m (4 * k) z, q, w)
    (sym (ap (λ x. listed x (drop (4 * (k + 1)) all)) (take_more rs k d h) ∙ listed_append (take k rs) (get_or rs k d ∷ []) _ ∙ listed_split (take k rs) _))
