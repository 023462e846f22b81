-- Laws of what is said: texts put one after the other are put at once.
use Prim.Native.Nat.{ℕ, zero, suc, ◌<◌, ◌≤◌}
use mathlib.Core.Path.{◌≡◌, sym, ap, ◌∙◌, subst}
use mathlib.Core.List.{List, [], ◌∷◌, ◌++◌, append-nil, append_assoc}
use native.Mathlib.Omega.{arith}
use lib.Seq.{take_all}
use lib.ListN.{length, get_or, take}
use Rattle.decimal.proofs.Putting.{put_behind}
use Rattle.calls.specs.Said.{Said, place_text, places_text}

-- by the answers of crate `decimal`
pub said : {n : ℕ} {s out out' : List ℕ} → out' ≡ take n (out ++ s) → Said n s out out'
said e = record { is = e }

-- what is said next is put behind
pub said_both : {n : ℕ} {a b out m out' : List ℕ} → Said n a out m → Said n b m out' → Said n (a ++ b) out out'
said_both {n} {a} {b} {out} x y =
    said (y.is ∙ ap (λ t. take n (t ++ b)) x.is ∙ put_behind n (out ++ a) b ∙ ap (λ t. take n t) (append_assoc out a b))

pub said_as : {n : ℕ} {s t out out' : List ℕ} → t ≡ s → Said n s out out' → Said n t out out'
said_as {n} {s} {t} {out} {out'} e x = subst (λ (l : List ℕ). Said n l out out') (sym e) x

-- ---- the places of a release

pub places_next : (l : List ℕ) (i : ℕ) → i < length l → places_text (take (suc i) l) ≡ places_text (take i l) ++ place_text (get_or l i 0)
unfolding places_text
places_next [] i h = absurd (omega arith)
places_next (p ∷ l) zero h = append-nil (place_text p)
places_next (p ∷ l) (suc i) h =
    ap (λ (t : List ℕ). place_text p ++ t) (places_next l i (omega arith)) ∙ sym (append_assoc (place_text p) (places_text (take i l)) (place_text (get_or l i 0)))
