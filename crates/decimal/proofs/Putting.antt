-- Bytes put into a list as far as there is room: put one after the other they are put at once.
use Prim.Native.Nat.{ℕ, zero, suc, ◌+◌, ◌-◌, ◌≤◌, min}
use mathlib.Core.Path.{◌≡◌, refl, sym, ap, ◌∙◌, subst}
use mathlib.Core.Bool.{true, false}
use mathlib.Core.List.{List, [], ◌∷◌, ◌++◌, append_assoc}
use native.Mathlib.Nat.{min-eq_left, min-eq_right}
use native.Mathlib.Omega.{arith}
use borrow.Author.Tests.{leb-true, leb-false}
use lib.Dec.{leb}
use lib.ListN.{length, take, drop, length-append, length-take, length-drop, drop_of_length-le}
use lib.Seq.{paste, paste-zero, take-length, take_all, take-append-le, take-append-add, length-paste, take-paste, drop-paste, drop-drop}
use Rattle.decimal.specs.Print.{put}

module _ (out : List ℕ) (at : ℕ) (s : List ℕ) where
  pub put_all : length s ≤ length out - at → (at + length s, paste out at s (length s)) ≡ put out at s
  unfolding put
  put_all h = rw (min-eq_left h, take-length s, take_all (length out - at) s h, append_assoc)

  pub put_full : (k : ℕ) → k ≡ length out - at → k ≤ length s → (at + k, paste out at s k) ≡ put out at s
  unfolding put
  put_full k e h =
      rw (
        ← e,
        min-eq_right h,
        drop_of_length-le out {i = at + k} (omega arith),
        drop_of_length-le out {i = at + length s} (omega arith),
        append_assoc,
      )

  -- as many as there are, or as there is room for
  pub put_part : (n : ℕ) → n ≡ min (length s) (length out - at) → (at + n, paste out at s n) ≡ put out at s
  put_part n e =
      (elim (leb (length s) (length out - at)) as (λ t. leb (length s) (length out - at) ≡ t → (at + n, paste out at s n) ≡ put out at s) [
        | true ↦ λ q.
            let h = leb-true (length s) (length out - at) q in
            let k : n ≡ length s = e ∙ min-eq_left h in
            rw k (put_all h)
        | false ↦ λ q.
            let h = leb-false (length s) (length out - at) q in
            put_full n (e ∙ min-eq_right (omega arith)) (omega arith)
      ]) refl

  put_zero : ◌≡◌ {A = ℕ × List ℕ} (at, out) (at + 0, paste out at s 0)
  put_zero =
      let e : at ≡ at + 0 = omega arith in
      ap (λ (o : List ℕ). (at, o)) (paste-zero out at s) ∙ ap (λ (n : ℕ). (n, paste out at s 0)) e

pub put_none : (out : List ℕ) (at : ℕ) → (at, out) ≡ put out at []
put_none out at = put_zero out at [] ∙ put_all out at [] (omega arith)

module _ (out : List ℕ) (at : ℕ) (s t : List ℕ) where
  next_fits : at ≤ length out → length s ≤ length out - at → put (paste out at s (length s)) (at + length s) t ≡ put out at (s ++ t)
  unfolding put
  next_fits l h =
      let o = paste out at s (length s) in
      let n : length (s ++ t) ≡ length s + length t = length-append s t in
      let q : length o ≡ length out = length-paste out at s (length s) (omega arith) (omega arith) in
      let r : length out - (at + length s) ≡ length out - at - length s = omega arith in
      let k : length s + (length out - at - length s) ≡ length out - at = omega arith in
      let m : at + length s + length t ≡ at + length (s ++ t) = omega arith in
      let d : drop (at + length s + length t) o ≡ drop (at + length (s ++ t)) out =
      sym (drop-drop (length t) (at + length s) o)
      ∙ ap (λ (l : List ℕ). drop (length t) l) (drop-paste out at s (length s) (omega arith) (omega arith))
      ∙ drop-drop (length t) (at + length s) out
      ∙ ap (λ (i : ℕ). drop i out) m in
      let x : take (length out - at) (s ++ t) ≡ s ++ take (length out - (at + length s)) t =
      ap (λ (i : ℕ). take i (s ++ t)) (sym k) ∙ take-append-add s t (length out - at - length s) ∙ ap (λ (i : ℕ). s ++ take i t) (sym r) in
      let z : at + length s + min (length t) (length out - (at + length s)) ≡ at + min (length (s ++ t)) (length out - at) = omega arith in
      rw (q, z, take-paste out at s (length s) l (omega arith), d, x) (simp (take-length, append_assoc))

  next_full : (k : ℕ) → k ≡ length out - at → k ≤ length s → put (paste out at s k) (at + k) t ≡ put out at (s ++ t)
  next_full k e h =
      let o = paste out at s k in
      let x = length-append (take at out ++ take k s) (drop (at + k) out) in
      let y = length-append (take at out) (take k s) in
      let u : length o ≤ at + k = omega (arith, length-take at out, length-take k s, length-drop (at + k) out) in
      let w : ◌≡◌ {A = ℕ × List ℕ} (at + k, o) (at + k, paste out at (s ++ t) k) = rw (take-append-le k s t h) in
      sym (put_zero o (at + k) t ∙ put_full o (at + k) t 0 (omega arith) (omega arith))
      ∙ w
      ∙ put_full out at (s ++ t) k e (omega (arith, length-append s t))

-- what is put next is put behind
pub put_next : (out : List ℕ) (at : ℕ) (s t : List ℕ) → put (put out at s).1 (put out at s).0 t ≡ put out at (s ++ t)
put_next out at [] t = ap (λ (p : ℕ × List ℕ). put p.1 p.0 t) (sym (put_none out at))
put_next out at (b ∷ s) t =
    let l = b ∷ s in
    let m = length out - at in
    let P : ℕ × List ℕ → Type 0 = λ p. put p.1 p.0 t ≡ put out at (l ++ t) in
    (elim (leb (length l) m)
    as (λ u. leb (length l) m ≡ u → P (put out at l)) [
      | true ↦ λ e.
          let h = leb-true (length l) m e in
          subst P (put_all out at l h) (next_fits out at l t (omega arith) h)
      | false ↦ λ e.
          let h = leb-false (length l) m e in
          subst P (put_full out at l m refl (omega arith)) (next_full out at l t m refl (omega arith))
    ]) refl

pub puts : (out : List ℕ) (at : ℕ) (s t : List ℕ) {mid out' : List ℕ} {next r : ℕ}
    → (next, mid) ≡ put out at s → (r, out') ≡ put mid next t → (r, out') ≡ put out at (s ++ t)
puts out at s t p q = q ∙ ap (λ (w : ℕ × List ℕ). put w.1 w.0 t) p ∙ put_next out at s t

-- ---- behind what a list of at most n bytes holds

-- what is put next is put behind
pub put_behind : (n : ℕ) (a s : List ℕ) → take n (take n a ++ s) ≡ take n (a ++ s)
put_behind zero a s = refl
put_behind (suc n) [] s = refl
put_behind (suc n) (b ∷ a) s = ap (λ (l : List ℕ). b ∷ l) (put_behind n a s)
