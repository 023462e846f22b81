-- What is stored is read by its age, after any saves, refused ones among them.
use Prim.{Unit, tt}
use Prim.Native.Nat.{ℕ, zero, suc, ◌+◌, ◌<◌}
use mathlib.Core.Path.{◌≡◌, refl, sym, ap, ◌∙◌}
use mathlib.Core.Bool.{Bool, true, false, cond, not, ◌&&◌}
use mathlib.Core.List.{List, [], ◌∷◌}
use native.Mathlib.Omega.{arith}
use lib.Dec.{eqb}
use lib.ListN.{length, take}
use Rattle.laws.specs.Answer.{Answer, refused, answered}
use Rattle.settings.specs.Setting.{pack, setting_in, version_in, known, good_length}
use Rattle.settings.specs.Store.{saved, save, read_at}
use Rattle.settings.specs.declared.setting.Setting.{Setting}
use Rattle.settings.proofs.RoundTrip.{pack_save_read}

-- whether bytes are accepted does not depend on what is stored
unfoldable pub accepted : List ℕ → Bool
accepted bs = not (eqb (length bs) 0) && (known (version_in bs) && good_length (version_in bs) (length bs))

-- saved one after the other
unfoldable pub saved_all : List (List ℕ) → List Setting → List Setting
saved_all [] l = l
saved_all (bs ∷ bss) l = saved_all bss (save bs l).1

unfoldable pub accepted_of : List (List ℕ) → ℕ
accepted_of [] = 0
accepted_of (bs ∷ bss) = cond (accepted bs) 1 0 + accepted_of bss

save_by : (a b c : Bool) (x : Setting) (l : List Setting)
    → ◌≡◌ {A = List Setting}
    (cond {A = Answer (Unit {0}) × List Setting} a (refused 15, l) (cond (not b) (refused 16, l) (cond (not c) (refused 15, l) (answered tt, saved x l)))).1
    (cond (not a && (b && c)) (saved x l) l)
save_by true b c x l = refl
save_by false false c x l = refl
save_by false true false x l = refl
save_by false true true x l = refl

-- a refused save changes nothing
pub save_keeps : (bs : List ℕ) (l : List Setting) → (save bs l).1 ≡ cond (accepted bs) (saved (setting_in (version_in bs) bs) l) l
unfolding accepted
save_keeps bs l = save_by (eqb (length bs) 0) (known (version_in bs)) (good_length (version_in bs) (length bs)) (setting_in (version_in bs) bs) l

read_first : (n age : ℕ) (l : List Setting) → age < n → read_at age (take n l) ≡ read_at age l
read_first zero age l h = absurd (omega arith)
read_first (suc n) age [] h = refl
read_first (suc n) zero (x ∷ l) h = refl
read_first (suc n) (suc age) (x ∷ l) h = read_first n age l (omega arith)

older : (t : Bool) (age : ℕ) (x : Setting) (l : List Setting) → age + cond t 1 0 < 8 → read_at (age + cond t 1 0) (cond t (saved x l) l) ≡ read_at age l
older true age x l h =
    let e : age + 1 ≡ suc age = omega arith in
    ap (λ n. read_at n (take 8 (x ∷ l))) e ∙ read_first 7 age l (omega arith)
older false age x l h =
    let e : age + 0 ≡ age = omega arith in
    ap (λ n. read_at n l) e

-- each accepted save makes what is stored one older, as long as it is among the last eight
pub ages : (bss : List (List ℕ)) (age : ℕ) (l : List Setting) → age + accepted_of bss < 8 → read_at (age + accepted_of bss) (saved_all bss l) ≡ read_at age l
unfolding saved_all accepted_of
ages [] age l h =
    let e : age + 0 ≡ age = omega arith in
    ap (λ n. read_at n l) e
ages (bs ∷ bss) age l h =
    let t = accepted bs in
    let k = accepted_of bss in
    let e : age + (cond t 1 0 + k) ≡ age + cond t 1 0 + k = omega arith in
    ap (λ n. read_at n (saved_all bss (save bs l).1)) e
    ∙ ages bss (age + cond t 1 0) (save bs l).1 (omega arith)
    ∙ ap (λ m. read_at (age + cond t 1 0) m) (save_keeps bs l)
    ∙ older t age (setting_in (version_in bs) bs) l (omega arith)

-- packed, saved, and read at age k after k more
pub pack_save_read_later : (x : Setting) (out out' : List ℕ) (n : ℕ) (l : List Setting) (bss : List (List ℕ))
    → pack x out ≡ (answered n, out') → accepted_of bss < 8 → read_at (accepted_of bss) (saved_all bss (save (take n out') l).1) ≡ answered x
pack_save_read_later x out out' n l bss e h =
    let z : 0 + accepted_of bss ≡ accepted_of bss = omega arith in
    let m = (save (take n out') l).1 in
    sym (ap (λ k. read_at k (saved_all bss m)) z) ∙ ages bss 0 m (omega arith) ∙ pack_save_read x out out' n l e
