-- The lowest number that a pair is not past, found from the ends of what was told, is the one that the walk finds.
use Prim.Native.Nat.{ℕ, zero, suc, ◌+◌, ◌-◌, ◌≤◌, ◌<◌, min, max}
use mathlib.Core.Path.{◌≡◌, refl, sym, ap, ◌∙◌}
use mathlib.Core.Bool.{Bool, true, false, ◌&&◌, ◌||◌, not, cond}
use native.Mathlib.Omega.{arith}
use lib.Dec.{ltb, leb, eqb}
use borrow.Author.Tests.{lt-ltb, le-ltb, le-leb, lt-leb, eq-eqb, ne_eqb, ltb-false, ltb-true, leb-true, leb-false}
use Rattle.rules.specs.Marks.{past_marks}
use Rattle.rules.specs.Commit.{all_from, lowest_open}

-- the walk ends at x where p holds of all from a up to x, and not of x
pub walk_ends : (p : ℕ → Bool) (k a x : ℕ) → a ≤ x → ((n : ℕ) → a ≤ n → n < x → p n ≡ true) → p x ≡ false → lowest_open p a k ≡ min x (a + k)
unfolding lowest_open
walk_ends p zero a x h f e = omega arith
walk_ends p (suc k) a x h f e =
    (elim (ltb a x) as (λ t. ltb a x ≡ t → cond (p a) (lowest_open p (suc a) k) a ≡ min x (a + suc k)) [
      | true ↦ λ l. let m : a < x = ltb-true a x l in let i = walk_ends p k (suc a) x m (λ n u v. f n (omega arith) v) e in rw (f a (omega arith) m) (omega arith)
      | false ↦ λ l. let m : x ≤ a = ltb-false a x l in let q : a ≡ x = omega arith in rw (ap p q ∙ e) (omega arith)
    ]) refl

-- where p holds of all, the walk finds none
pub walk_all : (p : ℕ → Bool) (k a : ℕ) → ((n : ℕ) → a ≤ n → n < a + k → p n ≡ true) → lowest_open p a k ≡ a + k
unfolding lowest_open
walk_all p zero a f = omega arith
walk_all p (suc k) a f = let i = walk_all p k (suc a) (λ n u v. f n (omega arith) (omega arith)) in rw (f a (omega arith) (omega arith)) (omega arith)

-- all hold exactly where the walk finds none
pub all_walk : (p : ℕ → Bool) (k a : ℕ) → all_from a k p ≡ eqb (lowest_open p a k) (a + k)
unfolding all_from lowest_open
all_walk p zero a = sym (eq-eqb a (a + 0) (omega arith))
all_walk p (suc k) a =
    let q : suc a + k ≡ a + suc k = omega arith in
    (elim (p a) as (λ t. t && all_from (suc a) k p ≡ eqb (cond t (lowest_open p (suc a) k) a) (a + suc k))
    [ true ↦ all_walk p k (suc a) ∙ rw q | false ↦ sym (ne_eqb a (a + suc k) (λ e. omega arith)) ])

module _ (s g f l c : ℕ) where
  by_seen : (n : ℕ) → n < s → past_marks s g f l c n ≡ true
  unfolding past_marks
  by_seen n h = rw (lt-ltb n s h)

  by_gap : (n : ℕ) → n ≤ g → past_marks s g f l c n ≡ true
  unfolding past_marks
  by_gap n h = rw (le-leb n g h) (elim (ltb n s) as (λ t. t || true || (ltb n c && not (leb f n && leb n l)) ≡ true) [ true ↦ refl | false ↦ refl ])

  -- ruled out by the heartbeat's range: before it, behind it
  by_range : (n : ℕ) → n < c → leb f n && leb n l ≡ false → past_marks s g f l c n ≡ true
  unfolding past_marks
  by_range n h e = rw (lt-ltb n c h, e) (elim (ltb n s || leb n g) as (λ t. t || true ≡ true) [ true ↦ refl | false ↦ refl ])

  before : (n : ℕ) → n < f → leb f n && leb n l ≡ false
  before n h = rw (lt-leb f n h)

  behind : (n : ℕ) → l < n → leb f n && leb n l ≡ false
  behind n h = rw (lt-leb n l h) (elim (leb f n) as (λ t. t && false ≡ false) [ true ↦ refl | false ↦ refl ])

  -- not past: neither seen nor gap reach it, and the heartbeat doesn't rule it out
  open_late : (n : ℕ) → s ≤ n → g < n → c ≤ n → past_marks s g f l c n ≡ false
  unfolding past_marks
  open_late n a b d = rw (le-ltb n s a, lt-leb n g b, le-ltb n c d)

  open_within : (n : ℕ) → s ≤ n → g < n → f ≤ n → n ≤ l → past_marks s g f l c n ≡ false
  unfolding past_marks
  open_within n a b d e = rw (le-ltb n s a, lt-leb n g b, le-leb f n d, le-leb n l e) (elim (ltb n c) as (λ t. t && false ≡ false) [ true ↦ refl | false ↦ refl ])

  -- below the first number that seen and gap leave, all are past
  told : (from n : ℕ) → from ≤ n → n < max (max from s) (g + 1) → past_marks s g f l c n ≡ true
  told from n h k =
      (elim (leb n g) as (λ t. leb n g ≡ t → past_marks s g f l c n ≡ true)
      [ true ↦ λ e. by_gap n (leb-true n g e) | false ↦ λ e. let u : g < n = leb-false n g e in by_seen n (omega arith) ]) refl

  module _ (from end : ℕ) (more : from < end) where
    -- x ends the walk where it is open, and all from the first number left up to it are past
    found : (x : ℕ) → max (max from s) (g + 1) ≤ x
        → ((n : ℕ) → max (max from s) (g + 1) ≤ n → n < x → past_marks s g f l c n ≡ true) → past_marks s g f l c x ≡ false
        → min x end ≡ lowest_open (λ n. past_marks s g f l c n) from (end - from)
    found x h k e =
        let q : from + (end - from) ≡ end = omega arith in
        let w = walk_ends (λ n. past_marks s g f l c n) (end - from) from x (omega arith)
        (λ n u v. (elim (ltb n (max (max from s) (g + 1))) as (λ t. ltb n (max (max from s) (g + 1)) ≡ t → past_marks s g f l c n ≡ true)
        [ true ↦ λ j. told from n u (ltb-true n _ j) | false ↦ λ j. k n (ltb-false n _ j) v ]) refl) e in
        sym (w ∙ ap (λ m. min x m) q)

    pub all_gap : end ≤ g → end ≡ lowest_open (λ n. past_marks s g f l c n) from (end - from)
    all_gap h =
        let q : from + (end - from) ≡ end = omega arith in
        sym (walk_all (λ n. past_marks s g f l c n) (end - from) from (λ n u v. by_gap n (omega arith)) ∙ q)

    -- the code's cases, a being the first number that seen and gap leave
    module _ (a : ℕ) (is : a ≡ max (max from s) (g + 1)) where
      pub at_late : c ≤ a → min a end ≡ lowest_open (λ n. past_marks s g f l c n) from (end - from)
      at_late h = found a (omega arith) (λ n u v. told from n (omega arith) (omega arith)) (open_late a (omega arith) (omega arith) h)

      pub at_empty : a < c → l < f → min c end ≡ lowest_open (λ n. past_marks s g f l c n) from (end - from)
      at_empty h k = found c (omega arith)
          (λ n u v. by_range n v ((elim (ltb n f) as (λ t. ltb n f ≡ t → leb f n && leb n l ≡ false) [ true ↦ λ e. before n (ltb-true n f e) | false ↦ λ e. let w : f ≤ n = ltb-false n f e in behind n (omega arith) ]) refl))
          (open_late c (omega arith) (omega arith) (omega arith))

      pub at_before : a < c → f ≤ l → a < f → min (min f c) end ≡ lowest_open (λ n. past_marks s g f l c n) from (end - from)
      at_before h k m = found (min f c) (omega arith) (λ n u v. by_range n (omega arith) (before n (omega arith)))
          ((elim (ltb f c) as (λ t. ltb f c ≡ t → past_marks s g f l c (min f c) ≡ false) [
            | true ↦ λ e. let w : f < c = ltb-true f c e in open_within (min f c) (omega arith) (omega arith) (omega arith) (omega arith)
            | false ↦ λ e. let w : c ≤ f = ltb-false f c e in open_late (min f c) (omega arith) (omega arith) (omega arith)
          ]) refl)

      pub at_within : f ≤ a → a ≤ l → min a end ≡ lowest_open (λ n. past_marks s g f l c n) from (end - from)
      at_within h k = found a (omega arith) (λ n u v. told from n (omega arith) (omega arith)) (open_within a (omega arith) (omega arith) h k)

      pub at_behind : a < c → l < a → min c end ≡ lowest_open (λ n. past_marks s g f l c n) from (end - from)
      at_behind h k = found c (omega arith) (λ n u v. by_range n v (behind n (omega arith))) (open_late c (omega arith) (omega arith) (omega arith))
