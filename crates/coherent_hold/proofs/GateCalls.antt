-- What each case of the definition leaves of a call.
use Prim.Native.Nat.{ℕ, ◌+◌, ◌*◌, ◌/◌, ◌≤◌, ◌<◌}
use mathlib.Core.Path.{◌≡◌, refl, sym, ap, ◌∙◌}
use mathlib.Core.Bool.{Bool, true, false, ◌&&◌, not, cond}
use mathlib.Core.List.{List, [], ◌∷◌, ◌++◌}
use Rattle.std.specs.Prelude.{Option, Some, None, Ok}
use native.Mathlib.Omega.{arith}
use lib.IntN.{ℤ}
use lib.ListN.{length, length-append}
use lib.Seq.{paste}
use lib.Dec.{leb, eqb}
use borrow.Author.Tests.{lt-ltb, le-ltb, leb-false, eqb-false}
use Rattle.laws.specs.Answer.{refused, answered}
use Rattle.laws.specs.Lists.{filter, count}
use Rattle.laws.proofs.Lists.{length_split}
use Rattle.coherent_hold.specs.Gate.{Item, ends, member_mark, is_member, leaves, Effect, passed, set_is_complete, held_back, ended, followed, after, gated, is_full, gate, words_of, written, left_by, gate_call, change_as, hold_as, gated_as, call_as, is_end}
use Rattle.coherent_hold.specs.declared.items.Change.{Change}
use Rattle.coherent_hold.specs.declared.items.Change.TheVariants.{Sample, Lifecycle}
use Rattle.coherent_hold.specs.declared.hold.CoherentHold.{CoherentHold}
use Rattle.coherent_hold.specs.declared.gate.Gated.{Gated}
use Rattle.coherent_hold.specs.declared.gate.Gated.TheVariants.{Passed, Incomplete}
use Rattle.coherent_hold.proofs.Written.{written_none, written_more}

ends_not : (t : Change) → ends (change_as t) ≡ false
ends_not Sample = refl
ends_not Lifecycle = refl

pub passed_other : (i : Item) (t : Change) → i.kind ≡ change_as t → (passed i []).out ≡ i ∷ []
passed_other i t e = rw (e, ends_not t)

-- a place is free once the members that leave are out
pub place_free : (l : List Item) (i : Item) → is_full l i ≡ false → length l ≤ 64 → length (filter (λ h. not (leaves i.writer i.set h)) l) < 64
unfolding is_full count
place_free l i f b =
    let n : ℕ = length (filter (λ h. leaves i.writer i.set h) l) in
    let parts : length l ≡ n + length (filter (λ h. not (leaves i.writer i.set h)) l) = length_split (λ h. leaves i.writer i.set h) l in
    (elim (leb 64 (length l)) as (λ t. leb 64 (length l) ≡ t → t && eqb n 0 ≡ false → length (filter (λ h. not (leaves i.writer i.set h)) l) < 64) [
      | true ↦ λ e g. omega (arith, parts, b, eqb-false n 0 g)
      | false ↦ λ e g. omega (arith, parts, leb-false 64 (length l) e)
    ]) refl f

module _ (l : List Item) (o : List ℕ) (h : CoherentHold) where
  -- an answered call has the effect e
  pub left_is : (r : Gated) (m : List ℕ) (e : Effect) → gated_as r ≡ (length e.out, e.incomplete) → hold_as h ≡ e.hold → m ≡ written e.out o → call_as (Ok r) h m ≡ left_by l o (answered e)
  unfolding left_by
  left_is r m e p q w = λ i. record { answer = answered (p i); hold = q i; list = w i }

  -- a member of a set
  pub held_is : (i : Item) (n : ℕ) (m : List ℕ) → is_full l i ≡ false → n ≡ length (filter (λ h. leaves i.writer i.set h) l) → hold_as h ≡ filter (λ h. not (leaves i.writer i.set h)) l ++ (i ∷ [])
      → m ≡ written (filter (λ h. leaves i.writer i.set h) l) o → call_as (Ok (Passed n)) h m ≡ left_by l o (cond (is_full l i) (refused 7) (answered (held_back i l)))
  unfolding held_back
  held_is i n m f c q w = rw f (left_is (Passed n) m (held_back i l) (ap (λ y. (y, None)) c) q w)

  -- x leaves, k stays
  module _ (x k : List Item) (q : hold_as h ≡ k) (n : ℕ) (c : n ≡ length x) (i : Item) where
    module _ (own : Option ℤ) (flag : Option Bool) (e : i.kind ≡ is_end own flag) where
      pub ended_whole : (m : List ℕ) → set_is_complete x own flag ≡ true → m ≡ written x o → call_as (Ok (Passed n)) h m ≡ left_by l o (answered (after i.kind i x k))
      ended_whole m f w = rw (e, f) (left_is (Passed n) m (ended true x k) (ap (λ y. (y, None)) c) q w)

      pub ended_short : set_is_complete x own flag ≡ false → call_as (Ok (Incomplete n)) h o ≡ left_by l o (answered (after i.kind i x k))
      ended_short f = rw (e, f) (left_is (Incomplete n) o (ended false x k) (ap (λ y. (0, Some y)) c) q (written_none o))

    pub followed_is : (t : Change) → i.kind ≡ change_as t → (m p : List ℕ) → m ≡ written x o → p ≡ paste m (n * 5) (words_of i) 5 → call_as (Ok (Passed (n + 1))) h p ≡ left_by l o (answered (after i.kind i x k))
    followed_is t e m p w f =
        let more : n + 1 ≡ length (x ++ (i ∷ [])) = omega (arith, c, length-append x (i ∷ [])) in
        left_is (Passed (n + 1)) p (followed i x k) (ap (λ y. (y, None)) more) q
        (f ∙ ap (λ y. paste y (n * 5) (words_of i) 5) w ∙ ap (λ j. paste (written x o) (j * 5) (words_of i) 5) c ∙ written_more x o i)
        ∙ ap (λ y. left_by l o (answered y)) (sym (ap (λ u. after u i x k) e ∙ after_change t))
      where
        after_change : (t : Change) → after (change_as t) i x k ≡ followed i x k
        after_change Sample = refl
        after_change Lifecycle = refl

-- ---- the call

module _ (l : List Item) (i : Item) (o : List ℕ) where
  pub gate_short : length o / 5 ≤ length l → (a : Bool) → gate_call l i a o ≡ record { answer = refused 5; hold = l; list = o }
  unfolding gate_call gate left_by
  gate_short h a = rw (lt-ltb (length o / 5) (length l + 1) (omega arith))

  module _ (h : length l < length o / 5) where
    roomy : (a : Bool) → gate_call l i a o ≡ left_by l o (cond (a && is_member i && is_full l i) (refused 7) (answered (gated a i l)))
    unfolding gate_call gate
    roomy a = rw (le-ltb (length o / 5) (length l + 1) (omega arith))

    pub gate_off : gate_call l i false o ≡ left_by l o (answered (passed i l))
    unfolding gated
    gate_off = roomy false

    pub gate_member : (z : ℤ) → member_mark i ≡ Some z → gate_call l i true o ≡ left_by l o (cond (is_full l i) (refused 7) (answered (held_back i l)))
    unfolding gated is_member
    gate_member z e = roomy true ∙ rw e

    pub gate_all : member_mark i ≡ None
        → gate_call l i true o ≡ left_by l o (answered (after i.kind i (filter (λ h. leaves i.writer None h) l) (filter (λ h. not (leaves i.writer None h)) l)))
    unfolding gated is_member
    gate_all e = roomy true ∙ rw e
