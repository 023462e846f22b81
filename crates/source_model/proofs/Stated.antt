-- Laws of the definitions of the crates below that no proof here cites.
use Prim.{tt}
use Prim.Native.Nat.{ℕ, zero, suc, ◌+◌, ◌*◌, ◌/◌, ◌%◌, ◌^◌, ◌≤◌, ◌<◌}
use mathlib.Core.Path.{◌≡◌, refl, sym, ap, ◌∙◌}
use mathlib.Core.Bool.{Bool, true, false, ◌&&◌, ◌||◌, not, cond, not-not}
use mathlib.Core.List.{List, [], ◌∷◌, ◌++◌, append_assoc}
use Rattle.std.specs.Prelude.{Option, Some, None}
use native.Mathlib.Omega.{arith}
use native.Mathlib.Nat.{zero-mul, suc-mul}
use lib.Dec.{T, eqb, ltb}
use lib.IntN.{ℤ, pos, negsuc, nat_abs}
use lib.ListN.{length, drop, length-append}
use lib.Seq.{drop_at}
use lib.Signed.{lt_z, non_neg}
use mir.Syntax.{w64}
use mir.Val.{SFits, of_z}
use borrow.Author.Tests.{eqb-true, ne_eqb, ltb-true, lt-ltb, le-ltb}
use Rattle.laws.specs.Bytes.{bytes_of, number_of}
use Rattle.laws.specs.Lists.{filter, list_all, list_any, change, index_of, is_some}
use Rattle.guids.specs.Guid.{Guid}
use Rattle.guids.specs.Keys.{guid_of}
use Rattle.rules.specs.Entry.{is_sample, is_sample_w, of_group, in_set, of_pair, is_end_of}
use Rattle.rules.specs.declared.entry.What.{What}
use Rattle.rules.specs.declared.entry.What.TheVariants.{Sample, End}
use Rattle.rules.specs.declared.entry.Entry.{Entry}
use Rattle.rules.specs.State.{State, committed_of}
use Rattle.rules.specs.Marks.{number}
use Rattle.rules.specs.Offer.{entry_of, shares, fate_of}
use Rattle.rules.specs.declared.call.Offer.{Offer}
use Rattle.rules.specs.declared.call.Fate.TheVariants.{Joined}
use Rattle.rules.specs.declared.view.Pair.{Pair}
use Rattle.rules.specs.Sets.{end_missing, lowest_stale}
use Rattle.rules.specs.Commit.{all_from}
use Rattle.rules.specs.Release.{Work, discard, discard_or, discard_stale, with_held, with_out, settle, commit_one}
use Rattle.laws.proofs.Bytes.{pow_pos, bytes_of_length, bytes_of_append, number_of_bytes_of}
use Rattle.laws.proofs.Lists.{and_left, and_right, and_never, not_both, length_keep, any_imp, any_empty}
use Rattle.rules.proofs.Fates.{fate_joined}
use Rattle.source_model.proofs.Commits.{any_keep, any_ext}

-- ---- lists under a test

module _ {A : Type 0} where
  -- none passes: none is changed
  pub change_none : (p : A → Bool) (f : A → A) (l : List A) → length l ≤ index_of p l → change p f l ≡ l
  unfolding index_of change
  change_none p f [] h = refl
  change_none p f (a ∷ l) h = (elim (p a) as (λ b. suc (length l) ≤ cond b 0 (suc (index_of p l)) → cond b (f a ∷ l) (a ∷ change p f l) ≡ a ∷ l) [ true ↦ λ k. absurd (omega arith) | false ↦ λ k. ap (λ x. a ∷ x) (change_none p f l (omega arith)) ]) h

  -- as many stay: all
  pub full : (p : A → Bool) (l : List A) → length (filter p l) ≡ length l → filter p l ≡ l
  full p [] e = refl
  full p (a ∷ l) e = (elim (p a) as (λ b. length (cond b (a ∷ filter p l) (filter p l)) ≡ suc (length l) → cond b (a ∷ filter p l) (filter p l) ≡ a ∷ l) [ true ↦ λ d. ap (λ x. a ∷ x) (full p l (omega arith)) | false ↦ λ d. absurd (omega (arith, length_keep p l)) ]) e

  -- what every kept one is, every one is that passes, and the other way round
  pub all_keep_or : (p q : A → Bool) (l : List A) → list_all p (filter q l) ≡ list_all (λ x. not (q x) || p x) l
  all_keep_or p q [] = refl
  all_keep_or p q (a ∷ l) = elim (q a) as (λ b. list_all p (cond b (a ∷ filter q l) (filter q l)) ≡ (not b || p a) && list_all (λ x. not (q x) || p x) l) [ true ↦ ap (λ t. p a && t) (all_keep_or p q l) | false ↦ all_keep_or p q l ]

  -- every one passes: none fails
  pub all_none : (p : A → Bool) (l : List A) → list_all p l ≡ not (list_any (λ x. not (p x)) l)
  all_none p [] = refl
  all_none p (a ∷ l) = elim (p a) as (λ b. b && list_all p l ≡ not (not b || list_any (λ x. not (p x)) l)) [ true ↦ all_none p l | false ↦ refl ]

-- tests that agree hold of the same numbers from a on
pub from_same : (a k : ℕ) (p q : ℕ → Bool) → ((n : ℕ) → p n ≡ q n) → all_from a k p ≡ all_from a k q
unfolding all_from
from_same a zero p q h = refl
from_same a (suc k) p q h = rw (h a, from_same (suc a) k p q h)

-- ---- whole numbers of 64 bits

-- below 0 the highest bit is set
pub below_bits : (x : ℤ) → SFits w64 x → lt_z x (pos 0) ≡ true → 2 ^ 63 ≤ of_z w64 x
below_bits (pos n) s e = omega (arith, ltb-true n 0 e)
below_bits (negsuc n) s e = omega (arith, s.sfits)

-- else the bits are the number itself
pub above_bits : (x : ℤ) → lt_z x (pos 0) ≡ false → T (non_neg x) × (nat_abs x ≡ of_z w64 x)
above_bits (pos n) e = (tt, refl)
above_bits (negsuc n) e = let z : ◌≡◌ {A = ℕ} 0 1 = cc in absurd (omega arith)

-- counted from 0
pub size_number : (z : ℤ) → SFits w64 z → number z < 2 ^ 63
unfolding number
size_number (pos n) f = f.sfits
size_number (negsuc n) f = omega arith

-- ---- a GUID whose last four bytes are zero

zero_number : (bs : List ℕ) → list_all (λ b. eqb b 0) bs ≡ eqb (number_of bs) 0
unfolding number_of
zero_number [] = refl
zero_number (zero ∷ bs) = let e : 0 * 256 ^ length bs + number_of bs ≡ number_of bs = omega (arith, zero-mul (256 ^ length bs)) in zero_number bs ∙ ap (λ n. eqb n 0) (sym e)
zero_number (suc b ∷ bs) = rw (ne_eqb (suc b) 0 (λ e. omega arith)) (sym (ne_eqb (suc b * 256 ^ length bs + number_of bs) 0 (λ e. omega (arith, suc-mul b (256 ^ length bs), pow_pos (length bs)))))

pub zero_tail : (h l : ℕ) → list_all (λ b. eqb b 0) (drop 12 (guid_of h l)) ≡ eqb (l % 4294967296) 0
unfolding guid_of
zero_tail h l =
    let x : List ℕ = bytes_of 8 h in
    let y : List ℕ = bytes_of 4 (l / 256 ^ 4) in
    let z : List ℕ = bytes_of 4 l in
    let e : drop 12 (x ++ bytes_of 8 l) ≡ z
    = ap (λ b. drop 12 (x ++ b)) (bytes_of_append 4 4 l) ∙ ap (drop 12) (sym (append_assoc x y z))
    ∙ drop_at (x ++ y) z 12 (length-append x y ∙ omega (arith, bytes_of_length 8 h, bytes_of_length 4 (l / 256 ^ 4))) in
    ap (list_all (λ b. eqb b 0)) e ∙ zero_number z ∙ ap (λ n. eqb n 0) (number_of_bytes_of 4 l)

-- ---- entries of readers below 8

small_test : (k r : ℕ) → k < 8 → ltb r 8 && eqb k r ≡ eqb k r
small_test k r b =
    (elim (eqb k r) as (λ t. eqb k r ≡ t → ltb r 8 && t ≡ t) [
      | true ↦ λ e. ap (λ t. t && true) (lt-ltb r 8 (omega (arith, eqb-true k r e)))
      | false ↦ λ e. and_never (ltb r 8) false refl
    ]) refl

large_test : (k r : ℕ) → 8 ≤ k → ltb r 8 && eqb k r ≡ false
large_test k r b =
    (elim (eqb k r) as (λ t. eqb k r ≡ t → ltb r 8 && t ≡ false) [
      | true ↦ λ e. ap (λ t. t && true) (le-ltb r 8 (omega (arith, eqb-true k r e)))
      | false ↦ λ e. and_never (ltb r 8) false refl
    ]) refl

pub any_small : {X : Type 0} (k : ℕ) (h : List (Entry X)) → k < 8 → list_any (λ o. eqb k o.reader) (filter (λ o. ltb o.reader 8) h) ≡ list_any (λ o. eqb k o.reader) h
any_small k h b = any_keep (λ o. eqb k o.reader) (λ o. ltb o.reader 8) h ∙ any_ext _ _ (λ o. small_test k o.reader b) h

pub none_small : {X : Type 0} (k : ℕ) (h : List (Entry X)) → 8 ≤ k → list_any (λ o. eqb k o.reader) (filter (λ o. ltb o.reader 8) h) ≡ false
none_small k h b = any_keep (λ o. eqb k o.reader) (λ o. ltb o.reader 8) h ∙ any_empty _ (λ o. large_test k o.reader b) h

-- ---- sets

module _ {X : Type 0} where
  -- an end is missing: not every pair's is there
  pub missing_any : (g : Guid) (z : ℤ) (l : List (Entry X)) (ps : List Pair) → end_missing g z ps l ≡ not (list_all (λ p. list_any (λ h. is_end_of g z p.writer p.reader h) l) ps)
  unfolding end_missing
  missing_any g z l ps = sym (ap not (all_none (λ p. list_any (λ h. is_end_of g z p.writer p.reader h) l) ps) ∙ not-not _)

  -- without a set none is shared
  pub none_shares : (e : Entry X) → e.set ≡ None → (l : List (Entry X)) → list_any (λ h. shares e h) l ≡ false
  unfolding shares
  none_shares e c = any_empty (λ h. shares e h) (λ h. rw (c, and_never (of_group e.group h) false refl))

  -- what joins has a set
  pub joined_set : (s : State X) (o : Offer X) → fate_of s o ≡ Joined → is_some o.set ≡ true
  unfolding fate_of is_some entry_of
  joined_set s o a =
      let opened : Bool = list_any (λ h. shares (entry_of o) h) s.held in
      let t = fate_joined (ltb (committed_of o.group s.groups) (number o.number)) (not (is_sample_w o.what) && opened) a in
      (elim o.set as (λ z. o.set ≡ z → is_some z ≡ true) [
        | None ↦ λ e. not_both opened (and_right (not (is_sample_w o.what)) opened t) (none_shares (entry_of o) e s.held)
        | Some z ↦ λ e. refl
      ]) refl

  -- where a pair's end is kept, the set has an entry
  pub end_in_set : (g : Guid) (z : ℤ) (w : Guid) (r : ℕ) (l : List (Entry X)) → list_any (λ h. is_end_of g z w r h) l ≡ true → list_any (λ h. in_set g z h) l ≡ true
  unfolding is_end_of
  end_in_set g z w r = any_imp (λ h. is_end_of g z w r h) (λ h. in_set g z h) (λ h e. and_left (in_set g z h) (not (is_sample h)) (and_left (in_set g z h && not (is_sample h)) (of_pair w r h) e))

-- ---- a commit doesn't read what is pending

module _ {X : Type 0} (q : List (Entry X)) where
  -- the same work, with these pending
  unfoldable pub with_pending : Work X → Work X
  with_pending w = record { committed = w.committed; pending = q; held = w.held; out = w.out; lost = w.lost; counts = w.counts }

  stale_frame : (k : ℕ) (e : Entry X) (w : Work X) → with_pending (discard_stale k e w) ≡ discard_stale k e (with_pending w)
  unfolding discard_stale with_pending discard
  stale_frame zero e w = refl
  stale_frame (suc k) e w = elim (lowest_stale e w.held) as (λ o. with_pending (discard_or (λ v. discard_stale k e v) e.group w o) ≡ discard_or (λ v. discard_stale k e v) e.group (with_pending w) o) [ None ↦ refl | Some z ↦ stale_frame k e (discard e.group z w) ]

  settle_frame : (e : Entry X) (w : Work X) (x : What X) (s : Option ℤ) → with_pending (settle e w x s) ≡ settle e (with_pending w) x s
  unfolding with_pending with_held with_out
  settle_frame e w (Sample x) None = refl
  settle_frame e w (Sample x) (Some z) = refl
  settle_frame e w (End u) None = refl
  settle_frame e w (End u) (Some z) = refl

  pub commit_frame : (e : Entry X) (w : Work X) → with_pending (commit_one e w) ≡ commit_one e (with_pending w)
  unfolding commit_one with_pending
  commit_frame e w = settle_frame e (discard_stale (length w.held) e w) e.what e.set ∙ ap (λ v. settle e v e.what e.set) (stale_frame (length w.held) e w)
