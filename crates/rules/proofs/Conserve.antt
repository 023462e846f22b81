-- A release moves samples and loses none: of any test that holds only of samples, what is pending, held, handed out and discarded
-- stays as many; only samples are handed out and discarded; and the discarded count is the discarded samples until it stops.
use Prim.Native.Nat.{ℕ, ◌+◌, ◌-◌, ◌^◌, min}
use mathlib.Core.Path.{◌≡◌, sym, ap}
use mathlib.Core.Bool.{Bool, true, false, ◌&&◌, not}
use mathlib.Core.List.{List, [], ◌∷◌}
use Rattle.std.specs.Prelude.{Option, Some, None}
use native.Mathlib.Omega.{arith}
use lib.IntN.{ℤ}
use lib.ListN.{length, length-append}
use Rattle.laws.specs.Lists.{filter, list_all, count, find}
use Rattle.guids.specs.Guid.{Guid}
use Rattle.rules.specs.Entry.{What, Sample, End, Entry, is_sample_w, is_sample, in_set, is_member, of_pair, marks}
use Rattle.rules.specs.State.{State, plus}
use Rattle.rules.specs.Offer.{shares, replaced, marked, keep_end}
use Rattle.rules.specs.Sets.{members_of, without}
use Rattle.rules.specs.Commit.{is_head, head_of}
use Rattle.rules.specs.Release.{Work, View, skip, discards, discard, hand_out, with_held, with_out, mark_or, settle, at_group, work_of, released}
use Rattle.laws.proofs.Lists.{and_left, and_right, true_or_false, not_both, keep_keep, count_append, count_cons, count_split, count_kept, weight_none, count_apart, count_one, count_nil, not_true, all_both, all_kept, all_imp}
use Rattle.rules.proofs.Stays.{Stays, released_stays}

-- ---- as many

module _ {X : Type 0} (q : Entry X → Bool) where
  -- those of the test in the work
  unfoldable pub stock : Work X → ℕ
  stock w = count q w.pending + count q w.held + count q w.out + count q w.lost

  -- with those still to be committed they are n
  unfoldable pub Balanced : ℕ → List (Entry X) → Work X → Type 0
  Balanced n l w = count q l + stock w ≡ n

-- only a kept end is replaced
pub replaced_end : {X : Type 0} (e h : Entry X) → replaced e h ≡ true → is_sample h ≡ false
unfolding replaced
replaced_end e h k = not_true (is_sample h) (and_right (shares e h) (not (is_sample h)) (and_left (shares e h && not (is_sample h)) (of_pair e.writer e.reader h) k))

-- a test that holds only of samples
abbrev pub OfSamples : {X : Type 0} → (Entry X → Bool) → Type 0
OfSamples {X} q = (e : Entry X) → q e ≡ true → is_sample e ≡ true

module _ {X : Type 0} (q : Entry X → Bool) (only : OfSamples q) where
  pub not_sample : (e : Entry X) → is_sample e ≡ false → q e ≡ false
  not_sample e h = true_or_false (q e) (λ k. not_both (is_sample e) (only e k) h)

  -- a set's entries of the test are its members of the test
  members_split : (g : Guid) (z : ℤ) (l : List (Entry X)) → count q l ≡ count q (members_of g z l) + count q (without g z l)
  unfolding members_of without is_member
  members_split g z l = omega (arith, count_split (λ h. in_set g z h) q l, ap (λ m. count q m) (sym (keep_keep (λ h. is_sample h) (λ h. in_set g z h) l)), count_kept (λ h. is_sample h) q only (filter (λ h. in_set g z h) l))

  -- a kept end and the one that it replaces count nothing
  pub keep_end_count : (m : Option ℕ) (e : Entry X) (l : List (Entry X)) → is_sample e ≡ false → count q (keep_end m e l) ≡ count q l
  unfolding keep_end marked is_sample
  keep_end_count m e l h = omega (arith, count_append q (filter (λ x. not (replaced e x)) l) (marked m e ∷ []), count_one q (marked m e), weight_none (q (marked m e)) (not_sample (marked m e) h), count_split (λ x. replaced e x) q l, count_apart (λ x. replaced e x) q (λ a k. not_sample a (replaced_end e a k)) l)

  settle_balanced : (n : ℕ) (e : Entry X) (l : List (Entry X)) (w : Work X) (x : What X) (y : Option ℤ) → e.what ≡ x → Balanced q n (e ∷ l) w → Balanced q n l (settle e w x y)
  unfolding Balanced stock with_out with_held is_sample
  settle_balanced n e l w (Sample x) None h b = omega (arith, count_cons q e l, count_append q w.out (e ∷ []), count_one q e)
  settle_balanced n e l w (Sample x) (Some z) h b = omega (arith, count_cons q e l, count_append q w.held (e ∷ []), count_one q e)
  settle_balanced n e l w (End u) None h b = omega (arith, count_cons q e l, weight_none (q e) (not_sample e (ap is_sample_w h)))
  settle_balanced n e l w (End u) (Some z) h b = omega (arith, count_cons q e l, weight_none (q e) (not_sample e (ap is_sample_w h)), keep_end_count (mark_or e.time (find (λ m. shares e m && marks m) w.held)) e w.held (ap is_sample_w h))

  balanced : (n : ℕ) → Stays (λ l w. Balanced q n l w)
  unfolding Balanced stock discard hand_out head_of at_group
  balanced n = record {
    at_turn = λ t. record {
      at_discard = λ l z w b. omega (arith, members_split t.guid z w.held, count_append q w.lost (members_of t.guid z w.held));
      at_hand_out = λ z w b. omega (arith, members_split t.guid z w.held, count_append q w.out (members_of t.guid z w.held));
      at_settle = λ e l w x y h o b. settle_balanced n e l w x y h b;
      at_taken = λ m k w d b. omega (arith, count_split (λ e. is_head t m e) q w.pending, count_nil q);
    };
    at_group_lem = λ g w b. b;
  }

  pub released_stock : (s : State X) (v : View) (now : ℕ) → stock q (released s v now).1 ≡ count q s.pending + count q s.held
  unfolding Balanced stock work_of
  released_stock s v now =
      let n : ℕ = count q s.pending + count q s.held in
      let b : Balanced q n [] (released s v now).1 = released_stays (λ l w. Balanced q n l w) (balanced n) s v now (omega (arith, count_nil q)) in
      omega (arith, count_nil q)

module _ {X : Type 0} where
  -- ---- only samples are handed out and discarded

  members_samples : (g : Guid) (z : ℤ) (l : List (Entry X)) → list_all (λ e. is_sample e) (members_of g z l) ≡ true
  unfolding members_of is_member
  members_samples g z l = all_imp (λ h. is_member g z h) (λ e. is_sample e) (λ h k. and_right (in_set g z h) (is_sample h) k) (members_of g z l) (all_kept (λ h. is_member g z h) l)

  unfoldable pub OnlySamples : List (Entry X) → Work X → Type 0
  OnlySamples l w = (list_all (λ e. is_sample e) w.out ≡ true) × (list_all (λ e. is_sample e) w.lost ≡ true)

  settle_samples : (l m : List (Entry X)) (e : Entry X) (w : Work X) (x : What X) (y : Option ℤ) → e.what ≡ x → OnlySamples l w → OnlySamples m (settle e w x y)
  unfolding OnlySamples with_out with_held is_sample
  settle_samples l m e w (Sample x) None h b = (all_both (λ a. is_sample a) w.out (e ∷ []) b.0 (rw h), b.1)
  settle_samples l m e w (Sample x) (Some z) h b = b
  settle_samples l m e w (End u) None h b = b
  settle_samples l m e w (End u) (Some z) h b = b

  pub only_samples : Stays OnlySamples
  unfolding OnlySamples discard hand_out at_group
  only_samples = record {
    at_turn = λ t. record {
      at_discard = λ l z w b. (b.0, all_both (λ e. is_sample e) w.lost (members_of t.guid z w.held) b.1 (members_samples t.guid z w.held));
      at_hand_out = λ z w b. (all_both (λ e. is_sample e) w.out (members_of t.guid z w.held) b.0 (members_samples t.guid z w.held), b.1);
      at_settle = λ e l w x y h o b. settle_samples (e ∷ l) l e w x y h b;
      at_taken = λ n k w d b. b;
    };
    at_group_lem = λ g w b. b;
  }

  -- ---- the discarded count

  -- it is the samples discarded before, d, and by this release, until it stops
  unfoldable pub Exact : ℕ → List (Entry X) → Work X → Type 0
  Exact d l w = w.counts.discarded_samples ≡ min (d + length w.lost) (2 ^ 64 - 1)

  settle_exact : (d : ℕ) (l m : List (Entry X)) (e : Entry X) (w : Work X) (x : What X) (y : Option ℤ) → Exact d l w → Exact d m (settle e w x y)
  unfolding Exact with_out with_held
  settle_exact d l m e w (Sample x) None b = b
  settle_exact d l m e w (Sample x) (Some z) b = b
  settle_exact d l m e w (End u) None b = b
  settle_exact d l m e w (End u) (Some z) b = b

  pub exact : (d : ℕ) → Stays (λ l w. Exact d l w)
  unfolding Exact discard hand_out discards plus skip at_group
  exact d = record {
    at_turn = λ t. record {
      at_discard = λ l z w b. omega (arith, length-append w.lost (members_of t.guid z w.held));
      at_hand_out = λ z w b. b;
      at_settle = λ e l w x y h o b. settle_exact d (e ∷ l) l e w x y b;
      at_taken = λ n k w d b. b;
    };
    at_group_lem = λ g w b. b;
  }
