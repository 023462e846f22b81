-- A release only lets the counts grow, so that what a turn reports, added to the counts before it, gives those after it.
use Prim.Native.Nat.{ℕ, ◌+◌, ◌-◌, ◌^◌, ◌≤◌}
use mathlib.Core.Path.{◌≡◌, sym, subst, ap, ◌∙◌}
use mathlib.Core.List.{List, [], ◌∷◌}
use Rattle.std.specs.Prelude.{Option, Some, None}
use native.Mathlib.Omega.{arith}
use lib.IntN.{ℤ}
use lib.ListN.{length}
use Rattle.rules.specs.Entry.{set_end}
use Rattle.rules.specs.declared.entry.What.{What}
use Rattle.rules.specs.declared.entry.What.TheVariants.{Sample, End}
use Rattle.rules.specs.declared.entry.Entry.{Entry}
use Rattle.rules.specs.State.{State, plus}
use Rattle.rules.specs.declared.state.ReleaseCounts.{ReleaseCounts}
use Rattle.rules.specs.Sets.{members_of}
use Rattle.rules.specs.Release.{Work, View, skip, discards, discard, hand_out, with_held, with_out, settle, at_group, work_of, back_to, release}
use Rattle.rules.specs.Run.{releases, step, run}
use Rattle.rules.proofs.Stays.{Stays, released_stays, release_cases}
use Rattle.turn.specs.declared.rows.Progress.{Progress}
use Rattle.turn.specs.Turn.{rows_calls, since, turn_to, AsCalls}
use Rattle.turn.specs.Turn as T
use Rattle.turn.proofs.TurnLaws.{run_append, applied_run, applied_quiet, counts_quiet, turn_calls}

-- ---- one count

abbrev most : ℕ
most = 2 ^ 64 - 1

-- from a on, and at most 2^64 − 1
abbrev Within : ℕ → ℕ → Type 0
Within a x = (a ≤ x) × (x ≤ most)

plus_within : (a x k : ℕ) → Within a x → Within a (plus x k)
unfolding plus
plus_within a x k h = (omega (arith, h.0, h.1), omega arith)

-- ---- the counts

pub record Grown (b c : ReleaseCounts) : Type 0 where
  pub skipped_after_timeout : Within b.skipped_after_timeout c.skipped_after_timeout
  pub incomplete_sets : Within b.incomplete_sets c.incomplete_sets
  pub discarded_samples : Within b.discarded_samples c.discarded_samples
  pub late_samples : Within b.late_samples c.late_samples

-- each at most 2^64 − 1
abbrev pub Small : ReleaseCounts → Type 0
Small c = Grown c c

module _ (b : ReleaseCounts) where
  discards_up : (k : ℕ) (c : ReleaseCounts) → Grown b c → Grown b (discards k c)
  unfolding discards
  discards_up k c h = record { skipped_after_timeout = h.skipped_after_timeout; incomplete_sets = plus_within b.incomplete_sets c.incomplete_sets 1 h.incomplete_sets; discarded_samples = plus_within b.discarded_samples c.discarded_samples k h.discarded_samples; late_samples = h.late_samples }

  skip_up : (k : ℕ) (c : ReleaseCounts) → Grown b c → Grown b (skip k c)
  unfolding skip
  skip_up k c h = record { skipped_after_timeout = plus_within b.skipped_after_timeout c.skipped_after_timeout k h.skipped_after_timeout; incomplete_sets = h.incomplete_sets; discarded_samples = h.discarded_samples; late_samples = h.late_samples }

module _ {X : Type 0} (b : ReleaseCounts) where
  settle_up : (e : Entry X) (w : Work X) (x : What X) (z : Option ℤ) → Grown b w.counts → Grown b (settle e w x z).counts
  unfolding with_out with_held
  settle_up e w (Sample x) None h = h
  settle_up e w (Sample x) (Some z) h = h
  settle_up e w (End u) None h = h
  settle_up e w (End u) (Some z) h = h

  up : Stays {X = X} (λ l w. Grown b w.counts)
  unfolding discard hand_out at_group
  up = record {
    at_turn = λ t. record {
      at_discard = λ l z w h. discards_up b (length (members_of t.guid z w.held)) w.counts h;
      at_hand_out = λ z w h. h;
      at_settle = λ e l w x y i o h. settle_up e w x y h;
      at_taken = λ n k w d h. skip_up b k w.counts h;
    };
    at_group_lem = λ g w h. h;
  }

module _ {X : Type 0} where
  pub release_grows : (s : State X) (v : View) (now room : ℕ) → Small s.counts → Grown s.counts (release s v now room).1.counts
  unfolding back_to work_of
  release_grows s v now room h = release_cases (λ r t. Grown s.counts t.counts) s v now room h (released_stays (λ l w. Grown s.counts w.counts) (up s.counts) s v now h)

-- ---- what a turn reports

sum : (a x : ℕ) → a ≤ x → a + (x - a) ≡ x
sum a x h = omega (arith, h)

-- the counts before a turn and what it reports give the counts after it
pub turn_grows : (s : State ℕ) (rows : List Progress) (v : View) (now : ℕ) (l : List ℕ) (n : ℕ) (c : ReleaseCounts) → Small s.counts → (turn_to s rows v now l).0 ≡ T.released n c
    → (s.counts.skipped_after_timeout + c.skipped_after_timeout ≡ (turn_to s rows v now l).1.counts.skipped_after_timeout) × (s.counts.incomplete_sets + c.incomplete_sets ≡ (turn_to s rows v now l).1.counts.incomplete_sets)
    × (s.counts.discarded_samples + c.discarded_samples ≡ (turn_to s rows v now l).1.counts.discarded_samples) × (s.counts.late_samples + c.late_samples ≡ (turn_to s rows v now l).1.counts.late_samples)
unfolding since
turn_grows s rows v now l n c h e =
    let a : AsCalls s rows v now l n c = turn_calls s rows v now l n c e in
    let u : State ℕ = run s (rows_calls s rows) in
    let k : u.counts ≡ s.counts = ap (λ (x : State ℕ). x.counts) (sym (applied_run s rows)) ∙ applied_quiet (λ (x : State ℕ). x.counts) counts_quiet s rows in
    let m : (release u v now (length l)).1 ≡ (turn_to s rows v now l).1 = unfold run step in sym (a.state ∙ run_append s (rows_calls s rows) (releases now v l ∷ [])) in
    let g : Grown s.counts (turn_to s rows v now l).1.counts = subst (λ x. Grown s.counts x.counts) m (subst (λ x. Grown x (release u v now (length l)).1.counts) k (release_grows u v now (length l) (subst (λ x. Small x) (sym k) h))) in
    let d : c ≡ since s.counts (turn_to s rows v now l).1.counts = a.grown ∙ ap (λ (x : State ℕ). since s.counts x.counts) (sym a.state) in (
      ap (λ (x : ReleaseCounts). s.counts.skipped_after_timeout + x.skipped_after_timeout) d ∙ sum s.counts.skipped_after_timeout (turn_to s rows v now l).1.counts.skipped_after_timeout g.skipped_after_timeout.0,
      ap (λ (x : ReleaseCounts). s.counts.incomplete_sets + x.incomplete_sets) d ∙ sum s.counts.incomplete_sets (turn_to s rows v now l).1.counts.incomplete_sets g.incomplete_sets.0,
      ap (λ (x : ReleaseCounts). s.counts.discarded_samples + x.discarded_samples) d ∙ sum s.counts.discarded_samples (turn_to s rows v now l).1.counts.discarded_samples g.discarded_samples.0,
      ap (λ (x : ReleaseCounts). s.counts.late_samples + x.late_samples) d ∙ sum s.counts.late_samples (turn_to s rows v now l).1.counts.late_samples g.late_samples.0,
    )
