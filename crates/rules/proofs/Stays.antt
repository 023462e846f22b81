-- What each step of every group's rounds keeps, a release keeps, and what each call keeps, a run; and what the other calls leave.
use Prim.Native.Nat.{ℕ}
use mathlib.Core.Path.{◌≡◌, refl}
use mathlib.Core.Bool.{true}
use mathlib.Core.List.{List, [], ◌∷◌}
use Rattle.std.specs.Prelude.{Option, Some, None}
use lib.Dec.{ltb}
use Rattle.laws.specs.Lists.{change}
use Rattle.rules.specs.Entry.{Entry}
use Rattle.rules.specs.State.{State, Group, Writer, is_group}
use Rattle.rules.specs.Marks.{number, hear_group, tell, gapped, announced, announced_to}
use Rattle.rules.specs.Offer.{refusal, ninth, pair33, with_marks, Heartbeat, Gap, done, heartbeat, gap}
use Rattle.rules.specs.Commit.{Turn}
use Rattle.rules.specs.Release.{Work, View, turn_of, at_group, work_of, released, Outcome, back_to, release_refusal, released_if, release}
use Rattle.rules.specs.Run.{Call}
use Rattle.rules.specs.Claim.{outcome_of, Story, follow, story}
use Rattle.laws.proofs.Lists.{all_yes}
use Rattle.rules.proofs.Turns.{Keeps, release_all_keeps}

-- a claim that the steps of every group's rounds keep, and the change to a group
pub record Stays {X : Type 0} (P : List (Entry X) → Work X → Type 0) : Type 0 where
  pub at_turn : (t : Turn) → Keeps t P
  pub at_group_lem : (g : Group) (w : Work X) → P [] w → P [] (at_group g w)

pub released_stays : {X : Type 0} (P : List (Entry X) → Work X → Type 0) → Stays P → (a : State X) (v : View) (now : ℕ) → P [] (work_of a) → P [] (released a v now).1
unfolding released
released_stays P s a v now p =
    let t : Group → Turn = λ g. turn_of v now a.timeout a.writers g in
    release_all_keeps t (λ g. true) (λ g o. s.at_turn (t g)) s.at_group_lem a.groups (all_yes a.groups) (work_of a) p

-- ---- the other calls, and a run

module _ {X : Type 0} where
  -- the entries and the counts are the same
  pub record SameStore (s t : State X) : Type 0 where
    pub pending : t.pending ≡ s.pending
    pub held : t.held ≡ s.held
    pub counts : t.counts ≡ s.counts

  done_same : (r : Option ℕ) (s : State X) (gs : List Group) (ws : List Writer) → SameStore s (done r s (with_marks gs ws s)).1
  unfolding with_marks
  done_same (Some n) s gs ws = record { pending = refl; held = refl; counts = refl }
  done_same None s gs ws = record { pending = refl; held = refl; counts = refl }

  pub heartbeat_same : (s : State X) (h : Heartbeat) → SameStore s (heartbeat s h).1
  unfolding heartbeat
  heartbeat_same s h =
      done_same (refusal ((2, ninth h.group s) ∷ (3, pair33 h.group h.writer s) ∷ [])) s
      (change (λ x. is_group h.group x) (λ x. announced_to (number h.current) x) (hear_group h.group s.groups))
      (tell h.group h.writer
      (λ w. announced (number h.first) (number h.last) (number h.current) h.digest h.secure w)
      s.writers)

  pub gap_same : (s : State X) (g : Gap) → SameStore s (gap s g).1
  unfolding gap
  gap_same s g =
      done_same (refusal ((1, ltb 7 g.reader) ∷ (2, ninth g.group s) ∷ (3, pair33 g.group g.writer s) ∷ [])) s
      (hear_group g.group s.groups)
      (tell g.group g.writer (λ w. gapped g.reader (number g.number) w) s.writers)

  -- what holds of a release that does nothing and of one that is answered holds of each
  pub release_cases : (P : Outcome X → State X → Type 0) (s : State X) (v : View) (now room : ℕ)
      → P (record { out = []; lost = [] }) s
      → P (record { out = (released s v now).1.out; lost = (released s v now).1.lost }) (back_to s (released s v now))
      → P (outcome_of (release s v now room).0) (release s v now room).1
  unfolding release
  release_cases P s v now room a b = elim (release_refusal s v room) as (λ r. P (outcome_of (released_if r s v now).0) (released_if r s v now).1) [ Some n ↦ a | None ↦ b ]

  -- what every call keeps, a run keeps
  pub story_stays : (P : Story X → Type 0) → ((y : Story X) (c : Call X) → P y → P (follow y c)) → (cs : List (Call X)) (y : Story X) → P y → P (story y cs)
  unfolding story
  story_stays P h [] y p = p
  story_stays P h (c ∷ cs) y p = story_stays P h cs (follow y c) (h y c p)
