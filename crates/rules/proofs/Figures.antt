-- Document 01's call list and P lines, computed by the definitions, and the notation of all figures.
-- Figures that a wrong rule would not give stand by rule in FiguresOffer, FiguresMarks, FiguresSets, FiguresRelease and FiguresClaim.
use Prim.Native.Nat.{ℕ}
use mathlib.Core.Path.{◌≡◌, refl}
use mathlib.Core.Bool.{true, false}
use mathlib.Core.List.{List, [], ◌∷◌, ◌++◌, map}
use Rattle.std.specs.Prelude.{Option, Some, None}
use lib.IntN.{ℤ, pos}
use lib.ListN.{length, replicate}
use Rattle.laws.specs.Lists.{count, change, is_some}
use Rattle.guids.specs.Guid.{Guid, compare_guid, same_guid, before}
use Rattle.rules.specs.Entry.{What, Sample, End, set_end, Entry, is_sample, of_group, in_set, of_pair, is_member, is_end_of, marks}
use Rattle.rules.specs.State.{State, Writer, ReleaseCounts, plus, no_counts, fresh, is_group, is_writer, knows_group, knows_writer, writer_of, committed_in, committed_of, stored, new_group, new_writer}
use Rattle.rules.specs.Marks.{number, past, past_marks, past_of, insert_group, hear_group, hear_writer, raise, saw, gapped, or_keep, announced, announced_to, tell}
use Rattle.rules.specs.Offer.{Fate, Stored, Joined, Late, refusal, one_late, ninth, pair33, with_marks, entry_of, shares, replaced, marked, keep_end, join, fate_of, adds, offer_refusal, place, heard_offer, offer, heartbeat, gap}
use Rattle.rules.specs.Sets.{Pair, lowest_set, lowest_ended, end_missing, members_of, members_of_pair, agrees, whole, without, is_stale, lowest_stale}
use Rattle.rules.specs.Commit.{DigestRow, accepted, secure_accepted, digests_accepted, all_from, pair_past, ruled_out, is_head, head_of, lowest_number, next, copies_arrived, ready}
use Rattle.rules.specs.Release.{skip, discards, young, discard, hand_out, finish, discard_stale, with_held, with_out, commit_one, commit_all, commit, waits, round, rounds, enough, View, turn_of, committed_at, malformed, at_group, release_group, release_all, work_of, back_to, released, samples, release_refusal, release}
use Rattle.rules.specs.Run.{Call, offers, heartbeats, gaps, releases, Said, is_refused, is_offered, is_done, is_released, step, run}

-- GUID k: fifteen zero bytes and k
abbrev pub guid : ℕ → Guid
guid k = replicate 15 0 ++ (k ∷ [])

-- lines of the call list
abbrev pub S : ℕ → ℕ → ℕ → ℤ → Option ℤ → ℕ → ℕ → ℕ → Call ℕ
S g w r n s d i t = offers (record { group = guid g; writer = guid w; reader = r; number = n; set = s; digest = d; what = Sample i; time = t })

abbrev pub E : ℕ → ℕ → ℕ → ℤ → Option ℤ → ℕ → Option ℤ → Option ℤ → ℕ → Call ℕ
E g w r n s d f o t = offers (record { group = guid g; writer = guid w; reader = r; number = n; set = s; digest = d; what = set_end f o; time = t })

abbrev pub H : ℕ → ℕ → ℤ → ℤ → ℤ → Option ℕ → Option ℕ → Call ℕ
H g w f l c d s = heartbeats (record { group = guid g; writer = guid w; first = f; last = l; current = c; digest = d; secure = s })

abbrev pub G : ℕ → ℕ → ℕ → ℤ → Call ℕ
G g w r n = gaps (record { group = guid g; writer = guid w; reader = r; number = n })

abbrev pub R : View → ℕ → Call ℕ
R v t = releases t v (replicate 256 0)

abbrev pub C : ℕ → ℕ → ℕ → Pair
C g w r = record { group = guid g; writer = guid w; reader = r }

abbrev pub view : List Pair → List DigestRow → View
view ps ds = record { counted = ps; digests = ds }

abbrev pub nobody : View
nobody = view [] []

-- writer 1 of group 1 at reader 0 is counted; and writer 2
abbrev pub alone : View
alone = view (C 1 1 0 ∷ []) []

abbrev pub both : View
both = view (C 1 1 0 ∷ C 1 2 0 ∷ []) []

abbrev pub D : ℕ → ℕ → DigestRow
D g d = record { group = guid g; digest = d }

-- what a line prints
pub data Line : Type 0 where
  ok stored' joined' late' : Line
  refused' : ℕ → Line
  out' : List (ℕ × ℕ) → ℕ → ℕ → ℕ → ℕ → Line

abbrev item_w : What ℕ → ℕ
item_w (Sample i) = i
item_w (End u) = 0

abbrev handed : List (Entry ℕ) → List (ℕ × ℕ)
handed l = map (λ e. (e.reader, item_w e.what)) l

abbrev line_f : Fate → Line
line_f Stored = stored'
line_f Joined = joined'
line_f Late = late'

abbrev line : Said ℕ → ReleaseCounts → Line
line (is_refused n) c = refused' n
line (is_offered f) c = line_f f
line is_done c = ok
line (is_released o l) c = out' (handed o) c.skipped_after_timeout c.incomplete_sets c.discarded_samples c.late_samples

prints_from : State ℕ → List (Call ℕ) → List Line
prints_from s [] = []
prints_from s (c ∷ cs) = line (step s c).0 (step s c).1.counts ∷ prints_from (step s c).1 cs

-- what a list prints from a fresh start with a timeout
unfoldable pub prints : ℕ → List (Call ℕ) → List Line
unfolding prints_from count change is_some compare_guid same_guid before is_sample of_group in_set of_pair is_member is_end_of marks plus no_counts fresh is_group is_writer knows_group knows_writer writer_of committed_in committed_of stored new_group new_writer number past past_of insert_group hear_group hear_writer past_marks raise saw gapped or_keep announced announced_to tell refusal one_late ninth pair33 with_marks entry_of shares replaced marked keep_end join fate_of adds offer_refusal place heard_offer offer heartbeat gap lowest_set lowest_ended end_missing members_of members_of_pair agrees whole without is_stale lowest_stale accepted secure_accepted digests_accepted all_from pair_past ruled_out is_head head_of lowest_number next copies_arrived ready skip discards young discard hand_out finish discard_stale with_held with_out commit_one commit_all commit waits round rounds enough turn_of committed_at malformed at_group release_group release_all work_of back_to released samples release_refusal release step
prints t cs = prints_from (fresh t) cs

-- the writer after a heartbeat 4..6 with current number 10
unfoldable pub told : Option Writer
unfolding prints run
told = writer_of (guid 1) (guid 1) (run (fresh 1000) (H 1 1 (pos 4) (pos 6) (pos 10) None None ∷ [])).writers

-- an ended set without members is held
unfoldable pub emptied : State ℕ
unfolding prints run
emptied = run (fresh 1) (E 1 1 0 (pos 1) (Some (pos 1)) 7 None (Some (pos 2)) 0 ∷ R both 9 ∷ [])

-- the P lines of document 01 on the history
pub record PLines : Type 0 where
  -- the call list of document 01
  pub call_list : prints 1000 (S 1 1 0 (pos 1) (Some (pos 1)) 7 50 0 ∷ S 1 2 1 (pos 2) (Some (pos 1)) 7 51 0 ∷ E 1 1 0 (pos 3) (Some (pos 1)) 7 (Some (pos 1)) (Some (pos 2)) 0 ∷ R (view (C 1 1 0 ∷ C 1 2 1 ∷ []) (D 1 7 ∷ [])) 10 ∷ E 1 2 1 (pos 3) (Some (pos 1)) 7 (Some (pos 1)) (Some (pos 2)) 10 ∷ R (view (C 1 1 0 ∷ C 1 2 1 ∷ []) (D 1 7 ∷ [])) 10 ∷ [])
      ≡ stored' ∷ stored' ∷ stored' ∷ out' [] 0 0 0 0 ∷ joined' ∷ out' ((0, 50) ∷ (1, 51) ∷ []) 0 0 0 0 ∷ []
  -- fresh, number 0: late
  pub zero_late : prints 1000 (S 1 1 0 (pos 0) None 7 1 0 ∷ []) ≡ late' ∷ []
  -- fresh, number 5 at 0, timeout 1000: at 999 nothing, at 1000 handed out, skipped 4
  pub timed_out : prints 1000 (S 1 1 0 (pos 5) None 7 9 0 ∷ R nobody 999 ∷ R nobody 1000 ∷ [])
      ≡ stored' ∷ out' [] 0 0 0 0 ∷ out' ((0, 9) ∷ []) 4 0 0 0 ∷ []
  -- one member, first 1: own 2 whole, own 3 discarded
  pub own_two : prints 1000 (S 1 1 0 (pos 1) (Some (pos 1)) 7 9 0 ∷ E 1 1 0 (pos 2) (Some (pos 1)) 7 (Some (pos 1)) (Some (pos 2)) 0 ∷ R alone 0 ∷ [])
      ≡ stored' ∷ stored' ∷ out' ((0, 9) ∷ []) 0 0 0 0 ∷ []
  pub own_three : prints 1000 (S 1 1 0 (pos 1) (Some (pos 1)) 7 9 0 ∷ E 1 1 0 (pos 2) (Some (pos 1)) 7 (Some (pos 1)) (Some (pos 3)) 0 ∷ R alone 0 ∷ [])
      ≡ stored' ∷ stored' ∷ out' [] 0 1 1 0 ∷ []
  -- first absent: 0 members whole, 1 discarded
  pub no_first_none : prints 1000 (E 1 1 0 (pos 1) (Some (pos 1)) 7 None (Some (pos 2)) 0 ∷ R alone 0 ∷ []) ≡ stored' ∷ out' [] 0 0 0 0 ∷ []
  pub no_first_whole : (run (fresh 1000) (E 1 1 0 (pos 1) (Some (pos 1)) 7 None (Some (pos 2)) 0 ∷ R alone 0 ∷ [])).held ≡ []
  pub no_first_one : prints 1000 (S 1 1 0 (pos 1) (Some (pos 1)) 7 9 0 ∷ E 1 1 0 (pos 2) (Some (pos 1)) 7 None (Some (pos 2)) 0 ∷ R alone 0 ∷ [])
      ≡ stored' ∷ stored' ∷ out' [] 0 1 1 0 ∷ []
  -- ended, no member, one end missing, timeout 1: held at every time
  pub empty_waits : (t : ℕ) → prints 1 (E 1 1 0 (pos 1) (Some (pos 1)) 7 None (Some (pos 2)) 0 ∷ R both t ∷ []) ≡ stored' ∷ out' [] 0 0 0 0 ∷ []
  pub empty_held : length emptied.held ≡ 1
  pub empty_came : (t : ℕ) → run (fresh 1) (E 1 1 0 (pos 1) (Some (pos 1)) 7 None (Some (pos 2)) 0 ∷ R both t ∷ []) ≡ emptied
  pub empty_stays : (t : ℕ) → step emptied (R both t) ≡ (is_released [] [], emptied)
  -- heartbeat 4..6, current 10: past 7 and 9, not 6, not 10
  pub past_seven : past_of told 0 7 ≡ true
  pub past_nine : past_of told 0 9 ≡ true
  pub not_six : past_of told 0 6 ≡ false
  pub not_ten : past_of told 0 10 ≡ false

pub p_lines : PLines
unfolding prints run past past_marks told emptied
p_lines = record {
  call_list = refl;
  zero_late = refl;
  timed_out = refl;
  own_two = refl;
  own_three = refl;
  no_first_none = refl;
  no_first_whole = refl;
  no_first_one = refl;
  empty_waits = λ t. refl;
  empty_held = refl;
  empty_came = λ t. refl;
  empty_stays = λ t. refl;
  past_seven = refl;
  past_nine = refl;
  not_six = refl;
  not_ten = refl;
}
