-- The source's turn and the definition's, after every list of calls and turns.
use Rattle.rules.specs.declared.state.ReleaseCounts.{ReleaseCounts}
use Prim.{tt}
use Prim.Native.Nat.{ℕ, ◌≤◌}
use mathlib.Core.Path.{◌≡◌, refl, sym, ap, subst, ◌∙◌}
use mathlib.Core.Bool.{Bool, true, false, ◌||◌, cond}
use mathlib.Core.List.{List, [], ◌∷◌}
use Rattle.std.specs.Prelude.{Some, None}
use lib.Dec.{ltb}
use lib.ListN.{length}
use Rattle.laws.specs.Answer.{Answer, refused, answered}
use Rattle.laws.specs.Lists.{list_any}
use Rattle.rules.specs.State.{State}
use Rattle.rules.specs.Offer.{refusal}
use Rattle.rules.specs.Release.{View, Outcome, malformed, release}
use Rattle.rules.specs.Release as R
use Rattle.rules.specs.Run.{Call, releases, said_release, nothing_waits}
use Rattle.rules.specs.Run as D
use Rattle.rules.specs.Claim.{Reached}
use Rattle.laws.proofs.Lists.{or_left, or_right}
use Rattle.rules.proofs.Reached.{step_reached, fresh_reached}
use Rattle.release.specs.Released.{count_out, release_to}
use Rattle.history.specs.Chain as C
use Rattle.turn.specs.declared.rows.Progress.{Progress}
use Rattle.turn.specs.Turn.{Turned, idle, released, since, report_of, reported, rows_calls, applied, turn_to}
use Rattle.turn.specs.Turn as T
use Rattle.turn.proofs.TurnLaws.{rows_quiet, applied_run}
use Rattle.source_model.specs.Source.{GroupOrder, is_empty}
use Rattle.source_model.specs.Source as S
use Rattle.source_model.specs.Calls.{Told, told_released, told, view_of, samples, step}
use Rattle.source_model.specs.Claim.{cut_counts, below, as_counts}
use Rattle.source_model.proofs.Like.{Like}
use Rattle.source_model.proofs.Bare.{bare_order, samples_bare}
use Rattle.source_model.proofs.Figures.{samples_same}
use Rattle.source_model.proofs.Growing.{Grows, grown_below, each_grows}
use Rattle.source_model.proofs.Readers.{Readers, step_readers, fresh_readers}
use Rattle.source_model.proofs.Steps.{Same, step_same, fresh_like, exact, counts_bare, waiting_like, empty_like}
use Rattle.sameness.specs.Same.{counted, written}
use Rattle.sameness.proofs.Alike.{plain_step, counted_same, written_same}
use Rattle.turn_model.specs.Source.{heard_all, turn}
use Rattle.turn_model.specs.Claim.{rows_of, told_idle, told_report, Asked, turn_by, turn_or, grown, turned_as, list_as, turn_of, Reaches, begins, calls, takes, Exact, SameTurn}
use Rattle.turn_model.specs.Claim as M
use Rattle.turn_model.proofs.Rows.{applied_reached, heard_like}

count_said : (a : Answer (Outcome ℕ)) → count_out a ≡ C.counted (said_release a)
count_said (refused n) = refl
count_said (answered r) = refl

-- a turn on both sides
record Both (m : M.Told × GroupOrder ℕ) (d : Turned × State ℕ × List ℕ) (l : List ℕ) : Type 0 where
  answer : d.0 ≡ turned_as m.0
  list : d.2 ≡ list_as m.0 l
  like : Like (bare_order m.1) d.1
  exactly : Exact m.0

below_exact : (b c : ReleaseCounts) (l : List (ℕ × ℕ)) → Grows b c → below c ≡ true → grown (record { released = l; before = b; after = c }) ≡ since (as_counts b) (as_counts c)
unfolding grown
below_exact b c l g h = ap (λ x. since x (cut_counts c)) (exact b (grown_below b c g h)) ∙ ap (λ x. since (as_counts b) x) (exact c h)

stored_samples : (o : GroupOrder ℕ) (s : State ℕ) → Like (bare_order o) s → R.samples s ≡ samples (bare_order o)
unfolding R.samples
stored_samples o s l = samples_same (bare_order o) s l

counts_like : (o : GroupOrder ℕ) (s : State ℕ) → Like (bare_order o) s → s.counts ≡ cut_counts o.counts
counts_like o s l = l.counts ∙ ap cut_counts (counts_bare o)

stepped : (s : State ℕ) (now : ℕ) (v : View) (l : List ℕ) → Reached (D.step s (releases now v l)).1 → Reached (release s v now (length l)).1
unfolding D.step
stepped s now v l h = h

released_readers : (s : State ℕ) (now : ℕ) (v : View) (l : List ℕ) → Readers (D.step s (releases now v l)).1 → Readers (release s v now (length l)).1
unfolding D.step
released_readers s now v l h = h

run_readers : (cs : List (Call ℕ)) (s : State ℕ) → Readers s → Readers (D.run s cs)
unfolding D.run
run_readers [] s h = h
run_readers (c ∷ cs) s h = run_readers cs (D.step s c).1 (step_readers s c h)

applied_readers : (s : State ℕ) (rows : List Progress) → Readers s → Readers (applied s rows)
applied_readers s rows h = subst (λ (t : State ℕ). Readers t) (sym (applied_run s rows)) (run_readers (rows_calls s rows) s h)

after_release : (s : State ℕ) (now : ℕ) (v : View) (l : List ℕ) → Reached s → Reached (release s v now (length l)).1
after_release s now v l h = stepped s now v l (step_reached s (releases now v l) h)

module _ (turns : ℕ) (f : 513 ≤ turns) (a : Asked) (o : GroupOrder ℕ) (s : State ℕ) (l : Like (bare_order o) s) (r : Reached s) where
  abbrev rows : List Progress
  rows = rows_of a.runtime a.readers o

  abbrev heard : GroupOrder ℕ
  heard = heard_all a.runtime a.readers o

  abbrev said : State ℕ
  said = applied s rows

  abbrev out : List (ℕ × ℕ) × GroupOrder ℕ
  out = S.release turns heard (view_of a.view) a.now

  report_grows : Grows heard.counts out.1.counts
  unfolding S.release
  report_grows = each_grows turns (view_of a.view) a.now heard.timeout heard.groups [] heard.counts

  -- once nothing is refused, a release of the model is the source's
  none_refused : malformed a.view ≡ false → ltb (length a.list) (samples heard) ≡ false → step turns heard (releases a.now a.view a.list) ≡ (told_released out.0, out.1)
  unfolding step refusal
  none_refused e g = rw (e, g)

  module _ (e : malformed a.view ≡ false) (t : list_any (λ x. ltb 7 x.reader) rows ≡ false) (g : ltb (length a.list) (samples o) ≡ false) where
    like : Like (bare_order heard) said
    like = heard_like a.runtime a.readers o s t l

    room : ltb (length a.list) (samples heard) ≡ false
    room =
        ap (λ n. ltb (length a.list) n) (sym (samples_bare heard) ∙ sym (stored_samples heard said like) ∙ (rows_quiet s rows).0 ∙ stored_samples o s l ∙ samples_bare o) ∙ g

    same : Same (told_released out.0, out.1) (D.step said (releases a.now a.view a.list))
    same = subst (λ (p : Told ℕ × GroupOrder ℕ). Same p (D.step said (releases a.now a.view a.list))) (none_refused e room) (step_same turns f heard said (releases a.now a.view a.list) like (applied_reached s rows r))

    abbrev answer : Answer (Outcome ℕ)
    answer = (release said a.view a.now (length a.list)).0

    told_out : told (said_release answer) ≡ told_released out.0
    unfolding D.step
    told_out = sym same.answer

    places : count_out answer ≡ answered (length out.0)
    unfolding D.step
    places = count_said answer ∙ counted_same (said_release answer) (plain_step said (releases a.now a.view a.list)) ∙ ap (λ q. counted q) told_out

    lists : D.written (said_release answer) a.list ≡ written (told_released out.0) a.list
    unfolding D.step
    lists = written_same (said_release answer) a.list (plain_step said (releases a.now a.view a.list)) ∙ ap (λ q. written q a.list) told_out

    grown_same : since s.counts (release said a.view a.now (length a.list)).1.counts ≡ grown (record { released = out.0; before = heard.counts; after = out.1.counts })
    unfolding D.step grown
    grown_same =
        ap (λ c. since c (release said a.view a.now (length a.list)).1.counts) (sym (rows_quiet s rows).2 ∙ counts_like heard said like)
        ∙ ap (λ c. since (cut_counts heard.counts) c) (counts_like out.1 (D.step said (releases a.now a.view a.list)).1 same.like)

    goes : Both (told_report (record { released = out.0; before = heard.counts; after = out.1.counts }), out.1) (T.reported s.counts (release_to said a.view a.now a.list)) a.list
    unfolding T.reported release_to D.step
    goes = record {
      answer = ap (λ n. report_of n (since s.counts (release said a.view a.now (length a.list)).1.counts)) places ∙ ap (λ c. released (length out.0) c) grown_same;
      list = lists;
      like = same.like;
      exactly = λ h. below_exact heard.counts out.1.counts out.0 report_grows h;
    }

  -- the turn returns at once exactly where nothing waits
  empty_is : is_empty o ≡ nothing_waits s
  empty_is = sym (empty_like o s l)

  turned : (b : Bool) → is_empty o ≡ b → M.reported (turn turns a.runtime a.readers (view_of a.view) a.now o) ≡ cond b (told_idle, o) (told_report (record { released = out.0; before = heard.counts; after = out.1.counts }), out.1)
  unfolding turn
  turned true e = ap (λ b. M.reported (cond b (None, o) (Some (record { released = out.0; before = heard.counts; after = out.1.counts }), out.1))) e
  turned false e = ap (λ b. M.reported (cond b (None, o) (Some (record { released = out.0; before = heard.counts; after = out.1.counts }), out.1))) e

  cases : (b i t : Bool) → (malformed a.view || list_any (λ x. ltb 7 x.reader) rows) ≡ b → is_empty o ≡ i → ltb (length a.list) (samples o) ≡ t → Both (turn_by b i t turns a o) (T.turn_by (T.judged b i t) s rows a.view a.now a.list) a.list
  cases true i t eb ei et = record { answer = refl; list = refl; like = l; exactly = tt }
  cases false true t eb ei et = subst (λ (m : M.Told × GroupOrder ℕ). Both m (idle, s, a.list) a.list) (sym (turned true ei)) (record { answer = refl; list = refl; like = l; exactly = tt })
  cases false false true eb ei et = record { answer = refl; list = refl; like = l; exactly = tt }
  cases false false false eb ei et =
      subst (λ (m : M.Told × GroupOrder ℕ). Both m (T.reported s.counts (release_to said a.view a.now a.list)) a.list) (sym (turned false ei))
      (goes (or_left (malformed a.view) _ eb) (or_right (malformed a.view) _ eb) et)

  room_same : ltb (length a.list) (samples o) ≡ ltb (length a.list) (R.samples s)
  room_same = ap (λ n. ltb (length a.list) n) (sym (stored_samples o s l ∙ samples_bare o))

  both : Both (turn_or turns a o) (turn_of a o s) a.list
  unfolding turn_or turn_of turn_to
  both =
      subst (λ (i : Bool). Both (turn_by (malformed a.view || list_any (λ x. ltb 7 x.reader) rows) (is_empty o) (ltb (length a.list) (samples o)) turns a o) (T.turn_by (T.judged (malformed a.view || list_any (λ x. ltb 7 x.reader) rows) i (ltb (length a.list) (R.samples s))) s rows a.view a.now a.list) a.list) empty_is
      (subst (λ (t : Bool). Both (turn_by (malformed a.view || list_any (λ x. ltb 7 x.reader) rows) (is_empty o) (ltb (length a.list) (samples o)) turns a o) (T.turn_by (T.judged (malformed a.view || list_any (λ x. ltb 7 x.reader) rows) (is_empty o) t) s rows a.view a.now a.list) a.list) room_same
      (cases (malformed a.view || list_any (λ x. ltb 7 x.reader) rows) (is_empty o) (ltb (length a.list) (samples o)) refl refl refl))

  -- ---- and the states it leaves

  released_reached : Reached (release said a.view a.now (length a.list)).1
  released_reached = after_release said a.now a.view a.list (applied_reached s rows r)

  turn_reached : (b i t : Bool) → Reached (T.turn_by (T.judged b i t) s rows a.view a.now a.list).1
  unfolding T.reported release_to
  turn_reached true i t = r
  turn_reached false true t = r
  turn_reached false false true = r
  turn_reached false false false = released_reached

  left_reached : Reached (turn_of a o s).1
  unfolding turn_of turn_to
  left_reached = turn_reached (malformed a.view || list_any (λ x. ltb 7 x.reader) rows) (nothing_waits s) (ltb (length a.list) (R.samples s))

  turn_readers : Readers s → (b i t : Bool) → Readers (T.turn_by (T.judged b i t) s rows a.view a.now a.list).1
  unfolding T.reported release_to
  turn_readers h true i t = h
  turn_readers h false true t = h
  turn_readers h false false true = h
  turn_readers h false false false = released_readers said a.now a.view a.list (step_readers said (releases a.now a.view a.list) (applied_readers s rows h))

  left_readers : Readers s → Readers (turn_of a o s).1
  unfolding turn_of turn_to
  left_readers h = turn_readers h (malformed a.view || list_any (λ x. ltb 7 x.reader) rows) (nothing_waits s) (ltb (length a.list) (R.samples s))

-- what calls and turns reach is alike, and is a state that calls reach
pub record Stands (o : GroupOrder ℕ) (s : State ℕ) : Type 0 where
  pub like : Like (bare_order o) s
  pub reached : Reached s
  pub readers : Readers s

after_turn : (turns : ℕ) → 513 ≤ turns → (a : Asked) (o : GroupOrder ℕ) (s : State ℕ) → Stands o s → Stands (turn_or turns a o).1 (turn_of a o s).1
after_turn turns f a o s h = record { like = (both turns f a o s h.like h.reached).like; reached = left_reached turns f a o s h.like h.reached; readers = left_readers turns f a o s h.like h.reached h.readers }

pub reaches_alike : (turns t : ℕ) → 513 ≤ turns → (o : GroupOrder ℕ) (s : State ℕ) → Reaches turns t o s → Stands o s
reaches_alike turns t f o s begins = record { like = fresh_like t; reached = fresh_reached t; readers = fresh_readers t }
reaches_alike turns t f o s (calls {o = p} {s = q} x c) =
    let h = reaches_alike turns t f p q x in
    record { like = (step_same turns f p q c h.like h.reached).like; reached = step_reached q c h.reached; readers = step_readers q c h.readers }
reaches_alike turns t f o s (takes {o = p} {s = q} x a) = after_turn turns f a p q (reaches_alike turns t f p q x)

pub turn_alike : (turns t : ℕ) → 513 ≤ turns → (o : GroupOrder ℕ) (s : State ℕ) → Reaches turns t o s → (a : Asked) → SameTurn turns o s a
turn_alike turns t f o s x a =
    let h = reaches_alike turns t f o s x in
    let b = both turns f a o s h.like h.reached in
    record { answer_same = b.answer; list_same = b.list; report_exact = b.exactly; empty_is = empty_like o s h.like; waiting_is = λ r. waiting_like o s h.like h.readers r }

-- and so is the next call
pub call_alike : (turns t : ℕ) → 513 ≤ turns → (o : GroupOrder ℕ) (s : State ℕ) → Reaches turns t o s → (c : Call ℕ) → (step turns o c).0 ≡ told (D.step s c).0
call_alike turns t f o s x c = let h = reaches_alike turns t f o s x in (step_same turns f o s c h.like h.reached).answer
