-- The subscriber turn: what its rows leave as it is, and that it is its rows' calls followed by a release.
use Prim.{Unit, tt}
use Prim.Native.Nat.{ℕ, suc, ◌+◌, ◌<◌, ◌≤◌}
use mathlib.Core.Path.{◌≡◌, refl, sym, subst, ap, ◌∙◌}
use mathlib.Core.Bool.{Bool, true, false, ◌&&◌, ◌||◌, cond}
use mathlib.Core.List.{List, [], ◌∷◌, ◌++◌, map}
use Rattle.std.specs.Prelude.{Option, Some, None}
use lib.IntN.{ℤ, pos}
use lib.Signed.{lt_z}
use lib.Dec.{ltb}
use lib.ListN.{length, take, drop, get_or, replicate, drop_of_length-le}
use lib.Seq.{drop-cons}
use native.Mathlib.Numerals.{add-one}
use Rattle.laws.specs.Answer.{Answer, refused, answered}
use Rattle.laws.specs.Lists.{list_all, list_any, change}
use Rattle.guids.specs.Guid.{Guid, same_guid}
use Rattle.rules.specs.State.{State, is_group, is_writer, knows_group, knows_writer}
use Rattle.rules.specs.declared.state.Group.{Group}
use Rattle.rules.specs.declared.state.Writer.{Writer}
use Rattle.rules.specs.declared.state.ReleaseCounts.{ReleaseCounts}
use Rattle.rules.specs.Marks.{number, hear_group, hear_writer, tell, gapped, announced, announced_to}
use Rattle.rules.specs.Offer.{refusal, ninth, pair33, with_marks, done, heartbeat, gap}
use Rattle.rules.specs.declared.call.Heartbeat.{Heartbeat}
use Rattle.rules.specs.declared.call.Gap.{Gap}
use Rattle.rules.specs.Release.{View, Outcome, malformed, samples, released, release_refusal, release}
use Rattle.rules.specs.Run.{Call, gaps, releases, Said, is_done, said_done, said_release, step, run, answers, written, nothing_waits}
use Rattle.rules.specs.Claim.{Reached}
use Rattle.guids.proofs.Guids.{same_eq}
use Rattle.rules.proofs.Reached.{run_reached}
use Rattle.laws.proofs.Lists.{and_left, any_all, any_by_map, map_change, or_left, or_right, or_true_left, or_true_right}
use Rattle.release.specs.Released.{count_out, release_to}
use Rattle.history.specs.Chain.{counted}
use Rattle.turn.specs.Turn.{beat_call, beat_calls, gap_calls, row_calls, applied, rows_calls, Turned, idle, not_done, since, report_of, reported, judged, turn_by, turn_to, AsCalls}
use Rattle.turn.specs.Turn as T
use Rattle.turn.specs.declared.rows.Beat.{Beat}
use Rattle.turn.specs.declared.rows.Progress.{Progress}

-- ---- what a heartbeat or a gap of a known pair leaves as it is

abbrev name : Writer → Guid × Guid
name x = (x.group, x.writer)

-- telling of a known pair adds none
tell_same : (g w : Guid) (f : Writer → Writer) → ((x : Writer) → name (f x) ≡ name x) → (ws : List Writer) → knows_writer g w ws ≡ true
    → (h v : Guid) → knows_writer h v (tell g w f ws) ≡ knows_writer h v ws
unfolding tell hear_writer knows_writer is_writer
tell_same g w f e ws k h v =
    let m : tell g w f ws ≡ change (λ x. is_writer g w x) f ws = rw k in
    rw m (any_by_map (λ u. same_guid h u.0 && same_guid v u.1) name (change (λ x. is_writer g w x) f ws) ws (map_change name (λ x. is_writer g w x) f e ws))

module _ {X Y : Type 0} where
  -- a figure of the state that the marks of a known pair do not change
  abbrev pub Quiet : (State X → Y) → Type 0
  Quiet f = (s : State X) (g w : Guid) (c : Writer → Writer) (gs : List Group) → ((x : Writer) → name (c x) ≡ name x) → knows_writer g w s.writers ≡ true → f (with_marks gs (tell g w c s.writers) s) ≡ f s

  done_quiet : (f : State X → Y) (o : Option ℕ) (s t : State X) → f t ≡ f s → f (done o s t).1 ≡ f s
  done_quiet f None s t e = e
  done_quiet f (Some n) s t e = refl

  heartbeat_quiet : (f : State X → Y) → Quiet f → (s : State X) (h : Heartbeat) → knows_writer h.group h.writer s.writers ≡ true → f (heartbeat s h).1 ≡ f s
  unfolding heartbeat announced
  heartbeat_quiet f q s h k =
      let c : Writer → Writer = λ w. announced (number h.first) (number h.last) (number h.current) h.digest h.secure w in
      let gs : List Group = change (λ x. is_group h.group x) (λ x. announced_to (number h.current) x) (hear_group h.group s.groups) in
      done_quiet f (refusal ((2, ninth h.group s) ∷ (3, pair33 h.group h.writer s) ∷ [])) s (with_marks gs (tell h.group h.writer c s.writers) s) (q s h.group h.writer c gs (λ x. refl) k)

  gap_quiet : (f : State X → Y) → Quiet f → (s : State X) (x : Gap) → knows_writer x.group x.writer s.writers ≡ true → f (gap s x).1 ≡ f s
  unfolding gap gapped
  gap_quiet f q s x k =
      let c : Writer → Writer = λ w. gapped x.reader (number x.number) w in
      let gs : List Group = hear_group x.group s.groups in
      done_quiet f (refusal ((1, ltb 7 x.reader) ∷ (2, ninth x.group s) ∷ (3, pair33 x.group x.writer s) ∷ [])) s (with_marks gs (tell x.group x.writer c s.writers) s) (q s x.group x.writer c gs (λ y. refl) k)

module _ {X : Type 0} where
  pub run_append : (s : State X) (a b : List (Call X)) → run s (a ++ b) ≡ run (run s a) b
  unfolding run
  run_append s [] b = refl
  run_append s (c ∷ a) b = run_append (step s c).1 a b

  pub knows_quiet : (h v : Guid) → Quiet (λ (s : State X). knows_writer h v s.writers)
  unfolding with_marks
  knows_quiet h v s g w c gs e k = tell_same g w c e s.writers k h v

module _ {X Y : Type 0} (f : State X → Y) (q : Quiet f) where
  beats_quiet : (s : State X) (g w : Guid) (b : Option Beat) → knows_writer g w s.writers ≡ true → f (run s (beat_calls g w b)) ≡ f s
  unfolding run beat_calls beat_call step
  beats_quiet s g w None k = refl
  beats_quiet s g w (Some b) k = heartbeat_quiet f q s (record { group = g; writer = w; first = b.first; last = b.last; current = b.current; digest = b.digest; secure = b.secure }) k

  gaps_quiet : (s : State X) (g w : Guid) (r : ℕ) (e : ℤ) → knows_writer g w s.writers ≡ true → f (run s (gap_calls g w r e)) ≡ f s
  unfolding run gap_calls step
  gaps_quiet s g w r e k = elim (lt_z (pos 0) e) as (λ b. f (run s (cond b (gaps (record { group = g; writer = w; reader = r; number = e }) ∷ []) [])) ≡ f s) [ true ↦ gap_quiet f q s (record { group = g; writer = w; reader = r; number = e }) k | false ↦ refl ]

module _ {X Y : Type 0} (f : State X → Y) (q : Quiet f) where
  pub row_quiet : (s : State X) (r : Progress) → f (run s (row_calls s r)) ≡ f s
  unfolding row_calls run
  row_quiet s r = (elim (knows_writer r.group r.writer s.writers) as (λ b. knows_writer r.group r.writer s.writers ≡ b → f (run s (cond b (beat_calls r.group r.writer r.heartbeat ++ gap_calls r.group r.writer r.reader r.gap_end) [])) ≡ f s) [
    | true ↦ λ k.
        let t : State X = run s (beat_calls r.group r.writer r.heartbeat) in
        let h : knows_writer r.group r.writer t.writers ≡ true = beats_quiet (λ (u : State X). knows_writer r.group r.writer u.writers) (knows_quiet r.group r.writer) s r.group r.writer r.heartbeat k ∙ k in
        ap f (run_append s (beat_calls r.group r.writer r.heartbeat) (gap_calls r.group r.writer r.reader r.gap_end))
        ∙ gaps_quiet f q t r.group r.writer r.reader r.gap_end h ∙ beats_quiet f q s r.group r.writer r.heartbeat k
    | false ↦ λ k. refl
  ]) refl

  pub applied_quiet : (s : State X) (rs : List Progress) → f (applied s rs) ≡ f s
  unfolding applied
  applied_quiet s [] = refl
  applied_quiet s (r ∷ rs) = applied_quiet (run s (row_calls s r)) rs ∙ row_quiet s r

module _ {X : Type 0} where
  pub samples_quiet : Quiet (λ (s : State X). samples s)
  unfolding with_marks samples
  samples_quiet s g w c gs e k = refl

  pub nothing_quiet : Quiet (λ (s : State X). nothing_waits s)
  unfolding with_marks nothing_waits
  nothing_quiet s g w c gs e k = refl

  pub counts_quiet : Quiet (λ (s : State X). s.counts)
  unfolding with_marks
  counts_quiet s g w c gs e k = refl

  -- the rows' calls are those of the first state
  applied_from : (s t : State X) (rs : List Progress) → ((h v : Guid) → knows_writer h v t.writers ≡ knows_writer h v s.writers) → applied t rs ≡ run t (rows_calls s rs)
  unfolding applied rows_calls run
  applied_from s t [] k = refl
  applied_from s t (r ∷ rs) k =
      let u : State X = run t (row_calls t r) in
      let e : row_calls t r ≡ row_calls s r = unfold row_calls in ap (λ b. cond b (beat_calls r.group r.writer r.heartbeat ++ gap_calls r.group r.writer r.reader r.gap_end) []) (k r.group r.writer) in
      applied_from s u rs (λ h v. row_quiet (λ (x : State X). knows_writer h v x.writers) (knows_quiet h v) t r ∙ k h v)
      ∙ sym (run_append t (row_calls t r) (rows_calls s rs)) ∙ ap (λ a. run t (a ++ rows_calls s rs)) e

  pub applied_run : (s : State X) (rs : List Progress) → applied s rs ≡ run s (rows_calls s rs)
  applied_run s rs = applied_from s s rs (λ h v. refl)

-- ---- a turn that releases is its rows' calls and a release

said_as : (x : Answer (Outcome ℕ)) (d : ReleaseCounts) (n : ℕ) (c : ReleaseCounts) → report_of (count_out x) d ≡ T.released n c → (counted (said_release x) ≡ answered n) × (c ≡ d)
said_as (refused k) d n c e = (cc, cc)
said_as (answered r) d n c e = (ap answered cc, cc)

module _ (s : State ℕ) (rows : List Progress) (v : View) (now : ℕ) (l : List ℕ) (n : ℕ) (c : ReleaseCounts) where
  abbrev calls : List (Call ℕ)
  calls = rows_calls s rows ++ (releases now v l ∷ [])

  after_rows : (release (applied s rows) v now (length l)).1 ≡ run s calls
  unfolding run step
  after_rows = ap (λ u. (release u v now (length l)).1) (applied_run s rows) ∙ sym (run_append s (rows_calls s rows) (releases now v l ∷ []))

  as_calls : (b i t : Bool) → (turn_by (judged b i t) s rows v now l).0 ≡ T.released n c
      → ((turn_by (judged b i t) s rows v now l).1 ≡ run s calls) × ((turn_by (judged b i t) s rows v now l).2 ≡ written (step (run s (rows_calls s rows)) (releases now v l)).0 l)
      × (counted (step (run s (rows_calls s rows)) (releases now v l)).0 ≡ answered n) × (c ≡ since s.counts (run s calls).counts)
  unfolding reported release_to step
  as_calls true i t e = (cc, cc, cc, cc)
  as_calls false true t e = (cc, cc, cc, cc)
  as_calls false false true e = (cc, cc, cc, cc)
  as_calls false false false e =
      let a = said_as (release (applied s rows) v now (length l)).0 (since s.counts (release (applied s rows) v now (length l)).1.counts) n c e in
      let p : (release (applied s rows) v now (length l)).0 ≡ (release (run s (rows_calls s rows)) v now (length l)).0 = ap (λ u. (release u v now (length l)).0) (applied_run s rows) in
      (after_rows, ap (λ x. written (said_release x) l) p, ap (λ x. counted (said_release x)) (sym p) ∙ a.0, a.1 ∙ ap (λ x. since s.counts x.counts) after_rows)

  pub turn_calls : (turn_to s rows v now l).0 ≡ T.released n c → AsCalls s rows v now l n c
  unfolding turn_to
  turn_calls e =
      let a = as_calls (malformed v || list_any (λ r. ltb 7 r.reader) rows) (nothing_waits s) (ltb (length l) (samples s)) e in
      record { state = a.0; list = a.1; places = a.2; grown = a.3 }

-- ---- none of the rows' calls is refused

writer_group : (h v : Guid) (gs : List Group) (ws : List Writer) → list_all (λ w. knows_group w.group gs) ws ≡ true → knows_writer h v ws ≡ true → knows_group h gs ≡ true
unfolding knows_writer is_writer
writer_group h v gs ws a k = any_all (λ (x : Writer). same_guid h x.group && same_guid v x.writer) (λ w. knows_group w.group gs) (λ x d e. rw (same_eq h x.group (and_left (same_guid h x.group) _ d)) e) ws k a

module _ {X : Type 0} where
  heartbeat_done : (s : State X) (h : Heartbeat) → Reached s → knows_writer h.group h.writer s.writers ≡ true → said_done {X = X} (heartbeat s h).0 ≡ is_done
  unfolding heartbeat refusal ninth pair33
  heartbeat_done s h r k = rw (writer_group h.group h.writer s.groups s.writers r.groups_known k, k)

  gap_done_all : (s : State X) (x : Gap) → Reached s → ltb 7 x.reader ≡ false → knows_writer x.group x.writer s.writers ≡ true → said_done {X = X} (gap s x).0 ≡ is_done
  unfolding gap refusal ninth pair33
  gap_done_all s x r e k = rw (e, writer_group x.group x.writer s.groups s.writers r.groups_known k, k)

  pub answers_append : (s : State X) (a b : List (Call X)) → answers s (a ++ b) ≡ answers s a ++ answers (run s a) b
  unfolding answers run
  answers_append s [] b = refl
  answers_append s (c ∷ a) b = ap (λ l. (step s c).0 ∷ l) (answers_append (step s c).1 a b)

  abbrev done_each : List (Call X) → List (Said X)
  done_each l = map (λ q. is_done) l

  done_append : (a b : List (Call X)) → done_each (a ++ b) ≡ done_each a ++ done_each b
  done_append [] b = refl
  done_append (c ∷ a) b = ap (λ l. is_done ∷ l) (done_append a b)

  both_done : (s : State X) (a b : List (Call X)) → answers s a ≡ done_each a → answers (run s a) b ≡ done_each b → answers s (a ++ b) ≡ done_each (a ++ b)
  both_done s a b e f = answers_append s a b ∙ ap (λ l. l ++ answers (run s a) b) e ∙ ap (λ l. done_each a ++ l) f ∙ sym (done_append a b)

  beats_done : (s : State X) (g w : Guid) (b : Option Beat) → Reached s → knows_writer g w s.writers ≡ true → answers s (beat_calls g w b) ≡ done_each (beat_calls g w b)
  unfolding answers beat_calls beat_call step
  beats_done s g w None r k = refl
  beats_done s g w (Some b) r k = ap (λ a. a ∷ []) (heartbeat_done s (record { group = g; writer = w; first = b.first; last = b.last; current = b.current; digest = b.digest; secure = b.secure }) r k)

  gaps_done : (s : State X) (g w : Guid) (n : ℕ) (e : ℤ) → Reached s → ltb 7 n ≡ false → knows_writer g w s.writers ≡ true → answers s (gap_calls g w n e) ≡ done_each (gap_calls g w n e)
  unfolding answers gap_calls step
  gaps_done s g w n e r f k = elim (lt_z (pos 0) e) as (λ b. answers s (cond b (gaps (record { group = g; writer = w; reader = n; number = e }) ∷ []) []) ≡ done_each (cond b (gaps (record { group = g; writer = w; reader = n; number = e }) ∷ []) [])) [
    | true ↦ ap (λ a. a ∷ []) (gap_done_all s (record { group = g; writer = w; reader = n; number = e }) r f k)
    | false ↦ refl
  ]

  row_done : (s : State X) (r : Progress) → Reached s → ltb 7 r.reader ≡ false → answers s (row_calls s r) ≡ done_each (row_calls s r)
  unfolding row_calls answers
  row_done s r h f =
      let bs : List (Call X) = beat_calls r.group r.writer r.heartbeat in
      let gs : List (Call X) = gap_calls r.group r.writer r.reader r.gap_end in
      (elim (knows_writer r.group r.writer s.writers) as (λ b. knows_writer r.group r.writer s.writers ≡ b → answers s (cond b (bs ++ gs) []) ≡ done_each (cond b (bs ++ gs) [])) [
        | true ↦ λ k.
            let m : knows_writer r.group r.writer (run s bs).writers ≡ true = beats_quiet (λ (u : State X). knows_writer r.group r.writer u.writers) (knows_quiet r.group r.writer) s r.group r.writer r.heartbeat k ∙ k in
            both_done s bs gs (beats_done s r.group r.writer r.heartbeat h k) (gaps_done (run s bs) r.group r.writer r.reader r.gap_end (run_reached bs s h) f m)
        | false ↦ λ k. refl
      ]) refl

  done_from : (s t : State X) (rs : List Progress) → ((h v : Guid) → knows_writer h v t.writers ≡ knows_writer h v s.writers) → Reached t → list_any (λ r. ltb 7 r.reader) rs ≡ false → answers t (rows_calls s rs) ≡ done_each (rows_calls s rs)
  unfolding rows_calls answers
  done_from s t [] k h f = refl
  done_from s t (r ∷ rs) k h f =
      let e : row_calls t r ≡ row_calls s r = unfold row_calls in ap (λ b. cond b (beat_calls r.group r.writer r.heartbeat ++ gap_calls r.group r.writer r.reader r.gap_end) []) (k r.group r.writer) in
      let one : answers t (row_calls s r) ≡ done_each (row_calls s r) = subst (λ a. answers t a ≡ done_each a) e (row_done t r h (or_left (ltb 7 r.reader) _ f)) in
      let same : (g w : Guid) → knows_writer g w (run t (row_calls s r)).writers ≡ knows_writer g w s.writers = λ g w. ap (λ a. knows_writer g w (run t a).writers) (sym e) ∙ row_quiet (λ (x : State X). knows_writer g w x.writers) (knows_quiet g w) t r ∙ k g w in
      both_done t (row_calls s r) (rows_calls s rs) one (done_from s (run t (row_calls s r)) rs same (run_reached (row_calls s r) t h) (or_right (ltb 7 r.reader) _ f))

  -- of a state that a list of calls reaches
  pub rows_done : (s : State X) (rs : List Progress) → Reached s → list_any (λ r. ltb 7 r.reader) rs ≡ false → answers s (rows_calls s rs) ≡ map (λ q. is_done) (rows_calls s rs)
  rows_done s rs h f = done_from s s rs (λ g w. refl) h f

  -- nor do they change what the turn's refusals ask, or the counts
  pub rows_quiet : (s : State X) (rs : List Progress) → (samples (applied s rs) ≡ samples s) × (nothing_waits (applied s rs) ≡ nothing_waits s) × ((applied s rs).counts ≡ s.counts)
  rows_quiet s rs = (applied_quiet (λ (t : State X). samples t) samples_quiet s rs, applied_quiet (λ (t : State X). nothing_waits t) nothing_quiet s rs, applied_quiet (λ (t : State X). t.counts) counts_quiet s rs)

-- ---- the walk over the rows

pub applied_next : (rs : List Progress) (i : ℕ) (d : Progress) (s t : State ℕ) → i < length rs → t ≡ run s (row_calls s (get_or rs i d)) → applied t (drop (i + 1) rs) ≡ applied s (drop i rs)
unfolding applied
applied_next rs i d s t h e = rw (drop-cons rs i d) (ap (λ n. applied t (drop n rs)) (add-one i) ∙ ap (λ u. applied u (drop (suc i) rs)) e)

pub applied_end : (rs : List Progress) (i : ℕ) (s : State ℕ) → length rs ≤ i → applied s (drop i rs) ≡ s
unfolding applied
applied_end rs i s h = rw (drop_of_length-le rs h) refl
