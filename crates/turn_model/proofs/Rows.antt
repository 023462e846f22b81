-- The rows that the source asks for: each known writer, each reader. What the model hears of them, the definition applies.
use Prim.Native.Nat.{ℕ}
use mathlib.Core.Path.{◌≡◌, refl, sym, ap, subst, ◌∙◌}
use mathlib.Core.Bool.{Bool, true, false, ◌&&◌, ◌||◌, not, cond}
use mathlib.Core.List.{List, [], ◌∷◌, ◌++◌, map}
use Rattle.std.specs.Prelude.{Option, Some, None}
use lib.IntN.{ℤ, pos}
use lib.Signed.{lt_z}
use lib.Dec.{ltb, leb}
use lib.ListN.{length}
use Rattle.laws.specs.Lists.{list_all, list_any, is_some}
use Rattle.guids.specs.Guid.{Guid}
use Rattle.rules.specs.State.{State, knows_writer}
use Rattle.rules.specs.Offer.{refusal}
use Rattle.rules.specs.declared.call.Heartbeat.{Heartbeat}
use Rattle.rules.specs.declared.call.Gap.{Gap}
use Rattle.rules.specs.Run.{heartbeats, gaps}
use Rattle.rules.specs.Run as D
use Rattle.rules.specs.Claim.{Reached}
use Rattle.laws.proofs.Lists.{and_left, and_right, all_map, all_imp, all_yes, all_append, or_left, or_right, not_both, none_some}
use Rattle.rules.proofs.Reached.{run_reached}
use Rattle.source_model.specs.Map.{guids, or_default, get, insert, entry}
use Rattle.source_model.specs.Source.{HeartbeatInfo, Progress, no_progress, Group, no_group, GroupOrder, with_writer, announce, heard, writers_in, known_writers, heartbeat, gap}
use Rattle.source_model.specs.Calls.{info_of, group_at, ninth, pair33, done_unless, step}
use Rattle.source_model.proofs.Maps.{guids_lawful, get_insert}
use Rattle.source_model.proofs.Like.{WritersLike, Like}
use Rattle.source_model.proofs.Bare.{bare_group, bare_order, over, group_at_bare}
use Rattle.source_model.proofs.Figures.{known_writer}
use Rattle.source_model.proofs.Empty.{all_found}
use Rattle.source_model.proofs.Steps.{heartbeat_step, gap_step}
use Rattle.turn.specs.declared.rows.Progress.{Progress as Row}
use Rattle.turn.specs.Turn.{beat_call, beat_calls, gap_calls, row_calls, rows_calls, applied}
use Rattle.turn.proofs.TurnLaws.{run_append, knows_quiet, row_quiet, applied_quiet, applied_run}
use Rattle.turn_model.specs.Source.{WriterGroupProgress, Runtime, beat_if, gap_if, hear, for_readers, for_writers, heard_all}
use Rattle.turn_model.specs.Claim.{range_of, range_if, row_of, rows_at, rows_for, rows_of}

or_both : (a b : Bool) → a ≡ false → b ≡ false → a || b ≡ false
or_both a b e f = rw (e, f)

any_left : {A : Type 0} (p : A → Bool) (a b : List A) → list_any p (a ++ b) ≡ false → list_any p a ≡ false
any_left p [] b h = refl
any_left p (x ∷ a) b h = or_both (p x) (list_any p a) (or_left (p x) _ h) (any_left p a b (or_right (p x) _ h))

any_right : {A : Type 0} (p : A → Bool) (a b : List A) → list_any p (a ++ b) ≡ false → list_any p b ≡ false
any_right p [] b h = h
any_right p (x ∷ a) b h = any_right p a b (or_right (p x) _ h)

some_is : {A : Type 0} (a : A) → is_some (Some a) ≡ true
unfolding is_some
some_is a = refl

row_reader : (g w : Guid) (r : ℕ) (p : WriterGroupProgress) → ltb 7 (row_of g w r p).reader ≡ false → ltb 7 r ≡ false
unfolding row_of
row_reader g w r p h = h

-- ---- a known pair

module _ {X : Type 0} where
  unfoldable pub knows : Guid → Guid → GroupOrder X → Bool
  knows g w o = is_some (get guids w (or_default no_group (get guids g o.groups)).writers)

  writers_bare : (g : Group X) → (bare_group g).writers ≡ g.writers
  unfolding bare_group
  writers_bare g = refl

  knows_bare : (g w : Guid) (o : GroupOrder X) → knows g w (bare_order o) ≡ knows g w o
  unfolding knows
  knows_bare g w o = ap (λ (m : Group X). is_some (get guids w m.writers)) (group_at_bare g o) ∙ ap (λ m. is_some (get guids w m)) (writers_bare (or_default no_group (get guids g o.groups)))

  in_bare : (g w : Guid) (o : GroupOrder X) (s : State X) → Like (bare_order o) s → knows_writer g w s.writers ≡ knows g w (bare_order o)
  unfolding knows
  in_bare g w o s l = known_writer g w (or_default no_group (get guids g (bare_order o).groups)).writers s.writers (l.each g).writers

  pub knows_same : (g w : Guid) (o : GroupOrder X) (s : State X) → Like (bare_order o) s → knows_writer g w s.writers ≡ knows g w o
  knows_same g w o s l = in_bare g w o s l ∙ knows_bare g w o

  -- so neither refusal applies
  group_known : (u : Option (Group X)) (w : Guid) (b : Bool) → is_some (get guids w (or_default no_group u).writers) ≡ true → not (is_some u) && b ≡ false
  unfolding is_some no_group get
  group_known None w b h = not_both false h refl
  group_known (Some g) w b h = refl

  none_refused : (g w : Guid) (o : GroupOrder X) → knows g w o ≡ true → refusal ((2, ninth g o) ∷ (3, pair33 g w o) ∷ []) ≡ None
  unfolding knows ninth pair33 group_at refusal
  none_refused g w o h = rw (group_known (get guids g o.groups) w (leb 8 (length o.groups)) h, h)

  none_refused_gap : (g w : Guid) (r : ℕ) (o : GroupOrder X) → ltb 7 r ≡ false → knows g w o ≡ true → refusal ((1, ltb 7 r) ∷ (2, ninth g o) ∷ (3, pair33 g w o) ∷ []) ≡ None
  unfolding knows ninth pair33 group_at refusal
  none_refused_gap g w r o e h = rw (e, group_known (get guids g o.groups) w (leb 8 (length o.groups)) h, h)

  -- a pair is known once it was heard of
  put_known : (g w : Guid) (f : Progress → Progress) (m : Group X) (gs : List (Guid × Group X)) → is_some (get guids w (or_default no_group (get guids g (insert guids g (with_writer w f m) gs))).writers) ≡ true
  unfolding with_writer entry is_some
  put_known g w f m gs =
      rw (get_insert guids_lawful g g (with_writer w f m) gs, guids_lawful.same_self g, get_insert guids_lawful w w (f (or_default no_progress (get guids w m.writers))) m.writers, guids_lawful.same_self w)

  beat_knows : (g w : Guid) (hb : HeartbeatInfo) (o : GroupOrder X) → knows g w (heartbeat o g w hb) ≡ true
  unfolding knows heartbeat entry
  beat_knows g w hb o = put_known g w (λ p. heard hb p) (announce hb.current_gsn (or_default no_group (get guids g o.groups))) o.groups

  -- ---- one row

  done_is : (u : Option ℕ) (o p : GroupOrder X) → u ≡ None → (done_unless u o p).1 ≡ p
  done_is (Some n) o p e = absurd (none_some n (sym e))
  done_is None o p e = refl

  beat_step : (g w : Guid) (hb : HeartbeatInfo) (o : GroupOrder X) → knows g w o ≡ true
      → (step 0 o (heartbeats (record { group = g; writer = w; first = hb.first_gsn; last = hb.last_gsn; current = hb.current_gsn; digest = hb.writer_set; secure = hb.secure_writer_set }))).1 ≡ heartbeat o g w hb
  unfolding step info_of
  beat_step g w hb o k = done_is (refusal ((2, ninth g o) ∷ (3, pair33 g w o) ∷ [])) o (heartbeat o g w hb) (none_refused g w o k)

  gap_done : (g w : Guid) (r : ℕ) (e : ℤ) (o : GroupOrder X) → ltb 7 r ≡ false → knows g w o ≡ true → (step 0 o (gaps (record { group = g; writer = w; reader = r; number = e }))).1 ≡ gap o g w r e
  unfolding step
  gap_done g w r e o f k = done_is (refusal ((1, ltb 7 r) ∷ (2, ninth g o) ∷ (3, pair33 g w o) ∷ [])) o (gap o g w r e) (none_refused_gap g w r o f k)

  beaten : (g w : Guid) (hb : HeartbeatInfo) (o : GroupOrder X) (s : State X) → Like (bare_order o) s → knows g w o ≡ true → Like (bare_order (heartbeat o g w hb)) (D.run s (beat_call g w (range_of hb) ∷ []))
  unfolding beat_call D.run range_of
  beaten g w hb o s l k =
      let h : Heartbeat = record { group = g; writer = w; first = hb.first_gsn; last = hb.last_gsn; current = hb.current_gsn; digest = hb.writer_set; secure = hb.secure_writer_set } in
      subst (λ (p : GroupOrder X). Like (bare_order p) (D.step s (heartbeats h)).1) (beat_step g w hb o k) (heartbeat_step o s l 0 h).like

  gapped : (g w : Guid) (r : ℕ) (e : ℤ) (o : GroupOrder X) (s : State X) → ltb 7 r ≡ false → Like (bare_order o) s → knows g w o ≡ true → Like (bare_order (gap o g w r e)) (D.run s (gaps (record { group = g; writer = w; reader = r; number = e }) ∷ []))
  unfolding D.run
  gapped g w r e o s f l k =
      let x : Gap = record { group = g; writer = w; reader = r; number = e } in
      subst (λ (p : GroupOrder X). Like (bare_order p) (D.step s (gaps x)).1) (gap_done g w r e o f k) (gap_step o s l 0 x).like

  beat_like : (g w : Guid) (u : Option HeartbeatInfo) (o : GroupOrder X) (s : State X) → Like (bare_order o) s → knows g w o ≡ true → Like (bare_order (beat_if u g w o)) (D.run s (beat_calls g w (range_if u)))
  unfolding beat_calls D.run
  beat_like g w None o s l k = l
  beat_like g w (Some hb) o s l k = beaten g w hb o s l k

  beat_known : (g w : Guid) (u : Option HeartbeatInfo) (o : GroupOrder X) → knows g w o ≡ true → knows g w (beat_if u g w o) ≡ true
  beat_known g w None o k = k
  beat_known g w (Some hb) o k = beat_knows g w hb o

  gap_like : (b : Bool) (g w : Guid) (r : ℕ) (e : ℤ) (o : GroupOrder X) (s : State X) → ltb 7 r ≡ false → Like (bare_order o) s → knows g w o ≡ true
      → Like (bare_order (gap_if b e g w r o)) (D.run s (cond b (gaps (record { group = g; writer = w; reader = r; number = e }) ∷ []) []))
  unfolding D.run
  gap_like false g w r e o s f l k = l
  gap_like true g w r e o s f l k = gapped g w r e o s f l k

  gaps_like : (g w : Guid) (r : ℕ) (e : ℤ) (o : GroupOrder X) (s : State X) → ltb 7 r ≡ false → Like (bare_order o) s → knows g w o ≡ true → Like (bare_order (gap_if (lt_z (pos 0) e) e g w r o)) (D.run s (gap_calls g w r e))
  unfolding gap_calls
  gaps_like g w r e o s f l k = gap_like (lt_z (pos 0) e) g w r e o s f l k

  row_like : (g w : Guid) (r : ℕ) (p : WriterGroupProgress) (o : GroupOrder X) (s : State X) → ltb 7 r ≡ false → Like (bare_order o) s → knows_writer g w s.writers ≡ true
      → Like (bare_order (hear p g w r o)) (D.run s (row_calls s (row_of g w r p)))
  unfolding hear row_calls row_of
  row_like g w r p o s f l k =
      let n : knows g w o ≡ true = sym (knows_same g w o s l) ∙ k in
      let q : GroupOrder X = beat_if p.heartbeat g w o in
      let v : State X = D.run s (beat_calls g w (range_if p.heartbeat)) in
      let e : D.run s (cond (knows_writer g w s.writers) (beat_calls g w (range_if p.heartbeat) ++ gap_calls g w r p.gap_end_gsn) []) ≡ D.run v (gap_calls g w r p.gap_end_gsn) =
      ap (λ b. D.run s (cond b (beat_calls g w (range_if p.heartbeat) ++ gap_calls g w r p.gap_end_gsn) [])) k ∙ run_append s (beat_calls g w (range_if p.heartbeat)) (gap_calls g w r p.gap_end_gsn) in
      subst (λ (t : State X). Like (bare_order (gap_if (lt_z (pos 0) p.gap_end_gsn) p.gap_end_gsn g w r q)) t) (sym e) (gaps_like g w r p.gap_end_gsn q v f (beat_like g w p.heartbeat o s l n) (beat_known g w p.heartbeat o n))

  -- ---- all rows of a writer, and of all writers

  applied_append : (s : State X) (a b : List Row) → applied s (a ++ b) ≡ applied (applied s a) b
  unfolding applied
  applied_append s [] b = refl
  applied_append s (r ∷ a) b = applied_append (D.run s (row_calls s r)) a b

  pub applied_reached : (s : State X) (rows : List Row) → Reached s → Reached (applied s rows)
  applied_reached s rows h = subst (λ (t : State X). Reached t) (sym (applied_run s rows)) (run_reached (rows_calls s rows) s h)

  readers_like : (rt : Runtime) (readers : List ℕ) (g w : Guid) (o : GroupOrder X) (s : State X) → list_any (λ r. ltb 7 r.reader) (rows_at rt readers g w) ≡ false → Like (bare_order o) s → knows_writer g w s.writers ≡ true
      → Like (bare_order (for_readers rt readers g w o)) (applied s (rows_at rt readers g w))
  unfolding for_readers rows_at applied
  readers_like rt [] g w o s f l k = l
  readers_like rt (r ∷ rs) g w o s f l k =
      let row : Row = row_of g w r (rt w r) in
      readers_like rt rs g w (hear (rt w r) g w r o) (D.run s (row_calls s row)) (or_right (ltb 7 row.reader) _ f)
      (row_like g w r (rt w r) o s (row_reader g w r (rt w r) (or_left (ltb 7 row.reader) _ f)) l k)
      (row_quiet (λ (t : State X). knows_writer g w t.writers) (knows_quiet g w) s row ∙ k)

  writers_like : (rt : Runtime) (readers : List ℕ) (ws : List (Guid × Guid)) (o : GroupOrder X) (s : State X) → list_any (λ r. ltb 7 r.reader) (rows_for rt readers ws) ≡ false → Like (bare_order o) s
      → list_all (λ x. knows_writer x.0 x.1 s.writers) ws ≡ true → Like (bare_order (for_writers rt readers ws o)) (applied s (rows_for rt readers ws))
  unfolding for_writers rows_for applied
  writers_like rt readers [] o s f l k = l
  writers_like rt readers (x ∷ ws) o s f l k =
      let rows : List Row = rows_at rt readers x.0 x.1 in
      let u : State X = applied s rows in
      subst (λ (t : State X). Like (bare_order (for_writers rt readers ws (for_readers rt readers x.0 x.1 o))) t) (sym (applied_append s rows (rows_for rt readers ws)))
      (writers_like rt readers ws (for_readers rt readers x.0 x.1 o) u (any_right (λ r. ltb 7 r.reader) rows (rows_for rt readers ws) f)
      (readers_like rt readers x.0 x.1 o s (any_left (λ r. ltb 7 r.reader) rows (rows_for rt readers ws) f) l (and_left (knows_writer x.0 x.1 s.writers) _ k))
      (all_imp (λ y. knows_writer y.0 y.1 s.writers) (λ y. knows_writer y.0 y.1 u.writers) (λ y h. applied_quiet (λ (t : State X). knows_writer y.0 y.1 t.writers) (knows_quiet y.0 y.1) s rows ∙ h) ws (and_right (knows_writer x.0 x.1 s.writers) _ k)))

  -- ---- every writer that the order heard of is known

  listed : (p : Guid × Guid → Bool) (gs : List (Guid × Group X)) → list_all p (writers_in gs) ≡ list_all (λ x. list_all (λ w. p (x.0, w.0)) x.1.writers) gs
  unfolding writers_in
  listed p [] = refl
  listed p (x ∷ gs) = all_append p (map (λ w. (x.0, w.0)) x.1.writers) (writers_in gs) ∙ ap (λ b. b && list_all p (writers_in gs)) (all_map p (λ w. (x.0, w.0)) x.1.writers) ∙ ap (λ b. list_all (λ w. p (x.0, w.0)) x.1.writers && b) (listed p gs)

  writers_in_bare : (gs : List (Guid × Group X)) → writers_in (over (λ g. bare_group g) gs) ≡ writers_in gs
  unfolding writers_in over bare_group
  writers_in_bare [] = refl
  writers_in_bare (x ∷ gs) = ap (λ l. map (λ w. (x.0, w.0)) x.1.writers ++ l) (writers_in_bare gs)

  known_bare : (o : GroupOrder X) → known_writers (bare_order o) ≡ known_writers o
  unfolding known_writers bare_order
  known_bare o = writers_in_bare o.groups

  one_group : (o : GroupOrder X) (s : State X) → Like o s → (x : Guid × Group X) → get guids x.0 o.groups ≡ Some x.1 → list_all (λ w. knows_writer x.0 w.0 s.writers) x.1.writers ≡ true
  one_group o s l x d =
      let k = subst (λ (u : Option (Group X)). WritersLike x.0 (or_default no_group u).writers s.writers) d (l.each x.0).writers in
      all_found guids_lawful (λ w. knows_writer x.0 w.0 s.writers) (λ w. true) x.1.writers k.ascend (λ w e. known_writer x.0 w.0 x.1.writers s.writers k ∙ ap (λ u. is_some u) e ∙ some_is w.1) ∙ all_yes x.1.writers

  all_known : (o : GroupOrder X) (s : State X) → Like o s → list_all (λ x. knows_writer x.0 x.1 s.writers) (known_writers o) ≡ true
  unfolding known_writers
  all_known o s l =
      listed (λ x. knows_writer x.0 x.1 s.writers) o.groups
      ∙ all_found guids_lawful (λ x. list_all (λ w. knows_writer x.0 w.0 s.writers) x.1.writers) (λ x. true) o.groups l.ascend (λ x d. one_group o s l x d) ∙ all_yes o.groups

  pub heard_like : (rt : Runtime) (readers : List ℕ) (o : GroupOrder X) (s : State X) → list_any (λ r. ltb 7 r.reader) (rows_of rt readers o) ≡ false → Like (bare_order o) s → Like (bare_order (heard_all rt readers o)) (applied s (rows_of rt readers o))
  unfolding heard_all rows_of
  heard_like rt readers o s f l = writers_like rt readers (known_writers o) o s f l (ap (λ ws. list_all (λ x. knows_writer x.0 x.1 s.writers) ws) (sym (known_bare o)) ∙ all_known (bare_order o) s l)
