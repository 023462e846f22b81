-- GroupOrdering::release of presentation.rs over the model of group_order.rs (crates/source_model). The lock is always had; a reader and
-- its runtime entity are one number; what `deliver` and the status hooks do is not modelled, but for the samples and their order.
use Rattle.rules.specs.declared.state.ReleaseCounts.{ReleaseCounts}
use Rattle.std.specs.Prelude.{ℕ, Bool, true, false, cond, List, [], ◌∷◌, ℤ, pos}
use Rattle.std.specs.Prelude.{Option, Some, None}
use Rattle.std.specs.Int.Signed.{lt_z}
use Rattle.guids.specs.Guid.{Guid}
use Rattle.source_model.specs.Source.{HeartbeatInfo, GroupView, GroupOrder, is_empty, known_writers, heartbeat, gap, release}

-- what the runtime knows of a writer's progress at a reader
pub record WriterGroupProgress : Type 0 where
  pub heartbeat : Option HeartbeatInfo
  pub gap_end_gsn : ℤ

-- rt.writer_group_progress(writer, eid)
abbrev pub Runtime : Type 0
Runtime = Guid → ℕ → WriterGroupProgress

-- what was released, and the counts before and after
pub record Report (I : Type 0) : Type 0 where
  pub released : List (ℕ × I)
  pub before : ReleaseCounts
  pub after : ReleaseCounts

module _ {I : Type 0} where
  -- if let Some(hb) = progress.heartbeat
  abbrev pub beat_if : Option HeartbeatInfo → Guid → Guid → GroupOrder I → GroupOrder I
  beat_if None group writer o = o
  beat_if (Some hb) group writer o = heartbeat o group writer hb

  -- if progress.gap_end_gsn > 0
  abbrev pub gap_if : Bool → ℤ → Guid → Guid → ℕ → GroupOrder I → GroupOrder I
  gap_if true end group writer reader o = gap o group writer reader end
  gap_if false end group writer reader o = o

  unfoldable pub hear : WriterGroupProgress → Guid → Guid → ℕ → GroupOrder I → GroupOrder I
  hear p group writer reader o = gap_if (lt_z (pos 0) p.gap_end_gsn) p.gap_end_gsn group writer reader (beat_if p.heartbeat group writer o)

  -- for (eid, reader) in readers
  unfoldable pub for_readers : Runtime → List ℕ → Guid → Guid → GroupOrder I → GroupOrder I
  for_readers rt [] group writer o = o
  for_readers rt (reader ∷ readers) group writer o = for_readers rt readers group writer (hear (rt writer reader) group writer reader o)

  -- for (group, writer) in order.writers()
  unfoldable pub for_writers : Runtime → List ℕ → List (Guid × Guid) → GroupOrder I → GroupOrder I
  for_writers rt readers [] o = o
  for_writers rt readers (x ∷ writers) o = for_writers rt readers writers (for_readers rt readers x.0 x.1 o)

  unfoldable pub heard_all : Runtime → List ℕ → GroupOrder I → GroupOrder I
  heard_all rt readers o = for_writers rt readers (known_writers o) o

  -- GroupOrdering::release; none: it returns at once
  unfoldable pub turn : ℕ → Runtime → List ℕ → GroupView → ℕ → GroupOrder I → Option (Report I) × GroupOrder I
  turn turns rt readers view now o =
      let q : GroupOrder I = heard_all rt readers o in
      let r : List (ℕ × I) × GroupOrder I = release turns q view now in
      cond (is_empty o) (None, o) (Some (record { released = r.0; before = q.counts; after = r.1.counts }), r.1)
