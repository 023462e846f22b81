-- group_order.rs, function by function, with its own types, maps and walks: to be held beside it. What is not the source's:
-- i64, u64 and usize are whole numbers, nothing is cut (Width.antt says what the source computes, proofs/Width.antt that it fits);
-- `loop` gets a number of turns (from 513 on any number gives the same, and it has returned: Claim.antt, returns);
-- the end of a pair that is absent from a set does not agree (the source asks only where all ends are there: proofs/Unasked.antt);
-- `offer` also says what it did (Did); readers and digests are numbers, and a time is a number of nanoseconds.
use Rattle.rules.specs.declared.state.ReleaseCounts.{ReleaseCounts}
use Rattle.std.specs.Prelude.{ℕ, zero, suc, ◌+◌, ◌-◌, Bool, true, false, ◌&&◌, ◌||◌, not, cond, List, [], ◌∷◌, ◌++◌, map, ℤ, pos, negsuc, ◌+ℤ◌, ◌-ℤ◌, ltb, eqb, length}
use Rattle.std.specs.Prelude.{Option, Some, None}
use Rattle.std.specs.Int.Signed.{lt_z, le_z}
use Rattle.laws.specs.Whole.{eq_z}
use Rattle.laws.specs.Lists.{filter, list_all, list_any, count, find, is_some}
use Rattle.guids.specs.Guid.{Guid, same_guid}
use Rattle.source_model.specs.Map.{guids, numbers, readers, pairs, or_default, get, insert, entry, remove}

-- struct SetEnd
pub record SetEnd : Type 0 where
  pub first_sn : Option ℤ
  pub ecs_sn : Option ℤ

-- ChangeGroupInfo
pub record Info : Type 0 where
  pub gsn : ℤ
  pub writer_set : ℕ
  pub coherent_set_gsn : Option ℤ

-- struct Entry<R, I>
pub record Entry (I : Type 0) : Type 0 where
  pub reader : ℕ
  pub writer : Guid
  pub info : Info
  pub at_end : Option SetEnd
  pub item : Option I
  pub offered_at : ℕ

-- HeartbeatGroupInfo
pub record HeartbeatInfo : Type 0 where
  pub first_gsn : ℤ
  pub last_gsn : ℤ
  pub current_gsn : ℤ
  pub writer_set : Option ℕ
  pub secure_writer_set : Option ℕ

-- struct WriterProgress<R>
pub record Progress : Type 0 where
  pub seen : List (ℕ × ℤ)
  pub heartbeat : Option HeartbeatInfo
  pub gap_end : List (ℕ × ℤ)
  pub writer_set : Option ℕ
  pub secure_writer_set : Option ℕ

-- WriterProgress::default
unfoldable pub no_progress : Progress
no_progress = record { seen = []; heartbeat = None; gap_end = []; writer_set = None; secure_writer_set = None }

-- is_some_and
abbrev pub is_some_and : {A : Type 0} → (A → Bool) → Option A → Bool
is_some_and p None = false
is_some_and p (Some v) = p v

-- WriterProgress::is_past
unfoldable pub is_past : Progress → ℕ → ℤ → Bool
is_past p reader gsn =
    is_some_and (λ s. lt_z gsn s) (get readers reader p.seen)
    || is_some_and (λ e. le_z gsn e) (get readers reader p.gap_end)
    || is_some_and (λ hb. lt_z gsn hb.current_gsn && not (le_z hb.first_gsn gsn && le_z gsn hb.last_gsn)) p.heartbeat

-- struct OpenSet<R, I>
pub record OpenSet (I : Type 0) : Type 0 where
  pub members : List (Entry I)
  pub ends : List ((Guid × ℕ) × SetEnd)
  pub end_committed : Bool

unfoldable pub no_set : {I : Type 0} → OpenSet I
no_set = record { members = []; ends = []; end_committed = false }

-- struct Group<R, I>
pub record Group (I : Type 0) : Type 0 where
  pub committed : ℤ
  pub pending : List (ℤ × List (Entry I))
  pub writers : List (Guid × Progress)
  pub current_gsn : ℤ
  pub sets : List (ℤ × OpenSet I)

unfoldable pub no_group : {I : Type 0} → Group I
no_group = record { committed = pos 0; pending = []; writers = []; current_gsn = pos 0; sets = [] }

-- struct ReleaseCounts
unfoldable pub none_counted : ReleaseCounts
none_counted = record { skipped_after_timeout = 0; incomplete_sets = 0; discarded_samples = 0; late_samples = 0 }

-- trait GroupView<R>
pub record GroupView : Type 0 where
  pub counted : Guid → List (Guid × ℕ)
  pub writer_set_is_discovered : Guid → ℕ → Bool
  pub secure_writer_set_is_discovered : Guid → ℕ → Bool

-- struct GroupOrder<R, I>
pub record GroupOrder (I : Type 0) : Type 0 where
  pub groups : List (Guid × Group I)
  pub timeout : ℕ
  pub counts : ReleaseCounts

abbrev pub max_z : ℤ → ℤ → ℤ
max_z a b = cond (lt_z a b) b a

-- the sum of a figure over a map's values
unfoldable pub sum_of : {A : Type 0} → (A → ℕ) → List A → ℕ
sum_of f [] = 0
sum_of f (a ∷ l) = f a + sum_of f l

-- Some(a) == s
abbrev pub is_that : ℤ → Option ℤ → Bool
is_that a None = false
is_that a (Some b) = eq_z a b

-- what the writer's progress becomes
unfoldable pub sees : ℕ → ℤ → ℕ → Progress → Progress
sees reader gsn writer_set p = record {
  seen = entry readers (pos 0) reader (λ s. max_z s gsn) p.seen;
  heartbeat = p.heartbeat;
  gap_end = p.gap_end;
  writer_set = Some writer_set;
  secure_writer_set = p.secure_writer_set;
}

unfoldable pub late : ReleaseCounts → ReleaseCounts
late c = record { skipped_after_timeout = c.skipped_after_timeout; incomplete_sets = c.incomplete_sets; discarded_samples = c.discarded_samples; late_samples = c.late_samples + 1 }

abbrev pub or_keep : Option ℕ → Option ℕ → Option ℕ
or_keep None d = d
or_keep (Some n) d = Some n

unfoldable pub heard : HeartbeatInfo → Progress → Progress
heard hb p = record {
  seen = p.seen;
  heartbeat = Some hb;
  gap_end = p.gap_end;
  writer_set = or_keep hb.writer_set p.writer_set;
  secure_writer_set = hb.secure_writer_set;
}

unfoldable pub gap_to : ℕ → ℤ → Progress → Progress
gap_to reader gap_end_gsn p = record {
  seen = p.seen;
  heartbeat = p.heartbeat;
  gap_end = entry readers (pos 0) reader (λ e. max_z e gap_end_gsn) p.gap_end;
  writer_set = p.writer_set;
  secure_writer_set = p.secure_writer_set;
}

-- (from..).take(k).all(p)
unfoldable pub walk : ℤ → ℕ → (ℤ → Bool) → Bool
walk from zero p = true
walk from (suc k) p = p from && walk (from +ℤ pos 1) k p

-- as u64, of a number that is not negative
abbrev pub as_u64 : ℤ → ℕ
as_u64 (pos n) = n
as_u64 (negsuc n) = 0

unfoldable pub discarding : ℕ → ReleaseCounts → ReleaseCounts
discarding k c = record { skipped_after_timeout = c.skipped_after_timeout; incomplete_sets = c.incomplete_sets + 1; discarded_samples = c.discarded_samples + k; late_samples = c.late_samples }

-- match (end.first_sn, end.ecs_sn)
abbrev pub agrees_with : ℕ → Option ℤ → Option ℤ → Bool
agrees_with got (Some first) (Some ecs) = eq_z (pos got) (ecs -ℤ first)
agrees_with got None ecs = eqb got 0
agrees_with got (Some first) None = true

unfoldable pub skips : ℕ → ReleaseCounts → ReleaseCounts
skips k c = record { skipped_after_timeout = c.skipped_after_timeout + k; incomplete_sets = c.incomplete_sets; discarded_samples = c.discarded_samples; late_samples = c.late_samples }

-- v.first()
abbrev pub first_of : {A : Type 0} → List A → Option A
first_of [] = None
first_of (a ∷ l) = Some a

module _ {I : Type 0} where
  -- GroupOrder::new
  unfoldable pub new : ℕ → GroupOrder I
  new timeout = record { groups = []; timeout = timeout; counts = none_counted }

  -- writers: every pair of group and writer heard of
  unfoldable pub writers_in : List (Guid × Group I) → List (Guid × Guid)
  writers_in [] = []
  writers_in (x ∷ gs) = map (λ w. (x.0, w.0)) x.1.writers ++ writers_in gs

  unfoldable pub known_writers : GroupOrder I → List (Guid × Guid)
  known_writers o = writers_in o.groups

  -- held_for
  unfoldable pub held_for : GroupOrder I → ℕ → ℕ
  held_for o reader =
      sum_of
      (λ x.
      sum_of (λ v. count (λ e. is_some e.item && eqb reader e.reader) v.1) x.1.pending
      + sum_of (λ s. count (λ e. eqb reader e.reader) s.1.members) x.1.sets)
      o.groups

  unfoldable pub is_empty : GroupOrder I → Bool
  is_empty o =
      list_all (λ x. eqb (length x.1.pending) 0 && list_all (λ s. eqb (length s.1.members) 0) x.1.sets) o.groups

  -- ---- offer

  unfoldable pub with_writer : Guid → (Progress → Progress) → Group I → Group I
  with_writer writer f g = record {
    committed = g.committed;
    pending = g.pending;
    writers = entry guids no_progress writer f g.writers;
    current_gsn = g.current_gsn;
    sets = g.sets;
  }

  unfoldable pub pushed : Entry I → Group I → Group I
  pushed e g = record {
    committed = g.committed;
    pending = entry numbers [] e.info.gsn (λ v. v ++ (e ∷ [])) g.pending;
    writers = g.writers;
    current_gsn = g.current_gsn;
    sets = g.sets;
  }

  unfoldable pub with_sets : List (ℤ × OpenSet I) → Group I → Group I
  with_sets s g = record { committed = g.committed; pending = g.pending; writers = g.writers; current_gsn = g.current_gsn; sets = s }

  -- set.ends.insert((writer, reader), end)
  unfoldable pub with_end : Guid → ℕ → SetEnd → OpenSet I → OpenSet I
  with_end writer reader e s = record { members = s.members; ends = insert pairs (writer, reader) e s.ends; end_committed = s.end_committed }

-- what an offer did: pushed, joined a set, counted late
pub data Did (I : Type 0) : Type 0 where
  did_push did_join did_count : Group I → Did I

module _ {I : Type 0} where
  -- if let Some(set) = g.sets.get_mut(&first)
  abbrev pub join_or : Guid → ℕ → SetEnd → ℤ → Group I → Option (OpenSet I) → Did I
  join_or writer reader e first g None = did_count g
  join_or writer reader e first g (Some s) = did_join (with_sets (insert numbers first (with_end writer reader e s) g.sets) g)

  -- if let (Some(end), Some(first)) = (end, info.coherent_set_gsn)
  abbrev pub joins : Entry I → Group I → Option SetEnd → Option ℤ → Did I
  joins e g None s = did_count g
  joins e g (Some x) None = did_count g
  joins e g (Some x) (Some first) = join_or e.writer e.reader x first g (get numbers first g.sets)

  -- the rest of offer, once the progress is told
  unfoldable pub offer_to : Entry I → Group I → Did I
  offer_to e g = cond (le_z e.info.gsn g.committed) (joins e g e.at_end e.info.coherent_set_gsn) (did_push (pushed e g))

  abbrev pub group_of : Did I → Group I
  group_of (did_push g) = g
  group_of (did_join g) = g
  group_of (did_count g) = g

  abbrev pub late_if : Did I → ReleaseCounts → ReleaseCounts
  late_if (did_push g) c = c
  late_if (did_join g) c = c
  late_if (did_count g) c = late c

  -- what it does in its group
  unfoldable pub offer_does : GroupOrder I → Guid → Entry I → ℕ → Did I
  offer_does o group e writer_set =
      offer_to e (with_writer e.writer (λ p. sees e.reader e.info.gsn writer_set p) (or_default no_group (get guids group o.groups)))

  unfoldable pub offer_entry : GroupOrder I → Guid → Entry I → ℕ → GroupOrder I
  offer_entry o group e writer_set =
      let d : Did I = offer_does o group e writer_set in
      record { groups = insert guids group (group_of d) o.groups; timeout = o.timeout; counts = late_if d o.counts }

  unfoldable pub offer : GroupOrder I → Guid → Guid → ℕ → Info → Option SetEnd → Option I → ℕ → GroupOrder I
  offer o group writer reader info at_end item now =
      offer_entry o group (record { reader = reader; writer = writer; info = info; at_end = at_end; item = item; offered_at = now }) info.writer_set

  -- ---- heartbeat

  unfoldable pub announce : ℤ → Group I → Group I
  announce c g = record { committed = g.committed; pending = g.pending; writers = g.writers; current_gsn = max_z g.current_gsn c; sets = g.sets }

  unfoldable pub heartbeat : GroupOrder I → Guid → Guid → HeartbeatInfo → GroupOrder I
  heartbeat o group writer hb = record {
    groups = entry guids no_group group (λ g. with_writer writer (λ p. heard hb p) (announce hb.current_gsn g)) o.groups;
    timeout = o.timeout;
    counts = o.counts;
  }

  -- ---- gap

  unfoldable pub gap : GroupOrder I → Guid → Guid → ℕ → ℤ → GroupOrder I
  gap o group writer reader gap_end_gsn = record {
    groups = entry guids no_group group (λ g. with_writer writer (λ p. gap_to reader gap_end_gsn p) g) o.groups;
    timeout = o.timeout;
    counts = o.counts;
  }

  -- ---- passable, copies_arrived

  unfoldable pub set_known : Guid → Group I → GroupView → Bool
  set_known key g view =
      list_all (λ w. not (is_some_and (λ d. not (view.writer_set_is_discovered key d)) w.1.writer_set)) g.writers
      && list_all (λ w. not (is_some_and (λ d. not (view.secure_writer_set_is_discovered key d)) w.1.secure_writer_set)) g.writers

  unfoldable pub passable : Guid → Group I → GroupView → ℤ → ℤ → Bool
  passable key g view missing next =
      le_z next g.current_gsn && set_known key g view
      && walk missing (as_u64 (next -ℤ missing))
      (λ gsn. list_all (λ c. is_some_and (λ p. is_past p c.1 gsn) (get guids c.0 g.writers)) (view.counted key))

  abbrev pub copies_in : Guid → Group I → GroupView → ℤ → Option (List (Entry I)) → Bool
  copies_in key g view gsn None = true
  copies_in key g view gsn (Some entries) =
      list_all
      (λ e. list_all
      (λ c. not (same_guid e.writer c.0) || list_any (λ other. eqb c.1 other.reader) entries
      || is_some_and (λ p. is_past p c.1 gsn) (get guids c.0 g.writers))
      (view.counted key))
      entries

  unfoldable pub copies_arrived : Guid → Group I → GroupView → ℤ → Bool
  copies_arrived key g view gsn = copies_in key g view gsn (get numbers gsn g.pending)

-- what release_group changes: the group, `out` and `counts`
pub record Loop (I : Type 0) : Type 0 where
  pub group : Group I
  pub out : List (ℕ × I)
  pub counts : ReleaseCounts

module _ {I : Type 0} where
  -- ---- commit

  unfoldable pub with_member : Entry I → OpenSet I → OpenSet I
  with_member e s = record { members = s.members ++ (e ∷ []); ends = s.ends; end_committed = s.end_committed }

  unfoldable pub ended : OpenSet I → OpenSet I
  ended s = record { members = s.members; ends = s.ends; end_committed = true }

  -- match e.end
  abbrev pub take_in : Entry I → Option SetEnd → OpenSet I → OpenSet I
  take_in e (Some x) s = ended (with_end e.writer e.reader x s)
  take_in e None s = with_member e s

  abbrev pub push_item : ℕ → Option I → List (ℕ × I) → List (ℕ × I)
  push_item reader None out = out
  push_item reader (Some i) out = out ++ ((reader, i) ∷ [])

  abbrev pub commit_to : Option ℤ → Entry I → Loop I → Loop I
  commit_to (Some first) e l = record { group = with_sets (entry numbers no_set first (λ s. take_in e e.at_end s) l.group.sets) l.group; out = l.out; counts = l.counts }
  commit_to None e l = record { group = l.group; out = push_item e.reader e.item l.out; counts = l.counts }

  unfoldable pub commit : Entry I → Loop I → Loop I
  commit e l = commit_to e.info.coherent_set_gsn e l

  -- ---- finish_set

  -- filter_map(|m| m.item.map(|item| (m.reader, item)))
  abbrev pub item_of : Option I → ℕ → List (ℕ × I) → List (ℕ × I)
  item_of None r l = l
  item_of (Some i) r l = (r, i) ∷ l

  unfoldable pub items : List (Entry I) → List (ℕ × I)
  items [] = []
  items (m ∷ l) = item_of m.item m.reader (items l)

  unfoldable pub complete : OpenSet I → List (Guid × ℕ) → Bool → Bool
  complete set counted all_ends =
      all_ends
      && list_all
      (λ pair. is_some_and
      (λ x. agrees_with (count (λ m. same_guid pair.0 m.writer && eqb pair.1 m.reader) set.members) x.first_sn x.ecs_sn)
      (get pairs pair set.ends))
      counted

  abbrev pub finish_if : Bool → OpenSet I → Loop I → Loop I
  finish_if true set l = record { group = l.group; out = l.out ++ items set.members; counts = l.counts }
  finish_if false set l = record { group = l.group; out = l.out; counts = discarding (length set.members) l.counts }

  unfoldable pub finish_set : OpenSet I → List (Guid × ℕ) → Bool → Loop I → Loop I
  finish_set set counted all_ends l = finish_if (complete set counted all_ends) set l

  -- ---- release_group

  -- the numbers of the open sets that are not e's and whose end was not committed
  unfoldable pub stale : Entry I → List (ℤ × OpenSet I) → List ℤ
  stale e sets = map (λ x. x.0) (filter (λ x. not x.1.end_committed && not (is_that x.0 e.info.coherent_set_gsn)) sets)

  abbrev pub drop_if : ℤ → Loop I → Option (OpenSet I) → Loop I
  drop_if first l None = l
  drop_if first l (Some set) = record { group = with_sets (remove numbers first l.group.sets) l.group; out = l.out; counts = discarding (length set.members) l.counts }

  unfoldable pub drop_all : List ℤ → Loop I → Loop I
  drop_all [] l = l
  drop_all (first ∷ fs) l = drop_all fs (drop_if first l (get numbers first l.group.sets))

  -- for e in entries
  unfoldable pub commit_each : List (Entry I) → Loop I → Loop I
  commit_each [] l = l
  commit_each (e ∷ es) l = commit_each es (commit e (drop_all (stale e l.group.sets) l))

  -- map_or(ZERO, now.saturating_sub(e.offered_at))
  abbrev pub waited : ℕ → Option (Entry I) → ℕ
  waited now None = 0
  waited now (Some e) = now - e.offered_at

  -- committed becomes next; its entries leave pending
  unfoldable pub taken : ℤ → ℕ → Loop I → Loop I
  taken next k l = record {
    group = record {
      committed = next;
      pending = remove numbers next l.group.pending;
      writers = l.group.writers;
      current_gsn = l.group.current_gsn;
      sets = l.group.sets;
    };
    out = l.out;
    counts = skips k l.counts;
  }

  unfoldable pub take_next : ℤ → ℕ → Loop I → Loop I
  take_next next k l = commit_each (or_default [] (get numbers next l.group.pending)) (taken next k l)

  abbrev pub take_if : Bool → Bool → ℤ → ℕ → Loop I → Option (Loop I)
  take_if true young next k l = Some (take_next next 0 l)
  take_if false true next k l = None
  take_if false false next k l = Some (take_next next k l)

  module _ (key : Guid) (view : GroupView) (now timeout : ℕ) where
    unfoldable pub is_ready : Group I → ℤ → ℤ → Bool
    is_ready g missing next = (eq_z next missing || passable key g view missing next) && copies_arrived key g view next

    abbrev pub at_head : Loop I → Option (ℤ × List (Entry I)) → Option (Loop I)
    at_head l None = None
    at_head l (Some x) =
        take_if (is_ready l.group (l.group.committed +ℤ pos 1) x.0)
        (ltb (waited now (first_of (or_default [] (get numbers x.0 l.group.pending)))) timeout)
        x.0 (as_u64 (x.0 -ℤ (l.group.committed +ℤ pos 1))) l

    unfoldable pub all_ends : OpenSet I → Bool
    all_ends set = list_all (λ pair. is_some (get pairs pair set.ends)) (view.counted key)

    abbrev pub finish_or : Bool → ℤ → OpenSet I → Loop I → Option (Loop I)
    finish_or true first set l = None
    finish_or false first set l =
        Some
        (finish_set set (view.counted key) (all_ends set)
        (record { group = with_sets (remove numbers first l.group.sets) l.group; out = l.out; counts = l.counts }))

    abbrev pub at_ended : Loop I → Option (ℤ × OpenSet I) → Option (Loop I)
    at_ended l (Some x) =
        let set : OpenSet I = or_default no_set (get numbers x.0 l.group.sets) in
        finish_or (not (all_ends set) && ltb (waited now (first_of set.members)) timeout) x.0 set l
    at_ended l None = at_head l (first_of l.group.pending)

    -- one turn of the loop; none: return
    unfoldable pub turn : Loop I → Option (Loop I)
    turn l = at_ended l (find (λ x. x.1.end_committed) l.group.sets)

    abbrev pub or_return : (Loop I → Loop I) → Loop I → Option (Loop I) → Loop I
    or_return go l None = l
    or_return go l (Some m) = go m

    unfoldable pub release_group : ℕ → Loop I → Loop I
    release_group zero l = l
    release_group (suc k) l = or_return (λ m. release_group k m) l (turn l)

  -- ---- release

  -- for (key, g) in &mut self.groups
  unfoldable pub release_each : ℕ → GroupView → ℕ → ℕ → List (Guid × Group I) → List (ℕ × I) → ReleaseCounts → List (Guid × Group I) × (List (ℕ × I) × ReleaseCounts)
  release_each turns view now timeout [] out counts = ([], (out, counts))
  release_each turns view now timeout (x ∷ gs) out counts =
      let l : Loop I = release_group x.0 view now timeout turns (record { group = x.1; out = out; counts = counts }) in
      let r : List (Guid × Group I) × (List (ℕ × I) × ReleaseCounts) = release_each turns view now timeout gs l.out l.counts in
      ((x.0, l.group) ∷ r.0, r.1)

  unfoldable pub release : ℕ → GroupOrder I → GroupView → ℕ → List (ℕ × I) × GroupOrder I
  release turns o view now =
      let r : List (Guid × Group I) × (List (ℕ × I) × ReleaseCounts) = release_each turns view now o.timeout o.groups [] o.counts in
      (r.1.0, record { groups = r.0; timeout = o.timeout; counts = r.1.1 })
