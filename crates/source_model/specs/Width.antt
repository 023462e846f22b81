-- 64 bits: the numbers that group_order.rs computes, at every turn of a release's loop. All other arithmetic of it is max, comparisons,
-- saturating differences of times, lengths of a Vec, and sums of counts (demand 2 covers runs in which these stay below 2^64: `below`).
use Rattle.std.specs.Prelude.{ℕ, zero, suc, ◌-◌, ◌^◌, Bool, true, ◌&&◌, List, [], ◌∷◌, ℤ, pos, negsuc, ◌+ℤ◌, ◌-ℤ◌}
use Rattle.std.specs.Prelude.{Option, Some, None}
use Rattle.std.specs.Int.Signed.{lt_z, le_z}
use Rattle.laws.specs.Lists.{list_all, find}
use Rattle.guids.specs.Guid.{Guid}
use Rattle.rules.specs.Entry.{set_end}
use Rattle.rules.specs.declared.entry.What.{What}
use Rattle.rules.specs.declared.entry.What.TheVariants.{Sample, End}
use Rattle.rules.specs.Run.{Call, offers, heartbeats, gaps, releases}
use Rattle.source_model.specs.Map.{numbers, or_default, get}
use Rattle.rules.specs.declared.state.ReleaseCounts.{ReleaseCounts}
use Rattle.source_model.specs.Source.{SetEnd, Entry, OpenSet, no_set, Group, GroupView, GroupOrder, first_of, Loop, turn, release_group}
use Rattle.source_model.specs.Calls.{view_of, step}

-- i64
unfoldable pub is_i64 : ℤ → Bool
is_i64 z = le_z (negsuc (2 ^ 63 - 1)) z && lt_z z (pos (2 ^ 63))

-- ecs − first
abbrev pub distance_fits : Option ℤ → Option ℤ → Bool
distance_fits None o = true
distance_fits (Some f) None = true
distance_fits (Some f) (Some o) = is_i64 (o -ℤ f)

unfoldable pub end_fits : SetEnd → Bool
end_fits e = distance_fits e.first_sn e.ecs_sn

module _ {I : Type 0} where
  -- committed + 1, and next − missing, which is not negative
  unfoldable pub head_fits : Group I → Option (ℤ × List (Entry I)) → Bool
  head_fits g None = true
  head_fits g (Some x) = is_i64 (g.committed +ℤ pos 1) && is_i64 (x.0 -ℤ (g.committed +ℤ pos 1)) && le_z (g.committed +ℤ pos 1) x.0

  -- ecs − first of every end of the set
  unfoldable pub set_fits : OpenSet I → Bool
  set_fits s = list_all (λ e. end_fits e.1) s.ends

  -- what a turn computes: at an ended set its distances, else at the next number
  unfoldable pub at_fits : Group I → Option (ℤ × OpenSet I) → Bool
  at_fits g (Some x) = set_fits (or_default no_set (get numbers x.0 g.sets))
  at_fits g None = head_fits g (first_of g.pending)

  unfoldable pub turn_fits : Loop I → Bool
  turn_fits l = at_fits l.group (find (λ x. x.1.end_committed) l.group.sets)

  module _ (key : Guid) (view : GroupView) (now timeout : ℕ) where
    abbrev pub if_goes : (Loop I → Bool) → Option (Loop I) → Bool
    if_goes go None = true
    if_goes go (Some m) = go m

    -- every turn of a loop
    unfoldable pub loop_fits : ℕ → Loop I → Bool
    loop_fits zero l = true
    loop_fits (suc k) l = turn_fits l && if_goes (λ m. loop_fits k m) (turn key view now timeout l)

  -- every group's loop
  unfoldable pub each_fits : ℕ → GroupView → ℕ → ℕ → List (Guid × Group I) → List (ℕ × I) → ReleaseCounts → Bool
  each_fits turns view now timeout [] out counts = true
  each_fits turns view now timeout (x ∷ gs) out counts =
      let l : Loop I = record { group = x.1; out = out; counts = counts } in
      let m : Loop I = release_group x.0 view now timeout turns l in
      loop_fits x.0 view now timeout turns l && each_fits turns view now timeout gs m.out m.counts

-- of a call: its number is an i64, and own − first of an end fits
abbrev pub what_fits : {X : Type 0} → What X → Bool
what_fits (Sample x) = true
what_fits (End u) = distance_fits u.first u.own

module _ {X : Type 0} where
  unfoldable pub call_fits : Call X → Bool
  call_fits (offers x) = is_i64 x.number && what_fits x.what
  call_fits (heartbeats h) = true
  call_fits (gaps x) = true
  call_fits (releases now v l) = true

  unfoldable pub step_fits : ℕ → GroupOrder X → Call X → Bool
  step_fits turns o (offers x) = true
  step_fits turns o (heartbeats h) = true
  step_fits turns o (gaps x) = true
  step_fits turns o (releases now v l) = each_fits turns (view_of v) now o.timeout o.groups [] o.counts

  unfoldable pub run_fits : ℕ → GroupOrder X → List (Call X) → Bool
  run_fits turns o [] = true
  run_fits turns o (c ∷ cs) = step_fits turns o c && run_fits turns (step turns o c).1 cs
