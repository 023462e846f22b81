use Rattle.std.proofs.Common.{rules, ◌≡◌, ◌∙◌, ◌-◌, ◌||◌, ◌&&◌, refl, sym, suc, true, false, slice_get, get_or, eqb, ltb, unwrap_or, Some, None}
use Rattle.rules.specs.Commit.{ruled_out, copies_arrived}
use Rattle.rules.specs.Release.{skip}
use Rattle.release.specs.OwnTurn.{own_turn, with_own_rows}
use Rattle.sets.specs.declared.Sets.{Sets}
use Rattle.ready.specs.Places.{entries_at}
use Rattle.release.proofs.Sorted.{blank}
use Rattle.release.proofs.Heading.{head_none, left_listed, heads_own, head_waits, head_ready, head_old}
use Rattle.release.proofs.group.commit_head.Goals as goal
use Rattle.release.proofs.group.commit_head.Goals.{then-is_passable_for, else-is_passable_for, else-not-ready-via-then-not-ready+else-is_young, else-not-ready-via-else-not-ready, then-ready, else-ready}

pub returns-in_default-clause-goes : goal.returns-in_default-clause-goes
returns-in_default-clause-goes c v x =
    let f : slice_get c.args.at.rest.now 0 ≡ None = search rules in
    (head_none (with_own_rows c.args.turn.now) c.args.entries.now c.args.at c.args.sets.now c.requires.stands c.requires.quiet c.args.out.now.items f v x, x)

pub returns-then-is_young-clause-goes : goal.returns-then-is_young-clause-goes
returns-then-is_young-clause-goes c v x =
    let f : slice_get c.args.at.rest.now 0 ≡ Some c.in-Some.field-0.now = search rules in
    let y : ltb (c.args.turn.now.time - (get_or c.args.entries.now c.in-Some.field-0.now blank).time) c.args.turn.now.timeout ≡ true = search rules in
    let n = (get_or c.args.entries.now c.in-Some.field-0.now blank).number in
    let m = unwrap_or c.args.at.last c.args.turn.now.group.committed in
    let r : (eqb n (suc m) || ruled_out (own_turn c.args.turn.now) m n) && copies_arrived (own_turn c.args.turn.now) n (entries_at c.args.entries.now c.split_at.result.0.now) ≡ false =
    elim c.if-is_passable_for.branch [ then-is_passable_for w ↦ search rules | else-is_passable_for w ↦ search rules ] in (
      head_waits (with_own_rows c.args.turn.now) c.args.entries.now c.args.at c.args.sets.now c.requires.stands c.requires.quiet c.args.out.now.items c.in-Some.field-0.now f
          c.split_at.result.0.now c.split_at.result.1.now c.head_count.result c.split_at.ensures.front c.split_at.ensures.back c.head_count.ensures.heads c.head_count.ensures.other v x r y,
      x,
    )

pub commit_all-memory-requires-clause-group : goal.commit_all-memory-requires-clause-group
commit_all-memory-requires-clause-group c =
    let f : slice_get c.args.at.rest.now 0 ≡ Some c.in-Some.field-0.now = search rules in
    heads_own (with_own_rows c.args.turn.now) c.args.entries.now c.args.at c.args.sets.now c.requires.stands c.requires.quiet c.args.out.now.items c.in-Some.field-0.now f
    c.split_at.result.0.now c.split_at.result.1.now c.head_count.result c.split_at.ensures.front c.split_at.ensures.back c.head_count.ensures.heads c.head_count.ensures.other

pub returns-clause-stands : goal.returns-clause-stands
returns-clause-stands c =
    let f : slice_get c.args.at.rest.now 0 ≡ Some c.in-Some.field-0.now = search rules in
    record {
      listed = left_listed (with_own_rows c.args.turn.now) c.args.entries.now c.args.at c.args.sets.now c.requires.stands c.requires.quiet c.args.out.now.items c.in-Some.field-0.now f
          c.split_at.result.0.now c.split_at.result.1.now c.head_count.result c.split_at.ensures.front c.split_at.ensures.back c.head_count.ensures.heads c.head_count.ensures.other;
      known = c.commit_all-memory.ensures.known;
    }

pub returns-clause-goes : goal.returns-clause-goes
returns-clause-goes c v x =
    let f : slice_get c.args.at.rest.now 0 ≡ Some c.in-Some.field-0.now = search rules in
    let n = (get_or c.args.entries.now c.in-Some.field-0.now blank).number in
    let m = unwrap_or c.args.at.last c.args.turn.now.group.committed in
    let r : c.if-is_passable_for.ready ≡ ((eqb n (suc m) || ruled_out (own_turn c.args.turn.now) m n) && copies_arrived (own_turn c.args.turn.now) n (entries_at c.args.entries.now c.split_at.result.0.now)) =
    elim c.if-is_passable_for.branch [ then-is_passable_for w ↦ search rules | else-is_passable_for w ↦ search rules ] in
    let counted : c.count_skipped.new.counts ≡ skip c.if-ready.skipped c.args.sets.now.counts = c.count_skipped.ensures in
    let between : Sets = record { held = c.args.sets.now.held; counts = c.count_skipped.new.counts } in
    elim c.if-ready.branch [
      | then-ready w ↦ head_ready (with_own_rows c.args.turn.now) c.args.entries.now c.args.at c.args.sets.now c.requires.stands c.requires.quiet c.args.out.now.items c.in-Some.field-0.now f
          c.split_at.result.0.now c.split_at.result.1.now c.head_count.result c.split_at.ensures.front c.split_at.ensures.back c.head_count.ensures.heads c.head_count.ensures.other v x
          c.commit_all-memory.new.sets c.commit_all-memory.new.out.items c.if-ready.skipped between refl counted c.commit_all-memory.ensures.goes (sym r ∙ w.if-ready.true) w.skipped-is
      | else-ready w ↦
          let y : ltb (c.args.turn.now.time - (get_or c.args.entries.now c.in-Some.field-0.now blank).time) c.args.turn.now.timeout ≡ false =
          elim c.else-not-ready.branch [ else-not-ready-via-then-not-ready+else-is_young u ↦ search rules | else-not-ready-via-else-not-ready u ↦ search rules ] in
          let d : c.if-ready.skipped ≡ n - suc m = search rules in
          head_old (with_own_rows c.args.turn.now) c.args.entries.now c.args.at c.args.sets.now c.requires.stands c.requires.quiet c.args.out.now.items c.in-Some.field-0.now f
          c.split_at.result.0.now c.split_at.result.1.now c.head_count.result c.split_at.ensures.front c.split_at.ensures.back c.head_count.ensures.heads c.head_count.ensures.other v x
          c.commit_all-memory.new.sets c.commit_all-memory.new.out.items c.if-ready.skipped between refl counted c.commit_all-memory.ensures.goes (sym r ∙ w.if-ready.false) y d
    ]
