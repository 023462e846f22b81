use Rattle.std.proofs.Common.{◌≡◌, option_copied, get_or, sym, ◌∙◌}
use Rattle.rules.specs.Entry.{of_group}
use Rattle.release.proofs.Sorted.{blank, first_empty, is_lower, first_taken, first_higher, first_other}
use Rattle.release.proofs.group.first_of.Goals as goal
use Rattle.release.proofs.group.first_of.Goals.{in-Some, in-None, then-lower+then-same, else-lower, else-lower-via-then-lower+else-same, else-lower-via-else-lower}

pub loop-e-init : goal.loop-e-init
loop-e-init c = first_empty

pub loop-e-preserved : goal.loop-e-preserved
unfolding of_group
loop-e-preserved c =
    let low : c.match-first.lower ≡ is_lower (option_copied c.loop-e.first) (get_or c.args.pending.now c.loop-e.e-index blank) = elim c.match-first.branch [ in-Some w ↦ let z = w.in-Some.is in rw (z, w.lower-is) | in-None w ↦ let z = w.in-None.is in rw (z, w.lower-is) ] in
    let i = c.loop-e.invariant in
    let was : is_lower (option_copied c.loop-e.first) (get_or c.args.pending.now c.loop-e.e-index blank) ≡ c.match-first.lower = sym low in
    elim c.if-lower.branch [
      | then-lower+then-same w ↦
          rw w.first-is (first_taken (λ e. of_group c.args.group e) c.args.pending.now c.loop-e.e-index blank c.loop-e-test.true (sym w.same.ensures ∙ w.if-same.true) (rw (sym i) (sym low ∙ w.if-lower.true)))
      | else-lower w ↦ rw w.first-is (i ∙ elim w.else-lower.branch [
        | else-lower-via-then-lower+else-same v ↦ first_other (λ e. of_group c.args.group e) c.args.pending.now c.loop-e.e-index blank c.loop-e-test.true (sym v.same.ensures ∙ v.if-same.false)
        | else-lower-via-else-lower v ↦ first_higher (λ e. of_group c.args.group e) c.args.pending.now c.loop-e.e-index blank c.loop-e-test.true (rw (sym i) (sym low ∙ v.if-lower.false))
      ])
    ]
