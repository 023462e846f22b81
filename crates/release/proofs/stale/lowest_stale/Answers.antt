use Rattle.std.proofs.Common.{[], refl, sym, ap, ◌∙◌, ◌∷◌, ◌++◌, append-nil, append_assoc, arith}
use Rattle.std.proofs.lemmas.Grind.{common_steps}
use Rattle.rules.specs.Sets.{lesser, lowest_set}
use Rattle.release.proofs.Discarding.{lowest-stale, lowest-other, lowest-all}
use Rattle.release.proofs.stale.lowest_stale.Goals as goal

pub loop-h-init : goal.loop-h-init
unfolding lowest_set
loop-h-init c = ([], grind (arith, common_steps, append-nil), refl)

pub loop-h-preserved-then-is_stale : goal.loop-h-preserved-then-is_stale
loop-h-preserved-then-is_stale c =
    let i = c.loop-h.invariant in (
      c.in-Some.h.now ∷ i.0,
      i.1 ∙ ap (λ r. r ++ i.0) c.in-Some.ensures.steps ∙ append_assoc c.next.new.self.iter.rest.now (c.in-Some.h.now ∷ []) i.0,
      c.lesser-low.ensures ∙ ap (λ x. lesser c.in-Some.h.now.set x) i.2 ∙ lowest-stale c.args.e.now c.in-Some.h.now c.as_slice-held.result.now i.0 (sym c.is_stale.ensures ∙ c.if-is_stale.true),
    )

pub loop-h-preserved : goal.loop-h-preserved
loop-h-preserved c =
    let i = c.loop-h.invariant in (
      c.in-Some.h.now ∷ i.0,
      i.1 ∙ ap (λ r. r ++ i.0) c.in-Some.ensures.steps ∙ append_assoc c.next.new.self.iter.rest.now (c.in-Some.h.now ∷ []) i.0,
      i.2 ∙ lowest-other c.args.e.now c.in-Some.h.now c.as_slice-held.result.now i.0 (sym c.is_stale.ensures ∙ c.if-is_stale.false),
    )

pub returns : goal.returns
returns c = let i = c.loop-h.invariant in lowest-all c.args.e.now _ _ _ i.0 _ c.as_slice-held.ensures.value i.1 c.in-None.ensures.steps.0 i.2
