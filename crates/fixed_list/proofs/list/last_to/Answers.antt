-- `last_to`: the one carried goes to the place i, and the one there is carried on.
use Rattle.std.proofs.Common.{◌≡◌, ◌∙◌, ◌-◌, suc, [], ◌∷◌, get_or, length, ap, arith, length-append}
use Rattle.std.proofs.Math.Seq.{get_or-append_seam}
use Rattle.fixed_list.proofs.Carried.{at_first, carried_on, all_carried, last_inserted}
use Rattle.fixed_list.proofs.list.last_to.Goals as goal

pub loop-i-init : goal.loop-i-init
loop-i-init g c = at_first c.args.items.now c.args.at _

pub loop-i-preserved : goal.loop-i-preserved
loop-i-preserved g c = carried_on c.args.items.now c.args.at _ c.loop-i.invariant (omega (arith, c.loop-i-test.true, c.loop-i.invariant.long)) c.index-items-i.is

pub returns-clause-items : goal.returns-clause-items
returns-clause-items g c = λ rest x is.
    let all = c.args.items.now in
    let last = c.index-items-items.result in
    let long : length all ≡ suc (length rest) = omega (arith, ap length is, length-append rest (x ∷ [])) in
    let end : length all - 1 ≡ length rest = omega (arith, long) in
    let same : last ≡ x = c.index-items-items.is ∙ ap (λ k. get_or all k last) end ∙ ap (λ l. get_or l (length rest) last) is ∙ get_or-append_seam rest x [] last in
    all_carried all c.args.at last c.loop-i.invariant c.loop-i-test.false
    ∙ rw (long, same, is) (last_inserted rest c.args.at x)
