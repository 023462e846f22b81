-- `is_full_for`: all places are held, and none of the members leaves.
use Rattle.std.proofs.Common.{◌≡◌, ◌∙◌, sym, rules, arith, to_z, of_z, w64}
use borrow.Author.Tests.{eqb-true, eqb-false}
use Rattle.coherent_hold.proofs.Members.{full_where, full_never}
use Rattle.coherent_hold.proofs.hold.CoherentHold.is_full_for.Goals as goal

pub returns-then-is_full-clause-is : goal.returns-then-is_full-clause-is
returns-then-is_full-clause-is c = let a = c.args in
    let set : to_z w64 (of_z w64 a.member.set) ≡ a.member.set = search rules in
    full_where a.self.now.held.items a.member _ (eqb-true _ _ (sym c.is_full.ensures.value ∙ c.if-is_full.true)) (rw set at c.releases_any.ensures)

pub returns-else-is_full-clause-is : goal.returns-else-is_full-clause-is
returns-else-is_full-clause-is c = let a = c.args in
    let other = eqb-false _ _ (sym c.is_full.ensures.value ∙ c.if-is_full.false) in
    c.if-is_full.false ∙ full_never a.self.now.held.items a.member (omega (arith, other, c.is_full.ensures.fits))
