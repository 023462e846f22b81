-- `gate`: each way through the code is a case of the definition.
use Rattle.std.proofs.Common.{◌∙◌, sym, arith, length, refl}
use Prim.Native.Nat.{◌/◌, ◌<◌}
use Rattle.coherent_hold.specs.Gate.{passed, hold_as, item_as}
use Rattle.coherent_hold.proofs.GateCalls.{left_is, gate_short, gate_off, gate_member, gate_all}
use Rattle.coherent_hold.proofs.hold.CoherentHold.gate.Goals as goal

pub returns-then-out-len-clause-is : goal.returns-then-out-len-clause-is
returns-then-out-len-clause-is c = let a = c.args in sym (gate_short (hold_as a.self.now) (item_as a.item) a.out.now (omega (arith, c.len.ensures)) a.coherent_access)

pub returns-then-not-coherent_access-clause-is : goal.returns-then-not-coherent_access-clause-is
returns-then-not-coherent_access-clause-is c = let a = c.args in
    let l = hold_as a.self.now in
    let i = item_as a.item in
    let h : length (hold_as a.self.now) < length a.out.now / 5 = omega (arith, c.len.ensures) in
    rw c.if-not-coherent_access.true (left_is l a.out.now a.self.now c.pass.result _ (passed i l) c.pass.ensures.is refl c.pass.ensures.list ∙ sym (gate_off l i a.out.now h))

pub returns-in-Some-clause-is : goal.returns-in-Some-clause-is
returns-in-Some-clause-is c = let a = c.args in
    let h : length (hold_as a.self.now) < length a.out.now / 5 = omega (arith, c.len.ensures) in
    rw c.if-not-coherent_access.false (rw c.in-Some.ensures.1 at c.hold_back.ensures.is ∙ sym (gate_member (hold_as a.self.now) (item_as a.item) a.out.now h _ c.in-Some.ensures.0))

pub returns-in-None-clause-is : goal.returns-in-None-clause-is
returns-in-None-clause-is c = let a = c.args in
    let h : length (hold_as a.self.now) < length a.out.now / 5 = omega (arith, c.len.ensures) in
    rw c.if-not-coherent_access.false (c.release_all.ensures ∙ sym (gate_all (hold_as a.self.now) (item_as a.item) a.out.now h c.in-None.ensures))
