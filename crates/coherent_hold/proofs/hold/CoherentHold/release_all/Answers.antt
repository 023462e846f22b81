-- `release_all`: an end is judged, any other item stands behind its writer's members.
use Rattle.std.proofs.Common.{◌∙◌, sym, ap, arith, length, None}
use Rattle.coherent_hold.specs.Gate.{written, leaves, set_is_complete, hold_as, kind_as, item_as}
use Rattle.coherent_hold.proofs.Members.{as_many, no_more, shown}
use Rattle.coherent_hold.proofs.GateCalls.{ended_whole, ended_short, followed_is}
use Rattle.coherent_hold.proofs.hold.CoherentHold.release_all.Goals as goal

pub write_members-requires : goal.write_members-requires
write_members-requires c = omega (arith, ap length c.deref-in-End-2.ensures.0, no_more _ (λ h. leaves (item_as c.args.item).writer None h) (hold_as c.args.self.now) c.release-released.ensures.released)

pub write_members-requires-in-Change : goal.write_members-requires-in-Change
write_members-requires-in-Change c = omega (arith, ap length c.deref-in-Change.ensures.0, no_more _ (λ h. leaves (item_as c.args.item).writer None h) (hold_as c.args.self.now) c.release-released.ensures.released)

pub write_item-requires : goal.write_item-requires
write_item-requires c = omega (arith, c.len-n.ensures.value, no_more _ (λ h. leaves (item_as c.args.item).writer None h) (hold_as c.args.self.now) c.release-released.ensures.released)

pub returns-in-End : goal.returns-in-End
returns-in-End c = let a = c.args in
    let e = c.in-End.end in
    let out = c.release-released.ensures.released in
    let judged = ap (λ y. set_is_complete y e.own e.complete) (sym (shown _ _ _ c.deref.ensures.0 out)) ∙ sym c.set_is_complete.ensures ∙ c.if-not-set_is_complete.true in
    ended_short (hold_as a.self.now) a.out.now _ _ _ c.release-released.ensures.stay c.len-n.result (c.len-n.ensures.value ∙ as_many _ _ out) (item_as a.item) _ _ (ap kind_as c.in-End.is) judged

pub returns-in-End-2 : goal.returns-in-End-2
returns-in-End-2 c = let a = c.args in
    let e = c.in-End.end in
    let out = c.release-released.ensures.released in
    let judged = ap (λ y. set_is_complete y e.own e.complete) (sym (shown _ _ _ c.deref.ensures.0 out)) ∙ sym c.set_is_complete.ensures ∙ c.if-not-set_is_complete.false in
    ended_whole (hold_as a.self.now) a.out.now _ _ _ c.release-released.ensures.stay c.len-n.result (c.len-n.ensures.value ∙ as_many _ _ out) (item_as a.item) _ _ (ap kind_as c.in-End.is) _ judged
    (c.write_members.ensures ∙ ap (λ y. written y a.out.now) (shown _ _ _ c.deref-in-End-2.ensures.0 out))

pub returns-in-Change : goal.returns-in-Change
returns-in-Change c = let a = c.args in
    let out = c.release-released.ensures.released in
    followed_is (hold_as a.self.now) a.out.now _ _ _ c.release-released.ensures.stay c.len-n.result (c.len-n.ensures.value ∙ as_many _ _ out) (item_as a.item) c.in-Change.field-0 (ap kind_as c.in-Change.is) _ _
    (c.write_members-in-Change.ensures ∙ ap (λ y. written y a.out.now) (shown _ _ _ c.deref-in-Change.ensures.0 out)) c.write_item.ensures
