-- `hold_back`: refused exactly where the hold is full; else the member stands behind those that stay.
use Rattle.std.proofs.Common.{◌≡◌, ◌<◌, ◌∙◌, sym, ap, rules, arith, length, map, not, ◌++◌, ◌∷◌, [], to_z, of_z, w64}
use Rattle.std.specs.Prelude.{Some}
use mathlib.Core.List.{map-append}
use Rattle.laws.specs.Lists.{filter}
use Rattle.coherent_hold.specs.Gate.{leaves, written, left_by, hold_as, member_as}
use Rattle.coherent_hold.proofs.Members.{as_many, no_more, shown}
use Rattle.coherent_hold.proofs.GateCalls.{place_free, held_is}
use Rattle.coherent_hold.proofs.hold.CoherentHold.hold_back.Goals as goal

pub returns-then-is_full_for-clause-is : goal.returns-then-is_full_for-clause-is
unfolding left_by
returns-then-is_full_for-clause-is c = rw (← c.is_full_for.ensures.is, c.if-is_full_for.true)

pub write_members-requires : goal.write_members-requires
write_members-requires c = omega (arith, ap length c.deref.ensures.0, no_more _ (λ h. leaves c.args.member.writer (Some (to_z w64 (of_z w64 c.args.member.set))) h) (hold_as c.args.self.now) c.release-released.ensures.released)

pub returns-clause-is : goal.returns-clause-is
returns-clause-is c = let a = c.args in
    let l = hold_as a.self.now in
    let o = a.out.now in
    let m = member_as a.member in
    let set : to_z w64 (of_z w64 a.member.set) ≡ a.member.set = search rules in
    let out = c.release-released.ensures.released ∙ ap (λ z. filter (λ h. leaves a.member.writer (Some z) h) l) set in
    let stay = c.release-released.ensures.stay ∙ ap (λ z. filter (λ h. not (leaves a.member.writer (Some z) h)) l) set in
    let room : length c.release-released.new.self.held.items < 64 = omega (arith, as_many _ _ stay, place_free l m (sym c.is_full_for.ensures.is ∙ c.if-is_full_for.false) c.is_full_for.ensures.fits) in
    held_is l o _ m c.len.result _ (sym c.is_full_for.ensures.is ∙ c.if-is_full_for.false) (c.len.ensures.value ∙ as_many _ _ out)
    (ap (map (λ x. member_as x)) (c.push.ensures.items room) ∙ map-append (λ x. member_as x) c.release-released.new.self.held.items (a.member ∷ []) ∙ ap (λ x. x ++ (m ∷ [])) stay)
    (c.write_members.ensures ∙ ap (λ x. written x o) (shown _ _ _ c.deref.ensures.0 out))
