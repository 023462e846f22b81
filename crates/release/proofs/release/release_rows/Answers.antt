use Rattle.std.proofs.Common.{rules, arith, ℕ, ◌≡◌, ◌∙◌, ◌+◌, ◌≤◌, sym, ap, subst, refl, length, get_or, [], List, Option, slice_set, None, Some}
use Rattle.std.proofs.lemmas.List.{set-get_or}
use Rattle.rules.specs.Release.{committed_at}
use Rattle.rules.specs.declared.state.Group.{Group}
use Rattle.rules.specs.declared.turn.GroupTurn.{GroupTurn}
use Rattle.release.specs.Left.{left}
use Rattle.release.specs.OwnTurn.{with_own_rows}
use Rattle.release.specs.GroupReleased.{GroupReleased}
use Rattle.release.proofs.Groups.{stepped, left_above, fits_count}
use Rattle.release.proofs.release.release_rows.Goals as goal

abbrev new : Group
new = record { guid = []; committed = 0; announced = 0 }

pub release_group-requires-clause-room : goal.release_group-requires-clause-room
release_group-requires-clause-room c = fits_count _ _ _ _ c.requires.room

pub invariant_of-store : goal.invariant_of-store
invariant_of-store c =
    let g = (get_or c.as_slice.result.now c.args.i new).guid in
    let e : c.release_group.result ≡ Some c.in-Some.number = search rules in
    let r : c.retain.new.self.items ≡ left g (Some c.in-Some.number) c.args.store.now.pending.items =
    c.retain.ensures.items ∙ left_above g c.in-Some.number c.args.store.now.pending.items in
    let m = subst (λ (q : Option ℕ). length c.release_group.new.sets.held.items + length c.release_group.new.out.items + length (left g q c.args.store.now.pending.items) ≤ length c.args.store.now.sets.held.items + length c.args.out.now.items + length c.args.store.now.pending.items) e c.release_group.ensures.room in
    let n : length c.retain.new.self.items + length c.release_group.new.sets.held.items ≤ 256 = omega (arith, ap length r, m, c.requires.room) in
    record { few = n }

pub returns-in-Some-clause-room : goal.returns-in-Some-clause-room
returns-in-Some-clause-room c =
    let g = (get_or c.as_slice.result.now c.args.i new).guid in
    let e : c.release_group.result ≡ Some c.in-Some.number = search rules in
    let r : c.retain.new.self.items ≡ left g (Some c.in-Some.number) c.args.store.now.pending.items =
    c.retain.ensures.items ∙ left_above g c.in-Some.number c.args.store.now.pending.items in
    let m = subst (λ (q : Option ℕ). length c.release_group.new.sets.held.items + length c.release_group.new.out.items + length (left g q c.args.store.now.pending.items) ≤ length c.args.store.now.sets.held.items + length c.args.out.now.items + length c.args.store.now.pending.items) e c.release_group.ensures.room in
    omega (arith, ap length r, m)

pub returns-in-Some-clause-steps : goal.returns-in-Some-clause-steps
unfolding committed_at
returns-in-Some-clause-steps c =
    let g = (get_or c.as_slice.result.now c.args.i new).guid in
    let e : c.release_group.result ≡ Some c.in-Some.number = search rules in
    let r : c.retain.new.self.items ≡ left g (Some c.in-Some.number) c.args.store.now.pending.items =
    c.retain.ensures.items ∙ left_above g c.in-Some.number c.args.store.now.pending.items in
    let t : GroupTurn = record { group = get_or c.as_slice.result.now c.args.i new; writers = c.as_slice-2.result; counted = c.args.counted; digests = c.args.digests; time = c.args.time; timeout = c.args.store.now.timeout } in
    let old = c.args.store.now.groups in
    stepped (with_own_rows t) c.args.i new c.args.store.now _ c.args.out.now.items c.release_group.new.out.items (Some c.in-Some.number) c.args.counted.now (λ q. refl) c.requires.within (ap (λ l. get_or l c.args.i new) c.as_slice.ensures.value) c.as_slice-2.ensures.value refl
    (subst (λ (q : Option ℕ). GroupReleased (with_own_rows t) c.args.store.now.pending.items c.args.store.now.sets c.args.out.now.items q c.release_group.new.sets c.release_group.new.out.items) e c.release_group.ensures.goes)
    r
    c.set.ensures.items
    refl refl

pub returns-in_default-clause-steps : goal.returns-in_default-clause-steps
unfolding committed_at
returns-in_default-clause-steps c =
    let e : c.release_group.result ≡ None = search rules in
    let t : GroupTurn = record { group = get_or c.as_slice.result.now c.args.i new; writers = c.as_slice-2.result; counted = c.args.counted; digests = c.args.digests; time = c.args.time; timeout = c.args.store.now.timeout } in
    let old = c.args.store.now.groups in
    stepped (with_own_rows t) c.args.i new c.args.store.now _ c.args.out.now.items c.release_group.new.out.items None c.args.counted.now (λ q. refl) c.requires.within (ap (λ l. get_or l c.args.i new) c.as_slice.ensures.value) c.as_slice-2.ensures.value refl
    (subst (λ (q : Option ℕ). GroupReleased (with_own_rows t) c.args.store.now.pending.items c.args.store.now.sets c.args.out.now.items q c.release_group.new.sets c.release_group.new.out.items) e c.release_group.ensures.goes)
    refl
    (sym (ap (λ (l : List Group). slice_set old.items c.args.i (get_or l c.args.i new)) c.as_slice.ensures.value ∙ set-get_or old.items c.args.i new))
    refl refl
