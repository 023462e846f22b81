use Rattle.std.proofs.Common.{arith, ℕ, ◌+◌, sym, ap, subst, length, List, []}
use Rattle.std.proofs.lemmas.List.{length-take-le}
use Rattle.rules.specs.declared.state.Group.{Group}
use Rattle.release.specs.Released.{view_of}
use Rattle.release.specs.GroupSteps.{ReleasedTo}
use Rattle.release.proofs.Groups.{released_more, same_count, places_fit, answers, few_counted}
use Rattle.release.proofs.release.release_from.Goals as goal

abbrev new : Group
new = record { guid = []; committed = 0; announced = 0 }

pub loop-i-init : goal.loop-i-init
loop-i-init c = record {
  released = subst (λ (p : List ℕ). ReleasedTo (view_of c.args.counted.now c.args.digests.now) c.args.time c.args.first c.args.store.now c.args.store.now p) (sym c.new-handed.ensures) c.requires.reached;
  within = c.requires.within;
  room = omega (arith, ap length c.new-handed.ensures, c.args.store.now.few);
}

pub release_at-requires-clause-counted : goal.release_at-requires-clause-counted
release_at-requires-clause-counted c = few_counted c.args.counted.now c.args.digests.now c.requires.formed

pub first_to_go-i-requires : goal.first_to_go-i-requires
first_to_go-i-requires c =
    let v = view_of c.args.counted.now c.args.digests.now in
    let s = c.args.store.now in
    let n = same_count v c.args.time s c.loop-i.i c.loop-i.store c.loop-i.handed.items c.loop-i.invariant.released in
    let r = released_more v c.args.time s c.loop-i.i new c.loop-i.store c.release_at.new.store c.loop-i.handed.items c.release_at.new.out.items (omega (arith, n)) c.loop-i.invariant.released c.release_at.ensures.steps in
    omega (arith, n, same_count v c.args.time s (c.loop-i.i + 1) c.release_at.new.store c.release_at.new.out.items r)

pub loop-i-smaller : goal.loop-i-smaller
loop-i-smaller c =
    let n = same_count (view_of c.args.counted.now c.args.digests.now) c.args.time c.args.store.now c.loop-i.i c.loop-i.store c.loop-i.handed.items c.loop-i.invariant.released in
    omega (arith, n, c.first_to_go-i.ensures.within.0)

pub loop-i-preserved : goal.loop-i-preserved
loop-i-preserved c =
    let v = view_of c.args.counted.now c.args.digests.now in
    let s = c.args.store.now in
    let n = same_count v c.args.time s c.loop-i.i c.loop-i.store c.loop-i.handed.items c.loop-i.invariant.released in
    let r = released_more v c.args.time s c.loop-i.i new c.loop-i.store c.release_at.new.store c.loop-i.handed.items c.release_at.new.out.items (omega (arith, n)) c.loop-i.invariant.released c.release_at.ensures.steps in
    record {
      released = c.first_to_go-i.ensures.reached s c.release_at.new.out.items r;
      within = c.first_to_go-i.ensures.within.1;
      room = omega (arith, c.release_at.ensures.room, c.loop-i.invariant.room);
    }

pub slice_bounds-copy_from_slice-end : goal.slice_bounds-copy_from_slice-end
slice_bounds-copy_from_slice-end c =
    let v = view_of c.args.counted.now c.args.digests.now in
    let s = c.args.store.now in
    let n = same_count v c.args.time s c.loop-i.i c.loop-i.store c.loop-i.handed.items c.loop-i.invariant.released in
    let f = places_fit v c.args.time s c.loop-i.i c.loop-i.store c.loop-i.handed.items (omega (arith, n, c.loop-i.invariant.within)) c.loop-i.invariant.released in
    omega (arith, f, c.requires.room, ap length c.as_slice-places.ensures.value)

pub slice_bounds-copy_from_slice-end-2 : goal.slice_bounds-copy_from_slice-end-2
slice_bounds-copy_from_slice-end-2 c =
    let v = view_of c.args.counted.now c.args.digests.now in
    let s = c.args.store.now in
    let n = same_count v c.args.time s c.loop-i.i c.loop-i.store c.loop-i.handed.items c.loop-i.invariant.released in
    let f = places_fit v c.args.time s c.loop-i.i c.loop-i.store c.loop-i.handed.items (omega (arith, n, c.loop-i.invariant.within)) c.loop-i.invariant.released in
    sym (length-take-le (length c.as_slice-places.result.now) c.args.out.now (omega (arith, f, c.requires.room, ap length c.as_slice-places.ensures.value)))

pub copy_from_slice-requires : goal.copy_from_slice-requires
copy_from_slice-requires c =
    let v = view_of c.args.counted.now c.args.digests.now in
    let s = c.args.store.now in
    let n = same_count v c.args.time s c.loop-i.i c.loop-i.store c.loop-i.handed.items c.loop-i.invariant.released in
    let f = places_fit v c.args.time s c.loop-i.i c.loop-i.store c.loop-i.handed.items (omega (arith, n, c.loop-i.invariant.within)) c.loop-i.invariant.released in
    length-take-le (length c.as_slice-places.result.now) c.args.out.now (omega (arith, f, c.requires.room, ap length c.as_slice-places.ensures.value))

pub returns : goal.returns
returns c =
    let v = view_of c.args.counted.now c.args.digests.now in
    let s = c.args.store.now in
    let n = same_count v c.args.time s c.loop-i.i c.loop-i.store c.loop-i.handed.items c.loop-i.invariant.released in
    let a = answers v c.args.time s c.loop-i.i c.loop-i.store c.loop-i.handed.items (omega (arith, n, c.loop-i.invariant.within)) c.loop-i.invariant.released c.args.out.now c.requires.formed c.requires.room in
    rw (c.copy_from_slice.ensures.after, c.as_slice-places.ensures.value) a
