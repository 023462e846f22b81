use Rattle.std.proofs.Common.{rules, ◌≡◌, length, replicate, refl, sym, arith}
use lib.Seq.{length-take-le}
use Rattle.release.specs.Released.{view_of}
use Rattle.calls.proofs.Running.{ran_from}
use Rattle.calls.proofs.Releasing.{told_by, wrote_within, narrow_after, ran_released, ran_refused}
use Rattle.calls.proofs.run.Calls.release.Goals as goal
use Rattle.calls.proofs.run.Calls.release.Goals.{in-Ok, in-Err}

pub slice_bounds-places-end : goal.slice_bounds-places-end
slice_bounds-places-end g c =
    let i = c.self.inside in
    let p = c.release.new.out in
    let k : length p ≡ 256 = search rules in
    let e = told_by i.order c.args.time (replicate 256 0) c.in-Ok.is c.as_slice-counted.ensures.value c.as_slice-digests.ensures.value c.release.ensures.is in
    omega (arith, wrote_within (replicate 256 0) c.args.time i.order i.counted.items i.digests.items refl k e, k)

pub slice_bounds-put_released-end : goal.slice_bounds-put_released-end
slice_bounds-put_released-end g c =
    let i = c.self.inside in
    let p = c.release.new.out in
    let k : length p ≡ 256 = search rules in
    let e = told_by i.order c.args.time (replicate 256 0) c.in-Ok.is c.as_slice-counted.ensures.value c.as_slice-digests.ensures.value c.release.ensures.is in
    sym (length-take-le c.in-Ok.n p (omega (arith, wrote_within (replicate 256 0) c.args.time i.order i.counted.items i.digests.items refl k e, k)))

pub invariant_of-self : goal.invariant_of-self
invariant_of-self g c = narrow_after c.self.inside.order (view_of c.as_slice-counted.result.now c.as_slice-digests.result.now) c.args.time (replicate 256 0) c.release.ensures.is c.self.invariant

pub returns : goal.returns
returns g c =
    ran_from c.self.view_is
    (elim c.match-release.branch [
      | in-Ok w ↦
          let k : length c.release.new.out ≡ 256 = search rules in
          let e = told_by c.self.inside.order c.args.time (replicate 256 0) w.in-Ok.is c.as_slice-counted.ensures.value c.as_slice-digests.ensures.value c.release.ensures.is in
          ran_released (replicate 256 0) refl k e c.self.invariant w.counts.ensures (rw w.text-is w.put_released.ensures)
      | in-Err w ↦
          let e = told_by c.self.inside.order c.args.time (replicate 256 0) w.in-Err.is c.as_slice-counted.ensures.value c.as_slice-digests.ensures.value c.release.ensures.is in
          ran_refused (replicate 256 0) refl e (rw w.text-is w.put_refusal.ensures)
    ])
