use Rattle.std.proofs.Common.{arith, rules, tests, []}
use Rattle.release.specs.Released.{view_of}
use Rattle.release.proofs.Groups.{released_more, same_count}
use Rattle.release.proofs.release.first_to_go.Goals as goal

pub loop-i-init : goal.loop-i-init
loop-i-init c s p r = r

pub loop-i-preserved : goal.loop-i-preserved
loop-i-preserved c s p r =
    let v = view_of c.args.counted.now c.args.digests.now in
    let k = c.loop-i.invariant s p r in
    let n = same_count v c.args.time s c.loop-i.i c.args.store.now p k in
    released_more v c.args.time s c.loop-i.i (record { guid = []; committed = 0; announced = 0 }) c.args.store.now c.args.store.now p p (omega (arith, n)) k (c.stops_at.ensures p (search (rules, tests)))
