use Rattle.calls.proofs.Saying.{said}
use Rattle.calls.proofs.Standing.{pushed}
use Rattle.calls.proofs.Running.{ran_from, ran_digest}
use Rattle.calls.proofs.run.Calls.digest.Goals as goal

pub returns : goal.returns
returns g c =
    let p = c.try_push in
    ran_from c.self.view_is (ran_digest (said c.put_bytes.ensures) c.args.row p.new.self.items (pushed _ c.args.row c.self.inside.digests p.new.self p.result p.ensures.ok p.ensures.err p.ensures.full))
