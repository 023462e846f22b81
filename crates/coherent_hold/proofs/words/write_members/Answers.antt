-- `write_members`: each member stands behind those before it.
use Rattle.std.proofs.Common.{◌∙◌, ◌*◌, ap}
use Rattle.std.proofs.Math.Seq.{paste}
use Rattle.coherent_hold.specs.Gate.{words_of}
use Rattle.coherent_hold.proofs.Written.{written_none, written_next}
use Rattle.coherent_hold.proofs.words.write_members.Goals as goal

pub loop-k-init : goal.loop-k-init
loop-k-init c = written_none c.args.out.now

pub loop-k-preserved : goal.loop-k-preserved
loop-k-preserved c = let k = c.loop-k.k in
    c.write_item.ensures ∙ ap (λ i. paste c.loop-k.out (k * 5) (words_of i) 5) c.from.ensures
    ∙ written_next c.args.members.now k _ c.args.out.now c.loop-k.out c.loop-k-test.true c.loop-k.invariant
