-- `pass`: an end leaves the list as it was, any other item is the one item written.
use Rattle.std.proofs.Common.{◌∙◌, ap, sym}
use Rattle.coherent_hold.specs.Gate.{written, item_as, kind_as}
use Rattle.coherent_hold.proofs.Written.{written_none, written_one}
use Rattle.coherent_hold.proofs.GateCalls.{passed_other}
use Rattle.coherent_hold.proofs.gate.pass.Goals as goal

pub returns-in-End-clause-list : goal.returns-in-End-clause-list
returns-in-End-clause-list c = rw c.in-End.is (written_none c.args.out.now)

pub returns-in-Change-clause-list : goal.returns-in-Change-clause-list
returns-in-Change-clause-list c = let i = item_as c.args.item in
    let o = c.args.out.now in
    c.write_item.ensures ∙ written_one o i ∙ ap (λ x. written x o) (sym (passed_other i c.in-Change.field-0 (ap kind_as c.in-Change.is)))
