use Rattle.std.proofs.Common.{◌∙◌}
use Rattle.std.proofs.lemmas.List.{take_rest}
use Rattle.fields.proofs.Left.{tail_stops, unread_tail, passes}
use Rattle.fields.proofs.line.Fields.pass_unread.Goals as goal

pub from_end-requires : goal.from_end-requires
from_end-requires c =
    let k = c.field_len-len in
    rw (take_rest c.args.behind.now k.result, k.ensures.len) (tail_stops c.args.self.now.newlines c.args.behind.now)

pub returns : goal.returns
returns c =
    let f = c.args.self.now in
    let k = c.field_len-len in
    passes f c.from_end.result _ c.requires.more
    (take_rest c.args.behind.now k.result ∙ rw k.ensures.len (unread_tail f c.args.behind.now c.requires))
    c.from_end.ensures.fields
    c.from_end.ensures.behind
