use Rattle.std.proofs.Common.{ap, sym, ◌∙◌, length}
use Rattle.std.proofs.lemmas.List.{take_rest}
use Rattle.fields.specs.Left.{behind}
use Rattle.fields.proofs.Left.{newline_behind, nothing_behind, behind_at}
use Rattle.fields.proofs.line.Fields.next_line.Goals as goal

pub returns-in-Some : goal.returns-in-Some
returns-in-Some c =
    let k = c.line_len-len in
    let e = take_rest c.args.self.rest.now k.result ∙ behind_at c.args.self k.result k.ensures.len in
    newline_behind (behind c.args.self) _ _ (sym e ∙ c.in-Some.ensures.cases.0)

pub returns-in-None : goal.returns-in-None
returns-in-None c =
    let k = c.line_len-len in
    let e = take_rest c.args.self.rest.now k.result ∙ behind_at c.args.self k.result k.ensures.len in
    nothing_behind (behind c.args.self) (sym (ap length e) ∙ c.in-None.ensures.cases)
