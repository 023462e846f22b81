use Rattle.std.proofs.Common.{◌∙◌}
use Rattle.line_input.proofs.Ends.{has_is}
use Rattle.line_input.proofs.Lines.has_line.Goals as goal

pub returns : goal.returns
returns g c = c.is_some.ensures ∙ has_is c.args.self.now.ahead c.line_end.result c.line_end.ensures
