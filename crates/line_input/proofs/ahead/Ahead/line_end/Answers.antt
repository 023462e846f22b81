use Rattle.std.proofs.Common.{List, ℕ, subst}
use Rattle.memchr.specs.Find.{IsFirstByte, is_byte}
use Rattle.line_input.specs.Input.{left}
use Rattle.line_input.proofs.Ends.{end_is}
use Rattle.line_input.proofs.ahead.Ahead.line_end.Goals as goal

pub returns : goal.returns
returns c =
    end_is (left c.args.self.now) c.memchr.result (subst (λ (s : List ℕ). IsFirstByte (is_byte 10) s c.memchr.result) c.left.ensures c.memchr.ensures)
