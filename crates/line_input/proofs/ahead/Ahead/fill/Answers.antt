use Rattle.std.proofs.Common.{List, ℕ, subst, sym}
use Rattle.std.specs.Io.KnownBytes.{Consumes}
use Rattle.line_input.proofs.Ends.{read_bytes, read_left}
use Rattle.line_input.proofs.ahead.Ahead.fill.Goals as goal

pub returns-clause-all : goal.returns-clause-all
returns-clause-all g c = read_left _ c.clear.ensures.0

pub returns-clause-bytes : goal.returns-clause-bytes
returns-clause-bytes g c = let R = g.R.Read.remaining in
    subst (λ (l : List ℕ). Consumes (R c.args.reader.now) (R c.read.new.self) l) (sym (read_left _ c.clear.ensures.0))
    (read_bytes (R c.args.reader.now) (R c.read.new.self) c.read.result c.read.new.buf c.unwrap_or-self.result c.read.ensures.bytes c.unwrap_or-self.ensures)
