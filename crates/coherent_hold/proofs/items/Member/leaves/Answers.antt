-- `leaves`: the writer is the same, and the set another.
use Rattle.std.proofs.Common.{rules}
use Rattle.coherent_hold.proofs.Members.{same_bytes, same_set}
use Rattle.coherent_hold.proofs.items.Member.leaves.Goals as goal

pub returns-then-eq : goal.returns-then-eq
returns-then-eq c = let a = c.args in rw (← same_bytes a.writer a.self.now.writer, ← same_set a.new_set a.self.now.set, ← c.eq.ensures, c.if-eq.true) (search rules)

pub returns-else-eq : goal.returns-else-eq
returns-else-eq c = let a = c.args in rw (← same_bytes a.writer a.self.now.writer, ← c.eq.ensures, c.if-eq.false)
