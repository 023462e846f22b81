use Rattle.std.proofs.Common.{◌≡◌, take}
use Rattle.page.specs.Rows.{ReadRows}
use Rattle.page.proofs.fill.read_all.Given as goal

abbrev pub invariant-loop-e : goal.invariant-loop-e
invariant-loop-e l = ReadRows l.pending l.store.groups.items (take l.e-index l.entries) l.fn.page l.page × (l.read ≡ l.e-index)
