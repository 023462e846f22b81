use Rattle.std.proofs.Common.{◌≡◌, ◌*◌, take, drop}
use Rattle.page.specs.Rows.{rows_as}
use Rattle.page.specs.Words.{listed}
use Rattle.page.proofs.fill.write.Given as goal

abbrev pub invariant-loop-k : goal.invariant-loop-k
invariant-loop-k l = l.list ≡ listed (take l.k (rows_as l.page)) (drop (4 * l.k) l.fn.list)
