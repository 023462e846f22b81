use Rattle.std.proofs.Common.{◌≡◌, ◌-◌, ◌≤◌, length, take, drop, replicate}
use Rattle.fixed_list.proofs.list.FixedList.truncate.Given as goal

-- from `end` on blanks; before `len` nothing changed
abbrev pub invariant-loop-end : goal.invariant-loop-end
invariant-loop-end g l = (l.len ≤ l.end) × (l.end ≤ g.row.N) × (length l.self-inside.places ≡ g.row.N)
    × (drop l.end l.self-inside.places ≡ replicate (g.row.N - l.end) g.T.Blank.blank)
    × (take l.len l.self-inside.places ≡ take l.len l.initial.self-inside.places)

abbrev pub decreases-loop-end : goal.decreases-loop-end
decreases-loop-end g l = l.end
