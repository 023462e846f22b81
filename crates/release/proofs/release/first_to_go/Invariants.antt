use Rattle.std.proofs.Common.{ℕ, List}
use Rattle.store.specs.declared.Store.{Store}
use Rattle.release.specs.Released.{view_of}
use Rattle.release.specs.GroupSteps.{ReleasedTo}
use Rattle.release.proofs.release.first_to_go.Given as goal

abbrev pub invariant-loop-i : goal.invariant-loop-i
invariant-loop-i l = (s : Store) (p : List ℕ) → ReleasedTo (view_of l.counted l.digests) l.time l.from s l.store p → ReleasedTo (view_of l.counted l.digests) l.time l.i s l.store p
