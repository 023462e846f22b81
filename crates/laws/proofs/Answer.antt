-- What a refused call leaves as it was.
use Rattle.std.proofs.Common.{ap}
use Rattle.laws.specs.Answer.{Answer, refused, answered, Kept}

-- kept, it is kept under any function
pub kept_under : {X S T : Type 0} (f : S → T) (a : Answer X) (s t : S) → Kept a s t → Kept a (f s) (f t)
unfolding Kept
kept_under f (refused n) s t e = ap f e
kept_under f (answered x) s t u = u
