-- The third demand, for every timeout and every list of calls.
use Prim.Native.Nat.{ℕ}
use mathlib.Core.List.{List}
use lib.ListN.{take}
use Rattle.rules.specs.State.{fresh}
use Rattle.rules.specs.Run.{Call}
use Rattle.rules.specs.Claim.{AtEnd, Demand3}
use Rattle.rules.proofs.NamesRun.{answers_same, state_same, waiting_same}
use Rattle.rules.proofs.Fates.{one_fate, sum, discarded_count}
use Rattle.rules.proofs.Bound.{bound}
use Rattle.rules.proofs.Reached.{reached}
use Rattle.rules.proofs.First.{named_first, answers_first, state_after}

at_end : (t : ℕ) (cs : List (Call ℕ)) → AtEnd t cs
at_end t cs = record {
  answers_same = answers_same t cs;
  state_same = state_same t cs;
  waiting_same = waiting_same t cs;
  one_fate = one_fate t cs;
  sum = sum t cs;
  discarded_count = discarded_count t cs;
  bound = bound t cs;
  reached = reached t cs;
}

pub demand3 : (t : ℕ) (cs : List (Call ℕ)) → Demand3 t cs
demand3 t cs = record {
  names_first = λ n. named_first n 0 cs;
  answers_first = λ n. answers_first n (fresh t) cs;
  state_after = λ n h. state_after n (fresh t) cs h;
  each = λ n. at_end t (take n cs);
  end = at_end t cs;
}
