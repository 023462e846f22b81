-- `tbf::time_after` meets its contract: what is carried, in seconds, and what is left make up the same number of nanoseconds.
use Prim.Native.Nat.{◌+◌, min}
use lib.IntN.{pos}
use mathlib.Core.Path.{◌≡◌, sym, ap, ◌∙◌}
use mir.Syntax.{w32}
use mir.Val.{to_z, of_z, SFits}
use native.Mathlib.Omega.{arith}
use borrow.Author.Rules.{rules}
use Rattle.filter_hold.specs.Tbf.{time_after, from_zero}
use Rattle.filter_hold.proofs.TbfLaws.{not_negative, stopped, time_split}
use Rattle.filter_hold.proofs.tbf.time_after.Goals as goal

pub returns : goal.returns
unfolding time_after
returns c =
    let f : SFits w32 c.args.at.sec = search rules in
    let back : to_z w32 (of_z w32 c.args.at.sec) ≡ c.args.at.sec = search rules in
    let n : c.unwrap_or.result ≡ from_zero c.args.at.sec = c.unwrap_or.ensures ∙ not_negative c.args.at.sec _ (rw back at c.try_from.ensures) f in
    let s : c.unwrap_or-2.result ≡ pos (min (c.unwrap_or.result + c.from-3.result + c.carry-own.result.0 + c.carry-more.result.0) 2147483647) = c.unwrap_or-2.ensures ∙ stopped _ _ c.try_from-2.ensures in
    let z : to_z w32 (of_z w32 c.unwrap_or-2.result) ≡ c.unwrap_or-2.result = search rules in
    ap (λ z. record { sec = z; nanosec = c.carry-more.result.1 }) (z ∙ s)
    ∙ sym (time_split _ c.carry-more.result.1 _ (omega arith) (omega arith))
