-- `tbf::TbfHold::hold` meets its contract, from what its steps ensure.
use Prim.{tt}
use Prim.Native.Nat.{◌<◌}
use mathlib.Core.Path.{◌≡◌, refl, sym, ◌∙◌}
use mathlib.Core.Bool.{true, false, not, ◌&&◌}
use native.Mathlib.Omega.{arith}
use borrow.Author.Tests.{le-leb, lt-leb}
use lib.Dec.{leb}
use lib.ListN.{length}
use Rattle.laws.specs.Answer.{Kept}
use Rattle.laws.specs.Lists.{list_any, index_of}
use Rattle.filter_hold.specs.Tbf.{hold, insert, is_of, follows}
use Rattle.filter_hold.proofs.TbfLaws.{held_any, full_at, replaces, few, room, place_index}
use Rattle.filter_hold.proofs.tbf.TbfHold.hold.Goals as goal
use Rattle.filter_hold.proofs.tbf.TbfHold.hold.Goals.{else-is_full-via-then-is_full+else-not-holds, else-is_full-via-else-is_full}

pub returns-then-wide : goal.returns-then-wide
unfolding hold Kept
returns-then-wide c = record { is = rw (le-leb 1000000000 c.args.separation.nanosec (omega arith)); kept = refl }

pub returns-then-not-holds : goal.returns-then-not-holds
unfolding hold Kept
returns-then-not-holds c =
    let l = c.args.self.now.held.items in
    let none : list_any (λ x. is_of c.args.instance x) l ≡ false = sym (held_any _ _) ∙ sym c.holds.ensures ∙ c.if-not-holds.true in
    let full : leb 32 (length l) ≡ true = sym (full_at _ c.is_full.ensures.fits) ∙ sym c.is_full.ensures.value ∙ c.if-is_full.true in
    record { is = rw (lt-leb 1000000000 c.args.separation.nanosec (omega arith), none, full); kept = refl }

pub returns : goal.returns
unfolding hold insert Kept
returns c =
    let a = c.args in
    let l = a.self.now.held.items in
    let taken : not (list_any (λ x. is_of a.instance x) l) && leb 32 (length l) ≡ false = elim c.else-is_full.branch [
      | else-is_full-via-then-is_full+else-not-holds w ↦ replaces c.args.instance l (sym w.holds.ensures ∙ w.if-not-holds.false)
      | else-is_full-via-else-is_full w ↦ few c.args.instance l c.is_full.ensures.fits (sym c.is_full.ensures.value ∙ w.if-is_full.false)
    ] in
    let room : length c.supersede.new.self.held.items < 32 = rw c.supersede.ensures (room _ _ c.is_full.ensures.fits taken) in
    let place : c.place-place.result ≡ index_of (λ x. follows a.instance x) c.supersede.new.self.held.items = c.place-place.ensures ∙ place_index _ _ in
    record {
      is = rw (lt-leb 1000000000 a.separation.nanosec (omega arith), taken, c.insert.ensures.items room, place, c.supersede.ensures, c.time_after-due.ensures);
      kept = tt;
    }
