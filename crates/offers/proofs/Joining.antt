-- What an end that joins leaves.
use Rattle.std.specs.Prelude.{ℕ, ◌+◌, ◌≤◌, suc, true, false, not, ◌&&◌, leb, List, length, ◌≡◌}
use Rattle.std.proofs.Common.{refl, arith}
use borrow.Author.Tests.{leb-false}
use Rattle.laws.specs.Lists.{filter, list_any, find}
use Rattle.laws.proofs.Lists.{keep_fewer, length_keep}
use Rattle.rules.specs.declared.entry.Entry.{Entry}
use Rattle.rules.specs.declared.state.Group.{Group}
use Rattle.rules.specs.declared.state.Writer.{Writer}
use Rattle.rules.specs.declared.call.Offer.{Offer}
use Rattle.rules.specs.declared.call.Fate.{Fate}
use Rattle.rules.specs.declared.call.Fate.TheVariants.{Stored, Joined, Late}
use Rattle.rules.specs.State.{State, stored}
use Rattle.rules.specs.Offer.{replaced, join, mark_of, adds, with_marks}
use Rattle.sets.proofs.Keeping.{length-keep_end}

-- of p entries and those of the list an end that joins makes 256 at most, where it adds to fewer
pub room_to_join : (e : Entry ℕ) (l : List (Entry ℕ)) (p : ℕ) → p + length l ≤ 256 → not (list_any (λ h. replaced e h) l) && leb 256 (p + length l) ≡ false → p + suc (length (filter (λ h. not (replaced e h)) l)) ≤ 256
room_to_join e l p h k =
    (elim (list_any (λ h. replaced e h) l) as (λ b. list_any (λ h. replaced e h) l ≡ b → not b && leb 256 (p + length l) ≡ false → p + suc (length (filter (λ h. not (replaced e h)) l)) ≤ 256) [
      | true ↦ λ a d. let f = keep_fewer (λ h. replaced e h) l a in omega arith
      | false ↦ λ a d. omega (arith, leb-false 256 (p + length l) d, length_keep (λ h. not (replaced e h)) l)
    ]) refl k

pub length-join : (e : Entry ℕ) (l : List (Entry ℕ)) → length (join e l) ≡ suc (length (filter (λ h. not (replaced e h)) l))
unfolding join
length-join e l = length-keep_end (mark_of (find (λ h. replaced e h) l)) e l

-- marks take no room
pub same_room : (f : Fate) (gs : List Group) (ws : List Writer) (s : State ℕ) (o : Offer ℕ) → adds f (with_marks gs ws s) o && leb 256 (stored (with_marks gs ws s)) ≡ adds f s o && leb 256 (stored s)
unfolding adds stored with_marks
same_room Stored gs ws s o = refl
same_room Joined gs ws s o = refl
same_room Late gs ws s o = refl
