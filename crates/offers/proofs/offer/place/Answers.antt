use Rattle.std.proofs.Common.{◌≡◌, ℕ, ◌+◌, ◌<◌, ap, arith, length, false}
use Rattle.std.specs.Prelude.{◌&&◌, leb}
use borrow.Author.Tests.{leb-false}
use Rattle.rules.specs.State.{State, stored}
use Rattle.rules.specs.declared.call.Offer.{Offer}
use Rattle.rules.specs.declared.call.Fate.TheVariants.{Stored}
use Rattle.store.specs.Store.{state_of}
use Rattle.rules.specs.Offer.{entry_of, adds, place}
use Rattle.offers.proofs.Joining.{room_to_join, length-join}
use Rattle.offers.proofs.offer.place.Goals as goal

-- room for one more
fits : (s : State ℕ) (o : Offer ℕ) → adds Stored s o && leb 256 (stored s) ≡ false → length s.pending + length s.held < 256
unfolding adds stored
fits s o h = leb-false 256 (length s.pending + length s.held) h

pub invariant_of-store : goal.invariant_of-store
invariant_of-store c =
    let s = c.args.store.now in
    let room = fits (state_of s) c.args.o (rw c.in-Stored.is at c.requires) in
    record { few = omega (arith, c.push.ensures.len (omega arith)) }

pub returns-in-Stored : goal.returns-in-Stored
unfolding place
returns-in-Stored c =
    let s = c.args.store.now in
    let room = fits (state_of s) c.args.o (rw c.in-Stored.is at c.requires) in
    rw (c.in-Stored.is, c.push.ensures.items (omega arith), c.entry_of.ensures)

pub join-requires : goal.join-requires
unfolding adds stored
join-requires c =
    let s = c.args.store.now in
    let room = room_to_join (entry_of c.args.o) s.sets.held.items (length s.pending.items) s.few (rw c.in-Joined.is at c.requires) in
    rw c.entry_of-in-Joined.ensures (omega arith)

pub invariant_of-store-in-Joined : goal.invariant_of-store-in-Joined
unfolding adds stored
invariant_of-store-in-Joined c =
    let s = c.args.store.now in
    let room = room_to_join (entry_of c.args.o) s.sets.held.items (length s.pending.items) s.few (rw c.in-Joined.is at c.requires) in
    let e = rw c.entry_of-in-Joined.ensures at c.join.ensures.held in
    record { few = omega (arith, ap length e, length-join (entry_of c.args.o) s.sets.held.items) }
