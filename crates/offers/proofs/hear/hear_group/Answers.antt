use Rattle.std.proofs.Common.{◌≡◌, ◌∙◌, ◌≤◌, sym, ap, length}
use Rattle.std.specs.List.{position, insert}
use Rattle.guids.specs.Guid.{before}
use Rattle.rules.specs.State.{is_group, knows_group, new_group}
use Rattle.rules.specs.Marks.{hear_group}
use Rattle.rules.specs.Offer.{with_marks, ninth}
use Rattle.store.specs.Store.{state_of}
use Rattle.offers.proofs.Hearing.{heard_at, heard_known, none_found, found_inserted, place_within, own_group, room_for_new}
use Rattle.offers.proofs.hear.hear_group.Goals as goal

pub returns-in-Some-clause-heard : goal.returns-in-Some-clause-heard
unfolding with_marks
returns-in-Some-clause-heard c =
    let s = c.args.store.now in
    let k = heard_known c.args.sender.group s.groups.items c.in-Some.at (sym c.in-Some.is ∙ ap (λ x. x.group_at) c.requires.known) in
    ap (λ gs. with_marks gs s.writers.items (state_of s)) (sym k)

-- there is room for the group
inserted : (c : goal.After-store-1) → c.insert.new.self.items ≡ insert c.args.store.now.groups.items c.unwrap_or-at.result c.new.result
unfolding ninth knows_group
inserted c = c.insert.ensures.items (room_for_new (λ x. is_group c.args.sender.group x) 8 c.args.store.now.groups.items (sym c.in_default.is ∙ ap (λ x. x.group_at) c.requires.known) c.requires.room)

pub returns-clause-heard : goal.returns-clause-heard
unfolding with_marks knows_group
returns-clause-heard c =
    let s = c.args.store.now in
    let l = s.groups.items in
    let g = c.args.sender.group in
    let n = none_found (λ x. is_group g x) l (sym c.in_default.is ∙ ap (λ x. x.group_at) c.requires.known) in
    let k : c.insert.new.self.items ≡ hear_group g l = inserted c ∙ rw (c.unwrap_or-at.ensures, c.new.ensures, c.first_behind.ensures, c.len.ensures.value) (heard_at g l n) in
    ap (λ gs. with_marks gs s.writers.items (state_of s)) k

pub returns-clause-at : goal.returns-clause-at
returns-clause-at c =
    let l = c.args.store.now.groups.items in
    let g = c.args.sender.group in
    let at : c.unwrap_or-at.result ≤ length l = rw (c.unwrap_or-at.ensures, c.first_behind.ensures, c.len.ensures.value) (place_within (λ x. before g x.guid) l) in
    let e = found_inserted (λ x. is_group g x) l c.unwrap_or-at.result (new_group g) at (sym c.in_default.is ∙ ap (λ x. x.group_at) c.requires.known) (own_group g) in
    e ∙ ap (λ k. position (λ x. is_group g x) k) (rw (sym c.new.ensures) (sym (inserted c)))
