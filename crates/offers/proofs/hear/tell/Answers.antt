use Rattle.std.proofs.Common.{◌≡◌, ◌∙◌, ◌<◌, sym, ap, length, refl, None, []}
use Rattle.rules.specs.declared.state.Writer.{Writer}
use Rattle.rules.specs.State.{is_writer, knows_writer}
use Rattle.rules.specs.Marks.{tell}
use Rattle.rules.specs.Offer.{with_marks, pair33}
use Rattle.store.specs.Store.{state_of}
use Rattle.offers.proofs.Hearing.{told_at, told_new, room_for_new}
use Rattle.offers.proofs.hear.tell.Goals as goal

pub returns-in-Some-clause-told : goal.returns-in-Some-clause-told
unfolding with_marks
returns-in-Some-clause-told g c f h =
    let s = c.args.store.now in
    let x = c.args.sender in
    let z : Writer = record { group = []; writer = []; seen = []; gaps = []; first = 0; last = 0; current = 0; digest = None; secure = None } in
    let d = h _ c.change.new.arg2 (record { shown = _; shows = refl; left = _; met = c.change.ensures; leaves = refl }) in
    let t = told_at x.group x.writer f s.writers.items c.in-Some.i z (sym c.in-Some.is ∙ c.requires.known) in
    ap (λ ws. with_marks s.groups.items ws (state_of s)) (c.set.ensures.items ∙ rw (d, c.as_slice.ensures.value) (sym t))

pub returns-in-None-clause-told : goal.returns-in-None-clause-told
unfolding with_marks pair33 knows_writer
returns-in-None-clause-told g c f h =
    let s = c.args.store.now in
    let x = c.args.sender in
    let l = s.writers.items in
    let none = sym c.in-None.is ∙ c.requires.known in
    let room : length l < 32 = room_for_new (λ y. is_writer x.group x.writer y) 32 l none c.requires.room in
    let d = h c.new-writer.result c.change-in-None.new.arg2 (record { shown = _; shows = refl; left = _; met = c.change-in-None.ensures; leaves = refl }) in
    let k : c.push.new.self.items ≡ tell x.group x.writer f l = c.push.ensures.items room ∙ rw (d, c.new-writer.ensures) (sym (told_new x.group x.writer f l none)) in
    ap (λ ws. with_marks s.groups.items ws (state_of s)) k
