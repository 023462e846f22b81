use Rattle.std.proofs.Common.{rules, ◌≡◌, ◌∙◌, sym, ap, not, ◌++◌, map, take, length}
use Rattle.rules.specs.Sets.{without, members_of, whole}
use Rattle.rules.specs.Release.{discards}
use Rattle.rules.specs.Run.{place_of}
use Rattle.rules.specs.GroupTurn.{turn_as}
use Rattle.release.proofs.Finishing.{whole_ready, handed_out, discarded, finish_room, discard_room}
use Rattle.release.proofs.group.finish_own.Goals as goal

pub returns-then-is_whole-clause-goes : goal.returns-then-is_whole-clause-goes
returns-then-is_whole-clause-goes c y =
    let h : c.hand_out.new.self.held.items ≡ without c.args.turn.now.group.guid c.args.set c.args.sets.now.held.items = search rules in
    let o : c.hand_out.new.out.items ≡ take 256 (c.args.out.now.items ++ map (λ e. place_of e) (members_of c.args.turn.now.group.guid c.args.set c.args.sets.now.held.items)) = search rules in
    let f : c.is_whole.result ≡ whole c.args.turn.now.group.guid c.args.set (turn_as c.args.turn.now).counted c.args.sets.now.held.items = search rules in
    handed_out (turn_as c.args.turn.now) c.args.set c.args.sets.now c.hand_out.new.self c.args.out.now.items c.hand_out.new.out.items h c.hand_out.ensures.counts o c.requires (sym f ∙ c.if-is_whole.true)

pub returns-then-is_whole-clause-waits : goal.returns-then-is_whole-clause-waits
returns-then-is_whole-clause-waits c =
    let f : c.is_whole.result ≡ whole c.args.turn.now.group.guid c.args.set (turn_as c.args.turn.now).counted c.args.sets.now.held.items = search rules in
    sym (ap not (whole_ready (turn_as c.args.turn.now) c.args.set c.args.sets.now.held.items (sym f ∙ c.if-is_whole.true)))

pub returns-then-is_whole-clause-room : goal.returns-then-is_whole-clause-room
returns-then-is_whole-clause-room c =
    let h : c.hand_out.new.self.held.items ≡ without c.args.turn.now.group.guid c.args.set c.args.sets.now.held.items = search rules in
    let o : c.hand_out.new.out.items ≡ take 256 (c.args.out.now.items ++ map (λ e. place_of e) (members_of c.args.turn.now.group.guid c.args.set c.args.sets.now.held.items)) = search rules in
    finish_room (turn_as c.args.turn.now) c.args.set c.args.sets.now c.hand_out.new.self c.args.out.now.items c.hand_out.new.out.items h o

pub returns-clause-goes : goal.returns-clause-goes
returns-clause-goes c y =
    let h : c.discard.new.self.held.items ≡ without c.args.turn.now.group.guid c.args.set c.args.sets.now.held.items = search rules in
    let o : c.discard.new.self.counts ≡ discards (length (members_of c.args.turn.now.group.guid c.args.set c.args.sets.now.held.items)) c.args.sets.now.counts = search rules in
    let f : c.is_whole.result ≡ whole c.args.turn.now.group.guid c.args.set (turn_as c.args.turn.now).counted c.args.sets.now.held.items = search rules in
    discarded (turn_as c.args.turn.now) c.args.set c.args.sets.now c.discard.new.self c.args.out.now.items c.args.out.now.items h o (sym f ∙ c.if-is_whole.false)

pub returns-clause-room : goal.returns-clause-room
returns-clause-room c =
    let h : c.discard.new.self.held.items ≡ without c.args.turn.now.group.guid c.args.set c.args.sets.now.held.items = search rules in
    discard_room (turn_as c.args.turn.now) c.args.set c.args.sets.now c.discard.new.self c.args.out.now.items c.args.out.now.items h
