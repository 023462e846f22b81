use Rattle.calls.proofs.Listing.{put_afresh}
use Rattle.calls.proofs.list.make_room.Goals as goal

pub returns-clause-put : goal.returns-clause-put
returns-clause-put c s = put_afresh c.args.out.now c.put_answers-behind.new.out c.args.at c.put_answers-behind.result c.args.answers.now.items c.clear.new.self.items s c.put_answers-behind.ensures.put c.clear.ensures
