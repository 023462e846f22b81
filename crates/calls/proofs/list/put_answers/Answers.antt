use Rattle.std.proofs.Common.{rules, ◌∙◌, sym, subst, ◌≤◌, ℕ, List, length, arith}
use Rattle.calls.proofs.Listing.{answers_put, put_room}
use Rattle.calls.proofs.list.put_answers.Goals as goal

pub returns-clause-put : goal.returns-clause-put
returns-clause-put c = answers_put c.args.out.now c.args.at _ c.min-fitting.result c.args.answers.now.items _ (omega arith) (omega arith) (search rules)
