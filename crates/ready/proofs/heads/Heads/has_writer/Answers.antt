use Rattle.std.proofs.Common.{◌∙◌, ℕ, Bool, rules, tests}
use Rattle.std.proofs.lemmas.Iterator.{YieldsList-from_slice}
use Rattle.std.proofs.lemmas.Iterator.Search.{any_from_yields_List}
use Rattle.guids.specs.Guid.{same_guid}
use Rattle.rules.specs.declared.entry.Entry.{Entry}
use Rattle.ready.specs.Places.{passes_at}
use Rattle.ready.proofs.Readers.{any_there}
use Rattle.ready.proofs.heads.Heads.has_writer.Goals as goal

pub returns : goal.returns
returns c =
    let ps = c.args.self.now.pending.now in
    let p : Entry ℕ → Bool = λ e. same_guid e.writer c.args.writer in
    any_from_yields_List (λ i. passes_at p ps i) _ _ _ c.any.ensures.ran (YieldsList-from_slice _ cc) (λ x r q k. search (rules, tests)) ∙ any_there ps p c.args.self.now.places.now
