use Rattle.std.proofs.Common.{◌∙◌, bit_or, rules, tests}
use Rattle.std.proofs.lemmas.Iterator.{YieldsList-from_slice}
use Rattle.std.proofs.lemmas.Iterator.Consumers.{fold_from_yields_List}
use Rattle.ready.specs.Places.{bit_at_place}
use Rattle.ready.proofs.Readers.{readers_there}
use Rattle.ready.proofs.heads.Heads.new.Goals as goal

pub invariant_of-result : goal.invariant_of-result
invariant_of-result c =
    let ps = c.args.pending.now in
    let l = c.args.places.now in
    record { marked = fold_from_yields_List _ (λ b i. bit_or b (bit_at_place ps i)) 0 _ c.fold-readers.ensures.ran (YieldsList-from_slice l cc) (λ a x b q k. search (rules, tests)) ∙ readers_there ps l }
