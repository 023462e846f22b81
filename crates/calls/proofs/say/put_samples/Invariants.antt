use Rattle.std.proofs.Common.{◌∷◌, take}
use Rattle.calls.specs.Said.{Said, places_text}
use Rattle.calls.proofs.say.put_samples.Given as goal

abbrev pub invariant-loop-place : goal.invariant-loop-place
invariant-loop-place g l = Said g.row.N (111 ∷ 117 ∷ 116 ∷ places_text (take l.place-index l.places)) l.fn.text.items l.text.items
