use Rattle.std.proofs.Common.{◌∷◌, ◌∙◌, ℕ, ap, take, add-one}
use Rattle.calls.specs.Said.{places_text}
use Rattle.calls.proofs.Saying.{said, said_both, said_as, places_next}
use Rattle.calls.proofs.say.put_samples.Goals as goal

pub loop-place-init : goal.loop-place-init
unfolding places_text
loop-place-init g c = said c.put_bytes.ensures

pub loop-place-preserved : goal.loop-place-preserved
loop-place-preserved g c =
    let l = c.loop-place in
    let s = c.args.places.now in
    said_as (ap (λ (k : ℕ). 111 ∷ 117 ∷ 116 ∷ places_text (take k s)) (add-one l.place-index) ∙ ap (λ t. 111 ∷ 117 ∷ 116 ∷ t) (places_next s l.place-index c.loop-place-test.true))
    (said_both l.invariant c.put_sample.ensures)
