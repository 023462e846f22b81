-- `words_of`: the five words of the definition.
use native.Mathlib.Omega.{arith}
use Rattle.guids.specs.Keys.{key_as}
use Rattle.guids.proofs.Keys.{high_word, low_word}
use Rattle.coherent_hold.proofs.words.words_of.Goals as goal

pub returns : goal.returns
unfolding key_as
returns c = let p = c.pack-key in
    let h = high_word _ p.result.hi p.result.lo (omega arith) (omega arith) p.ensures in
    let l = low_word _ p.result.hi p.result.lo (omega arith) (omega arith) p.ensures in
    rw (c.tag_of.ensures, ← h, ← l, c.bits_of_mark.ensures)
