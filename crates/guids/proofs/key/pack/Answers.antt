-- `pack` meets its contract: the bytes of the two words are the GUID's.
use Rattle.std.proofs.Common.{rules, ◌≡◌, ℕ, length, Fits, w8, get_or}
use Rattle.guids.specs.Keys.{key_as}
use Rattle.guids.proofs.Keys.{guid_words}
use Rattle.guids.proofs.key.pack.Goals as goal

pub returns : goal.returns
unfolding key_as
returns c = let g = c.args.g in
    let len : length g ≡ 16 = search rules in
    let byte : (j : ℕ) → Fits w8 (get_or g j 0) = λ j. search rules in
    rw (c.from_be_bytes.ensures, c.from_be_bytes-2.ensures) (guid_words g len (λ j. (byte j).fits))
