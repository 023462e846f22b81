-- `compare` meets its contract: GUIDs compare as the numbers that their bytes make.
use Rattle.std.proofs.Common.{rules, ◌≡◌, ◌∙◌, ap₂, ℕ, length, Fits, w8, get_or, nat_cmp}
use Rattle.guids.proofs.Numbers.{guid_cmp}
use Rattle.guids.proofs.guid.compare.Goals as goal

pub returns : goal.returns
returns c = let a = c.args.a in
    let b = c.args.b in
    let la : length a ≡ 16 = search rules in
    let lb : length b ≡ 16 = search rules in
    let byte_a : (j : ℕ) → Fits w8 (get_or a j 0) = λ j. search rules in
    let byte_b : (j : ℕ) → Fits w8 (get_or b j 0) = λ j. search rules in
    c.cmp.ensures ∙ ap₂ nat_cmp c.from_be_bytes.ensures c.from_be_bytes-2.ensures ∙ guid_cmp a b la lb (λ j. (byte_a j).fits) (λ j. (byte_b j).fits)
