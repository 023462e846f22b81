-- `same` meets its contract: the same bytes make the same number.
use Rattle.std.proofs.Common.{rules, ◌≡◌, ◌∙◌, ap, ap₂, ℕ, length, Fits, w8, get_or, nat_eq}
use Rattle.std.specs.Ordering.{is_eq}
use Rattle.guids.specs.Guid.{same_guid}
use Rattle.guids.proofs.Numbers.{guid_cmp, eq_cmp}
use Rattle.guids.proofs.guid.same.Goals as goal

pub returns : goal.returns
unfolding same_guid
returns c = let a = c.args.a in
    let b = c.args.b in
    let la : length a ≡ 16 = search rules in
    let lb : length b ≡ 16 = search rules in
    let byte_a : (j : ℕ) → Fits w8 (get_or a j 0) = λ j. search rules in
    let byte_b : (j : ℕ) → Fits w8 (get_or b j 0) = λ j. search rules in
    ap₂ nat_eq c.from_be_bytes.ensures c.from_be_bytes-2.ensures ∙ eq_cmp _ _ ∙ ap is_eq (guid_cmp a b la lb (λ j. (byte_a j).fits) (λ j. (byte_b j).fits))
