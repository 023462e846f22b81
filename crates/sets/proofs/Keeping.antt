-- A kept end, where there is room for it.
use Rattle.std.proofs.Common.{◌≡◌, ℕ, suc, ◌<◌, ◌≤◌, List, [], ◌∷◌, length, take, not, arith, length-append}
use Rattle.std.specs.Prelude.{Option}
use lib.Seq.{take_all}
use Rattle.laws.specs.Lists.{filter}
use Rattle.laws.proofs.Lists.{length_keep}
use Rattle.rules.specs.declared.entry.Entry.{Entry}
use Rattle.rules.specs.Offer.{replaced, keep_end, marked}

pub length-keep_end : (m : Option ℕ) (e : Entry ℕ) (l : List (Entry ℕ)) → length (keep_end m e l) ≡ suc (length (filter (λ h. not (replaced e h)) l))
unfolding keep_end
length-keep_end m e l = omega (arith, length-append (filter (λ h. not (replaced e h)) l) (marked m e ∷ []))

-- it is one more at most
pub kept_one : (m : Option ℕ) (e : Entry ℕ) (l : List (Entry ℕ)) → length (keep_end m e l) ≤ suc (length l)
kept_one m e l = omega (arith, length-keep_end m e l, length_keep (λ h. not (replaced e h)) l)

pub kept_fits : (m : Option ℕ) (e : Entry ℕ) (l : List (Entry ℕ)) → length (filter (λ h. not (replaced e h)) l) < 256 → take 256 (keep_end m e l) ≡ keep_end m e l
kept_fits m e l h = take_all 256 (keep_end m e l) (omega (arith, length-keep_end m e l))
