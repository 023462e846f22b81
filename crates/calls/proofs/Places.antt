-- The places that a release writes print as the samples that it hands out.
use Prim.Native.Nat.{ℕ, ◌+◌, ◌*◌, ◌/◌, ◌%◌, ◌^◌, ◌≤◌, ◌<◌}
use mathlib.Core.Path.{◌≡◌, refl, sym, ap, ◌∙◌}
use mathlib.Core.Bool.{true, false, not, ◌&&◌, not-not}
use mathlib.Core.List.{List, [], ◌∷◌, ◌++◌, map}
use native.Mathlib.Omega.{arith}
use borrow.Author.Tests.{ltb-true}
use lib.Dec.{ltb}
use lib.ListN.{length, length-append}
use Rattle.decimal.specs.Print.{digits_of}
use Rattle.laws.specs.Lists.{list_all}
use Rattle.rules.specs.Entry.{is_sample_w, is_sample}
use Rattle.rules.specs.declared.entry.What.{What}
use Rattle.rules.specs.declared.entry.What.TheVariants.{Sample, End}
use Rattle.rules.specs.declared.entry.Entry.{Entry}
use Rattle.rules.specs.Run.{place_w, place_of}
use Rattle.laws.proofs.Lists.{not_both, and_left, and_right}
use Rattle.calls.specs.Run.{item_w, sample_text, samples_text}
use Rattle.calls.specs.Said.{place_text, places_text}
use Rattle.calls.specs.Narrow.{wide_w, wide}
use Rattle.decimal.proofs.Lengths.{printed_low}

place_text_lem : (r : ℕ) (w : What ℕ) → is_sample_w w ≡ true → not (wide_w r w) ≡ true
    → (32 ∷ digits_of (place_w r w / 2 ^ 32) ++ (58 ∷ digits_of (place_w r w % 2 ^ 32)) ≡ 32 ∷ digits_of r ++ (58 ∷ digits_of (item_w w)))
    × (length (32 ∷ digits_of r ++ (58 ∷ digits_of (item_w w))) ≤ 15)
unfolding wide_w
place_text_lem r (End u) s h = not_both false s refl
place_text_lem r (Sample i) s h =
    let n = sym (not-not (ltb r 256 && ltb i (2 ^ 32))) ∙ h in
    let a : r < 256 = ltb-true r 256 (and_left (ltb r 256) _ n) in
    let b : i < 2 ^ 32 = ltb-true i (2 ^ 32) (and_right (ltb r 256) _ n) in
    let x : (r * 2 ^ 32 + i) / 2 ^ 32 ≡ r = omega (arith, b) in
    let y : (r * 2 ^ 32 + i) % 2 ^ 32 ≡ i = omega (arith, b) in (
      rw (x, y),
      omega (arith, length-append (32 ∷ digits_of r) (58 ∷ digits_of i), printed_low 2 r (omega (arith, a)), printed_low 9 i (omega (arith, b))),
    )

pub places_text_lem : (l : List (Entry ℕ)) → list_all (λ e. is_sample e) l ≡ true → list_all (λ e. not (wide e)) l ≡ true
    → (places_text (map (λ e. place_of e) l) ≡ samples_text l) × (length (samples_text l) ≤ 15 * length l)
unfolding places_text samples_text place_text sample_text place_of is_sample wide
places_text_lem [] s h = (refl, omega arith)
places_text_lem (e ∷ l) s h =
    let a = place_text_lem e.reader e.what (and_left _ _ s) (and_left (not (wide e)) _ h) in
    let k = places_text_lem l (and_right (is_sample e) _ s) (and_right (not (wide e)) _ h) in
    (ap (λ (t : List ℕ). t ++ places_text (map (λ x. place_of x) l)) a.0 ∙ ap (λ (t : List ℕ). sample_text e ++ t) k.0, omega (arith, a.1, k.1, length-append (sample_text e) (samples_text l)))
