-- What fits, field by field, and a setting's bytes as the first of a number of eight bytes: the shared fields, then the lifespan.
use Rattle.std.specs.Prelude.{Option, None, Some, unwrap_or}
use Rattle.std.specs.Int.{bytes_high_first}
use Prim.Native.Nat.{ℕ, zero, suc, ◌+◌, ◌*◌, ◌/◌, ◌%◌, ◌^◌, ◌≤◌, ◌<◌}
use mathlib.Core.Path.{◌≡◌, refl, sym, ap, ◌∙◌}
use mathlib.Core.Bool.{Bool, true, ◌&&◌}
use mathlib.Core.List.{List, [], ◌∷◌, ◌++◌}
use native.Mathlib.Nat.{div-one}
use native.Mathlib.Omega.{arith}
use borrow.Author.Tests.{lt-ltb, le-ltb}
use lib.Arith.{digits_div}
use lib.Dec.{ltb}
use lib.ListN.{length, take, drop}
use lib.Seq.{take_at}
use Rattle.laws.specs.Answer.{refused, answered}
use Rattle.laws.specs.Bytes.{bytes_of}
use Rattle.laws.proofs.Bytes.{bytes_of_length, bytes_of_append}
use Rattle.laws.proofs.Lists.{and_last}
use Rattle.settings.specs.Layout as L
use Rattle.settings.specs.Setting.{value_of, version_by, version_of, fits, packed, pack}
use Rattle.settings.specs.declared.setting.Setting.{Setting}

-- ---- what fits

abbrev pub narrowly : Setting → Bool
narrowly x = ltb x.timeout 4096 && (ltb x.coherent 256 && (ltb x.ordered 256 && (ltb x.separation 65536 && ltb (unwrap_or x.lifespan 0) 65536)))

abbrev of_fields : ℕ → ℕ → ℕ → ℕ → Option ℕ → Setting
of_fields t c o s l = record { timeout = t; coherent = c; ordered = o; separation = s; lifespan = l }

fits_fields : (t c o s : ℕ) (l : Option ℕ) → fits (of_fields t c o s l) ≡ narrowly (of_fields t c o s l)
fits_fields t c o s (Some n) = ap (λ b. ltb t 4096 && (ltb c 256 && (ltb o 256 && (ltb s 65536 && b)))) (and_last (ltb n 65536) true refl)
fits_fields t c o s None = refl

pub fits_narrowly : (x : Setting) → fits x ≡ narrowly x
fits_narrowly x = fits_fields x.timeout x.coherent x.ordered x.separation x.lifespan

-- ---- the bytes

pub high_first : (k n : ℕ) → bytes_high_first k n ≡ bytes_of k n
unfolding bytes_of
high_first zero n = refl
high_first (suc zero) n = ap (λ m. m % 256 ∷ []) (sym (div-one n))
high_first (suc (suc k)) n = ap (λ l. (n / 256 ^ suc k) % 256 ∷ l) (high_first (suc k) n)

-- the shared fields at a version, then the lifespan
abbrev pub bits : ℕ → Setting → ℕ
bits v x = L.joined (λ f. value_of v x f) L.shared * 65536 + unwrap_or x.lifespan 0

first_six : (m n : ℕ) → n < 65536 → bytes_of 6 m ≡ take 6 (bytes_of 8 (m * 65536 + n))
first_six m n h =
    sym (
    ap (λ l. take 6 l) (bytes_of_append 6 2 (m * 65536 + n) ∙ ap (λ k. bytes_of 6 k ++ bytes_of 2 (m * 65536 + n)) (digits_div m h))
    ∙ take_at (bytes_of 6 m) (bytes_of 2 (m * 65536 + n)) 6 (bytes_of_length 6 m)
    )

packed_fields : (t c o s : ℕ) (l : Option ℕ)
    → packed (of_fields t c o s l) ≡ take (L.size (version_by l)) (bytes_of 8 (bits (version_by l) (of_fields t c o s l)))
unfolding bytes_of
packed_fields t c o s (Some n) = ap (λ k. bytes_of 8 k) (omega arith)
packed_fields t c o s None = first_six (L.joined (λ f. value_of 1 (of_fields t c o s None) f) L.shared) 0 (omega arith)

pub packed_first : (x : Setting) → packed x ≡ take (L.size (version_of x)) (bytes_of 8 (bits (version_of x) x))
packed_first x = packed_fields x.timeout x.coherent x.ordered x.separation x.lifespan

-- ---- the answers

packed_length : (x : Setting) → length (packed x) ≡ L.size (version_of x)
packed_length x = bytes_of_length (L.size (version_of x)) (L.joined (λ f. value_of (version_of x) x f) (L.layout (version_of x)))

module _ (x : Setting) (out : List ℕ) (f : fits x ≡ true) where
  pub too_short : length out < L.size (version_of x) → (refused 5, out) ≡ pack x out
  too_short h = rw (f, packed_length x, lt-ltb (length out) (L.size (version_of x)) h)

  pub packs : L.size (version_of x) ≤ length out
      → (answered (L.size (version_of x)), take (L.size (version_of x)) (bytes_of 8 (bits (version_of x) x)) ++ drop (L.size (version_of x)) out) ≡ pack x out
  packs h = rw (f, packed_length x, le-ltb (length out) (L.size (version_of x)) h, packed_first x)
