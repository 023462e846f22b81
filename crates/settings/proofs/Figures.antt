-- Figures that a wrong layout, order of refusals, age or unit would not give.
use Rattle.std.specs.Prelude.{Option, None, Some}
use Prim.{tt}
use Prim.Native.Nat.{ℕ}
use mathlib.Core.Path.{◌≡◌, refl}
use mathlib.Core.List.{List, [], ◌∷◌, ◌++◌}
use lib.ListN.{replicate}
use Rattle.laws.specs.Answer.{refused, answered}
use Rattle.laws.specs.Bytes.{bytes_of, number_of}
use Rattle.settings.specs.Setting.{pack}
use Rattle.settings.specs.Store.{save, read_at}
use Rattle.settings.specs.Durations.{durations}
use Rattle.settings.specs.declared.setting.Setting.{Setting}

-- hex digits 345 67 89 abcd
abbrev values : Option ℕ → Setting
values l = record { timeout = 837; coherent = 103; ordered = 137; separation = 43981; lifespan = l }

-- the digits' bytes, without the version's 16 v in the first
abbrev bytes : ℕ → List ℕ
bytes b = b ∷ 69 ∷ 103 ∷ 137 ∷ 171 ∷ 205 ∷ []

-- and ef01
abbrev long : ℕ → List ℕ
long b = bytes b ++ (239 ∷ 1 ∷ [])

pub record Figures : Type 0 where
  pub version_1 : pack (values None) (replicate 7 170) ≡ (answered 6, bytes 19 ++ (170 ∷ []))
  pub version_2 : pack (values (Some 61185)) (replicate 9 170) ≡ (answered 8, long 35 ++ (170 ∷ []))
  pub lifespan_0 : pack (values (Some 0)) (replicate 8 170) ≡ (answered 8, bytes 35 ++ (0 ∷ 0 ∷ []))
  -- 15 before 5
  pub wide_first : pack (record { timeout = 4096; coherent = 0; ordered = 0; separation = 0; lifespan = None }) [] ≡ (refused 15, [])
  pub short_list : pack (values None) (replicate 5 170) ≡ (refused 5, replicate 5 170)
  pub save_1 : save (bytes 19) [] ≡ (answered tt, values None ∷ [])
  pub save_7 : save (long 115 ++ replicate 24 255) [] ≡ (answered tt, values (Some 61185) ∷ [])
  -- 16 before 15, where there is a byte
  pub version_0 : save (15 ∷ []) [] ≡ (refused 16, [])
  pub version_8 : save (128 ∷ []) [] ≡ (refused 16, [])
  pub no_byte : save [] [] ≡ (refused 15, [])
  pub length_7 : save (bytes 19 ++ (0 ∷ [])) [] ≡ (refused 15, [])
  pub length_33 : save (long 115 ++ replicate 25 255) [] ≡ (refused 15, [])
  -- 0 the newest
  pub age_1 : read_at 1 (save (long 35) (save (bytes 19) []).1).1 ≡ answered (values None)
  pub age_2 : read_at 2 (save (long 35) (save (bytes 19) []).1).1 ≡ refused 15
  pub nanoseconds : durations (values (Some 61185)) ≡ answered (record { timeout = 8370000000; separation = record { sec = 43; nanosec = 981000000 }; lifespan = Some 61185000000000 })

pub figures : Figures
unfolding bytes_of number_of
figures = record {
  version_1 = refl;
  version_2 = refl;
  lifespan_0 = refl;
  wide_first = refl;
  short_list = refl;
  save_1 = refl;
  save_7 = refl;
  version_0 = refl;
  version_8 = refl;
  no_byte = refl;
  length_7 = refl;
  length_33 = refl;
  age_1 = refl;
  age_2 = refl;
  nanoseconds = refl;
}
