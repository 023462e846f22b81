-- A setting's values, packed and read back (request U13).
use Rattle.std.specs.Prelude.{ℕ, ◌/◌, Bool, cond, ◌&&◌, not, List, ◌++◌, eqb, leb, ltb, length, take, drop, get_or, Option, None, Some, unwrap_or}
use Rattle.laws.specs.Answer.{Answer, refused, answered}
use Rattle.laws.specs.Bytes.{bytes_of, number_of}
use Rattle.settings.specs.Layout as L
use Rattle.settings.specs.declared.setting.Setting.{Setting}

-- ---- packing

abbrev pub version_by : Option ℕ → ℕ
version_by (Some n) = 2
version_by None = 1

-- what a setting has in each field at version v
abbrev pub value_of : ℕ → Setting → L.Field → ℕ
value_of v x L.version = v
value_of v x L.timeout = x.timeout
value_of v x L.coherent = x.coherent
value_of v x L.ordered = x.ordered
value_of v x L.separation = x.separation
value_of v x L.lifespan = unwrap_or x.lifespan 0

-- version 2 where there is a lifespan, else 1
abbrev pub version_of : Setting → ℕ
version_of x = version_by x.lifespan

abbrev pub fits_at : ℕ → Setting → Bool
fits_at v x = L.within (λ f. value_of v x f) (L.layout v)

abbrev pub fits : Setting → Bool
fits x = fits_at (version_of x) x

-- the bytes of a setting at version v
abbrev pub packed_at : ℕ → Setting → List ℕ
packed_at v x = bytes_of (L.size v) (L.joined (λ f. value_of v x f) (L.layout v))

abbrev pub packed : Setting → List ℕ
packed x = packed_at (version_of x) x

-- pack: 15, a value too wide for its field; 5, a list shorter than the bytes; else their number, and the list with them at its start
abbrev pub pack : Setting → List ℕ → Answer ℕ × List ℕ
pack x out =
    cond (not (fits x)) (refused 15, out)
    (cond (ltb (length out) (length (packed x))) (refused 5, out)
    (answered (length (packed x)), packed x ++ drop (length (packed x)) out))

-- ---- reading

abbrev pub setting_of : List (L.Field × ℕ) → Setting
setting_of l = record {
  timeout = unwrap_or (L.lookup L.timeout l) 0;
  coherent = unwrap_or (L.lookup L.coherent l) 0;
  ordered = unwrap_or (L.lookup L.ordered l) 0;
  separation = unwrap_or (L.lookup L.separation l) 0;
  lifespan = L.lookup L.lifespan l;
}

-- the version: the highest four bits of the first byte
abbrev pub version_in : List ℕ → ℕ
version_in bs = get_or bs 0 0 / 16

-- 1 to 7
abbrev pub known : ℕ → Bool
known v = leb 1 v && leb v 7

-- versions 1 and 2 have their layout's bytes; later ones may have more, 32 at most
abbrev pub good_length : ℕ → ℕ → Bool
good_length v n = cond (leb v 2) (eqb n (L.size v)) (leb (L.size v) n && leb n 32)

-- the values that bytes of version v hold
abbrev pub setting_in : ℕ → List ℕ → Setting
setting_in v bs = setting_of (L.parted (L.layout v) (number_of (take (L.size v) bs)))
