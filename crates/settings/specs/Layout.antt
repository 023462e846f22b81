-- Packed bits: fields one behind the other, the highest bit first (request U13).
use Rattle.std.specs.Prelude.{ℕ, ◌+◌, ◌*◌, ◌/◌, ◌%◌, ◌^◌, Bool, true, cond, ◌&&◌, List, [], ◌∷◌, ◌++◌, eqb, leb, ltb, Option, None, Some}

pub data Field : Type 0 where
  version : Field
  timeout : Field
  coherent : Field
  ordered : Field
  separation : Field
  lifespan : Field

-- a field and its bits
abbrev pub Layout : Type 0
Layout = List (Field × ℕ)

-- the fields of every version
abbrev pub shared : Layout
shared = (version, 4) ∷ (timeout, 12) ∷ (coherent, 8) ∷ (ordered, 8) ∷ (separation, 16) ∷ []

-- those behind them that are read: version 2 appends the lifespan, and what later versions append is not read
abbrev pub later : ℕ → Layout
later v = cond (leb 2 v) ((lifespan, 16) ∷ []) []

abbrev pub layout : ℕ → Layout
layout v = shared ++ later v

-- its bits
abbrev pub width : Layout → ℕ
width [] = 0
width (p ∷ l) = p.1 + width l

-- its bytes
abbrev pub size : ℕ → ℕ
size v = width (layout v) / 8

-- ---- values to bits

-- every value fits its field
abbrev pub within : (Field → ℕ) → Layout → Bool
within x [] = true
within x (p ∷ l) = ltb (x p.0) (2 ^ p.1) && within x l

-- the number whose bits are the fields' bits, one field behind the other
abbrev pub joined : (Field → ℕ) → Layout → ℕ
joined x [] = 0
joined x (p ∷ l) = x p.0 * 2 ^ width l + joined x l

-- ---- bits to values

-- each field with its value in a number of the layout's bits
abbrev pub parted : Layout → ℕ → List (Field × ℕ)
parted [] n = []
parted (p ∷ l) n = (p.0, (n / 2 ^ width l) % 2 ^ p.1) ∷ parted l n

abbrev pub place : Field → ℕ
place version = 0
place timeout = 1
place coherent = 2
place ordered = 3
place separation = 4
place lifespan = 5

-- a field's value, none where the layout lacks it
abbrev pub lookup : Field → List (Field × ℕ) → Option ℕ
lookup f [] = None
lookup f (p ∷ l) = cond (eqb (place f) (place p.0)) (Some p.1) (lookup f l)
