-- The last eight settings saved, the newest first (request U13).
use Prim.{Unit, tt}
use Rattle.std.specs.Prelude.{ℕ, zero, suc, cond, not, List, [], ◌∷◌, eqb, length, take}
use Rattle.laws.specs.Answer.{Answer, refused, answered}
use Rattle.settings.specs.Setting.{version_in, known, good_length, setting_in}
use Rattle.settings.specs.declared.setting.Setting.{Setting}

abbrev pub nothing : List Setting
nothing = []

-- one more, the newest; the oldest of nine goes
abbrev pub saved : Setting → List Setting → List Setting
saved x l = take 8 (x ∷ l)

-- save: 15, no byte; 16, version 0 or above 7; 15, another length than the version's; else the values are kept
abbrev pub save : List ℕ → List Setting → Answer (Unit {0}) × List Setting
save bs l =
    cond (eqb (length bs) 0) (refused 15, l)
    (cond (not (known (version_in bs))) (refused 16, l)
    (cond (not (good_length (version_in bs) (length bs))) (refused 15, l)
    (answered tt, saved (setting_in (version_in bs) bs) l)))

-- read by age, 0 the newest: 15, an age not stored
abbrev pub read_at : ℕ → List Setting → Answer Setting
read_at age [] = refused 15
read_at zero (x ∷ l) = answered x
read_at (suc age) (x ∷ l) = read_at age l
