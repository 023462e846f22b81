-- What a contract sees of a `FixedList`.
use Rattle.std.specs.Prelude.{ℕ, List, length, refl}
use Rattle.std.specs.Coded.{Coded, code_by, coded_list}

-- the items, in order
pub record FixedList (T : Type 0) : Type 0 where
  pub items : List T

-- a list is stored as its items
abbrev pub fixed_list_code : {T : Type 0} → Coded T → Coded (FixedList T)
fixed_list_code code = code_by (List _) (coded_list code) (λ v. v.items) (λ xs. record { items = xs }) (λ _. refl)

-- `list.len()`
abbrev pub len_of : {T : Type 0} → FixedList T → ℕ
len_of v = length v.items
