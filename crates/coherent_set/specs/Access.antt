-- The subscriber's access scope. DDS 1.4 §2.2.2.5.2.8 begin_access, §2.2.2.5.2.9 end_access: they nest.
use Prim.{Unit, tt}
use Rattle.std.specs.Prelude.{ℕ, ◌+◌, ◌-◌, ◌%◌, ◌^◌, Bool, cond, ◌==◌, nat_lt, Result, Ok, Err}
use Rattle.laws.specs.Answer.{Answer, refused, answered}
use Rattle.refusals.specs.declared.Refusal.{Refusal}
use Rattle.refusals.specs.Refusal.{number_of}
use Rattle.coherent_set.specs.declared.GroupAccessScope.{GroupAccessScope}

-- one more in a count of w bits, which wraps
abbrev pub next : ℕ → ℕ → ℕ
next w n = (n + 1) % 2 ^ w

abbrev pub fresh_access : GroupAccessScope
fresh_access = record { open_count = 0; snapshot_generation = 0 }

-- a begin is open
abbrev pub open_access : GroupAccessScope → Bool
open_access s = nat_lt 0 s.open_count

-- begin is never refused; the generation moves only from count 0
abbrev pub begin_access : GroupAccessScope → GroupAccessScope
begin_access s = record {
  open_count = next 32 s.open_count;
  snapshot_generation = cond (s.open_count == 0) (next 64 s.snapshot_generation) s.snapshot_generation;
}

-- end is refused 6 while none is open
abbrev pub end_access : GroupAccessScope → Answer (Unit {0}) × GroupAccessScope
end_access s =
    cond (s.open_count == 0) (refused 6, s)
    (answered tt, record { open_count = s.open_count - 1; snapshot_generation = s.snapshot_generation })

-- what a step from s answers, and the scope after it: a refused one leaves s
abbrev pub access_ended_as : GroupAccessScope → Result GroupAccessScope Refusal → Answer (Unit {0}) × GroupAccessScope
access_ended_as s (Ok t) = (answered tt, t)
access_ended_as s (Err e) = (refused (number_of e), s)
