-- CoherentHold of presentation.rs, function by function. i64 and usize are whole numbers here (own − set mark is demand 2's condition);
-- the lock is always had. Of a UserSample the fields that no function here reads are one number, its item.
use Rattle.std.specs.Prelude.{ℕ, Bool, true, false, ◌&&◌, not, cond, List, [], ◌∷◌, ◌++◌, ℤ, pos, ◌-ℤ◌, length}
use Rattle.std.specs.Prelude.{Option, Some, None}
use Rattle.laws.specs.Whole.{eq_z}
use Rattle.guids.specs.Guid.{Guid, same_guid}

-- enum UserSample: writer_guid and coherent_set_sn of the first two, writer_guid, ecs_sn and complete of the third
pub data UserSample : Type 0 where
  alive lifecycle : Guid → Option ℤ → ℕ → UserSample
  coherent_set_end : Guid → Option ℤ → Option Bool → UserSample

abbrev pub with : Guid → Option ℤ → Option (Guid × ℤ)
with w None = None
with w (Some sn) = Some (w, sn)

-- coherent_member
abbrev pub coherent_member : UserSample → Option (Guid × ℤ)
coherent_member (alive w s i) = with w s
coherent_member (lifecycle w s i) = with w s
coherent_member (coherent_set_end w o c) = None

-- new_set != Some(sn)
abbrev pub is_other : Option ℤ → ℤ → Bool
is_other None sn = true
is_other (Some x) sn = not (eq_z x sn)

-- is_some_and(|(g, sn)| g == writer_guid && new_set != Some(sn))
abbrev pub is_released : Guid → Option ℤ → Option (Guid × ℤ) → Bool
is_released writer new_set None = false
is_released writer new_set (Some x) = same_guid writer x.0 && is_other new_set x.1

-- hold.drain(..).partition(..): released, kept
abbrev pub put_first : Bool → UserSample → List UserSample × List UserSample → List UserSample × List UserSample
put_first true h p = (h ∷ p.0, p.1)
put_first false h p = (p.0, h ∷ p.1)

-- CoherentHold::release: what it returns, and what is held then
unfoldable pub release : Guid → Option ℤ → List UserSample → List UserSample × List UserSample
release writer new_set [] = ([], [])
release writer new_set (h ∷ hold) = put_first (is_released writer new_set (coherent_member h)) h (release writer new_set hold)

-- set.first().and_then(coherent_member)
abbrev pub first_member : List UserSample → Option (Guid × ℤ)
first_member [] = None
first_member (h ∷ l) = coherent_member h

abbrev pub numbers_agree : ℕ → Option (Guid × ℤ) → Option ℤ → Bool
numbers_agree n None o = true
numbers_agree n (Some x) None = true
numbers_agree n (Some x) (Some own) = eq_z (pos n) (own -ℤ x.1)

-- set_is_complete
abbrev pub set_is_complete : List UserSample → Option ℤ → Option Bool → Bool
set_is_complete set own (Some complete) = complete
set_is_complete set own None = numbers_agree (length set) (first_member set) own

-- what gate returns, what on_incomplete hears, if it is called, and what is held then
pub record Gated : Type 0 where
  pub items : List UserSample
  pub incomplete : Option ℕ
  pub hold : List UserSample

-- coherent_access off
abbrev pub passes : UserSample → List UserSample → Gated
passes (coherent_set_end w o c) hold = record { items = []; incomplete = None; hold = hold }
passes (alive w s i) hold = record { items = alive w s i ∷ []; incomplete = None; hold = hold }
passes (lifecycle w s i) hold = record { items = lifecycle w s i ∷ []; incomplete = None; hold = hold }

abbrev pub or_discard : Bool → List UserSample × List UserSample → Gated
or_discard true p = record { items = p.0; incomplete = None; hold = p.1 }
or_discard false p = record { items = []; incomplete = Some (length p.0); hold = p.1 }

abbrev pub follows : UserSample → List UserSample × List UserSample → Gated
follows item p = record { items = p.0 ++ (item ∷ []); incomplete = None; hold = p.1 }

-- match item
abbrev pub ends : UserSample → List UserSample → Gated
ends (coherent_set_end w o c) hold =
    let p : List UserSample × List UserSample = release w None hold in
    or_discard (set_is_complete p.0 o c) p
ends (alive w s i) hold = follows (alive w s i) (release w None hold)
ends (lifecycle w s i) hold = follows (lifecycle w s i) (release w None hold)

-- if let Some((writer_guid, sn)) = coherent_member(&item)
abbrev pub holds_or : Option (Guid × ℤ) → UserSample → List UserSample → Gated
holds_or (Some x) item hold =
    let p : List UserSample × List UserSample = release x.0 (Some x.1) hold in
    record { items = p.0; incomplete = None; hold = p.1 ++ (item ∷ []) }
holds_or None item hold = ends item hold

-- CoherentHold::gate
unfoldable pub gate : List UserSample → UserSample → Bool → Gated
gate hold item coherent_access = cond coherent_access (holds_or (coherent_member item) item hold) (passes item hold)
