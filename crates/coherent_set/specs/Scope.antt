-- The publisher's coherent scope. DDS 1.4 §2.2.2.4.1.10 begin_coherent_changes, §2.2.2.4.1.11 end_coherent_changes.
-- Unlike the standard's and like the Rust's, scopes do not nest: a begin while one is open is refused 6 (PreconditionNotMet).
use Prim.{Unit, tt}
use Rattle.std.specs.Prelude.{Bool, cond, ℤ, negsuc, Option, Some, None, is_some, option_and_then}
use Rattle.std.specs.Option.{option_map, option_map_or}
use Rattle.laws.specs.Answer.{Answer, refused, answered}
use Rattle.laws.specs.Whole.{eq_z}
use Rattle.coherent_set.specs.declared.CoherentSetMarker.{CoherentSetMarker}
use Rattle.coherent_set.specs.declared.CoherentScope.{CoherentScope}

-- the least 64-bit number: a set that began at it has no marker
abbrev pub least : ℤ
least = negsuc 9223372036854775807

abbrev pub fresh_scope : CoherentScope
fresh_scope = record { set_first_sn = None }

-- a set is open
abbrev pub active_scope : CoherentScope → Bool
active_scope s = is_some s.set_first_sn

-- the marker of a write while a set is open; none if the set began at the least number
abbrev pub marker_of : CoherentScope → Option ℤ
marker_of s = option_and_then (λ n. cond (eq_z n least) None (Some n)) s.set_first_sn

-- begin: what it answers, and the scope after it
abbrev pub begin_coherent : CoherentScope → ℤ → Answer (Unit {0}) × CoherentScope
begin_coherent s n = cond (active_scope s) (refused 6, s) (answered tt, record { set_first_sn = Some n })

-- end: it answers the number that the set began at
abbrev pub end_coherent : CoherentScope → Answer ℤ × CoherentScope
end_coherent s = option_map_or (λ n. (answered n, fresh_scope)) s.set_first_sn (refused 6, s)

-- the number of a marker, if there is one
abbrev pub marker_as : Option CoherentSetMarker → Option ℤ
marker_as m = option_map (λ x. x.set_first_sn) m
