-- The publisher's scope over several calls: a set is open from a begin to the next end.
use Prim.{tt}
use Rattle.std.proofs.Common.{◌≡◌, false, cond, List, [], ◌∷◌, ℤ, refl, ap, ◌∙◌, arith}
use Rattle.std.specs.Prelude.{None, Some}
use Rattle.laws.specs.Answer.{refused, answered, Kept}
use Rattle.laws.specs.Whole.{eq_z}
use Rattle.coherent_set.specs.declared.CoherentScope.{CoherentScope}
use Rattle.coherent_set.specs.declared.GroupAccessScope.{GroupAccessScope}
use Rattle.coherent_set.specs.Scope.{least, fresh_scope, active_scope, marker_of, begin_coherent, end_coherent}
use Rattle.coherent_set.specs.Access.{end_access}

-- ---- a refused call changes nothing; the access scope's end too

pub begin_kept : (s : CoherentScope) (n : ℤ) → Kept (begin_coherent s n).0 s (begin_coherent s n).1
unfolding Kept
begin_kept s n = grind arith

pub end_kept : (s : CoherentScope) → Kept (end_coherent s).0 s (end_coherent s).1
unfolding Kept
end_kept s = grind arith

pub access_end_kept : (s : GroupAccessScope) → Kept (end_access s).0 s (end_access s).1
unfolding Kept
access_end_kept s = grind arith

-- an end while no set is open is refused
pub end_refused : (s : CoherentScope) → active_scope s ≡ false → end_coherent s ≡ (refused 6, s)
end_refused s e = grind arith

-- ---- a set that began at n

-- the scope after further begins
unfoldable pub begins : CoherentScope → List ℤ → CoherentScope
begins s [] = s
begins s (m ∷ ms) = begins (begin_coherent s m).1 ms

-- a begin is answered while no set is open
pub begin_opens : (s : CoherentScope) (n : ℤ) → active_scope s ≡ false → begin_coherent s n ≡ (answered tt, record { set_first_sn = Some n })
begin_opens s n e = simp e

begins_open : (n : ℤ) (ms : List ℤ) → begins (record { set_first_sn = Some n }) ms ≡ record { set_first_sn = Some n }
unfolding begins
begins_open n [] = refl
begins_open n (m ∷ ms) = begins_open n ms

-- whatever begins follow, each is refused, every marker is n, and the end answers n and leaves no set open
module _ (s : CoherentScope) (n : ℤ) (ms : List ℤ) (e : active_scope s ≡ false) where
  stays : begins (begin_coherent s n).1 ms ≡ record { set_first_sn = Some n }
  stays = ap (λ r. begins r.1 ms) (begin_opens s n e) ∙ begins_open n ms

  pub set_refuses : (m : ℤ) → (begin_coherent (begins (begin_coherent s n).1 ms) m).0 ≡ refused 6
  set_refuses m = ap (λ t. (begin_coherent t m).0) stays

  -- none where the set began at the least number
  pub set_marks : marker_of (begins (begin_coherent s n).1 ms) ≡ cond (eq_z n least) None (Some n)
  set_marks = ap (λ t. marker_of t) stays

  pub set_ends : end_coherent (begins (begin_coherent s n).1 ms) ≡ (answered n, fresh_scope)
  set_ends = ap (λ t. end_coherent t) stays
