-- What a chain asks of each call is that call's own contract, as a caller learns it.
use mathlib.Core.Path.{◌≡◌, refl, sym, ap, ◌∙◌}
use Prim.Native.Nat.{ℕ}
use mathlib.Core.List.{List}
use lib.ListN.{length}
use contract.Lifetimes.{Lfts}
use denote.Triple.Clauses.{AtExit}
use borrow.Fn.Kinds.{Dens, res_t, ended_of}
use Rattle.std.specs.Prelude.{Option, None, Some, Result}
use Rattle.laws.specs.Answer.{Answer, refused, answered}
use Rattle.refusals.specs.Refusal.{answer_as}
use Rattle.refusals.specs.declared.Refusal.{Refusal}
use Rattle.rules.specs.State.{State, fresh}
use Rattle.rules.specs.Release.{View, Outcome, release_refusal, released_if, release as released}
use Rattle.rules.specs.Run.{waiting, written, said_release}
use Rattle.rules.specs.declared.view.Pair.{Pair}
use Rattle.rules.specs.declared.view.DigestRow.{DigestRow}
use Rattle.release.specs.Released.{release_to, count_out, view_of}
use Rattle.history.specs.Chain.{did_offer, did_heartbeat, did_gap, did_release, Meets}
use Rattle.history.proofs.order.GroupOrder.new.Kinds as new-kinds
use Rattle.history.proofs.order.GroupOrder.new.Reads as new-reads
use Rattle.history.proofs.order.GroupOrder.offer.Kinds as offer-kinds
use Rattle.history.proofs.order.GroupOrder.offer.Reads as offer-reads
use Rattle.history.proofs.order.GroupOrder.heartbeat.Kinds as heartbeat-kinds
use Rattle.history.proofs.order.GroupOrder.heartbeat.Reads as heartbeat-reads
use Rattle.history.proofs.order.GroupOrder.gap.Kinds as gap_kinds
use Rattle.history.proofs.order.GroupOrder.gap.Reads as gap-reads
use Rattle.history.proofs.order.GroupOrder.held_for.Kinds as held-kinds
use Rattle.history.proofs.order.GroupOrder.held_for.Reads as held_reads
use Rattle.history.proofs.order.GroupOrder.release.Kinds as release-kinds
use Rattle.history.proofs.order.GroupOrder.release.Reads as release-reads

pub new_meets : (κs : Lfts 0) (a : Dens κs new-kinds.ps) (r : (res_t new-kinds.r κs).Denot) (s : AtExit (ended_of 0 new-kinds.ps new-kinds.r) κs)
    → new-reads.Learnt κs a r s → r ≡ fresh a.0
new_meets κs a r s x = x

pub offer_meets : (κs : Lfts 1) (a : Dens κs offer-kinds.ps) (r : (res_t offer-kinds.r κs).Denot) (s : AtExit (ended_of 1 offer-kinds.ps offer-kinds.r) κs)
    → offer-reads.Learnt κs a r s → Meets a.0.now (did_offer a.1.0 r) s.0.now
unfolding Meets
offer_meets κs a r s x = x.0

pub heartbeat_meets : (κs : Lfts 1) (a : Dens κs heartbeat-kinds.ps) (r : (res_t heartbeat-kinds.r κs).Denot) (s : AtExit (ended_of 1 heartbeat-kinds.ps heartbeat-kinds.r) κs)
    → heartbeat-reads.Learnt κs a r s → Meets a.0.now (did_heartbeat a.1.0 r) s.0.now
unfolding Meets
heartbeat_meets κs a r s x = x.0

pub gap_meets : (κs : Lfts 1) (a : Dens κs gap_kinds.ps) (r : (res_t gap_kinds.r κs).Denot) (s : AtExit (ended_of 1 gap_kinds.ps gap_kinds.r) κs)
    → gap-reads.Learnt κs a r s → Meets a.0.now (did_gap a.1.0 r) s.0.now
unfolding Meets
gap_meets κs a r s x = x.0

pub release_meets : (κs : Lfts 4) (a : Dens κs release-kinds.ps) (r : (res_t release-kinds.r κs).Denot) (s : AtExit (ended_of 4 release-kinds.ps release-kinds.r) κs)
    → release-reads.Learnt κs a r s
    → Meets a.0.now (did_release a.1.0.now a.1.1.0.now a.1.1.1.0 a.1.1.1.1.0.now r s.1.1.1.1.0.now) s.0.now
unfolding Meets
release_meets κs a r s x = x.0

-- a refused release changes nothing, and no place of its list
no_place : (x : Answer (Outcome ℕ)) (n : ℕ) (o : List ℕ) → count_out x ≡ refused n → written (said_release x) o ≡ o
no_place (refused k) n o e = refl
no_place (answered y) n o e = cc

no_change : (x : Option ℕ) (s : State ℕ) (v : View) (time n : ℕ) → count_out (released_if x s v time).0 ≡ refused n → (released_if x s v time).1 ≡ s
no_change None s v time n e = cc
no_change (Some k) s v time n e = refl

pub refused_release : (s t : State ℕ) (ps : List Pair) (ds : List DigestRow) (time n : ℕ) (o p : List ℕ) (r : Result ℕ Refusal)
    → Meets s (did_release ps ds time o r p) t → answer_as r ≡ refused n → (t ≡ s) × (p ≡ o)
unfolding Meets release_to released
refused_release s t ps ds time n o p r h e =
    let v : View = view_of ps ds in
    let k : count_out (released s v time (length o)).0 ≡ refused n = ap (λ x. x.0) (sym h) ∙ e in
    (ap (λ x. x.1) h ∙ no_change (release_refusal s v (length o)) s v time n k, ap (λ x. x.2) h ∙ no_place (released s v time (length o)).0 n o k)

-- a waiting figure, between any two calls
pub held_meets : (κs : Lfts 1) (a : Dens κs held-kinds.ps) (r : (res_t held-kinds.r κs).Denot) (s : AtExit (ended_of 1 held-kinds.ps held-kinds.r) κs)
    → held_reads.Learnt κs a r s → r ≡ waiting a.0.now a.1.0
held_meets κs a r s x = x
