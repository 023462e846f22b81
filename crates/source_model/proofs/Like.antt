-- How a state of the model and a state of the definitions stand for each other.
use Prim.Native.Nat.{ℕ}
use mathlib.Core.Path.{◌≡◌}
use mathlib.Core.Bool.{Bool, true, ◌&&◌, not}
use mathlib.Core.List.{List, [], ◌∷◌, map}
use Rattle.std.specs.Prelude.{Option, Some, None}
use lib.IntN.{ℤ, pos}
use lib.Dec.{ltb}
use lib.ListN.{length, get_or}
use Rattle.laws.specs.Whole.{eq_z}
use Rattle.laws.specs.Lists.{filter, list_all, list_any, is_some}
use Rattle.guids.specs.Guid.{Guid}
use Rattle.rules.specs.Entry.{is_sample, of_group, in_set, of_pair, marks}
use Rattle.rules.specs.declared.entry.Entry.{Entry}
use Rattle.rules.specs.State.{State, is_writer}
use Rattle.rules.specs.declared.state.Group.{Group}
use Rattle.rules.specs.declared.state.Writer.{Writer}
use Rattle.rules.specs.Marks.{number}
use Rattle.rules.specs.declared.call.Offer.{Offer}
use Rattle.source_model.specs.Claim.{cut_counts}
use Rattle.source_model.specs.Map.{guids, numbers, readers, pairs, or_default, get, ascends}
use Rattle.source_model.specs.Source.{SetEnd, HeartbeatInfo, Progress, OpenSet, GroupOrder, no_group}
use Rattle.source_model.specs.Source as S
use Rattle.source_model.specs.Calls.{end_w, item_w}

-- ---- entries

-- an entry of the definitions, and an offer, as the model stores it; of the writer set, which the definitions' entries have not, see Bare.antt
unfoldable pub as_entry : {X : Type 0} → Entry X → S.Entry X
as_entry e = record { reader = e.reader; writer = e.writer; info = record { gsn = pos e.number; writer_set = 0; coherent_set_gsn = e.set }; at_end = end_w e.what; item = item_w e.what; offered_at = e.time }

unfoldable pub offer_entry : {X : Type 0} → Offer X → S.Entry X
offer_entry o = record { reader = o.reader; writer = o.writer; info = record { gsn = o.number; writer_set = 0; coherent_set_gsn = o.set }; at_end = end_w o.what; item = item_w o.what; offered_at = o.time }

-- a Vec of the map of pending entries: never empty
abbrev pub vec_of : {A : Type 0} → List A → Option (List A)
vec_of [] = None
vec_of (a ∷ l) = Some (a ∷ l)

module _ {X : Type 0} where
  unfoldable pub is_at : Guid → ℤ → Entry X → Bool
  is_at g n e = of_group g e && eq_z n (pos e.number)

  -- of a pending entry: it marks no set, and its number is from 1 on
  unfoldable pub is_fresh : Entry X → Bool
  is_fresh e = not (marks e) && ltb 0 e.number

-- pending: at each number the group's entries of that number, in offer order
pub record PendingLike {X : Type 0} (g : Guid) (m : List (ℤ × List (S.Entry X))) (l : List (Entry X)) : Type 0 where
  pub at : (n : ℤ) → get numbers n m ≡ vec_of (map (λ e. as_entry e) (filter (λ e. is_at g n e) l))
  pub ascend : ascends numbers m ≡ true

-- ---- open sets

module _ {X : Type 0} where
  unfoldable pub is_pair_end : Guid × ℕ → Entry X → Bool
  is_pair_end p h = not (is_sample h) && of_pair p.0 p.1 h

-- the kept end of a pair: one at most
pub data EndLike {X : Type 0} : Option SetEnd → List (Entry X) → Type 0 where
  no_end : EndLike None []
  one_end : {x : SetEnd} {e : Entry X} → end_w e.what ≡ Some x → EndLike (Some x) (e ∷ [])

-- an open set: members, kept ends and the flag
pub record OpenLike {X : Type 0} (s : OpenSet X) (l : List (Entry X)) : Type 0 where
  pub members : s.members ≡ map (λ e. as_entry e) (filter (λ h. is_sample h) l)
  pub ends : (p : Guid × ℕ) → EndLike (get pairs p s.ends) (filter (λ h. is_pair_end p h) l)
  pub ends_ascend : ascends pairs s.ends ≡ true
  pub ended : s.end_committed ≡ list_any (λ h. marks h) l

-- a set is open exactly when an entry is held in it
pub data SetLike {X : Type 0} : Option (OpenSet X) → List (Entry X) → Type 0 where
  closed : SetLike None []
  opened : {s : OpenSet X} {l : List (Entry X)} → list_any (λ h. true) l ≡ true → OpenLike s l → SetLike (Some s) l

pub record SetsLike {X : Type 0} (g : Guid) (m : List (ℤ × OpenSet X)) (l : List (Entry X)) : Type 0 where
  pub at : (z : ℤ) → SetLike (get numbers z m) (filter (λ h. in_set g z h) l)
  pub ascend : ascends numbers m ≡ true

-- ---- writers

abbrev pub first_in : Option HeartbeatInfo → ℤ
first_in None = pos 0
first_in (Some h) = h.first_gsn

abbrev pub last_in : Option HeartbeatInfo → ℤ
last_in None = pos 0
last_in (Some h) = h.last_gsn

abbrev pub current_in : Option HeartbeatInfo → ℤ
current_in None = pos 0
current_in (Some h) = h.current_gsn

pub record ProgressLike (p : Progress) (w : Writer) : Type 0 where
  pub seen : (r : ℕ) → number (or_default (pos 0) (get readers r p.seen)) ≡ get_or w.seen r 0
  pub seen_length : length w.seen ≡ 8
  pub gaps : (r : ℕ) → number (or_default (pos 0) (get readers r p.gap_end)) ≡ get_or w.gaps r 0
  pub gaps_length : length w.gaps ≡ 8
  pub first : number (first_in p.heartbeat) ≡ w.first
  pub last : number (last_in p.heartbeat) ≡ w.last
  pub current : number (current_in p.heartbeat) ≡ w.current
  pub digest : p.writer_set ≡ w.digest
  pub secure : p.secure_writer_set ≡ w.secure

pub data WriterLike : Option Progress → List Writer → Type 0 where
  unknown : WriterLike None []
  known : {p : Progress} {w : Writer} → ProgressLike p w → WriterLike (Some p) (w ∷ [])

pub record WritersLike (g : Guid) (m : List (Guid × Progress)) (l : List Writer) : Type 0 where
  pub at : (w : Guid) → WriterLike (get guids w m) (filter (λ x. is_writer g w x) l)
  pub ascend : ascends guids m ≡ true

-- ---- a group, known or not, and the whole

-- committed, announced and the parts of the group
pub record GroupLike {X : Type 0} (g : Guid) (m : S.Group X) (ws : List Writer) (ps hs : List (Entry X)) : Type 0 where
  pub committed : m.committed ≡ pos (number m.committed)
  pub announced : m.current_gsn ≡ pos (number m.current_gsn)
  pub writers : WritersLike g m.writers ws
  pub pending : PendingLike g m.pending ps
  pub sets : SetsLike g m.sets hs

unfoldable pub flat : {X : Type 0} → Guid × S.Group X → Group
flat x = record { guid = x.0; committed = number x.1.committed; announced = number x.1.current_gsn }

pub record Like {X : Type 0} (o : GroupOrder X) (s : State X) : Type 0 where
  pub groups : s.groups ≡ map (λ x. flat x) o.groups
  pub ascend : ascends guids o.groups ≡ true
  pub each : (g : Guid) → GroupLike g (or_default no_group (get guids g o.groups)) s.writers s.pending s.held
  pub pending_plain : list_all (λ e. is_fresh e) s.pending ≡ true
  pub held_sets : list_all (λ h. is_some h.set) s.held ≡ true
  pub counts : s.counts ≡ cut_counts o.counts
  pub timeout : s.timeout ≡ o.timeout
