-- Naming samples changes nothing, part two: an offer, a heartbeat and a gap answer the same and do the same.
use Prim.Native.Nat.{ℕ}
use mathlib.Core.Path.{◌≡◌, refl}
use mathlib.Core.List.{List, map-append}
use Rattle.std.specs.Prelude.{Option, Some, None}
use lib.ListN.{length-map}
use Rattle.guids.specs.Guid.{Guid}
use Rattle.rules.specs.Entry.{Entry, of_group}
use Rattle.rules.specs.State.{State, Group, Writer, stored}
use Rattle.rules.specs.Offer.{Offer, Fate, Stored, Joined, Late, ninth, pair33, with_marks, entry_of, shares, mark_of, join, fate_of, adds, offer_refusal, place, heard_offer, offered, offer, Heartbeat, Gap, done, heartbeat, gap}
use Rattle.rules.specs.Names.{map_entry, map_state, map_offer}
use Rattle.laws.proofs.Lists.{any_map, find_map}
use Rattle.rules.proofs.Names.{maps, map_found, is_sample_w_map, replaced_map, keep_end_map}

module _ {X Y : Type 0} (f : X → Y) where
  -- an answer with a state, the state's samples changed
  abbrev pub map_pair : {A : Type 0} → A × State X → A × State Y
  map_pair r = (r.0, map_state f r.1)

  pub ninth_map : (g : Guid) (s : State X) → ninth g (map_state f s) ≡ ninth g s
  unfolding ninth map_state
  ninth_map g s = refl

  pub pair33_map : (g w : Guid) (s : State X) → pair33 g w (map_state f s) ≡ pair33 g w s
  unfolding pair33 map_state
  pair33_map g w s = refl

  pub stored_map : (s : State X) → stored (map_state f s) ≡ stored s
  unfolding stored map_state
  stored_map s = simp length-map

  pub entry_of_map : (o : Offer X) → entry_of (map_offer f o) ≡ map_entry f (entry_of o)
  unfolding entry_of map_offer map_entry
  entry_of_map o = refl

  mark_of_map : (o : Option (Entry X)) → mark_of (map_found f o) ≡ mark_of o
  mark_of_map None = refl
  mark_of_map (Some e) = unfold map_entry in refl

  pub join_map : (e : Entry X) (l : List (Entry X)) → join (map_entry f e) (maps f l) ≡ maps f (join e l)
  unfolding join
  join_map e l = simp (find_map, replaced_map f, mark_of_map, keep_end_map f)

  pub fate_of_map : (s : State X) (o : Offer X) → fate_of (map_state f s) (map_offer f o) ≡ fate_of s o
  unfolding fate_of map_state map_offer
  fate_of_map s o = unfold entry_of shares of_group map_entry in simp (is_sample_w_map f, any_map)

  pub adds_map : (a : Fate) (s : State X) (o : Offer X) → adds a (map_state f s) (map_offer f o) ≡ adds a s o
  unfolding adds map_state
  adds_map Stored s o = refl
  adds_map Joined s o = simp (entry_of_map, any_map, replaced_map f)
  adds_map Late s o = refl

  pub offer_refusal_map : (s : State X) (o : Offer X) → offer_refusal (map_state f s) (map_offer f o) ≡ offer_refusal s o
  unfolding offer_refusal
  offer_refusal_map s o = unfold map_offer in simp (fate_of_map s o, adds_map (fate_of s o) s o, stored_map, ninth_map, pair33_map)

  pub place_map : (a : Fate) (e : Entry X) (s : State X) → place a (map_entry f e) (map_state f s) ≡ map_state f (place a e s)
  unfolding place map_state
  place_map Stored e s = simp map-append
  place_map Joined e s = simp join_map
  place_map Late e s = refl

  with_marks_map : (gs : List Group) (ws : List Writer) (s : State X) → with_marks gs ws (map_state f s) ≡ map_state f (with_marks gs ws s)
  unfolding with_marks map_state
  with_marks_map gs ws s = refl

  pub heard_offer_map : (o : Offer X) (s : State X) → heard_offer (map_offer f o) (map_state f s) ≡ map_state f (heard_offer o s)
  unfolding heard_offer with_marks map_offer map_state
  heard_offer_map o s = refl

  offered_map : (r : Option ℕ) (s : State X) (o : Offer X) → offered r (map_state f s) (map_offer f o) ≡ map_pair (offered r s o)
  offered_map None s o = simp (fate_of_map, entry_of_map, heard_offer_map, place_map)
  offered_map (Some n) s o = refl

  pub offer_map : (s : State X) (o : Offer X) → offer (map_state f s) (map_offer f o) ≡ map_pair (offer s o)
  unfolding offer
  offer_map s o = simp (offer_refusal_map, offered_map)

  done_map : (r : Option ℕ) (s t : State X) → done r (map_state f s) (map_state f t) ≡ map_pair (done r s t)
  done_map None s t = refl
  done_map (Some n) s t = refl

  pub heartbeat_map : (s : State X) (h : Heartbeat) → heartbeat (map_state f s) h ≡ map_pair (heartbeat s h)
  unfolding heartbeat
  heartbeat_map s h = unfold map_state in simp (ninth_map, pair33_map, with_marks_map, done_map)

  pub gap_map : (s : State X) (x : Gap) → gap (map_state f s) x ≡ map_pair (gap s x)
  unfolding gap
  gap_map s x = unfold map_state in simp (ninth_map, pair33_map, with_marks_map, done_map)
