-- Naming samples changes nothing, part one: no test of entries and no choice among them looks into what a sample carries.
use Prim.Native.Nat.{ℕ}
use mathlib.Core.Path.{◌≡◌, refl, ap}
use mathlib.Core.Bool.{◌&&◌, not}
use mathlib.Core.List.{List, [], ◌∷◌, map, map-append}
use Rattle.std.specs.Prelude.{Option, Some, None}
use lib.IntN.{ℤ}
use Rattle.guids.specs.Guid.{Guid}
use Rattle.rules.specs.Entry.{What, Sample, End, Entry, is_sample_w, is_sample, of_group, in_set, of_pair, is_member, is_end_of, marks}
use Rattle.rules.specs.Offer.{shares, replaced, marked, keep_end}
use Rattle.rules.specs.Sets.{Pair, lesser, lowest_set, lowest_ended, end_missing, members_of, members_of_pair, agrees_w, agrees_e, agrees, whole, without, is_stale, lowest_stale}
use Rattle.rules.specs.Commit.{Turn, least, is_head, head_of, lowest_number, next, copies_arrived, ready}
use Rattle.rules.specs.Release.{young}
use Rattle.rules.specs.Names.{map_what, map_entry}
use Rattle.laws.proofs.Lists.{keep_map, any_map, all_map, find_map, count_map, map_o}

module _ {X Y : Type 0} (f : X → Y) where
  abbrev pub maps : List (Entry X) → List (Entry Y)
  maps l = map (λ e. map_entry f e) l

  abbrev pub map_found : Option (Entry X) → Option (Entry Y)
  map_found o = map_o (λ e. map_entry f e) o

  -- ---- one entry

  pub group_map : (e : Entry X) → (map_entry f e).group ≡ e.group
  unfolding map_entry
  group_map e = refl

  pub set_map : (e : Entry X) → (map_entry f e).set ≡ e.set
  unfolding map_entry
  set_map e = refl

  pub what_map : (e : Entry X) → (map_entry f e).what ≡ map_what f e.what
  unfolding map_entry
  what_map e = refl

  pub reader_map : (e : Entry X) → (map_entry f e).reader ≡ e.reader
  unfolding map_entry
  reader_map e = refl

  pub time_map : (e : Entry X) → (map_entry f e).time ≡ e.time
  unfolding map_entry
  time_map e = refl

  pub is_sample_w_map : (w : What X) → is_sample_w (map_what f w) ≡ is_sample_w w
  is_sample_w_map (Sample x) = refl
  is_sample_w_map (End u) = refl

  pub is_sample_map : (e : Entry X) → is_sample (map_entry f e) ≡ is_sample e
  unfolding is_sample map_entry
  is_sample_map e = is_sample_w_map e.what

  pub of_group_map : (g : Guid) (e : Entry X) → of_group g (map_entry f e) ≡ of_group g e
  unfolding of_group map_entry
  of_group_map g e = refl

  pub in_set_map : (g : Guid) (z : ℤ) (e : Entry X) → in_set g z (map_entry f e) ≡ in_set g z e
  unfolding in_set of_group map_entry
  in_set_map g z e = refl

  pub of_pair_map : (w : Guid) (r : ℕ) (e : Entry X) → of_pair w r (map_entry f e) ≡ of_pair w r e
  unfolding of_pair map_entry
  of_pair_map w r e = refl

  pub marks_map : (e : Entry X) → marks (map_entry f e) ≡ marks e
  unfolding marks map_entry
  marks_map e = refl

  pub is_member_map : (g : Guid) (z : ℤ) (e : Entry X) → is_member g z (map_entry f e) ≡ is_member g z e
  unfolding is_member
  is_member_map g z e = simp (in_set_map, is_sample_map)

  pub is_end_of_map : (g : Guid) (z : ℤ) (w : Guid) (r : ℕ) (e : Entry X) → is_end_of g z w r (map_entry f e) ≡ is_end_of g z w r e
  unfolding is_end_of
  is_end_of_map g z w r e = simp (in_set_map, is_sample_map, of_pair_map)

  pub shares_map : (e h : Entry X) → shares (map_entry f e) (map_entry f h) ≡ shares e h
  unfolding shares of_group map_entry
  shares_map e h = refl

  pub replaced_map : (e h : Entry X) → replaced (map_entry f e) (map_entry f h) ≡ replaced e h
  unfolding replaced shares of_group of_pair map_entry
  replaced_map e h = ap (λ b. shares e h && not b && of_pair e.writer e.reader h) (is_sample_map h)

  pub is_head_map : (t : Turn) (n : ℕ) (e : Entry X) → is_head t n (map_entry f e) ≡ is_head t n e
  unfolding is_head of_group map_entry
  is_head_map t n e = refl

  pub marked_map : (m : Option ℕ) (e : Entry X) → marked m (map_entry f e) ≡ map_entry f (marked m e)
  unfolding marked map_entry
  marked_map m e = refl

  -- ---- sets

  pub lowest_set_map : (l : List (Entry X)) → lowest_set (maps l) ≡ lowest_set l
  unfolding lowest_set map_entry
  lowest_set_map [] = refl
  lowest_set_map (e ∷ l) = ap (lesser e.set) (lowest_set_map l)

  pub lowest_ended_map : (g : Guid) (l : List (Entry X)) → lowest_ended g (maps l) ≡ lowest_ended g l
  unfolding lowest_ended
  lowest_ended_map g l = simp (keep_map, of_group_map, marks_map, lowest_set_map)

  pub end_missing_map : (g : Guid) (z : ℤ) (ps : List Pair) (l : List (Entry X)) → end_missing g z ps (maps l) ≡ end_missing g z ps l
  unfolding end_missing
  end_missing_map g z ps l = simp (any_map, is_end_of_map)

  pub members_of_map : (g : Guid) (z : ℤ) (l : List (Entry X)) → members_of g z (maps l) ≡ maps (members_of g z l)
  unfolding members_of
  members_of_map g z l = simp (keep_map, is_member_map)

  pub members_of_pair_map : (g : Guid) (z : ℤ) (p : Pair) (l : List (Entry X)) → members_of_pair g z p (maps l) ≡ members_of_pair g z p l
  unfolding members_of_pair
  members_of_pair_map g z p l = simp (count_map, is_member_map, of_pair_map)

  agrees_w_map : (m : ℕ) (w : What X) → agrees_w m (map_what f w) ≡ agrees_w m w
  agrees_w_map m (Sample x) = refl
  agrees_w_map m (End u) = refl

  agrees_e_map : (m : ℕ) (o : Option (Entry X)) → agrees_e m (map_found o) ≡ agrees_e m o
  agrees_e_map m None = refl
  agrees_e_map m (Some e) = unfold map_entry in agrees_w_map m e.what

  pub agrees_map : (g : Guid) (z : ℤ) (l : List (Entry X)) (p : Pair) → agrees g z (maps l) p ≡ agrees g z l p
  unfolding agrees
  agrees_map g z l p = simp (members_of_pair_map, find_map, is_end_of_map, agrees_e_map)

  pub whole_map : (g : Guid) (z : ℤ) (ps : List Pair) (l : List (Entry X)) → whole g z ps (maps l) ≡ whole g z ps l
  unfolding whole
  whole_map g z ps l = simp (end_missing_map, agrees_map)

  pub without_map : (g : Guid) (z : ℤ) (l : List (Entry X)) → without g z (maps l) ≡ maps (without g z l)
  unfolding without
  without_map g z l = simp (keep_map, in_set_map)

  pub is_stale_map : (e : Entry X) (l : List (Entry X)) (h : Entry X) → is_stale (map_entry f e) (maps l) (map_entry f h) ≡ is_stale e l h
  unfolding is_stale shares marks of_group map_entry
  is_stale_map e l h = simp any_map

  pub lowest_stale_map : (e : Entry X) (l : List (Entry X)) → lowest_stale (map_entry f e) (maps l) ≡ lowest_stale e l
  unfolding lowest_stale
  lowest_stale_map e l = simp (keep_map, is_stale_map, lowest_set_map)

  pub keep_end_map : (m : Option ℕ) (e : Entry X) (l : List (Entry X)) → keep_end m (map_entry f e) (maps l) ≡ maps (keep_end m e l)
  unfolding keep_end
  keep_end_map m e l = simp (keep_map, replaced_map, map-append, marked_map)

  -- ---- numbers

  pub lowest_number_map : (l : List (Entry X)) → lowest_number (maps l) ≡ lowest_number l
  unfolding lowest_number map_entry
  lowest_number_map [] = refl
  lowest_number_map (e ∷ l) = ap (least e.number) (lowest_number_map l)

  pub next_map : (t : Turn) (l : List (Entry X)) → next t (maps l) ≡ next t l
  unfolding next
  next_map t l = simp (keep_map, of_group_map, lowest_number_map)

  pub head_of_map : (t : Turn) (n : ℕ) (l : List (Entry X)) → head_of t n (maps l) ≡ maps (head_of t n l)
  unfolding head_of
  head_of_map t n l = simp (keep_map, is_head_map)

  pub copies_arrived_map : (t : Turn) (n : ℕ) (l : List (Entry X)) → copies_arrived t n (maps l) ≡ copies_arrived t n l
  unfolding copies_arrived map_entry
  copies_arrived_map t n l = simp (all_map, any_map)

  pub ready_map : (t : Turn) (c n : ℕ) (l : List (Entry X)) → ready t c n (maps l) ≡ ready t c n l
  unfolding ready
  ready_map t c n l = simp (head_of_map, copies_arrived_map)

  pub young_map : (t : Turn) (o : Option (Entry X)) → young t (map_found o) ≡ young t o
  unfolding young map_entry
  young_map t None = refl
  young_map t (Some e) = refl
