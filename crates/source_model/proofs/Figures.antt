-- ReleaseCounts over the store are alike on both sides: known groups and writers, stored entries and samples, waiting figures.
use Prim.Native.Nat.{ℕ, ◌+◌}
use mathlib.Core.Path.{◌≡◌, refl, sym, ap, ◌∙◌}
use mathlib.Core.Bool.{Bool, true, false, ◌&&◌, ◌||◌, not, cond}
use mathlib.Core.List.{List, [], ◌∷◌, map}
use Rattle.std.specs.Prelude.{Option, Some, None}
use native.Mathlib.Omega.{arith}
use lib.IntN.{ℤ, pos}
use lib.Dec.{leb, eqb}
use lib.ListN.{length}
use borrow.Author.Tests.{eq-eqb}
use Rattle.laws.specs.Whole.{eq_z}
use Rattle.laws.specs.Lists.{filter, list_all, list_any, count, is_some}
use Rattle.guids.specs.Guid.{Guid, same_guid}
use Rattle.rules.specs.Entry.{set_end, is_sample, is_sample_w, is_set, of_group, of_pair, in_set}
use Rattle.rules.specs.declared.entry.What.{What}
use Rattle.rules.specs.declared.entry.What.TheVariants.{Sample, End}
use Rattle.rules.specs.declared.entry.Entry.{Entry}
use Rattle.rules.specs.State.{State, is_group, is_writer, knows_group, knows_writer}
use Rattle.rules.specs.declared.state.Writer.{Writer}
use Rattle.laws.proofs.Lists.{not_both, and_true, and_left, and_right, keep_keep, keep_same, count_map, count_one, count_nil, count_cons, count_all, all_yes, all_kept, find_any, none_some, all_keep, length_split}
use Rattle.guids.proofs.Guids.{same_eq, same_refl}
use Rattle.rules.proofs.Minima.{eq_z_refl, eq_z_eq}
use Rattle.source_model.specs.Map.{guids, numbers, pairs, or_default, get, ascends}
use Rattle.source_model.specs.Source.{SetEnd, Progress, OpenSet, GroupOrder, no_group, sum_of, first_of, held_for}
use Rattle.source_model.specs.Source as S
use Rattle.source_model.specs.Calls.{end_w, item_w, group_at, ninth, pair33, stored_in, stored, samples_in, samples}
use Rattle.source_model.proofs.Maps.{guids_lawful, numbers_lawful, pairs_lawful, len_o, count_over}
use Rattle.source_model.proofs.Like.{as_entry, vec_of, is_at, PendingLike, is_pair_end, EndLike, no_end, one_end, OpenLike, SetLike, closed, opened, SetsLike, WriterLike, unknown, known, WritersLike, Like, flat}
use Rattle.source_model.proofs.Sets.{pair_of}
use Rattle.source_model.proofs.Ready.{once_writer, own_of, group_of, find_keep_w}
use Rattle.source_model.proofs.Commits.{length_map}

-- ---- sums

pub sum_ext : {A : Type 0} (f g : A → ℕ) → ((a : A) → f a ≡ g a) → (l : List A) → sum_of f l ≡ sum_of g l
unfolding sum_of
sum_ext f g h [] = refl
sum_ext f g h (a ∷ l) = omega (arith, h a, sum_ext f g h l)

sum_plus : {A : Type 0} (f g : A → ℕ) (l : List A) → sum_of (λ a. f a + g a) l ≡ sum_of f l + sum_of g l
unfolding sum_of
sum_plus f g [] = refl
sum_plus f g (a ∷ l) = omega (arith, sum_plus f g l)

sum_one : {A : Type 0} (l : List A) → sum_of (λ a. 1) l ≡ length l
unfolding sum_of
sum_one [] = refl
sum_one (a ∷ l) = omega (arith, sum_one l)

count_keep_in : {A : Type 0} (p q : A → Bool) (l : List A) → count q (filter p l) ≡ count (λ a. p a && q a) l
unfolding count
count_keep_in p q l = ap length (keep_keep q p l)

pub count_ext : {A : Type 0} (p q : A → Bool) → ((a : A) → p a ≡ q a) → (l : List A) → count p l ≡ count q l
unfolding count
count_ext p q h l = ap length (keep_same p q h l)

count_under : {A : Type 0} (p q : A → Bool) (l : List A) → list_all p l ≡ true → count (λ a. p a && q a) l ≡ count q l
count_under p q [] e = count_nil (λ a. p a && q a) ∙ sym (count_nil q)
count_under p q (a ∷ l) e =
    let h : p a ≡ true = and_left (p a) _ e in
    let i : ◌≡◌ {A = ℕ} (cond (p a && q a) 1 0) (cond (q a) 1 0) = ap (λ b. cond (b && q a) 1 0) h in
    omega (arith, count_cons (λ a. p a && q a) a l, count_cons q a l, i, count_under p q l (and_right (p a) _ e))

and_true_r : (t : Bool) → t ≡ t && true
and_true_r true = refl
and_true_r false = refl

-- ---- groups and writers

module _ {X : Type 0} where
  pub known_group : (g : Guid) (m : List (Guid × S.Group X)) → knows_group g (map (λ x. flat x) m) ≡ is_some (get guids g m)
  unfolding knows_group is_group flat get is_some guids
  known_group g [] = refl
  known_group g (x ∷ m) = ap (λ b. same_guid g x.0 || b) (known_group g m) ∙ (elim (same_guid g x.0) as (λ t. t || is_some (get guids g m) ≡ is_some (cond t (Some x.1) (get guids g m))) [ true ↦ refl | false ↦ refl ])

  -- a count over the entries or writers of each group
  pub over_groups : {B : Type 0} (m : List (Guid × S.Group X)) (of : B → Guid) (q : B → Bool) (len : S.Group X → ℕ) (l : List B) → ascends guids m ≡ true → len no_group ≡ 0
      → ((g : Guid) → count q (filter (λ b. same_guid g (of b)) l) ≡ len (or_default no_group (get guids g m)))
      → count q l ≡ sum_of (λ x. len x.1) m
  unfolding guids
  over_groups m of q len l a z h =
      count_over guids_lawful (λ g b. same_guid g (of b)) of q len (λ b e. same_refl (of b)) (λ k j b c d. ap (λ y. same_guid k y) (same_eq j (of b) d) ∙ c) m l a
      (λ g. h g ∙ (elim (get guids g m) as (λ u. len (or_default no_group u) ≡ len_o len u) [ None ↦ z | Some y ↦ refl ]))

writer_case : (u : Option Progress) (l : List Writer) → WriterLike u l → is_some u ≡ is_some (first_of l)
unfolding is_some
writer_case None [] unknown = refl
writer_case (Some p) (w ∷ []) (known k) = refl
writer_case None (w ∷ _) x3 = elim x3 [ ]
writer_case (Some p) [] x3 = elim x3 [ ]
writer_case (Some p) (w ∷ (_ ∷ _)) x8 = elim x8 [ ]

pub known_writer : (g w : Guid) (m : List (Guid × Progress)) (ws : List Writer) → WritersLike g m ws → knows_writer g w ws ≡ is_some (get guids w m)
unfolding knows_writer
known_writer g w m ws k =
    sym (find_any (λ x. is_writer g w x) ws) ∙ ap is_some (find_keep_w (λ x. is_writer g w x) ws) ∙ sym (writer_case (get guids w m) (filter (λ x. is_writer g w x) ws) (k.at w))

one_writer : (g w : Guid) (u : Option Progress) (l : List Writer) → WriterLike u l → list_all (λ x. is_writer g w x) l ≡ true → count (λ x. same_guid g x.group) l ≡ len_o (λ p. 1) u
one_writer g w None [] unknown e = count_nil (λ x. same_guid g x.group)
one_writer g w (Some p) (x ∷ []) (known k) e = count_one (λ x. same_guid g x.group) x ∙ ap (λ b. cond b 1 0) (group_of g w x (and_left (is_writer g w x) _ e))
one_writer g w None (x ∷ _) x6 e = elim x6 [ ]
one_writer g w (Some p) [] x4 e = elim x4 [ ]
one_writer g w (Some p) (x ∷ (_ ∷ _)) x10 e = elim x10 [ ]

group_writers : (g : Guid) (m : List (Guid × Progress)) (ws : List Writer) → WritersLike g m ws → count (λ x. true) (filter (λ x. same_guid g x.group) ws) ≡ length m
unfolding guids
group_writers g m ws k =
    count_keep_in (λ x. same_guid g x.group) (λ x. true) ws
    ∙ count_ext (λ x. same_guid g x.group && true) (λ x. same_guid g x.group) (λ x. elim (same_guid g x.group) as (λ b. b && true ≡ b) [ true ↦ refl | false ↦ refl ]) ws
    ∙ count_over guids_lawful (λ w x. is_writer g w x) (λ x. x.writer) (λ x. same_guid g x.group) (λ p. 1) (λ x e. own_of g x e) (λ a b x c d. once_writer g a b x c d) m ws k.ascend
    (λ w. one_writer g w (get guids w m) (filter (λ x. is_writer g w x) ws) (k.at w) (all_kept (λ x. is_writer g w x) ws))
    ∙ sum_one m

module _ {X : Type 0} (o : GroupOrder X) (s : State X) (l : Like o s) where
  pub writers_many : length s.writers ≡ sum_of (λ x. length x.1.writers) o.groups
  unfolding no_group
  writers_many =
      sym (count_all (λ x. true) s.writers (all_yes s.writers))
      ∙ over_groups o.groups (λ x. x.group) (λ x. true) (λ m. length m.writers) s.writers l.ascend refl (λ g. group_writers g (or_default no_group (get guids g o.groups)).writers s.writers (l.each g).writers)

  pub ninth_same : (g : Guid) → not (knows_group g s.groups) && leb 8 (length s.groups) ≡ ninth g o
  unfolding ninth
  ninth_same g =
      ap (λ k. not (knows_group g k) && leb 8 (length k)) l.groups
      ∙ ap (λ b. not b && leb 8 (length (map (λ x. flat x) o.groups))) (known_group g o.groups)
      ∙ ap (λ n. not (is_some (get guids g o.groups)) && leb 8 n) (length_map (λ x. flat x) o.groups)

  pub pair33_same : (g w : Guid) → not (knows_writer g w s.writers) && leb 32 (length s.writers) ≡ pair33 g w o
  unfolding pair33 group_at
  pair33_same g w =
      ap (λ b. not b && leb 32 (length s.writers)) (known_writer g w (or_default no_group (get guids g o.groups)).writers s.writers (l.each g).writers)
      ∙ ap (λ n. not (is_some (get guids w (or_default no_group (get guids g o.groups)).writers)) && leb 32 n) writers_many

-- ---- entries

vec_count : {X : Type 0} (q : Entry X → Bool) (qm : S.Entry X → Bool) → ((e : Entry X) → qm (as_entry e) ≡ q e) → (l : List (Entry X)) → len_o (λ v. count qm v) (vec_of (map (λ e. as_entry e) l)) ≡ count q l
vec_count q qm h [] = sym (count_nil q)
vec_count q qm h (e ∷ l) = count_map qm (λ e. as_entry e) (e ∷ l) ∙ count_ext (λ e. qm (as_entry e)) q h (e ∷ l)

module _ {X : Type 0} where
  at_of : (g : Guid) (n : ℤ) (l : List (Entry X)) → filter (λ e. eq_z n (pos e.number)) (filter (λ e. same_guid g e.group) l) ≡ filter (λ e. is_at g n e) l
  unfolding is_at of_group
  at_of g n l = keep_keep (λ e. eq_z n (pos e.number)) (λ e. same_guid g e.group) l

  group_pending : (q : Entry X → Bool) (qm : S.Entry X → Bool) → ((e : Entry X) → qm (as_entry e) ≡ q e) → (g : Guid) (m : List (ℤ × List (S.Entry X))) (l : List (Entry X)) → PendingLike g m l
      → count q (filter (λ e. same_guid g e.group) l) ≡ sum_of (λ v. count qm v.1) m
  unfolding numbers
  group_pending q qm h g m l k =
      count_over numbers_lawful (λ n e. eq_z n (pos e.number)) (λ e. pos e.number) q (λ v. count qm v) (λ e d. eq_z_refl (pos e.number)) (λ a b e c d. ap (λ y. eq_z a y) (eq_z_eq b (pos e.number) d) ∙ c) m (filter (λ e. same_guid g e.group) l) k.ascend
      (λ n. ap (λ r. count q r) (at_of g n l) ∙ sym (vec_count q qm h (filter (λ e. is_at g n e) l)) ∙ ap (λ u. len_o (λ v. count qm v) u) (sym (k.at n)))

  in_of : (g : Guid) (z : ℤ) (l : List (Entry X)) → filter (λ h. is_set z h.set) (filter (λ h. same_guid g h.group) l) ≡ filter (λ h. in_set g z h) l
  unfolding in_set of_group
  in_of g z l = keep_keep (λ h. is_set z h.set) (λ h. same_guid g h.group) l

  set_own : (h : Entry X) (b : Bool) → is_some h.set && b ≡ true → is_set (or_default (pos 0) h.set) h.set ≡ true
  unfolding is_some
  set_own h b e = (elim h.set as (λ s. is_some s && b ≡ true → is_set (or_default (pos 0) s) s ≡ true) [ None ↦ λ d. not_both false d refl | Some z ↦ λ d. eq_z_refl z ]) e

  set_once : (k j : ℤ) (h : Entry X) → is_set k h.set ≡ true → is_set j h.set ≡ true → eq_z k j ≡ true
  set_once k j h c d = (elim h.set as (λ s. is_set k s ≡ true → is_set j s ≡ true → eq_z k j ≡ true) [ None ↦ λ c d. not_both false c refl | Some z ↦ λ c d. ap (λ y. eq_z k y) (eq_z_eq j z d) ∙ c ]) c d

  -- a figure of the held entries, set by set
  group_held : (q : Entry X → Bool) (len : OpenSet X → ℕ) → ((t : OpenSet X) (l : List (Entry X)) → OpenLike t l → count q l ≡ len t)
      → (g : Guid) (m : List (ℤ × OpenSet X)) (l : List (Entry X)) → list_all (λ h. is_some h.set) l ≡ true → SetsLike g m l
      → count q (filter (λ h. same_guid g h.group) l) ≡ sum_of (λ x. len x.1) m
  unfolding numbers
  group_held q len f g m l a k =
      sym (count_under (λ h. is_some h.set) q (filter (λ h. same_guid g h.group) l) (all_keep (λ h. is_some h.set) (λ h. same_guid g h.group) l a))
      ∙ count_over numbers_lawful (λ z h. is_set z h.set) (λ h. or_default (pos 0) h.set) (λ h. is_some h.set && q h) len (λ h e. set_own h (q h) e) (λ i j h c d. set_once i j h c d) m (filter (λ h. same_guid g h.group) l) k.ascend
      (λ z. ap (λ r. count (λ h. is_some h.set && q h) r) (in_of g z l) ∙ count_under (λ h. is_some h.set) q (filter (λ h. in_set g z h) l) (all_keep (λ h. is_some h.set) (λ h. in_set g z h) l a) ∙ held_case (get numbers z m) (filter (λ h. in_set g z h) l) (k.at z))
    where
      held_case : (u : Option (OpenSet X)) (r : List (Entry X)) → SetLike u r → count q r ≡ len_o len u
      held_case None [] closed = count_nil q
      held_case (Some t) r (opened b k) = f t r k
      held_case None (_ ∷ _) x4 = elim x4 [ ]

  member_count : (q : Entry X → Bool) (qm : S.Entry X → Bool) → ((e : Entry X) → qm (as_entry e) ≡ q e) → (t : OpenSet X) (l : List (Entry X)) → OpenLike t l → count (λ h. is_sample h && q h) l ≡ count qm t.members
  member_count q qm h t l k =
      sym (count_keep_in (λ h. is_sample h) q l)
      ∙ sym (ap (λ r. count qm r) k.members ∙ count_map qm (λ e. as_entry e) (filter (λ h. is_sample h) l) ∙ count_ext (λ e. qm (as_entry e)) q h (filter (λ h. is_sample h) l))

  end_not_sample : (w : What X) (x : SetEnd) → end_w w ≡ Some x → not (is_sample_w w) ≡ true
  end_not_sample (Sample i) x d = none_some x d
  end_not_sample (End u) x d = refl

  end_one : (u : Option SetEnd) (l : List (Entry X)) → EndLike u l → count (λ h. not (is_sample h)) l ≡ len_o (λ x. 1) u
  unfolding is_sample
  end_one None [] no_end = count_nil (λ h. not (is_sample h))
  end_one (Some x) (e ∷ []) (one_end d) = count_one (λ h. not (is_sample h)) e ∙ ap (λ b. cond b 1 0) (end_not_sample e.what x d)
  end_one None (e ∷ _) x3 = elim x3 [ ]
  end_one (Some x) [] x4 = elim x4 [ ]
  end_one (Some x) (e ∷ (_ ∷ _)) x9 = elim x9 [ ]

  pair_own : (h : Entry X) → not (is_sample h) ≡ true → is_pair_end (h.writer, h.reader) h ≡ true
  unfolding is_pair_end of_pair
  pair_own h e = and_true (not (is_sample h)) _ e (and_true (same_guid h.writer h.writer) _ (same_refl h.writer) (eq-eqb h.reader h.reader refl))

  end_count : (t : OpenSet X) (l : List (Entry X)) → OpenLike t l → count (λ h. not (is_sample h)) l ≡ length t.ends
  end_count t l k =
      count_over pairs_lawful (λ p h. is_pair_end p h) (λ h. (h.writer, h.reader)) (λ h. not (is_sample h)) (λ x. 1) (λ h e. pair_own h e) (λ p r h c d. pair_of p r h c d) t.ends l k.ends_ascend
      (λ p. end_one (get pairs p t.ends) (filter (λ h. is_pair_end p h) l) (k.ends p))
      ∙ sum_one t.ends

module _ {X : Type 0} (o : GroupOrder X) (s : State X) (l : Like o s) where
  pub pending_count : (q : Entry X → Bool) (qm : S.Entry X → Bool) → ((e : Entry X) → qm (as_entry e) ≡ q e) → count q s.pending ≡ sum_of (λ x. sum_of (λ v. count qm v.1) x.1.pending) o.groups
  unfolding no_group sum_of
  pending_count q qm h = over_groups o.groups (λ e. e.group) q (λ m. sum_of (λ v. count qm v.1) m.pending) s.pending l.ascend refl (λ g. group_pending q qm h g (or_default no_group (get guids g o.groups)).pending s.pending (l.each g).pending)

  held_count : (q : Entry X → Bool) (len : OpenSet X → ℕ) → ((t : OpenSet X) (l : List (Entry X)) → OpenLike t l → count q l ≡ len t) → count q s.held ≡ sum_of (λ x. sum_of (λ z. len z.1) x.1.sets) o.groups
  unfolding no_group sum_of
  held_count q len f = over_groups o.groups (λ e. e.group) q (λ m. sum_of (λ z. len z.1) m.sets) s.held l.ascend refl (λ g. group_held q len f g (or_default no_group (get guids g o.groups)).sets s.held l.held_sets (l.each g).sets)

  pub member_figure : (q : Entry X → Bool) (qm : S.Entry X → Bool) → ((e : Entry X) → qm (as_entry e) ≡ q e) → count (λ h. is_sample h && q h) s.held ≡ sum_of (λ x. sum_of (λ z. count qm z.1.members) x.1.sets) o.groups
  member_figure q qm h = held_count (λ h. is_sample h && q h) (λ t. count qm t.members) (λ t r k. member_count q qm h t r k)

  pub end_figure : count (λ h. not (is_sample h)) s.held ≡ sum_of (λ x. sum_of (λ z. length z.1.ends) x.1.sets) o.groups
  end_figure = held_count (λ h. not (is_sample h)) (λ t. length t.ends) (λ t r k. end_count t r k)

  -- ---- the figures

  pub always : {A : Type 0} (r : List A) → count (λ a. true) r ≡ length r
  always r = count_all (λ a. true) r (all_yes r)

  pub members_held : count (λ h. is_sample h) s.held ≡ sum_of (λ x. sum_of (λ z. length z.1.members) x.1.sets) o.groups
  members_held =
      count_ext (λ h. is_sample h) (λ h. is_sample h && true) (λ h. and_true_r (is_sample h)) s.held ∙ member_figure (λ e. true) (λ e. true) (λ e. refl)
      ∙ sum_ext (λ x. sum_of (λ z. count (λ e. true) z.1.members) x.1.sets) (λ x. sum_of (λ z. length z.1.members) x.1.sets) (λ x. sum_ext (λ z. count (λ e. true) z.1.members) (λ z. length z.1.members) (λ z. always z.1.members) x.1.sets) o.groups

  pub stored_same : length s.pending + length s.held ≡ stored o
  unfolding stored stored_in count
  stored_same =
      let a : length s.pending ≡ sum_of (λ x. sum_of (λ v. length v.1) x.1.pending) o.groups =
      sym (always s.pending) ∙ pending_count (λ e. true) (λ e. true) (λ e. refl) ∙ sum_ext (λ x. sum_of (λ v. count (λ e. true) v.1) x.1.pending) (λ x. sum_of (λ v. length v.1) x.1.pending) (λ x. sum_ext (λ v. count (λ e. true) v.1) (λ v. length v.1) (λ v. always v.1) x.1.pending) o.groups in
      let b = members_held in
      let c = end_figure in
      let d : sum_of (λ x. sum_of (λ z. length z.1.members + length z.1.ends) x.1.sets) o.groups ≡ sum_of (λ x. sum_of (λ z. length z.1.members) x.1.sets) o.groups + sum_of (λ x. sum_of (λ z. length z.1.ends) x.1.sets) o.groups =
      sum_ext (λ x. sum_of (λ z. length z.1.members + length z.1.ends) x.1.sets) (λ x. sum_of (λ z. length z.1.members) x.1.sets + sum_of (λ z. length z.1.ends) x.1.sets) (λ x. sum_plus (λ z. length z.1.members) (λ z. length z.1.ends) x.1.sets) o.groups
      ∙ sum_plus (λ x. sum_of (λ z. length z.1.members) x.1.sets) (λ x. sum_of (λ z. length z.1.ends) x.1.sets) o.groups in
      let e = sum_plus (λ x. sum_of (λ v. length v.1) x.1.pending) (λ x. sum_of (λ z. length z.1.members + length z.1.ends) x.1.sets) o.groups in
      omega (arith, a, b, c, d, e, length_split (λ h. is_sample h) s.held)

  item_sample : (e : Entry X) → is_some (as_entry e).item ≡ is_sample e
  unfolding as_entry is_sample is_some
  item_sample e = elim e.what as (λ w. is_some (item_w w) ≡ is_sample_w w) [ Sample x ↦ refl | End u ↦ refl ]

  as_reader : (e : Entry X) → (as_entry e).reader ≡ e.reader
  unfolding as_entry
  as_reader e = refl

  pub samples_same : count (λ e. is_sample e) s.pending + count (λ e. is_sample e) s.held ≡ samples o
  unfolding samples samples_in
  samples_same =
      let a = pending_count (λ e. is_sample e) (λ e. is_some e.item) (λ e. item_sample e) in
      let b = members_held in
      omega (arith, a, b, sum_plus (λ x. sum_of (λ v. count (λ e. is_some e.item) v.1) x.1.pending) (λ x. sum_of (λ z. length z.1.members) x.1.sets) o.groups)

  -- held_for
  pub waiting_same : (r : ℕ) → count (λ e. is_sample e && eqb r e.reader) s.pending + count (λ e. is_sample e && eqb r e.reader) s.held ≡ held_for o r
  unfolding held_for
  waiting_same r =
      let a = pending_count (λ e. is_sample e && eqb r e.reader) (λ e. is_some e.item && eqb r e.reader) (λ e. ap (λ b. b && eqb r (as_entry e).reader) (item_sample e) ∙ ap (λ k. is_sample e && eqb r k) (as_reader e)) in
      let b = member_figure (λ e. eqb r e.reader) (λ e. eqb r e.reader) (λ e. ap (λ k. eqb r k) (as_reader e)) in
      omega (arith, a, b, sum_plus (λ x. sum_of (λ v. count (λ e. is_some e.item && eqb r e.reader) v.1) x.1.pending) (λ x. sum_of (λ z. count (λ e. eqb r e.reader) z.1.members) x.1.sets) o.groups)
