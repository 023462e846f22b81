-- Pending entries and open sets: what is pushed, taken, kept and removed is alike on both sides.
use Prim.Native.Nat.{ℕ}
use mathlib.Core.Path.{◌≡◌, refl, sym, ap, ◌∙◌}
use mathlib.Core.Bool.{Bool, true, false, ◌&&◌, ◌||◌, not, cond}
use mathlib.Core.List.{List, [], ◌∷◌, ◌++◌, map}
use Rattle.std.specs.Prelude.{Option, Some, None}
use lib.IntN.{ℤ, pos}
use borrow.Author.Tests.{eqb-true}
use Rattle.laws.specs.Whole.{eq_z}
use Rattle.laws.specs.Lists.{filter, list_any, is_some}
use Rattle.guids.specs.Guid.{Guid, same_guid}
use Rattle.rules.specs.Entry.{set_end, is_sample, is_sample_w, is_set, same_set, of_group, in_set, of_pair, marks}
use Rattle.rules.specs.declared.entry.What.{What}
use Rattle.rules.specs.declared.entry.What.TheVariants.{Sample, End}
use Rattle.rules.specs.declared.entry.Entry.{Entry}
use Rattle.rules.specs.Sets.{without}
use Rattle.rules.specs.Offer.{shares, replaced, marked, keep_end}
use Rattle.laws.proofs.Lists.{not_both, and_true, and_left, and_right, keep_append, keep_none, keep_same, keep_keep, keep_under, keep_last, any_append, any_empty, and_never, true_or_false}
use Rattle.guids.proofs.Guids.{same_eq}
use Rattle.rules.proofs.Minima.{eq_z_refl, eq_z_eq}
use Rattle.source_model.specs.Map.{numbers, pairs, or_default, get, insert, entry, remove, ascends}
use Rattle.source_model.specs.Source.{SetEnd, OpenSet, no_set, with_member, ended}
use Rattle.source_model.specs.Source as S
use Rattle.source_model.specs.Calls.{end_w}
use Rattle.source_model.proofs.Maps.{numbers_lawful, pairs_lawful, get_insert, get_remove, insert_ascends, remove_ascends}
use Rattle.source_model.proofs.Like.{as_entry, vec_of, is_at, PendingLike, is_pair_end, EndLike, no_end, one_end, OpenLike, SetLike, closed, opened, SetsLike}

-- ---- pending

pub and_three : (a b c : Bool) → a && b && c ≡ a && (b && c)
and_three true b c = refl
and_three false b c = refl

and_swap_not : (a b : Bool) → not (a && b) && a ≡ a && not b
and_swap_not true true = refl
and_swap_not true false = refl
and_swap_not false b = refl

pub never : (b : Bool) → not b && b ≡ false
never true = refl
never false = refl

pub or_false : (b : Bool) → b || false ≡ b
or_false true = refl
or_false false = refl

pub map_append : {A B : Type 0} (f : A → B) (l m : List A) → map f (l ++ m) ≡ map f l ++ map f m
map_append f [] m = refl
map_append f (a ∷ l) m = ap (λ r. f a ∷ r) (map_append f l m)

pub vec_back : {A : Type 0} (l : List A) → or_default [] (vec_of l) ≡ l
vec_back [] = refl
vec_back (a ∷ l) = refl

vec_snoc : {A : Type 0} (l : List A) (a : A) → vec_of (l ++ (a ∷ [])) ≡ Some (l ++ (a ∷ []))
vec_snoc [] a = refl
vec_snoc (b ∷ l) a = refl

module _ {X : Type 0} where
  pub keep_first : (p : Entry X → Bool) (l : List (Entry X)) (e : Entry X) → p e ≡ true → filter p (l ++ (e ∷ [])) ≡ filter p l ++ (e ∷ [])
  keep_first p l e h = rw (keep_append p l (e ∷ []), h)

  at_own : (g : Guid) (n : ℤ) (e : Entry X) → of_group g e ≡ true → eq_z n (pos e.number) ≡ true → is_at g n e ≡ true
  unfolding is_at
  at_own g n e o d = and_true (of_group g e) _ o d

  at_other : (g : Guid) (n : ℤ) (e : Entry X) → eq_z n (pos e.number) ≡ false → is_at g n e ≡ false
  unfolding is_at
  at_other g n e d = and_never (of_group g e) _ d

  pub push_like : (g : Guid) (m : List (ℤ × List (S.Entry X))) (l : List (Entry X)) (e : Entry X) → of_group g e ≡ true → PendingLike g m l
      → PendingLike g (entry numbers [] (pos e.number) (λ v. v ++ (as_entry e ∷ [])) m) (l ++ (e ∷ []))
  unfolding entry numbers
  push_like g m l e o k = record {
    at = λ n. rw (get_insert numbers_lawful n (pos e.number) (or_default [] (get numbers (pos e.number) m) ++ (as_entry e ∷ [])) m)
        ((elim (eq_z n (pos e.number)) as (λ t. eq_z n (pos e.number) ≡ t → cond t (Some (or_default [] (get numbers (pos e.number) m) ++ (as_entry e ∷ []))) (get numbers n m) ≡ vec_of (map (λ e. as_entry e) (filter (λ x. is_at g n x) (l ++ (e ∷ []))))) [
          | true ↦ λ d.
              let q : n ≡ pos e.number = eq_z_eq n (pos e.number) d in
              rw (keep_first (λ x. is_at g n x) l e (at_own g n e o d), map_append (λ e. as_entry e) (filter (λ x. is_at g n x) l) (e ∷ []), vec_snoc (map (λ e. as_entry e) (filter (λ x. is_at g n x) l)) (as_entry e), ← q, k.at n, vec_back (map (λ e. as_entry e) (filter (λ x. is_at g n x) l)))
          | false ↦ λ d. rw (keep_last (λ x. is_at g n x) l e (at_other g n e d)) (k.at n)
        ]) refl);
    ascend = insert_ascends numbers_lawful (pos e.number) (or_default [] (get numbers (pos e.number) m) ++ (as_entry e ∷ [])) m k.ascend;
  }

  not_at : (h : Guid) (n : ℤ) (e : Entry X) → of_group h e ≡ false → is_at h n e ≡ false
  unfolding is_at
  not_at h n e d = rw d

  -- of another group
  pub push_other : (h : Guid) (m : List (ℤ × List (S.Entry X))) (l : List (Entry X)) (e : Entry X) → of_group h e ≡ false → PendingLike h m l → PendingLike h m (l ++ (e ∷ []))
  push_other h m l e d k = record {
    at = λ n. rw (keep_last (λ x. is_at h n x) l e (not_at h n e d)) (k.at n);
    ascend = k.ascend;
  }

  -- the entries of one number leave
  none_left : (g : Guid) (n : ℤ) (l : List (Entry X)) → filter (λ x. is_at g n x) (filter (λ x. not (is_at g n x)) l) ≡ []
  none_left g n l = keep_keep (λ x. is_at g n x) (λ x. not (is_at g n x)) l ∙ keep_none (λ x. not (is_at g n x) && is_at g n x) l (any_empty (λ x. not (is_at g n x) && is_at g n x) (λ x. elim (is_at g n x) as (λ b. not b && b ≡ false) [ true ↦ refl | false ↦ refl ]) l)

  one_number : (g : Guid) (n k : ℤ) (e : Entry X) → eq_z k n ≡ false → is_at g k e ≡ true → not (is_at g n e) ≡ true
  unfolding is_at
  one_number g n k e d h =
      ap not (and_never (of_group g e) (eq_z n (pos e.number)) (true_or_false (eq_z n (pos e.number)) (λ q. not_both (eq_z k n) (rw (eq_z_eq n (pos e.number) q) (and_right (of_group g e) _ h)) d)))

  pub take_like : (g : Guid) (n : ℤ) (m : List (ℤ × List (S.Entry X))) (l : List (Entry X)) → PendingLike g m l
      → PendingLike g (remove numbers n m) (filter (λ x. not (is_at g n x)) l)
  unfolding numbers
  take_like g n m l p = record {
    at = λ k. rw (get_remove numbers_lawful k n m)
        ((elim (eq_z k n) as (λ t. eq_z k n ≡ t → cond t None (get numbers k m) ≡ vec_of (map (λ e. as_entry e) (filter (λ x. is_at g k x) (filter (λ x. not (is_at g n x)) l)))) [
          | true ↦ λ d. rw (eq_z_eq k n d, none_left g n l)
          | false ↦ λ d. rw (keep_under (λ x. not (is_at g n x)) (λ x. is_at g k x) (λ x h. one_number g n k x d h) l) (p.at k)
        ]) refl);
    ascend = remove_ascends numbers_lawful n m p.ascend;
  }

  -- ---- open sets

  pub no_set_like : OpenLike {X = X} no_set []
  unfolding no_set get ascends
  no_set_like = record { members = refl; ends = λ p. no_end; ends_ascend = refl; ended = refl }

  pub set_open : (o : Option (OpenSet X)) (l : List (Entry X)) → SetLike o l → OpenLike (or_default no_set o) l
  set_open None [] closed = no_set_like
  set_open (Some s) l (opened a k) = k
  set_open None (_ ∷ _) x4 = elim x4 [ ]

  not_sample : (w : What X) (x : SetEnd) → end_w w ≡ Some x → is_sample_w w ≡ false
  not_sample (Sample i) x e = cc
  not_sample (End u) x e = refl

  -- a kept end
  sample_stays : (q : Guid × ℕ) (h : Entry X) → is_sample h ≡ true → not (is_pair_end q h) ≡ true
  unfolding is_pair_end
  sample_stays q h e = rw e

  marked_sample : (m : Option ℕ) (e : Entry X) (x : SetEnd) → end_w e.what ≡ Some x → is_sample (marked m e) ≡ false
  unfolding is_sample marked
  marked_sample m e x d = not_sample e.what x d

  marked_end : (m : Option ℕ) (e : Entry X) (x : SetEnd) (p : Guid × ℕ) → end_w e.what ≡ Some x → is_pair_end p (marked m e) ≡ pairs.same p (e.writer, e.reader)
  unfolding is_pair_end marked is_sample of_pair pairs
  marked_end m e x p d = rw (not_sample e.what x d)

  pub pair_of : (p q : Guid × ℕ) (h : Entry X) → is_pair_end p h ≡ true → is_pair_end q h ≡ true → pairs.same p q ≡ true
  unfolding is_pair_end of_pair pairs
  pair_of p q h a b =
      let x = and_right (not (is_sample h)) _ a in
      let y = and_right (not (is_sample h)) _ b in
      rw (same_eq q.0 h.writer (and_left (same_guid q.0 h.writer) _ y), eqb-true q.1 h.reader (and_right (same_guid q.0 h.writer) _ y)) x

  no_pair_left : (q : Guid × ℕ) (l : List (Entry X)) → filter (λ h. is_pair_end q h) (filter (λ h. not (is_pair_end q h)) l) ≡ []
  no_pair_left q l = keep_keep (λ h. is_pair_end q h) (λ h. not (is_pair_end q h)) l ∙ keep_none (λ h. not (is_pair_end q h) && is_pair_end q h) l (any_empty (λ h. not (is_pair_end q h) && is_pair_end q h) (λ h. elim (is_pair_end q h) as (λ b. not b && b ≡ false) [ true ↦ refl | false ↦ refl ]) l)

  pub marked_what : (m : Option ℕ) (e : Entry X) → (marked m e).what ≡ e.what
  unfolding marked
  marked_what m e = refl

  marked_marks : (m : Option ℕ) (e : Entry X) → marks (marked m e) ≡ is_some m
  unfolding marked marks
  marked_marks m e = refl

  -- the set with the end of e kept in place of its pair's earlier one, and a flag
  unfoldable pub keeping : Bool → Entry X → SetEnd → OpenSet X → OpenSet X
  keeping b e x s = record { members = s.members; ends = insert pairs (e.writer, e.reader) x s.ends; end_committed = b }

  pub keep_end_like : (b : Bool) (m : Option ℕ) (e : Entry X) (x : SetEnd) (s : OpenSet X) (l : List (Entry X)) → end_w e.what ≡ Some x
      → b ≡ list_any (λ h. marks h) (filter (λ h. not (is_pair_end (e.writer, e.reader) h)) l) || is_some m
      → OpenLike s l → OpenLike (keeping b e x s) (filter (λ h. not (is_pair_end (e.writer, e.reader) h)) l ++ (marked m e ∷ []))
  unfolding keeping
  keep_end_like b m e x s l d f k =
      let q : Guid × ℕ = (e.writer, e.reader) in
      let r : List (Entry X) = filter (λ h. not (is_pair_end q h)) l in
      record {
        members = k.members ∙ ap (λ z. map (λ e. as_entry e) z) (sym (keep_last (λ h. is_sample h) r (marked m e) (marked_sample m e x d) ∙ keep_under (λ h. not (is_pair_end q h)) (λ h. is_sample h) (λ h. sample_stays q h) l));
        ends = λ p. rw (get_insert pairs_lawful p q x s.ends)
            ((elim (pairs.same p q) as (λ t. pairs.same p q ≡ t → EndLike (cond t (Some x) (get pairs p s.ends)) (filter (λ h. is_pair_end p h) (r ++ (marked m e ∷ [])))) [
              | true ↦ λ a. rw (pairs_lawful.same_is p q a, keep_first (λ h. is_pair_end q h) r (marked m e) (marked_end m e x q d ∙ pairs_lawful.same_self q), no_pair_left q l) (one_end (ap (λ w. end_w w) (marked_what m e) ∙ d))
              | false ↦ λ a. rw (keep_last (λ h. is_pair_end p h) r (marked m e) (marked_end m e x p d ∙ a), keep_under (λ h. not (is_pair_end q h)) (λ h. is_pair_end p h) (λ h u. ap not (true_or_false (is_pair_end q h) (λ v. not_both (pairs.same p q) (pair_of p q h u v) a))) l) (k.ends p)
            ]) refl);
        ends_ascend = insert_ascends pairs_lawful q x s.ends k.ends_ascend;
        ended = f ∙ sym (any_append (λ h. marks h) r (marked m e ∷ []) ∙ ap (λ z. list_any (λ h. marks h) r || (z || false)) (marked_marks m e) ∙ ap (λ z. list_any (λ h. marks h) r || z) (or_false (is_some m)));
      }

  -- ---- the group's open sets

  -- e is of the group's set z
  pub shares_in : (g : Guid) (z : ℤ) (e h : Entry X) → of_group g e ≡ true → e.set ≡ Some z → shares e h ≡ in_set g z h
  unfolding shares in_set of_group
  shares_in g z e h o d = rw (same_eq g e.group o) (ap (λ s. same_guid e.group h.group && same_set s h.set) d)

  pub replaced_in : (g : Guid) (z : ℤ) (e h : Entry X) → of_group g e ≡ true → e.set ≡ Some z → replaced e h ≡ in_set g z h && is_pair_end (e.writer, e.reader) h
  unfolding replaced is_pair_end
  replaced_in g z e h o d = rw (shares_in g z e h o d) (and_three (in_set g z h) (not (is_sample h)) (of_pair e.writer e.reader h))

  marked_set : (m : Option ℕ) (g : Guid) (z : ℤ) (e : Entry X) → in_set g z (marked m e) ≡ in_set g z e
  unfolding marked in_set of_group
  marked_set m g z e = refl

  pub in_own : (g : Guid) (z : ℤ) (e : Entry X) → of_group g e ≡ true → e.set ≡ Some z → in_set g z e ≡ true
  unfolding in_set
  in_own g z e o d = and_true (of_group g e) _ o (ap (λ s. is_set z s) d ∙ eq_z_refl z)

  pub in_other : (g : Guid) (z y : ℤ) (e : Entry X) → e.set ≡ Some z → eq_z y z ≡ false → in_set g y e ≡ false
  unfolding in_set
  in_other g z y e d a = and_never (of_group g e) _ (ap (λ s. is_set y s) d ∙ a)

  one_set : (g : Guid) (z y : ℤ) (h : Entry X) → eq_z y z ≡ false → in_set g y h ≡ true → in_set g z h ≡ false
  unfolding in_set
  one_set g z y h a b =
      and_never (of_group g h) (is_set z h.set)
      ((elim h.set as (λ s. is_set y s ≡ true → is_set z s ≡ false) [
        | None ↦ λ c. refl
        | Some v ↦ λ c. true_or_false (eq_z z v) (λ k. not_both (eq_z y z) (rw (eq_z_eq z v k) c) a)
      ]) (and_right (of_group g h) _ b))

  kept_own : (m : Option ℕ) (g : Guid) (z : ℤ) (e : Entry X) (l : List (Entry X)) → of_group g e ≡ true → e.set ≡ Some z
      → filter (λ h. in_set g z h) (keep_end m e l) ≡ filter (λ h. not (is_pair_end (e.writer, e.reader) h)) (filter (λ h. in_set g z h) l) ++ (marked m e ∷ [])
  unfolding keep_end
  kept_own m g z e l o d =
      keep_first (λ h. in_set g z h) (filter (λ h. not (replaced e h)) l) (marked m e) (marked_set m g z e ∙ in_own g z e o d)
      ∙ ap (λ r. r ++ (marked m e ∷ []))
      (keep_keep (λ h. in_set g z h) (λ h. not (replaced e h)) l
      ∙ keep_same (λ h. not (replaced e h) && in_set g z h) (λ h. in_set g z h && not (is_pair_end (e.writer, e.reader) h)) (λ h. ap (λ b. not b && in_set g z h) (replaced_in g z e h o d) ∙ and_swap_not (in_set g z h) (is_pair_end (e.writer, e.reader) h)) l
      ∙ sym (keep_keep (λ h. not (is_pair_end (e.writer, e.reader) h)) (λ h. in_set g z h) l))

  kept_other : (m : Option ℕ) (g : Guid) (z y : ℤ) (e : Entry X) (l : List (Entry X)) → of_group g e ≡ true → e.set ≡ Some z → eq_z y z ≡ false
      → filter (λ h. in_set g y h) (keep_end m e l) ≡ filter (λ h. in_set g y h) l
  unfolding keep_end
  kept_other m g z y e l o d a =
      keep_last (λ h. in_set g y h) (filter (λ h. not (replaced e h)) l) (marked m e) (marked_set m g y e ∙ in_other g z y e d a)
      ∙ keep_under (λ h. not (replaced e h)) (λ h. in_set g y h) (λ h b. ap not (replaced_in g z e h o d ∙ ap (λ c. c && is_pair_end (e.writer, e.reader) h) (one_set g z y h a b))) l

  snoc_any : (l : List (Entry X)) (e : Entry X) → list_any (λ h. true) (l ++ (e ∷ [])) ≡ true
  snoc_any [] e = refl
  snoc_any (h ∷ l) e = refl

  pub keep_end_sets : (b : Bool) (mk : Option ℕ) (g : Guid) (z : ℤ) (e : Entry X) (x : SetEnd) (m : List (ℤ × OpenSet X)) (l : List (Entry X)) → of_group g e ≡ true → e.set ≡ Some z → end_w e.what ≡ Some x
      → b ≡ list_any (λ h. marks h) (filter (λ h. not (is_pair_end (e.writer, e.reader) h)) (filter (λ h. in_set g z h) l)) || is_some mk
      → SetsLike g m l → SetsLike g (insert numbers z (keeping b e x (or_default no_set (get numbers z m))) m) (keep_end mk e l)
  unfolding numbers
  keep_end_sets b mk g z e x m l o d w f k = record {
    at = λ y. rw (get_insert numbers_lawful y z (keeping b e x (or_default no_set (get numbers z m))) m)
        ((elim (eq_z y z) as (λ t. eq_z y z ≡ t → SetLike (cond t (Some (keeping b e x (or_default no_set (get numbers z m)))) (get numbers y m)) (filter (λ h. in_set g y h) (keep_end mk e l))) [
          | true ↦ λ a. rw (eq_z_eq y z a, kept_own mk g z e l o d)
              (opened (snoc_any (filter (λ h. not (is_pair_end (e.writer, e.reader) h)) (filter (λ h. in_set g z h) l)) (marked mk e)) (keep_end_like b mk e x (or_default no_set (get numbers z m)) (filter (λ h. in_set g z h) l) w f (set_open (get numbers z m) (filter (λ h. in_set g z h) l) (k.at z))))
          | false ↦ λ a. rw (kept_other mk g z y e l o d a) (k.at y)
        ]) refl);
    ascend = insert_ascends numbers_lawful z (keeping b e x (or_default no_set (get numbers z m))) m k.ascend;
  }

  -- of another group
  not_in : (h : Guid) (z : ℤ) (e : Entry X) → of_group h e ≡ false → in_set h z e ≡ false
  unfolding in_set
  not_in h z e d = rw d

  pub group_apart : (g h : Guid) (e : Entry X) → of_group g e ≡ true → same_guid h g ≡ false → of_group h e ≡ false
  unfolding of_group
  group_apart g h e o d = ap (λ y. same_guid h y) (sym (same_eq g e.group o)) ∙ d

  in_group : (h : Guid) (z : ℤ) (e : Entry X) → in_set h z e ≡ true → of_group h e ≡ true
  unfolding in_set
  in_group h z e d = and_left (of_group h e) _ d

  marked_group : (mk : Option ℕ) (h : Guid) (e : Entry X) → of_group h (marked mk e) ≡ of_group h e
  unfolding marked of_group
  marked_group mk h e = refl

  replaced_group : (g : Guid) (e x : Entry X) → of_group g e ≡ true → replaced e x ≡ true → of_group g x ≡ true
  unfolding replaced shares of_group
  replaced_group g e x o d = rw (same_eq g e.group o) (and_left (same_guid e.group x.group) _ (and_left (same_guid e.group x.group && same_set e.set x.set) _ (and_left (same_guid e.group x.group && same_set e.set x.set && not (is_sample x)) _ d)))

  pub keep_end_other : (mk : Option ℕ) (g h : Guid) (e : Entry X) (m : List (ℤ × OpenSet X)) (l : List (Entry X)) → of_group g e ≡ true → same_guid h g ≡ false → SetsLike h m l → SetsLike h m (keep_end mk e l)
  unfolding keep_end
  keep_end_other mk g h e m l o d k = record {
    at = λ y. rw (
      keep_last (λ x. in_set h y x) (filter (λ x. not (replaced e x)) l) (marked mk e) (not_in h y (marked mk e) (marked_group mk h e ∙ group_apart g h e o d)),
      keep_under (λ x. not (replaced e x)) (λ x. in_set h y x) (λ x a. ap not (true_or_false (replaced e x) (λ b. not_both (of_group h x) (in_group h y x a) (group_apart g h x (replaced_group g e x o b) d)))) l,
    ) (k.at y);
    ascend = k.ascend;
  }

  -- a member joins
  member_open : (e : Entry X) (s : OpenSet X) (l : List (Entry X)) → is_sample e ≡ true → marks e ≡ false → OpenLike s l → OpenLike (with_member (as_entry e) s) (l ++ (e ∷ []))
  unfolding with_member is_pair_end
  member_open e s l i u k = record {
    members = ap (λ r. r ++ (as_entry e ∷ [])) k.members ∙ sym (ap (λ r. map (λ e. as_entry e) r) (keep_first (λ h. is_sample h) l e i) ∙ map_append (λ e. as_entry e) (filter (λ h. is_sample h) l) (e ∷ []));
    ends = λ p. rw (keep_last (λ h. is_pair_end p h) l e (ap (λ b. not b && of_pair p.0 p.1 e) i)) (k.ends p);
    ends_ascend = k.ends_ascend;
    ended = k.ended ∙ sym (any_append (λ h. marks h) l (e ∷ []) ∙ ap (λ b. list_any (λ h. marks h) l || (b || false)) u ∙ or_false (list_any (λ h. marks h) l));
  }

  pub member_sets : (g : Guid) (z : ℤ) (e : Entry X) (m : List (ℤ × OpenSet X)) (l : List (Entry X)) → of_group g e ≡ true → e.set ≡ Some z → is_sample e ≡ true → marks e ≡ false
      → SetsLike g m l → SetsLike g (insert numbers z (with_member (as_entry e) (or_default no_set (get numbers z m))) m) (l ++ (e ∷ []))
  unfolding numbers
  member_sets g z e m l o d i u k = record {
    at = λ y. rw (get_insert numbers_lawful y z (with_member (as_entry e) (or_default no_set (get numbers z m))) m)
        ((elim (eq_z y z) as (λ t. eq_z y z ≡ t → SetLike (cond t (Some (with_member (as_entry e) (or_default no_set (get numbers z m)))) (get numbers y m)) (filter (λ h. in_set g y h) (l ++ (e ∷ [])))) [
          | true ↦ λ a. rw (eq_z_eq y z a, keep_first (λ h. in_set g z h) l e (in_own g z e o d))
              (opened (snoc_any (filter (λ h. in_set g z h) l) e) (member_open e (or_default no_set (get numbers z m)) (filter (λ h. in_set g z h) l) i u (set_open (get numbers z m) (filter (λ h. in_set g z h) l) (k.at z))))
          | false ↦ λ a. rw (keep_last (λ h. in_set g y h) l e (in_other g z y e d a)) (k.at y)
        ]) refl);
    ascend = insert_ascends numbers_lawful z (with_member (as_entry e) (or_default no_set (get numbers z m))) m k.ascend;
  }

  -- a set leaves
  none_in : (g : Guid) (z : ℤ) (l : List (Entry X)) → filter (λ h. in_set g z h) (without g z l) ≡ []
  unfolding without
  none_in g z l = keep_keep (λ h. in_set g z h) (λ h. not (in_set g z h)) l ∙ keep_none (λ h. not (in_set g z h) && in_set g z h) l (any_empty (λ h. not (in_set g z h) && in_set g z h) (λ h. never (in_set g z h)) l)

  unfold_without : (g : Guid) (z y : ℤ) (l : List (Entry X)) → eq_z y z ≡ false → filter (λ h. in_set g y h) (without g z l) ≡ filter (λ h. in_set g y h) l
  unfolding without
  unfold_without g z y l a = keep_under (λ h. not (in_set g z h)) (λ h. in_set g y h) (λ h b. ap not (one_set g z y h a b)) l

  pub remove_sets : (g : Guid) (z : ℤ) (m : List (ℤ × OpenSet X)) (l : List (Entry X)) → SetsLike g m l → SetsLike g (remove numbers z m) (without g z l)
  unfolding numbers
  remove_sets g z m l k = record {
    at = λ y. rw (get_remove numbers_lawful y z m)
        ((elim (eq_z y z) as (λ t. eq_z y z ≡ t → SetLike (cond t None (get numbers y m)) (filter (λ h. in_set g y h) (without g z l))) [
          | true ↦ λ a. rw (eq_z_eq y z a, none_in g z l) closed
          | false ↦ λ a. rw (unfold_without g z y l a) (k.at y)
        ]) refl);
    ascend = remove_ascends numbers_lawful z m k.ascend;
  }
