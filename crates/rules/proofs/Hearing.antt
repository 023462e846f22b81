-- Hearing of a group and a writer: groups stay in the order of their GUIDs, each writer stands once, no committed number changes.
use Prim.Native.Nat.{ℕ, suc, ◌≤◌}
use mathlib.Core.Path.{◌≡◌, refl, sym, ap, ◌∙◌}
use mathlib.Core.Bool.{Bool, true, false, ◌&&◌, ◌||◌, not, cond}
use mathlib.Core.List.{List, [], ◌∷◌, ◌++◌, map}
use Rattle.std.specs.Prelude.{Some}
use native.Mathlib.Omega.{arith}
use lib.Dec.{leb}
use lib.ListN.{length, length-append}
use borrow.Author.Tests.{leb-false, not-true}
use Rattle.laws.specs.Lists.{list_all, list_any, find, change}
use Rattle.guids.specs.Guid.{Guid, same_guid, before}
use Rattle.rules.specs.State.{Group, Writer, is_group, is_writer, knows_group, knows_writer, committed_in, committed_of, new_group, new_writer}
use Rattle.rules.specs.Marks.{insert_group, hear_group, hear_writer, tell}
use Rattle.rules.specs.Claim.{ascending, distinct}
use Rattle.laws.proofs.Lists.{not_both, and_true, and_left, and_right, or_true_left, or_true_right, all_imp, all_snoc, any_append, map_change, all_by_map, any_by_map, length_by_map}
use Rattle.guids.proofs.Guids.{same_eq, same_refl, same_sym, before_trans, trichotomy}

or_swap : (a b c : Bool) → a || (b || c) ≡ b || (a || c)
or_swap true true c = refl
or_swap true false c = refl
or_swap false b c = refl

-- ---- groups alike in their GUIDs

pub ascending_by : (l k : List Group) → map (λ x. x.guid) l ≡ map (λ x. x.guid) k → ascending l ≡ ascending k
unfolding ascending
ascending_by [] [] e = refl
ascending_by [] (y ∷ k) e = cc
ascending_by (x ∷ l) [] e = cc
ascending_by (x ∷ l) (y ∷ k) e =
    let d : x.guid ≡ y.guid = cc in
    let f : map (λ x. x.guid) l ≡ map (λ x. x.guid) k = cc in
    rw (d, ascending_by l k f, all_by_map (λ g. before y.guid g) (λ x. x.guid) l k f)

pub knows_by : (h : Guid) (l k : List Group) → map (λ x. x.guid) l ≡ map (λ x. x.guid) k → knows_group h l ≡ knows_group h k
unfolding knows_group is_group
knows_by h l k e = any_by_map (λ g. same_guid h g) (λ x. x.guid) l k e

pub committed_cons : (h : Guid) (y : Group) (l : List Group) → committed_of h (y ∷ l) ≡ cond (same_guid h y.guid) y.committed (committed_of h l)
unfolding committed_of committed_in is_group
committed_cons h y l = (elim (same_guid h y.guid) as (λ b. committed_in (cond b (Some y) (find (λ x. is_group h x) l)) ≡ cond b y.committed (committed_of h l)) [ true ↦ refl | false ↦ refl ])

-- a change of neither GUIDs nor committed numbers
pub committed_change : (h : Guid) (q : Group → Bool) (f : Group → Group) → ((x : Group) → (f x).guid ≡ x.guid) → ((x : Group) → (f x).committed ≡ x.committed)
    → (l : List Group) → committed_of h (change q f l) ≡ committed_of h l
unfolding change
committed_change h q f d e [] = refl
committed_change h q f d e (y ∷ l) = (elim (q y) as (λ b. committed_of h (cond b (f y ∷ l) (y ∷ change q f l)) ≡ committed_of h (y ∷ l)) [ true ↦ rw (committed_cons h (f y) l, committed_cons h y l, d y, e y) | false ↦ rw (committed_cons h y (change q f l), committed_cons h y l, committed_change h q f d e l) ])

-- ---- a group put in its place

pub insert_all : (p : Group → Bool) (x : Group) (l : List Group) → p x ≡ true → list_all p l ≡ true → list_all p (insert_group x l) ≡ true
unfolding insert_group
insert_all p x [] d e = and_true (p x) true d refl
insert_all p x (y ∷ l) d e = (elim (before x.guid y.guid) as (λ b. list_all p (cond b (x ∷ y ∷ l) (y ∷ insert_group x l)) ≡ true) [ true ↦ and_true (p x) _ d e | false ↦ and_true (p y) _ (and_left (p y) _ e) (insert_all p x l d (and_right (p y) _ e)) ])

pub insert_any : (p : Group → Bool) (x : Group) (l : List Group) → list_any p (insert_group x l) ≡ p x || list_any p l
unfolding insert_group
insert_any p x [] = refl
insert_any p x (y ∷ l) = (elim (before x.guid y.guid) as (λ b. list_any p (cond b (x ∷ y ∷ l) (y ∷ insert_group x l)) ≡ p x || (p y || list_any p l)) [ true ↦ refl | false ↦ ap (λ b. p y || b) (insert_any p x l) ∙ or_swap (p y) (p x) (list_any p l) ])

insert_length : (x : Group) (l : List Group) → length (insert_group x l) ≡ suc (length l)
unfolding insert_group
insert_length x [] = refl
insert_length x (y ∷ l) = (elim (before x.guid y.guid) as (λ b. length (cond b (x ∷ y ∷ l) (y ∷ insert_group x l)) ≡ suc (suc (length l))) [ true ↦ refl | false ↦ ap suc (insert_length x l) ])

or_false_left : (a b : Bool) → a || b ≡ false → a ≡ false
or_false_left true b e = e
or_false_left false b e = refl

or_false_right : (a b : Bool) → a || b ≡ false → b ≡ false
or_false_right true b e = not_both true refl e
or_false_right false b e = e

insert_ascending : (x : Group) (l : List Group) → knows_group x.guid l ≡ false → ascending l ≡ true → ascending (insert_group x l) ≡ true
unfolding insert_group ascending knows_group is_group
insert_ascending x [] d e = refl
insert_ascending x (y ∷ l) d e =
    (elim (before x.guid y.guid) as (λ b. before x.guid y.guid ≡ b → ascending (cond b (x ∷ y ∷ l) (y ∷ insert_group x l)) ≡ true) [
      | true ↦ λ f. and_true (list_all (λ h. before x.guid h.guid) (y ∷ l)) _
          (and_true (before x.guid y.guid) _ f (all_imp (λ h. before y.guid h.guid) (λ h. before x.guid h.guid) (λ h k. before_trans x.guid y.guid h.guid f k) l (and_left (list_all (λ h. before y.guid h.guid) l) _ e))) e
      | false ↦ λ f. and_true (list_all (λ h. before y.guid h.guid) (insert_group x l)) _
          (insert_all (λ h. before y.guid h.guid) x l (trichotomy x.guid y.guid (or_false_left (same_guid x.guid y.guid) _ d) f) (and_left (list_all (λ h. before y.guid h.guid) l) _ e))
          (insert_ascending x l (or_false_right (same_guid x.guid y.guid) _ d) (and_right (list_all (λ h. before y.guid h.guid) l) _ e))
    ]) refl

pub unknown_committed : (h : Guid) (l : List Group) → knows_group h l ≡ false → committed_of h l ≡ 0
unfolding knows_group committed_of committed_in
unknown_committed h [] e = refl
unknown_committed h (y ∷ l) e = (elim (is_group h y) as (λ b. b || list_any (λ x. is_group h x) l ≡ false → committed_in (cond b (Some y) (find (λ x. is_group h x) l)) ≡ 0) [ true ↦ λ k. not_both true refl k | false ↦ λ k. unknown_committed h l k ]) e

-- a group put before those that do not know it, with nothing committed
committed_first : (h : Guid) (x : Group) (l : List Group) → x.committed ≡ 0 → knows_group x.guid l ≡ false → committed_of h (x ∷ l) ≡ committed_of h l
committed_first h x l c d =
    committed_cons h x l
    ∙ (elim (same_guid h x.guid) as (λ b. same_guid h x.guid ≡ b → cond b x.committed (committed_of h l) ≡ committed_of h l) [
      | true ↦ λ e. c ∙ sym (unknown_committed h l (rw (same_eq h x.guid e) d))
      | false ↦ λ e. refl
    ]) refl

insert_committed : (h : Guid) (x : Group) (l : List Group) → x.committed ≡ 0 → knows_group x.guid l ≡ false → committed_of h (insert_group x l) ≡ committed_of h l
unfolding insert_group
insert_committed h x [] c d = committed_first h x [] c d
insert_committed h x (y ∷ l) c d =
    (elim (before x.guid y.guid) as (λ b. committed_of h (cond b (x ∷ y ∷ l) (y ∷ insert_group x l)) ≡ committed_of h (y ∷ l)) [
      | true ↦ committed_first h x (y ∷ l) c d
      | false ↦ rw (committed_cons h y (insert_group x l), committed_cons h y l, insert_committed h x l c (unfold knows_group in or_false_right (is_group x.guid y) _ d))
    ])

-- ---- hearing of a group

pub hear_ascending : (g : Guid) (l : List Group) → ascending l ≡ true → ascending (hear_group g l) ≡ true
unfolding hear_group new_group
hear_ascending g l e = (elim (knows_group g l) as (λ b. knows_group g l ≡ b → ascending (cond b l (insert_group (new_group g) l)) ≡ true) [ true ↦ λ d. e | false ↦ λ d. insert_ascending (new_group g) l d e ]) refl

pub hear_committed : (h g : Guid) (l : List Group) → committed_of h (hear_group g l) ≡ committed_of h l
unfolding hear_group new_group
hear_committed h g l = (elim (knows_group g l) as (λ b. knows_group g l ≡ b → committed_of h (cond b l (insert_group (new_group g) l)) ≡ committed_of h l) [ true ↦ λ d. refl | false ↦ λ d. insert_committed h (new_group g) l refl d ]) refl

-- what was known stays known, and the group is
pub hear_keeps : (h g : Guid) (l : List Group) → knows_group h l ≡ true → knows_group h (hear_group g l) ≡ true
unfolding hear_group knows_group
hear_keeps h g l e = (elim (knows_group g l) as (λ b. list_any (λ x. is_group h x) (cond b l (insert_group (new_group g) l)) ≡ true) [ true ↦ e | false ↦ insert_any (λ x. is_group h x) (new_group g) l ∙ or_true_right (is_group h (new_group g)) _ e ])

pub hear_knows : (g : Guid) (l : List Group) → knows_group g (hear_group g l) ≡ true
unfolding hear_group knows_group is_group new_group
hear_knows g l = (elim (knows_group g l) as (λ b. knows_group g l ≡ b → list_any (λ x. is_group g x) (cond b l (insert_group (new_group g) l)) ≡ true) [ true ↦ λ d. d | false ↦ λ d. insert_any (λ x. is_group g x) (new_group g) l ∙ or_true_left (is_group g (new_group g)) _ (same_refl g) ]) refl

pub hear_length : (g : Guid) (n : ℕ) (l : List Group) → not (knows_group g l) && leb n (length l) ≡ false → length l ≤ n → length (hear_group g l) ≤ n
unfolding hear_group
hear_length g n l e h = (elim (knows_group g l) as (λ b. not b && leb n (length l) ≡ false → length (cond b l (insert_group (new_group g) l)) ≤ n) [ true ↦ λ d. h | false ↦ λ d. omega (arith, insert_length (new_group g) l, leb-false n (length l) d) ]) e

-- ---- writers

is_writer_sym : (x y : Writer) → is_writer x.group x.writer y ≡ is_writer y.group y.writer x
unfolding is_writer
is_writer_sym x y = rw (same_sym y.group x.group, same_sym y.writer x.writer)

abbrev pub name : Writer → Guid × Guid
name x = (x.group, x.writer)

knows_writer_by : (g w : Guid) (l k : List Writer) → map name l ≡ map name k → knows_writer g w l ≡ knows_writer g w k
unfolding knows_writer is_writer
knows_writer_by g w l k e = any_by_map (λ u. same_guid g u.0 && same_guid w u.1) name l k e

distinct_by : (l k : List Writer) → map name l ≡ map name k → distinct l ≡ distinct k
unfolding distinct is_writer
distinct_by [] [] e = refl
distinct_by [] (y ∷ k) e = cc
distinct_by (x ∷ l) [] e = cc
distinct_by (x ∷ l) (y ∷ k) e =
    let n : name x ≡ name y = cc in
    let d : x.group ≡ y.group = ap (λ u. u.0) n in
    let c : x.writer ≡ y.writer = ap (λ u. u.1) n in
    let f : map name l ≡ map name k = cc in
    rw (d, c, distinct_by l k f, any_by_map (λ u. same_guid y.group u.0 && same_guid y.writer u.1) name l k f)

distinct_more : (l : List Writer) (x : Writer) → knows_writer x.group x.writer l ≡ false → distinct l ≡ true → distinct (l ++ (x ∷ [])) ≡ true
unfolding distinct knows_writer
distinct_more [] x d e = refl
distinct_more (y ∷ l) x d e =
    and_true (not (list_any (λ z. is_writer y.group y.writer z) (l ++ (x ∷ [])))) _
    (rw (any_append (λ z. is_writer y.group y.writer z) l (x ∷ []), not-true (list_any (λ z. is_writer y.group y.writer z) l) (and_left (not (list_any (λ z. is_writer y.group y.writer z) l)) _ e), is_writer_sym y x, or_false_left (is_writer x.group x.writer y) _ d))
    (distinct_more l x (or_false_right (is_writer x.group x.writer y) _ d) (and_right (not (list_any (λ z. is_writer y.group y.writer z) l)) _ e))

hear_distinct : (g w : Guid) (l : List Writer) → distinct l ≡ true → distinct (hear_writer g w l) ≡ true
unfolding hear_writer new_writer
hear_distinct g w l e = (elim (knows_writer g w l) as (λ b. knows_writer g w l ≡ b → distinct (cond b l (l ++ (new_writer g w ∷ []))) ≡ true) [ true ↦ λ d. e | false ↦ λ d. distinct_more l (new_writer g w) d e ]) refl

own_writer : (g w : Guid) → list_any (λ x. is_writer g w x) (new_writer g w ∷ []) ≡ true
unfolding is_writer new_writer
own_writer g w = or_true_left (same_guid g g && same_guid w w) false (and_true (same_guid g g) (same_guid w w) (same_refl g) (same_refl w))

-- ---- telling of a writer, by a change that leaves its names

module _ (g w : Guid) (f : Writer → Writer) (same : (x : Writer) → name (f x) ≡ name x) where
  tell_names : (l : List Writer) → map name (tell g w f l) ≡ map name (hear_writer g w l)
  unfolding tell
  tell_names l = map_change name (λ x. is_writer g w x) f same (hear_writer g w l)

  pub tell_distinct : (l : List Writer) → distinct l ≡ true → distinct (tell g w f l) ≡ true
  tell_distinct l e = distinct_by (tell g w f l) (hear_writer g w l) (tell_names l) ∙ hear_distinct g w l e

  pub tell_keeps : (h v : Guid) (l : List Writer) → knows_writer h v l ≡ true → knows_writer h v (tell g w f l) ≡ true
  unfolding hear_writer
  tell_keeps h v l e = knows_writer_by h v (tell g w f l) (hear_writer g w l) (tell_names l) ∙ (elim (knows_writer g w l) as (λ b. knows_writer h v (cond b l (l ++ (new_writer g w ∷ []))) ≡ true) [ true ↦ e | false ↦ unfold knows_writer in any_append (λ x. is_writer h v x) l (new_writer g w ∷ []) ∙ or_true_left (list_any (λ x. is_writer h v x) l) _ e ])

  pub tell_knows : (l : List Writer) → knows_writer g w (tell g w f l) ≡ true
  unfolding hear_writer
  tell_knows l = knows_writer_by g w (tell g w f l) (hear_writer g w l) (tell_names l) ∙ (elim (knows_writer g w l) as (λ b. knows_writer g w l ≡ b → knows_writer g w (cond b l (l ++ (new_writer g w ∷ []))) ≡ true) [ true ↦ λ d. d | false ↦ λ d. unfold knows_writer in any_append (λ x. is_writer g w x) l (new_writer g w ∷ []) ∙ or_true_right (list_any (λ x. is_writer g w x) l) _ (own_writer g w) ]) refl

  -- what each writer's group is, each one's is after
  pub tell_all : (p : Guid → Bool) (l : List Writer) → p g ≡ true → list_all (λ x. p x.group) l ≡ true → list_all (λ x. p x.group) (tell g w f l) ≡ true
  unfolding hear_writer new_writer
  tell_all p l d e = all_by_map (λ u. p u.0) name (tell g w f l) (hear_writer g w l) (tell_names l) ∙ (elim (knows_writer g w l) as (λ b. list_all (λ x. p x.group) (cond b l (l ++ (new_writer g w ∷ []))) ≡ true) [ true ↦ e | false ↦ all_snoc (λ x. p x.group) l (new_writer g w) e d ])

  pub tell_length : (n : ℕ) (l : List Writer) → not (knows_writer g w l) && leb n (length l) ≡ false → length l ≤ n → length (tell g w f l) ≤ n
  unfolding hear_writer
  tell_length n l e h =
      let z : length (tell g w f l) ≡ length (hear_writer g w l) = length_by_map name (tell g w f l) (hear_writer g w l) (tell_names l) in
      (elim (knows_writer g w l) as (λ b. not b && leb n (length l) ≡ false → length (tell g w f l) ≡ length (cond b l (l ++ (new_writer g w ∷ []))) → length (tell g w f l) ≤ n) [ true ↦ λ d k. omega arith | false ↦ λ d k. omega (arith, length-append l (new_writer g w ∷ []), leb-false n (length l) d) ]) e z
