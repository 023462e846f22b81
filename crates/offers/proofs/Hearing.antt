-- Groups and writers made known, and a writer changed.
use Rattle.std.specs.Prelude.{ℕ, ◌+◌, ◌<◌, ◌≤◌, suc, Bool, true, false, not, ◌&&◌, ◌||◌, leb, cond, List, [], ◌∷◌, ◌++◌, length, get_or, set, ◌≡◌, Some, None}
use Rattle.std.specs.List.{insert, position_or_len, position}
use Rattle.std.proofs.Common.{zero, ltb, refl, sym, ap, ◌∙◌, arith}
use Rattle.std.specs.Option.{unwrap_or, is_none}
use Rattle.std.proofs.lemmas.List.Sums.{prefix_len-le-length}
use Rattle.std.proofs.lemmas.List.Quantifiers.{position-Some}
use Rattle.std.proofs.lemmas.List.Folds.{list_any_at}
use Rattle.std.proofs.lemmas.Bool.{ltb-false, lt-ltb}
use Rattle.std.proofs.lemmas.List.Edits.{length-insert}
use borrow.Author.Tests.{leb-false}
use Rattle.laws.specs.Lists.{list_any, change, find}
use Rattle.laws.proofs.Lists.{not_both, and_true}
use Rattle.guids.specs.Guid.{Guid, same_guid, before}
use Rattle.guids.proofs.Guids.{same_refl}
use Rattle.rules.specs.declared.state.Group.{Group}
use Rattle.rules.specs.declared.state.Writer.{Writer}
use Rattle.rules.specs.State.{State, new_group, new_writer, is_group, is_writer, knows_group, knows_writer}
use Rattle.rules.specs.Marks.{insert_group, hear_group, hear_writer, tell}
use Rattle.rules.specs.Offer.{with_marks}

-- the group's place is before the first that comes behind it
insert_at : (x : Group) (l : List Group) → insert l (position_or_len (λ y. before x.guid y.guid) l) x ≡ insert_group x l
unfolding insert_group
insert_at x [] = refl
insert_at x (y ∷ l) =
    let n : ℕ = position_or_len (λ y. before x.guid y.guid) l in
    let e : 1 + n ≡ suc n = omega arith in
    elim (before x.guid y.guid) as (λ b. insert (y ∷ l) (cond (not b) (1 + n) 0) x ≡ cond b (x ∷ y ∷ l) (y ∷ insert_group x l)) [ true ↦ refl | false ↦ rw e (ap (λ r. y ∷ r) (insert_at x l)) ]

-- the place that is found, or the end
place_or_end : (p : Group → Bool) (l : List Group) → unwrap_or (position p l) (length l) ≡ position_or_len p l
place_or_end p l =
    let le = prefix_len-le-length (λ x. not (p x)) l in
    (elim (ltb (position_or_len p l) (length l)) as (λ b. ltb (position_or_len p l) (length l) ≡ b → unwrap_or (cond b (Some (position_or_len p l)) None) (length l) ≡ position_or_len p l) [
      | true ↦ λ e. refl
      | false ↦ λ e. omega (arith, ltb-false (position_or_len p l) (length l) e)
    ]) refl

pub place_within : (p : Group → Bool) (l : List Group) → unwrap_or (position p l) (length l) ≤ length l
place_within p l = let le = prefix_len-le-length (λ x. not (p x)) l in omega (arith, place_or_end p l)

-- an unknown group, put before the first that comes behind it
pub heard_at : (g : Guid) (l : List Group) → knows_group g l ≡ false → insert l (unwrap_or (position (λ y. before g y.guid) l) (length l)) (new_group g) ≡ hear_group g l
unfolding hear_group new_group
heard_at g l e = rw (e, place_or_end (λ y. before g y.guid) l) (insert_at (new_group g) l)

module _ {A : Type 0} (p : A → Bool) where
  change_at : (f : A → A) (l : List A) (i : ℕ) (z : A) → i < length l → p (get_or l i z) ≡ true → ((k : ℕ) → k < i → p (get_or l k z) ≡ false) → change p f l ≡ set l i (f (get_or l i z))
  unfolding change
  change_at f [] i z h e n = absurd (omega arith)
  change_at f (x ∷ l) zero z h e n = rw e refl
  change_at f (x ∷ l) (suc i) z h e n = rw (n 0 (omega arith)) (ap (λ r. x ∷ r) (change_at f l i z (omega arith) e (λ k u. n (suc k) (omega arith))))

  -- at a place that is found, the first that passes is changed
  pub change_found : (f : A → A) (l : List A) (i : ℕ) (z : A) → Some i ≡ position p l → change p f l ≡ set l i (f (get_or l i z))
  change_found f l i z e = let h = position-Some p l i z (sym e) in change_at f l i z h.0 h.1 h.2

  none_past : (l : List A) → length l ≤ position_or_len p l → list_any p l ≡ false
  none_past [] h = refl
  none_past (x ∷ l) h = (elim (p x) as (λ b. suc (length l) ≤ cond (not b) (1 + position_or_len p l) 0 → b || list_any p l ≡ false) [ true ↦ λ k. absurd (omega arith) | false ↦ λ k. none_past l (omega arith) ]) h

  -- where one is found, one passes
  pub some_found : (l : List A) (i : ℕ) (z : A) → Some i ≡ position p l → list_any p l ≡ true
  some_found l i z e = let h = position-Some p l i z (sym e) in list_any_at p l i z h.0 h.1

  -- where none is found, none passes
  pub none_found : (l : List A) → None ≡ position p l → list_any p l ≡ false
  none_found l e = none_past l (ltb-false (position_or_len p l) (length l) ((elim (ltb (position_or_len p l) (length l)) as (λ b. None ≡ cond b (Some (position_or_len p l)) None → b ≡ false) [ true ↦ λ k. cc | false ↦ λ k. refl ]) e))

  -- a place is found where one passes
  pub none_is : (l : List A) → is_none (position p l) ≡ not (list_any p l)
  none_is [] = refl
  none_is (x ∷ l) = (elim (position p (x ∷ l)) as (λ o. position p (x ∷ l) ≡ o → is_none o ≡ not (list_any p (x ∷ l))) [
    | None ↦ λ e. sym (ap not (none_found (x ∷ l) (sym e)))
    | Some i ↦ λ e. sym (ap not (some_found (x ∷ l) i x (sym e)))
  ]) refl

  at_inserted : (l : List A) (i : ℕ) (x : A) → i ≤ length l → list_any p l ≡ false → p x ≡ true → position_or_len p (insert l i x) ≡ i
  at_inserted [] zero x h n e = rw e refl
  at_inserted [] (suc i) x h n e = absurd (omega arith)
  at_inserted (y ∷ l) zero x h n e = rw e refl
  at_inserted (y ∷ l) (suc i) x h n e =
      (elim (p y) as (λ b. b || list_any p l ≡ false → cond (not b) (1 + position_or_len p (insert l i x)) 0 ≡ suc i) [
        | true ↦ λ k. not_both true refl k
        | false ↦ λ k. omega (arith, at_inserted l i x (omega arith) k e)
      ]) n

  -- the place of one that is put among others
  pub found_inserted : (l : List A) (i : ℕ) (x : A) → i ≤ length l → None ≡ position p l → p x ≡ true → Some i ≡ position p (insert l i x)
  found_inserted l i x h e k =
      let n = at_inserted l i x h (none_found l e) k in
      rw (n, lt-ltb i (length (insert l i x)) (omega (arith, length-insert l i x h))) refl

  -- so there is room for it
  pub room_for_new : (n : ℕ) (l : List A) → None ≡ position p l → not (list_any p l) && leb n (length l) ≡ false → length l < n
  room_for_new n l e h = leb-false n (length l) (rw (none_found l e) at h)

  find_first : (l : List A) (i : ℕ) (z : A) → i < length l → p (get_or l i z) ≡ true → ((k : ℕ) → k < i → p (get_or l k z) ≡ false) → find p l ≡ Some (get_or l i z)
  find_first [] i z h e n = absurd (omega arith)
  find_first (x ∷ l) zero z h e n = rw e refl
  find_first (x ∷ l) (suc i) z h e n = rw (n 0 (omega arith)) (find_first l i z (omega arith) e (λ k u. n (suc k) (omega arith)))

  find_past : (l : List A) → list_any p l ≡ false → find p l ≡ None
  find_past [] h = refl
  find_past (x ∷ l) h = (elim (p x) as (λ b. b || list_any p l ≡ false → cond b (Some x) (find p l) ≡ None) [ true ↦ λ k. not_both true refl k | false ↦ λ k. find_past l k ]) h

  pub find_none : (l : List A) → None ≡ position p l → find p l ≡ None
  find_none l e = find_past l (none_found l e)

  -- what is found, by its place
  pub find_found : (l : List A) (i : ℕ) (z : A) → Some i ≡ position p l → find p l ≡ Some (get_or l i z)
  find_found l i z e = let h = position-Some p l i z (sym e) in find_first l i z h.0 h.1 h.2

  -- none but the last passes
  pub change_last : (f : A → A) (l : List A) (a : A) → list_any p l ≡ false → p a ≡ true → change p f (l ++ (a ∷ [])) ≡ l ++ (f a ∷ [])
  unfolding change
  change_last f [] a h e = rw e
  change_last f (x ∷ l) a h e = (elim (p x) as (λ b. b || list_any p l ≡ false → cond b (f x ∷ (l ++ (a ∷ []))) (x ∷ change p f (l ++ (a ∷ []))) ≡ x ∷ (l ++ (f a ∷ []))) [ true ↦ λ k. not_both true refl k | false ↦ λ k. ap (λ r. x ∷ r) (change_last f l a k e) ]) h

-- where group and writer are heard, and the group's announced number is raised then
pub heard_announced : (p : Group → Bool) (f : Group → Group) (s t u : State ℕ) (gs : List Group) (ws : List Writer) → t ≡ with_marks gs ws s → u ≡ with_marks (change p f t.groups) t.writers t → u ≡ with_marks (change p f gs) ws s
unfolding with_marks
heard_announced p f s t u gs ws h a = a ∙ ap (λ v. with_marks (change p f v.groups) v.writers v) h

own_writer : (g w : Guid) → is_writer g w (new_writer g w) ≡ true
unfolding is_writer new_writer
own_writer g w = and_true (same_guid g g) (same_guid w w) (same_refl g) (same_refl w)

pub own_group : (g : Guid) → is_group g (new_group g) ≡ true
unfolding is_group new_group
own_group g = same_refl g

-- a known group stays as it is
pub heard_known : (g : Guid) (l : List Group) (i : ℕ) → Some i ≡ position (λ x. is_group g x) l → hear_group g l ≡ l
unfolding hear_group knows_group
heard_known g l i e = rw (some_found (λ x. is_group g x) l i (new_group g) e) refl

-- a known pair's writer, changed
pub told_at : (g w : Guid) (f : Writer → Writer) (l : List Writer) (i : ℕ) (z : Writer) → Some i ≡ position (λ x. is_writer g w x) l → tell g w f l ≡ set l i (f (get_or l i z))
unfolding tell hear_writer knows_writer
told_at g w f l i z e = rw (some_found (λ x. is_writer g w x) l i z e) (change_found (λ x. is_writer g w x) f l i z e)

-- a new pair's writer, changed
pub told_new : (g w : Guid) (f : Writer → Writer) (l : List Writer) → None ≡ position (λ x. is_writer g w x) l → tell g w f l ≡ l ++ (f (new_writer g w) ∷ [])
unfolding tell hear_writer knows_writer
told_new g w f l e =
    let h = none_found (λ x. is_writer g w x) l e in
    rw h (change_last (λ x. is_writer g w x) f l (new_writer g w) h (own_writer g w))
