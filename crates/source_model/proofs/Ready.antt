-- The next number and whether it is ready are alike on both sides.
use Prim.Native.Nat.{ℕ, zero, suc, ◌+◌, ◌-◌}
use mathlib.Core.Path.{◌≡◌, refl, sym, ap, ◌∙◌}
use mathlib.Core.Bool.{Bool, true, false, ◌&&◌, ◌||◌, not, cond}
use mathlib.Core.List.{List, [], ◌∷◌, map}
use Rattle.std.specs.Prelude.{Option, Some, None}
use native.Mathlib.Omega.{arith}
use lib.IntN.{ℤ, pos, negsuc, ◌+ℤ◌, ◌-ℤ◌}
use lib.Signed.{lt_z, le_z}
use lib.Dec.{ltb, leb, eqb}
use borrow.Author.Tests.{ltb-true, le-ltb, leb-true, ne_eqb}
use Rattle.laws.specs.Whole.{eq_z}
use Rattle.laws.specs.Lists.{filter, list_all, list_any, count, find, is_some}
use Rattle.guids.specs.Guid.{Guid, same_guid}
use Rattle.rules.specs.Entry.{of_group}
use Rattle.rules.specs.declared.entry.Entry.{Entry}
use Rattle.rules.specs.State.{is_writer, writer_of}
use Rattle.rules.specs.declared.state.Group.{Group}
use Rattle.rules.specs.declared.state.Writer.{Writer}
use Rattle.rules.specs.Marks.{past_of}
use Rattle.rules.specs.Commit.{Turn, accepted, secure_accepted, digests_accepted, all_from, pair_past, ruled_out, is_head, head_of, next, copies_arrived, ready}
use Rattle.rules.specs.Release.{View, turn_of}
use Rattle.laws.proofs.Lists.{not_both, and_true, and_left, and_right, any_all, any_imp, find_any, keep_same, all_map, any_map, count_one, count_nil, count_cons, all_kept, map_o}
use Rattle.guids.proofs.Guids.{same_eq, same_refl}
use Rattle.rules.proofs.Minima.{next_none, next_lower, next_head, eq_z_eq}
use Rattle.source_model.specs.Map.{Order, guids, numbers, or_default, get, put, collect}
use Rattle.source_model.specs.Source.{Progress, is_some_and, is_past, sum_of, first_of, walk, as_u64, set_known, passable, copies_in, is_ready}
use Rattle.source_model.specs.Source as S
use Rattle.source_model.specs.Calls.{view_of}
use Rattle.source_model.proofs.Maps.{Lawful, guids_lawful, numbers_lawful, pairs_lawful, len_o, count_over}
use Rattle.source_model.proofs.Like.{as_entry, vec_of, is_at, PendingLike, ProgressLike, WriterLike, unknown, known, WritersLike}
use Rattle.source_model.proofs.Hear.{past_alike}
use Rattle.source_model.proofs.Sets.{vec_back}
use Rattle.source_model.proofs.Offered.{find_keep}
use Rattle.source_model.proofs.Found.{key_of, passes_none, passes_own, passes_least, eq_below}

-- ---- the next number

first_find : {A : Type 0} (m : List A) → first_of m ≡ find (λ x. true) m
first_find [] = refl
first_find (a ∷ m) = refl

is_some_lem : {A : Type 0} (o : Option A) → is_some o ≡ is_some_and (λ a. true) o
unfolding is_some
is_some_lem None = refl
is_some_lem (Some a) = refl

vec_some : {A B : Type 0} (f : A → B) (l : List A) → is_some (vec_of (map f l)) ≡ is_some (first_of l)
unfolding is_some
vec_some f [] = refl
vec_some f (a ∷ l) = refl

module _ {X : Type 0} where
  pending_there : (g : Guid) (m : List (ℤ × List (S.Entry X))) (l : List (Entry X)) → PendingLike g m l → (n : ℤ) → is_some_and (λ v. true) (get numbers n m) ≡ list_any (λ e. is_at g n e) l
  pending_there g m l k n =
      sym (is_some_lem (get numbers n m)) ∙ ap is_some (k.at n) ∙ vec_some (λ e. as_entry e) (filter (λ e. is_at g n e) l) ∙ ap is_some (sym (find_keep (λ e. is_at g n e) l)) ∙ find_any (λ e. is_at g n e) l

  at_group_lem : (g : Guid) (n : ℤ) (e : Entry X) → is_at g n e ≡ true → of_group g e ≡ true
  unfolding is_at
  at_group_lem g n e h = and_left (of_group g e) _ h

  pub head_at : (t : Turn) (n : ℕ) (e : Entry X) → is_head t n e ≡ is_at t.guid (pos n) e
  unfolding is_head is_at
  head_at t n e = refl

  at_lower : (g : Guid) (x : ℤ) (n : ℕ) (e : Entry X) → is_at g x e ≡ true → not (of_group g e) || leb n e.number ≡ true → lt_z x (pos n) ≡ false
  unfolding is_at
  at_lower g x n e h k =
      ap (λ y. lt_z y (pos n)) (eq_z_eq x (pos e.number) (and_right (of_group g e) _ h))
      ∙ le-ltb e.number n (leb-true n e.number (sym (ap (λ b. not b || leb n e.number) (and_left (of_group g e) _ h)) ∙ k))

  pub head_any : (t : Turn) (n : ℕ) (l : List (Entry X)) → list_any (λ e. is_head t n e) l ≡ true → list_any (λ e. is_at t.guid (pos n) e) l ≡ true
  head_any t n l h = any_imp (λ e. is_head t n e) (λ e. is_at t.guid (pos n) e) (λ e k. sym (head_at t n e) ∙ k) l h

  next_both : (t : Turn) (m : List (ℤ × List (S.Entry X))) (l : List (Entry X)) → PendingLike t.guid m l
      → (u : Option (ℤ × List (S.Entry X))) (w : Option ℕ) → find (λ x. true) m ≡ u → next t l ≡ w → key_of u ≡ map_o pos w
  unfolding numbers
  next_both t m l k None None c d = refl
  next_both t m l k None (Some n) c d = not_both (list_any (λ e. is_at t.guid (pos n) e) l) (head_any t n l (next_head t l n d)) (sym (pending_there t.guid m l k (pos n)) ∙ passes_none numbers_lawful (λ x. true) m c (pos n))
  next_both t m l k (Some x) None c d =
      let o = passes_own numbers_lawful (λ x. true) m x k.ascend c in
      not_both (list_any (λ e. of_group t.guid e) l) (any_imp (λ e. is_at t.guid x.0 e) (λ e. of_group t.guid e) (λ e h. at_group_lem t.guid x.0 e h) l (sym (pending_there t.guid m l k x.0) ∙ ap (λ u. is_some_and (λ v. true) u) o.0)) (next_none t l d)
  next_both t m l k (Some x) (Some n) c d =
      let o = passes_own numbers_lawful (λ x. true) m x k.ascend c in
      ap Some (eq_below x.0 (pos n)
      (any_all (λ e. is_at t.guid x.0 e) (λ e. not (of_group t.guid e) || leb n e.number) (λ e h i. at_lower t.guid x.0 n e h i) l (sym (pending_there t.guid m l k x.0) ∙ ap (λ u. is_some_and (λ v. true) u) o.0) (next_lower t l n d))
      (passes_least numbers_lawful (λ x. true) m x (pos n) k.ascend c (pending_there t.guid m l k (pos n) ∙ head_any t n l (next_head t l n d))))

  pub next_found : (t : Turn) (m : List (ℤ × List (S.Entry X))) (l : List (Entry X)) → PendingLike t.guid m l → key_of (first_of m) ≡ map_o pos (next t l)
  next_found t m l k = ap key_of (first_find m) ∙ next_both t m l k (find (λ x. true) m) (next t l) refl refl

  -- the entries of a number
  pub head_found : (t : Turn) (n : ℕ) (m : List (ℤ × List (S.Entry X))) (l : List (Entry X)) → PendingLike t.guid m l → or_default [] (get numbers (pos n) m) ≡ map (λ e. as_entry e) (head_of t n l)
  unfolding head_of
  head_found t n m l k =
      ap (λ u. or_default [] u) (k.at (pos n)) ∙ vec_back (map (λ e. as_entry e) (filter (λ e. is_at t.guid (pos n) e) l))
      ∙ ap (λ r. map (λ e. as_entry e) r) (keep_same (λ e. is_at t.guid (pos n) e) (λ e. is_head t n e) (λ e. sym (head_at t n e)) l)

-- ---- counted pairs

module _ {K : Type 0} {o : Order K} (lo : Lawful o) (p : K → Bool) where
  and_same : (a b : Bool) → a && b ≡ a && (a && b)
  and_same true b = refl
  and_same false b = refl

  and_swap : (a b c : Bool) → a && (b && c) ≡ b && (a && c)
  and_swap true true c = refl
  and_swap true false c = refl
  and_swap false true c = refl
  and_swap false false c = refl

  all_put : (k : K) (l : List K) → list_all p (put o k l) ≡ p k && list_all p l
  unfolding put
  all_put k [] = refl
  all_put k (x ∷ l) =
      (elim (o.same k x) as (λ t. o.same k x ≡ t → list_all p (cond t (x ∷ l) (cond (o.less k x) (k ∷ x ∷ l) (x ∷ put o k l))) ≡ p k && (p x && list_all p l)) [
        | true ↦ λ e. rw (lo.same_is k x e) (and_same (p x) (list_all p l))
        | false ↦ λ e. elim (o.less k x) as (λ t. list_all p (cond t (k ∷ x ∷ l) (x ∷ put o k l)) ≡ p k && (p x && list_all p l)) [ true ↦ refl | false ↦ ap (λ b. p x && b) (all_put k l) ∙ and_swap (p x) (p k) (list_all p l) ]
      ]) refl

  pub all_collect : (l : List K) → list_all p (collect o l) ≡ list_all p l
  unfolding collect
  all_collect [] = refl
  all_collect (k ∷ l) = all_put k (collect o l) ∙ ap (λ b. p k && b) (all_collect l)

pub counted_all : (v : View) (g : Guid) (p : Guid × ℕ → Bool) → list_all p ((view_of v).counted g) ≡ list_all (λ x. p (x.writer, x.reader)) (filter (λ x. same_guid g x.group) v.counted)
unfolding view_of
counted_all v g p =
    all_collect pairs_lawful p (map (λ x. (x.writer, x.reader)) (filter (λ x. same_guid g x.group) v.counted))
    ∙ all_map p (λ x. (x.writer, x.reader)) (filter (λ x. same_guid g x.group) v.counted)

-- ---- what is past

pub find_keep_w : (p : Writer → Bool) (l : List Writer) → find p l ≡ first_of (filter p l)
find_keep_w p [] = refl
find_keep_w p (a ∷ l) = elim (p a) as (λ t. cond t (Some a) (find p l) ≡ first_of (cond t (a ∷ filter p l) (filter p l))) [ true ↦ refl | false ↦ find_keep_w p l ]

past_case : (r n : ℕ) (u : Option Progress) (l : List Writer) → WriterLike u l → is_some_and (λ p. is_past p r (pos (suc n))) u ≡ past_of (first_of l) r (suc n)
unfolding past_of
past_case r n None [] unknown = refl
past_case r n (Some p) (w ∷ []) (known k) = past_alike p w r n k
past_case r n None (w ∷ _) x3 = elim x3 [ ]
past_case r n (Some p) [] x3 = elim x3 [ ]
past_case r n (Some p) (w ∷ (_ ∷ _)) x8 = elim x8 [ ]

pub past_of_lem : (g w : Guid) (r n : ℕ) (m : List (Guid × Progress)) (ws : List Writer) → WritersLike g m ws → is_some_and (λ p. is_past p r (pos (suc n))) (get guids w m) ≡ past_of (writer_of g w ws) r (suc n)
unfolding writer_of
past_of_lem g w r n m ws k = past_case r n (get guids w m) (filter (λ x. is_writer g w x) ws) (k.at w) ∙ ap (λ o. past_of o r (suc n)) (sym (find_keep_w (λ x. is_writer g w x) ws))

-- ---- digests

four : (a b c d : Bool) → (a && b) && (c && d) ≡ (a && c) && (b && d)
four true true c d = refl
four true false true d = refl
four true false false d = refl
four false b c d = refl

pub twice : (b : Bool) → b ≡ not (not b)
twice true = refl
twice false = refl

both : (s a c : Bool) → not (s && not a) && not (s && not c) ≡ not s || (a && c)
both true true c = sym (twice c)
both true false c = refl
both false a c = refl

module _ {A : Type 0} where
  pub all_ext : (p q : A → Bool) → ((a : A) → p a ≡ q a) → (l : List A) → list_all p l ≡ list_all q l
  all_ext p q h [] = refl
  all_ext p q h (a ∷ l) = rw (h a, all_ext p q h l)

  pub all_two : (p q : A → Bool) (l : List A) → list_all (λ a. p a && q a) l ≡ list_all p l && list_all q l
  all_two p q [] = refl
  all_two p q (a ∷ l) = ap (λ b. (p a && q a) && b) (all_two p q l) ∙ four (p a) (q a) (list_all p l) (list_all q l)

  all_zero : (b : A → Bool) (l : List A) → list_all (λ x. not (b x)) l ≡ eqb (count b l) 0
  all_zero b [] = sym (ap (λ n. eqb n 0) (count_nil b))
  all_zero b (a ∷ l) =
      ap (λ r. not (b a) && r) (all_zero b l)
      ∙ (elim (b a) as (λ t. not t && eqb (count b l) 0 ≡ eqb (cond t 1 0 + count b l) 0) [ true ↦ sym (ne_eqb (1 + count b l) 0 (λ q. omega (arith, q))) | false ↦ ap (λ n. eqb n 0) (let e : count b l ≡ 0 + count b l = omega arith in e) ])
      ∙ ap (λ n. eqb n 0) (sym (count_cons b a l))

  sum_zero : (b : A → Bool) (l : List A) → list_all (λ x. not (b x)) l ≡ eqb (sum_of (λ x. cond (b x) 1 0) l) 0
  unfolding sum_of
  sum_zero b [] = refl
  sum_zero b (a ∷ l) =
      ap (λ r. not (b a) && r) (sum_zero b l)
      ∙ (elim (b a) as (λ t. not t && eqb (sum_of (λ x. cond (b x) 1 0) l) 0 ≡ eqb (cond t 1 0 + sum_of (λ x. cond (b x) 1 0) l) 0) [ true ↦ sym (ne_eqb (1 + sum_of (λ x. cond (b x) 1 0) l) 0 (λ q. omega (arith, q))) | false ↦ ap (λ n. eqb n 0) (let e : sum_of (λ x. cond (b x) 1 0) l ≡ 0 + sum_of (λ x. cond (b x) 1 0) l = omega arith in e) ])

pub once_writer : (g k j : Guid) (x : Writer) → is_writer g k x ≡ true → is_writer g j x ≡ true → same_guid k j ≡ true
unfolding is_writer
once_writer g k j x a b = rw (same_eq j x.writer (and_right (same_guid g x.group) _ b)) (and_right (same_guid g x.group) _ a)

pub own_of : (g : Guid) (x : Writer) → same_guid g x.group ≡ true → is_writer g x.writer x ≡ true
unfolding is_writer
own_of g x a = and_true (same_guid g x.group) _ a (same_refl x.writer)

pub group_of : (g w : Guid) (x : Writer) → is_writer g w x ≡ true → same_guid g x.group ≡ true
unfolding is_writer
group_of g w x a = and_left (same_guid g x.group) _ a

module _ (g : Guid) (ok : Option ℕ → Bool) (fm : Progress → Option ℕ) (ff : Writer → Option ℕ) (same : (p : Progress) (w : Writer) → ProgressLike p w → fm p ≡ ff w) where
  bad : Writer → Bool
  bad x = same_guid g x.group && not (ok (ff x))

  bad_one : (w : Guid) (u : Option Progress) (l : List Writer) → WriterLike u l → list_all (λ x. is_writer g w x) l ≡ true → count (λ x. bad x) l ≡ len_o (λ p. cond (not (ok (fm p))) 1 0) u
  unfolding bad
  bad_one w None [] unknown e = count_nil (λ x. bad x)
  bad_one w (Some p) (x ∷ []) (known k) e =
      count_one (λ x. bad x) x ∙ ap (λ b. cond (b && not (ok (ff x))) 1 0) (group_of g w x (and_left (is_writer g w x) _ e)) ∙ ap (λ o. cond (not (ok o)) 1 0) (sym (same p x k))
  bad_one w None (x ∷ _) x6 e = elim x6 [ ]
  bad_one w (Some p) [] x4 e = elim x4 [ ]
  bad_one w (Some p) (x ∷ (_ ∷ _)) x10 e = elim x10 [ ]

  all_digests : (m : List (Guid × Progress)) (ws : List Writer) → WritersLike g m ws → list_all (λ x. ok (fm x.1)) m ≡ list_all (λ x. not (same_guid g x.group && not (ok (ff x)))) ws
  unfolding bad guids
  all_digests m ws k =
      all_ext (λ x. ok (fm x.1)) (λ x. not (not (ok (fm x.1)))) (λ x. twice (ok (fm x.1))) m
      ∙ sum_zero (λ x. not (ok (fm x.1))) m
      ∙ ap (λ n. eqb n 0) (sym (count_over guids_lawful (λ w x. is_writer g w x) (λ x. x.writer) (λ x. bad x) (λ p. cond (not (ok (fm p))) 1 0) (λ x e. own_of g x (and_left (same_guid g x.group) _ e)) (λ k j x a b. once_writer g k j x a b) m ws k.ascend
      (λ w. bad_one w (get guids w m) (filter (λ x. is_writer g w x) ws) (k.at w) (all_kept (λ x. is_writer g w x) ws))))
      ∙ sym (all_zero (λ x. bad x) ws)

some_accepted : (g : Guid) (v : View) (o : Option ℕ) → not (is_some_and (λ d. not ((view_of v).writer_set_is_discovered g d)) o) ≡ accepted g v.digests o
unfolding view_of accepted
some_accepted g v None = refl
some_accepted g v (Some d) = sym (twice (accepted g v.digests (Some d)))

some_secure : (g : Guid) (v : View) (o : Option ℕ) → not (is_some_and (λ d. not ((view_of v).secure_writer_set_is_discovered g d)) o) ≡ secure_accepted o
unfolding view_of secure_accepted
some_secure g v None = refl
some_secure g v (Some d) = sym (twice (secure_accepted (Some d)))

pub known_alike : {X : Type 0} (v : View) (now timeout : ℕ) (ws : List Writer) (G : Group) (m : S.Group X) → WritersLike G.guid m.writers ws
    → set_known G.guid m (view_of v) ≡ digests_accepted (turn_of v now timeout ws G)
unfolding set_known digests_accepted turn_of
known_alike v now timeout ws G m k =
    let g : Guid = G.guid in
    let a = all_ext (λ w. not (is_some_and (λ d. not ((view_of v).writer_set_is_discovered g d)) w.1.writer_set)) (λ w. accepted g v.digests w.1.writer_set) (λ w. some_accepted g v w.1.writer_set) m.writers
    ∙ all_digests g (λ o. accepted g v.digests o) (λ p. p.writer_set) (λ w. w.digest) (λ p w l. l.digest) m.writers ws k in
    let b = all_ext (λ w. not (is_some_and (λ d. not ((view_of v).secure_writer_set_is_discovered g d)) w.1.secure_writer_set)) (λ w. secure_accepted w.1.secure_writer_set) (λ w. some_secure g v w.1.secure_writer_set) m.writers
    ∙ all_digests g (λ o. secure_accepted o) (λ p. p.secure_writer_set) (λ w. w.secure) (λ p w l. l.secure) m.writers ws k in
    rw (a, b)
    (sym (all_two (λ w. not (same_guid g w.group && not (accepted g v.digests w.digest))) (λ w. not (same_guid g w.group && not (secure_accepted w.secure))) ws)
    ∙ all_ext (λ w. not (same_guid g w.group && not (accepted g v.digests w.digest)) && not (same_guid g w.group && not (secure_accepted w.secure))) (λ w. not (same_guid g w.group) || (accepted g v.digests w.digest && secure_accepted w.secure)) (λ w. both (same_guid g w.group) (accepted g v.digests w.digest) (secure_accepted w.secure)) ws)

-- ---- the walk over the missing numbers

pub walk_alike : (p : ℤ → Bool) (q : ℕ → Bool) → ((n : ℕ) → p (pos (suc n)) ≡ q (suc n)) → (k c : ℕ) → walk (pos (suc c)) k p ≡ all_from (suc c) k q
unfolding walk all_from
walk_alike p q h zero c = refl
walk_alike p q h (suc k) c =
    let e : suc c + 1 ≡ suc (suc c) = omega arith in
    ap (λ b. b && walk (pos (suc c + 1)) k p) (h c) ∙ ap (λ m. q (suc c) && walk (pos m) k p) e ∙ ap (λ b. q (suc c) && b) (walk_alike p q h k (suc c))

pub missing_many : (n c : ℕ) → as_u64 (pos n -ℤ pos (suc c)) ≡ n - suc c
missing_many n c =
    (elim (ltb n (suc c)) as (λ t. ltb n (suc c) ≡ t → as_u64 (cond t (negsuc (suc c - suc n)) (pos (n - suc c))) ≡ n - suc c) [
      | true ↦ λ e. let h = ltb-true n (suc c) e in omega arith
      | false ↦ λ e. refl
    ]) refl

pub one_more : (c : ℕ) → pos c +ℤ pos 1 ≡ pos (suc c)
one_more c = let e : c + 1 ≡ suc c = omega arith in ap pos e

module _ {X : Type 0} (v : View) (now timeout : ℕ) (ws : List Writer) (G : Group) (m : S.Group X) (k : WritersLike G.guid m.writers ws) where
  pair_past_lem : (w : Guid) (r n : ℕ) → is_some_and (λ p. is_past p r (pos (suc n))) (get guids w m.writers) ≡ pair_past (turn_of v now timeout ws G) w r (suc n)
  unfolding pair_past turn_of
  pair_past_lem w r n = past_of_lem G.guid w r n m.writers ws k

  all_past : (n : ℕ) → list_all (λ c. is_some_and (λ p. is_past p c.1 (pos (suc n))) (get guids c.0 m.writers)) ((view_of v).counted G.guid)
      ≡ list_all (λ p. pair_past (turn_of v now timeout ws G) p.writer p.reader (suc n)) (turn_of v now timeout ws G).counted
  unfolding turn_of
  all_past n =
      counted_all v G.guid (λ c. is_some_and (λ p. is_past p c.1 (pos (suc n))) (get guids c.0 m.writers))
      ∙ all_ext (λ x. is_some_and (λ p. is_past p x.reader (pos (suc n))) (get guids x.writer m.writers)) (λ p. pair_past (turn_of v now timeout ws G) p.writer p.reader (suc n)) (λ x. pair_past_lem x.writer x.reader n) (filter (λ x. same_guid G.guid x.group) v.counted)

  announced_to : (turn_of v now timeout ws G).announced ≡ G.announced
  unfolding turn_of
  announced_to = refl

  pub passable_alike : (c n : ℕ) → m.current_gsn ≡ pos G.announced → passable G.guid m (view_of v) (pos (suc c)) (pos n) ≡ ruled_out (turn_of v now timeout ws G) c n
  unfolding passable ruled_out
  passable_alike c n a =
      let t : Turn = turn_of v now timeout ws G in
      let p : ℤ → Bool = λ gsn. list_all (λ c. is_some_and (λ p. is_past p c.1 gsn) (get guids c.0 m.writers)) ((view_of v).counted G.guid) in
      let q : ℕ → Bool = λ n. list_all (λ p. pair_past t p.writer p.reader n) t.counted in
      ap (λ g. le_z (pos n) g && set_known G.guid m (view_of v) && walk (pos (suc c)) (as_u64 (pos n -ℤ pos (suc c))) p) a
      ∙ ap (λ b. leb n G.announced && b && walk (pos (suc c)) (as_u64 (pos n -ℤ pos (suc c))) p) (known_alike v now timeout ws G m k)
      ∙ ap (λ j. leb n G.announced && digests_accepted t && walk (pos (suc c)) j p) (missing_many n c)
      ∙ ap (λ b. leb n G.announced && digests_accepted t && b) (walk_alike p q (λ j. all_past j) (n - suc c) c)
      ∙ ap (λ j. leb n j && digests_accepted t && all_from (suc c) (n - suc c) q) (sym announced_to)

  at_head : (n : ℕ) (e : Entry X) → is_at G.guid (pos n) e ≡ is_head (turn_of v now timeout ws G) n e
  unfolding is_at is_head turn_of
  at_head n e = refl

  as_writer : (e : Entry X) → (as_entry e).writer ≡ e.writer
  unfolding as_entry
  as_writer e = refl

  any_reader : (r : ℕ) (l : List (Entry X)) → list_any (λ other. eqb r other.reader) (map (λ e. as_entry e) l) ≡ list_any (λ o. eqb r o.reader) l
  unfolding as_entry
  any_reader r l = any_map (λ other. eqb r other.reader) (λ e. as_entry e) l

  entry_copies : (n : ℕ) (l : List (Entry X)) (e : Entry X)
      → list_all (λ c. not (same_guid (as_entry e).writer c.0) || list_any (λ other. eqb c.1 other.reader) (map (λ e. as_entry e) l) || is_some_and (λ p. is_past p c.1 (pos (suc n))) (get guids c.0 m.writers)) ((view_of v).counted G.guid)
      ≡ list_all (λ p. not (same_guid e.writer p.writer) || list_any (λ o. eqb p.reader o.reader) l || pair_past (turn_of v now timeout ws G) p.writer p.reader (suc n)) (turn_of v now timeout ws G).counted
  unfolding turn_of
  entry_copies n l e =
      counted_all v G.guid (λ c. not (same_guid (as_entry e).writer c.0) || list_any (λ other. eqb c.1 other.reader) (map (λ e. as_entry e) l) || is_some_and (λ p. is_past p c.1 (pos (suc n))) (get guids c.0 m.writers))
      ∙ all_ext (λ x. not (same_guid (as_entry e).writer x.writer) || list_any (λ other. eqb x.reader other.reader) (map (λ e. as_entry e) l) || is_some_and (λ p. is_past p x.reader (pos (suc n))) (get guids x.writer m.writers))
      (λ p. not (same_guid e.writer p.writer) || list_any (λ o. eqb p.reader o.reader) l || pair_past (turn_of v now timeout ws G) p.writer p.reader (suc n))
      (λ x. ap (λ w. not (same_guid w x.writer) || list_any (λ other. eqb x.reader other.reader) (map (λ e. as_entry e) l) || is_some_and (λ p. is_past p x.reader (pos (suc n))) (get guids x.writer m.writers)) (as_writer e)
      ∙ ap (λ b. not (same_guid e.writer x.writer) || b || is_some_and (λ p. is_past p x.reader (pos (suc n))) (get guids x.writer m.writers)) (any_reader x.reader l)
      ∙ ap (λ b. not (same_guid e.writer x.writer) || list_any (λ o. eqb x.reader o.reader) l || b) (pair_past_lem x.writer x.reader n))
      (filter (λ x. same_guid G.guid x.group) v.counted)

  all_copies : (n : ℕ) (l r : List (Entry X))
      → list_all (λ e. list_all (λ c. not (same_guid e.writer c.0) || list_any (λ other. eqb c.1 other.reader) (map (λ e. as_entry e) l) || is_some_and (λ p. is_past p c.1 (pos (suc n))) (get guids c.0 m.writers)) ((view_of v).counted G.guid)) (map (λ e. as_entry e) r)
      ≡ list_all (λ e. list_all (λ p. not (same_guid e.writer p.writer) || list_any (λ o. eqb p.reader o.reader) l || pair_past (turn_of v now timeout ws G) p.writer p.reader (suc n)) (turn_of v now timeout ws G).counted) r
  all_copies n l r =
      all_map (λ e. list_all (λ c. not (same_guid e.writer c.0) || list_any (λ other. eqb c.1 other.reader) (map (λ e. as_entry e) l) || is_some_and (λ p. is_past p c.1 (pos (suc n))) (get guids c.0 m.writers)) ((view_of v).counted G.guid)) (λ e. as_entry e) r
      ∙ all_ext (λ e. list_all (λ c. not (same_guid (as_entry e).writer c.0) || list_any (λ other. eqb c.1 other.reader) (map (λ e. as_entry e) l) || is_some_and (λ p. is_past p c.1 (pos (suc n))) (get guids c.0 m.writers)) ((view_of v).counted G.guid))
      (λ e. list_all (λ p. not (same_guid e.writer p.writer) || list_any (λ o. eqb p.reader o.reader) l || pair_past (turn_of v now timeout ws G) p.writer p.reader (suc n)) (turn_of v now timeout ws G).counted) (λ e. entry_copies n l e) r

  copies_of : (n : ℕ) (l : List (Entry X)) → copies_in G.guid m (view_of v) (pos (suc n)) (vec_of (map (λ e. as_entry e) l)) ≡ copies_arrived (turn_of v now timeout ws G) (suc n) l
  unfolding copies_arrived
  copies_of n [] = refl
  copies_of n (e ∷ l) = all_copies n (e ∷ l) (e ∷ l)

  -- ready
  pub ready_alike : (c n : ℕ) (l : List (Entry X)) → m.current_gsn ≡ pos G.announced → PendingLike G.guid m.pending l
      → is_ready G.guid (view_of v) now timeout m (pos (suc c)) (pos (suc n)) ≡ ready (turn_of v now timeout ws G) c (suc n) l
  unfolding is_ready ready S.copies_arrived head_of
  ready_alike c n l a p =
      let t : Turn = turn_of v now timeout ws G in
      ap (λ b. (eq_z (pos (suc n)) (pos (suc c)) || b) && copies_in G.guid m (view_of v) (pos (suc n)) (get numbers (pos (suc n)) m.pending)) (passable_alike c (suc n) a)
      ∙ ap (λ b. (eqb (suc n) (suc c) || ruled_out t c (suc n)) && b)
      (ap (λ u. copies_in G.guid m (view_of v) (pos (suc n)) u) (p.at (pos (suc n))) ∙ copies_of n (filter (λ e. is_at G.guid (pos (suc n)) e) l)
      ∙ ap (λ r. copies_arrived t (suc n) r) (keep_same (λ e. is_at G.guid (pos (suc n)) e) (λ e. is_head t (suc n) e) (λ e. at_head (suc n) e) l))
