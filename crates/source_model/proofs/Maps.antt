-- Laws of the maps.
use Prim.Native.Nat.{ℕ}
use mathlib.Core.Path.{◌≡◌, refl, sym, ap, ◌∙◌}
use mathlib.Core.Bool.{Bool, true, false, ◌&&◌, ◌||◌, not, cond}
use mathlib.Core.List.{List, [], ◌∷◌}
use Rattle.std.specs.Prelude.{Option, Some, None}
use native.Mathlib.Omega.{arith}
use lib.IntN.{ℤ, pos, negsuc}
use lib.Signed.{lt_z}
use lib.Dec.{ltb, eqb}
use borrow.Author.Tests.{ltb-true, ltb-false, lt-ltb, eqb-true, eq-eqb, ne_eqb}
use Rattle.laws.specs.Whole.{eq_z}
use Rattle.laws.specs.Lists.{filter, list_all, count}
use Rattle.guids.specs.Guid.{Guid, same_guid, before}
use Rattle.laws.proofs.Lists.{not_both, and_true, and_left, and_right, all_keep, all_imp, count_split, count_cons, keep_keep, count_nil, keep_none, keep_under, any_empty, or_true_left, or_true_right}
use Rattle.guids.proofs.Guids.{same_eq, same_refl, same_sym, before_not_same, trichotomy, before_trans}
use Rattle.rules.proofs.Minima.{eq_z_refl, eq_z_eq}
use Rattle.source_model.specs.Map.{Order, guids, numbers, readers, pairs, get, insert, remove, ascends}
use Rattle.source_model.specs.Source.{sum_of}

pub record Lawful {K : Type 0} (o : Order K) : Type 0 where
  pub same_is : (a b : K) → o.same a b ≡ true → a ≡ b
  pub same_self : (a : K) → o.same a a ≡ true
  pub less_apart : (a b : K) → o.less a b ≡ true → o.same a b ≡ false
  pub third : (a b : K) → o.same a b ≡ false → o.less a b ≡ false → o.less b a ≡ true
  pub trans : (a b c : K) → o.less a b ≡ true → o.less b c ≡ true → o.less a c ≡ true

pub guids_lawful : Lawful guids
unfolding guids
guids_lawful = record { same_is = λ a b e. same_eq a b e; same_self = λ a. same_refl a; less_apart = λ a b e. before_not_same a b e; third = λ a b e f. trichotomy a b e f; trans = λ a b c e f. before_trans a b c e f }

apart_z : (a b : ℤ) → lt_z a b ≡ true → eq_z a b ≡ false
apart_z (pos a) (pos b) e = ne_eqb a b (λ q. omega (arith, ltb-true a b e, q))
apart_z (pos a) (negsuc b) e = refl
apart_z (negsuc a) (pos b) e = refl
apart_z (negsuc a) (negsuc b) e = ne_eqb a b (λ q. omega (arith, ltb-true b a e, q))

third_nat : (a b : ℕ) → eqb a b ≡ false → ltb a b ≡ false → ltb b a ≡ true
third_nat a b e f =
    (elim (ltb b a) as (λ t. ltb b a ≡ t → t ≡ true) [
      | true ↦ λ d. refl
      | false ↦ λ d. not_both (eqb a b) (eq-eqb a b (omega (arith, ltb-false a b f, ltb-false b a d))) e
    ]) refl

third_z : (a b : ℤ) → eq_z a b ≡ false → lt_z a b ≡ false → lt_z b a ≡ true
third_z (pos a) (pos b) e f = third_nat a b e f
third_z (pos a) (negsuc b) e f = refl
third_z (negsuc a) (pos b) e f = not_both true refl f
third_z (negsuc a) (negsuc b) e f =
    (elim (ltb a b) as (λ t. ltb a b ≡ t → t ≡ true) [
      | true ↦ λ d. refl
      | false ↦ λ d. not_both (eqb a b) (eq-eqb a b (omega (arith, ltb-false a b d, ltb-false b a f))) e
    ]) refl

trans_z : (a b c : ℤ) → lt_z a b ≡ true → lt_z b c ≡ true → lt_z a c ≡ true
trans_z (pos a) (pos b) (pos c) e f = lt-ltb a c (omega (arith, ltb-true a b e, ltb-true b c f))
trans_z (pos a) (pos b) (negsuc c) e f = f
trans_z (pos a) (negsuc b) c e f = not_both false e refl
trans_z (negsuc a) b (pos c) e f = refl
trans_z (negsuc a) (pos b) (negsuc c) e f = not_both false f refl
trans_z (negsuc a) (negsuc b) (negsuc c) e f = lt-ltb c a (omega (arith, ltb-true b a e, ltb-true c b f))

pub numbers_lawful : Lawful numbers
unfolding numbers
numbers_lawful = record { same_is = λ a b e. eq_z_eq a b e; same_self = λ a. eq_z_refl a; less_apart = λ a b e. apart_z a b e; third = λ a b e f. third_z a b e f; trans = λ a b c e f. trans_z a b c e f }

pub readers_lawful : Lawful readers
unfolding readers
readers_lawful = record {
  same_is = λ a b e. eqb-true a b e;
  same_self = λ a. eq-eqb a a refl;
  less_apart = λ a b e. ne_eqb a b (λ q. omega (arith, ltb-true a b e, q));
  third = λ a b e f. third_nat a b e f;
  trans = λ a b c e f. lt-ltb a c (omega (arith, ltb-true a b e, ltb-true b c f));
}

pair_is : (a b : Guid × ℕ) → same_guid a.0 b.0 && eqb a.1 b.1 ≡ true → a ≡ b
pair_is a b e =
    let x : a.0 ≡ b.0 = same_eq a.0 b.0 (and_left (same_guid a.0 b.0) _ e) in
    let y : a.1 ≡ b.1 = eqb-true a.1 b.1 (and_right (same_guid a.0 b.0) _ e) in
    ap (λ u. (u, a.1)) x ∙ ap (λ v. (b.0, v)) y

pub pairs_self : (a : Guid × ℕ) → pairs.same a a ≡ true
unfolding pairs
pairs_self a = and_true (same_guid a.0 a.0) _ (same_refl a.0) (eq-eqb a.1 a.1 refl)

less_pair : (s l e k : Bool) → (l ≡ true → s ≡ false) → (k ≡ true → e ≡ false) → l || (s && k) ≡ true → s && e ≡ false
less_pair true true e k f g h = not_both true refl (f refl)
less_pair true false e k f g h = g h
less_pair false l e k f g h = refl

third_pair : (s l e k lb kb sb : Bool) → (s ≡ false → l ≡ false → lb ≡ true) → (e ≡ false → k ≡ false → kb ≡ true) → s ≡ sb
    → s && e ≡ false → l || (s && k) ≡ false → lb || (sb && kb) ≡ true
third_pair true true e k lb kb sb f g q h i = not_both true refl i
third_pair true false e k lb kb sb f g q h i = rw (← q, g h i) (or_true_right lb true refl)
third_pair false true e k lb kb sb f g q h i = not_both true refl i
third_pair false false e k lb kb sb f g q h i = or_true_left lb _ (f refl refl)

trans_pair : (l s k l2 s2 k2 l3 s3 k3 : Bool) → (l ≡ true → l2 ≡ true → l3 ≡ true) → (l ≡ true → s2 ≡ true → l3 ≡ true) → (s ≡ true → l2 ≡ true → l3 ≡ true)
    → (s ≡ true → s2 ≡ true → s3 ≡ true) → (k ≡ true → k2 ≡ true → k3 ≡ true)
    → l || (s && k) ≡ true → l2 || (s2 && k2) ≡ true → l3 || (s3 && k3) ≡ true
trans_pair true s k true s2 k2 l3 s3 k3 a b c d f g h = or_true_left l3 _ (a refl refl)
trans_pair true s k false s2 k2 l3 s3 k3 a b c d f g h = or_true_left l3 _ (b refl (and_left s2 k2 h))
trans_pair false s k true s2 k2 l3 s3 k3 a b c d f g h = or_true_left l3 _ (c (and_left s k g) refl)
trans_pair false s k false s2 k2 l3 s3 k3 a b c d f g h = or_true_right l3 _ (and_true s3 k3 (d (and_left s k g) (and_left s2 k2 h)) (f (and_right s k g) (and_right s2 k2 h)))

pub pairs_lawful : Lawful pairs
unfolding pairs readers
pairs_lawful = record {
  same_is = λ a b e. pair_is a b e;
  same_self = λ a. pairs_self a;
  less_apart = λ a b e. less_pair (same_guid a.0 b.0) (before a.0 b.0) (eqb a.1 b.1) (ltb a.1 b.1) (λ h. before_not_same a.0 b.0 h) (λ h. readers_lawful.less_apart a.1 b.1 h) e;
  third = λ a b e f. third_pair (same_guid a.0 b.0) (before a.0 b.0) (eqb a.1 b.1) (ltb a.1 b.1) (before b.0 a.0) (ltb b.1 a.1) (same_guid b.0 a.0) (λ h k. trichotomy a.0 b.0 h k) (λ h k. third_nat a.1 b.1 h k) (same_sym b.0 a.0) e f;
  trans = λ a b c e f. trans_pair (before a.0 b.0) (same_guid a.0 b.0) (ltb a.1 b.1) (before b.0 c.0) (same_guid b.0 c.0) (ltb b.1 c.1) (before a.0 c.0) (same_guid a.0 c.0) (ltb a.1 c.1)
      (λ h k. before_trans a.0 b.0 c.0 h k) (λ h k. rw (← same_eq b.0 c.0 k) h) (λ h k. rw (same_eq a.0 b.0 h) k) (λ h k. rw (same_eq a.0 b.0 h) k) (λ h k. readers_lawful.trans a.1 b.1 c.1 h k) e f;
}

module _ {K : Type 0} {o : Order K} (lo : Lawful o) where
  pub same_swap : (a b : K) → o.same a b ≡ o.same b a
  same_swap a b =
      (elim (o.same a b) as (λ t. o.same a b ≡ t → t ≡ o.same b a) [
        | true ↦ λ e. rw (lo.same_is a b e) (sym (lo.same_self b))
        | false ↦ λ e. (elim (o.same b a) as (λ u. o.same b a ≡ u → false ≡ u) [ true ↦ λ d. not_both (o.same a b) (rw (lo.same_is b a d) (lo.same_self a)) e | false ↦ λ d. refl ]) refl
      ]) refl

module _ {K A : Type 0} {o : Order K} (lo : Lawful o) where
  pub get_insert : (j k : K) (v : A) (m : List (K × A)) → get o j (insert o k v m) ≡ cond (o.same j k) (Some v) (get o j m)
  unfolding get insert
  get_insert j k v [] = refl
  get_insert j k v (x ∷ m) =
      (elim (o.same k x.0) as (λ b. o.same k x.0 ≡ b → get o j (cond b ((k, v) ∷ m) (cond (o.less k x.0) ((k, v) ∷ x ∷ m) (x ∷ insert o k v m))) ≡ cond (o.same j k) (Some v) (cond (o.same j x.0) (Some x.1) (get o j m))) [
        | true ↦ λ e. rw (← lo.same_is k x.0 e) (elim (o.same j k) as (λ b. cond b (Some v) (get o j m) ≡ cond b (Some v) (cond b (Some x.1) (get o j m))) [ true ↦ refl | false ↦ refl ])
        | false ↦ λ e. (elim (o.less k x.0) as (λ b. get o j (cond b ((k, v) ∷ x ∷ m) (x ∷ insert o k v m)) ≡ cond (o.same j k) (Some v) (cond (o.same j x.0) (Some x.1) (get o j m))) [
          | true ↦ refl
          | false ↦ (elim (o.same j x.0) as (λ b. o.same j x.0 ≡ b → cond b (Some x.1) (get o j (insert o k v m)) ≡ cond (o.same j k) (Some v) (cond b (Some x.1) (get o j m))) [
            | true ↦ λ d. rw (lo.same_is j x.0 d, same_swap lo x.0 k, e)
            | false ↦ λ d. get_insert j k v m
          ]) refl
        ])
      ]) refl

  pub get_remove : (j k : K) (m : List (K × A)) → get o j (remove o k m) ≡ cond (o.same j k) None (get o j m)
  unfolding get remove
  get_remove j k [] = elim (o.same j k) as (λ b. ◌≡◌ {A = Option A} None (cond b None None)) [ true ↦ refl | false ↦ refl ]
  get_remove j k (x ∷ m) =
      (elim (o.same k x.0) as (λ b. o.same k x.0 ≡ b → get o j (cond (not b) (x ∷ remove o k m) (remove o k m)) ≡ cond (o.same j k) None (cond (o.same j x.0) (Some x.1) (get o j m))) [
        | true ↦ λ e. get_remove j k m ∙ rw (← lo.same_is k x.0 e) (elim (o.same j k) as (λ b. cond b None (get o j m) ≡ cond b None (cond b (Some x.1) (get o j m))) [ true ↦ refl | false ↦ refl ])
        | false ↦ λ e. (elim (o.same j x.0) as (λ b. o.same j x.0 ≡ b → cond b (Some x.1) (get o j (remove o k m)) ≡ cond (o.same j k) None (cond b (Some x.1) (get o j m))) [
          | true ↦ λ d. rw (lo.same_is j x.0 d, same_swap lo x.0 k, e)
          | false ↦ λ d. get_remove j k m
        ]) refl
      ]) refl

  pub insert_all : (p : K × A → Bool) (k : K) (v : A) (m : List (K × A)) → p (k, v) ≡ true → list_all p m ≡ true → list_all p (insert o k v m) ≡ true
  unfolding insert
  insert_all p k v [] d e = and_true (p (k, v)) true d refl
  insert_all p k v (x ∷ m) d e =
      elim (o.same k x.0) as (λ b. list_all p (cond b ((k, v) ∷ m) (cond (o.less k x.0) ((k, v) ∷ x ∷ m) (x ∷ insert o k v m))) ≡ true) [
        | true ↦ and_true (p (k, v)) _ d (and_right (p x) _ e)
        | false ↦ (elim (o.less k x.0) as (λ b. list_all p (cond b ((k, v) ∷ x ∷ m) (x ∷ insert o k v m)) ≡ true) [
          | true ↦ and_true (p (k, v)) _ d e
          | false ↦ and_true (p x) _ (and_left (p x) _ e) (insert_all p k v m d (and_right (p x) _ e))
        ])
      ]

  pub insert_ascends : (k : K) (v : A) (m : List (K × A)) → ascends o m ≡ true → ascends o (insert o k v m) ≡ true
  unfolding insert ascends
  insert_ascends k v [] e = refl
  insert_ascends k v (x ∷ m) e =
      let a = and_left (list_all (λ y. o.less x.0 y.0) m) _ e in
      let r = and_right (list_all (λ y. o.less x.0 y.0) m) _ e in
      (elim (o.same k x.0) as (λ b. o.same k x.0 ≡ b → ascends o (cond b ((k, v) ∷ m) (cond (o.less k x.0) ((k, v) ∷ x ∷ m) (x ∷ insert o k v m))) ≡ true) [
        | true ↦ λ d. rw (lo.same_is k x.0 d) e
        | false ↦ λ d. (elim (o.less k x.0) as (λ b. o.less k x.0 ≡ b → ascends o (cond b ((k, v) ∷ x ∷ m) (x ∷ insert o k v m)) ≡ true) [
          | true ↦ λ f. and_true (o.less k x.0 && list_all (λ y. o.less k y.0) m) _ (and_true (o.less k x.0) _ f (all_imp (λ y. o.less x.0 y.0) (λ y. o.less k y.0) (λ y h. lo.trans k x.0 y.0 f h) m a)) e
          | false ↦ λ f. and_true (list_all (λ y. o.less x.0 y.0) (insert o k v m)) _ (insert_all (λ y. o.less x.0 y.0) k v m (lo.third k x.0 d f) a) (insert_ascends k v m r)
        ]) refl
      ]) refl

  pub remove_ascends : (k : K) (m : List (K × A)) → ascends o m ≡ true → ascends o (remove o k m) ≡ true
  unfolding ascends remove
  remove_ascends k [] e = refl
  remove_ascends k (x ∷ m) e =
      elim (o.same k x.0) as (λ b. ascends o (cond (not b) (x ∷ remove o k m) (remove o k m)) ≡ true) [
        | true ↦ remove_ascends k m (and_right (list_all (λ y. o.less x.0 y.0) m) _ e)
        | false ↦ and_true (list_all (λ y. o.less x.0 y.0) (remove o k m)) _ (all_keep (λ y. o.less x.0 y.0) (λ y. not (o.same k y.0)) m (and_left (list_all (λ y. o.less x.0 y.0) m) _ e)) (remove_ascends k m (and_right (list_all (λ y. o.less x.0 y.0) m) _ e))
      ]

  -- a key before all of a map's is not in it
  pub get_above : (k : K) (m : List (K × A)) → list_all (λ y. o.less k y.0) m ≡ true → get o k m ≡ None
  unfolding get
  get_above k [] e = refl
  get_above k (x ∷ m) e = rw (lo.less_apart k x.0 (and_left (o.less k x.0) _ e)) (get_above k m (and_right (o.less k x.0) _ e))

  -- an inserted value that is there already
  pub get_found : (k : K) (x : K × A) (m : List (K × A)) → o.same k x.0 ≡ true → get o k (x ∷ m) ≡ Some x.1
  unfolding get
  get_found k x m e = rw e

  pub get_past : (k : K) (x : K × A) (m : List (K × A)) → o.same k x.0 ≡ false → get o k (x ∷ m) ≡ get o k m
  unfolding get
  get_past k x m e = rw e

-- ---- a list counted over the values of a map that is keyed by a test of the list's elements

abbrev pub len_o : {A : Type 0} → (A → ℕ) → Option A → ℕ
len_o len None = 0
len_o len (Some a) = len a

not_and_same : (t : Bool) → not t && t ≡ false
not_and_same true = refl
not_and_same false = refl

module _ {K A B : Type 0} {o : Order K} (lo : Lawful o) (is : K → B → Bool) (key : B → K) (q : B → Bool) (len : A → ℕ)
    (own : (b : B) → q b ≡ true → is (key b) b ≡ true)
    (once : (k j : K) (b : B) → is k b ≡ true → is j b ≡ true → o.same k j ≡ true) where
  none_at_all : (l : List B) → ((k : K) → count q (filter (λ b. is k b) l) ≡ 0) → count q l ≡ 0
  none_at_all [] h = count_nil q
  none_at_all (b ∷ l) h =
      let rest : (k : K) → count q (filter (λ b. is k b) l) ≡ 0 = λ k.
      (elim (is k b) as (λ t. count q (cond t (b ∷ filter (λ b. is k b) l) (filter (λ b. is k b) l)) ≡ 0 → count q (filter (λ b. is k b) l) ≡ 0) [ true ↦ λ e. omega (arith, e, count_cons q b (filter (λ b. is k b) l)) | false ↦ λ e. e ]) (h k) in
      (elim (q b) as (λ t. q b ≡ t → count q (b ∷ l) ≡ 0) [
        | true ↦ λ e. absurd (omega (arith, rw (own b e) at (h (key b)), rw e at (count_cons q b (filter (λ x. is (key b) x) l))))
        | false ↦ λ e. rw (count_cons q b l, e, none_at_all l rest)
      ]) refl

  rest_of : (x : K × A) (m : List (K × A)) (l : List B) → list_all (λ y. o.less x.0 y.0) m ≡ true
      → ((k : K) → count q (filter (λ b. is k b) l) ≡ len_o len (get o k (x ∷ m)))
      → (k : K) → count q (filter (λ b. is k b) (filter (λ b. not (is x.0 b)) l)) ≡ len_o len (get o k m)
  rest_of x m l e h k =
      (elim (o.same k x.0) as (λ t. o.same k x.0 ≡ t → count q (filter (λ b. is k b) (filter (λ b. not (is x.0 b)) l)) ≡ len_o len (get o k m)) [
        | true ↦ λ d. rw (lo.same_is k x.0 d, get_above lo x.0 m e, keep_keep (λ b. is x.0 b) (λ b. not (is x.0 b)) l, keep_none (λ b. not (is x.0 b) && is x.0 b) l (any_empty (λ b. not (is x.0 b) && is x.0 b) (λ b. not_and_same (is x.0 b)) l)) (count_nil q)
        | false ↦ λ d. ap (λ r. count q r) (keep_under (λ b. not (is x.0 b)) (λ b. is k b) (λ b f. (elim (is x.0 b) as (λ t. is x.0 b ≡ t → not t ≡ true) [ true ↦ λ g. not_both (o.same k x.0) (once k x.0 b f g) d | false ↦ λ g. refl ]) refl) l) ∙ h k ∙ ap (λ r. len_o len r) (get_past lo k x m d)
      ]) refl

  pub count_over : (m : List (K × A)) (l : List B) → ascends o m ≡ true → ((k : K) → count q (filter (λ b. is k b) l) ≡ len_o len (get o k m)) → count q l ≡ sum_of (λ x. len x.1) m
  unfolding ascends sum_of get
  count_over [] l e h = none_at_all l h
  count_over (x ∷ m) l e h =
      let ih = count_over m (filter (λ b. not (is x.0 b)) l) (and_right (list_all (λ y. o.less x.0 y.0) m) _ e) (rest_of x m l (and_left (list_all (λ y. o.less x.0 y.0) m) _ e) h) in
      let hx : count q (filter (λ b. is x.0 b) l) ≡ len x.1 = h x.0 ∙ ap (λ r. len_o len r) (get_found lo x.0 x m (lo.same_self x.0)) in
      omega (arith, ih, hx, count_split (λ b. is x.0 b) q l)
