-- Laws of lists under a test, over any element type and any test.
use Prim.Native.Nat.{ℕ, suc, ◌+◌, ◌≤◌, ◌<◌}
use mathlib.Core.Path.{◌≡◌, refl, sym, ap, ◌∙◌}
use mathlib.Core.Bool.{Bool, true, false, ◌&&◌, ◌||◌, not, cond}
use mathlib.Core.List.{List, [], ◌∷◌, ◌++◌, map, append-nil}
use Rattle.std.specs.Prelude.{Option, Some, None}
use native.Mathlib.Omega.{arith}
use lib.ListN.{length, length-append, length-map}
use Rattle.laws.specs.Lists.{filter, list_all, list_any, count, find, change, is_some}

-- ---- Bool

pub and_true : (a b : Bool) → a ≡ true → b ≡ true → a && b ≡ true
and_true a b p q = rw (p, q)

pub and_left : (a b : Bool) → a && b ≡ true → a ≡ true
and_left true b e = refl
and_left false b e = e

pub and_right : (a b : Bool) → a && b ≡ true → b ≡ true
and_right true b e = e
and_right false b e = cc

pub true_or_false : (b : Bool) → (b ≡ true → ⊥) → b ≡ false
true_or_false true h = absurd (h refl)
true_or_false false h = refl

pub not_both : {X : Type 0} (b : Bool) → b ≡ true → b ≡ false → X
not_both b p q = let z : ◌≡◌ {A = Bool} true false = cc in absurd (mathlib.Core.Bool.true≢false z)

module _ {A : Type 0} where
  -- ---- keep

  pub keep_append : (p : A → Bool) (l m : List A) → filter p (l ++ m) ≡ filter p l ++ filter p m
  keep_append p [] m = refl
  keep_append p (a ∷ l) m = (elim (p a) as (λ b. cond b (a ∷ filter p (l ++ m)) (filter p (l ++ m)) ≡ cond b (a ∷ filter p l) (filter p l) ++ filter p m) [ true ↦ ap (λ x. a ∷ x) (keep_append p l m) | false ↦ keep_append p l m ])

  pub keep_keep : (p q : A → Bool) (l : List A) → filter p (filter q l) ≡ filter (λ x. q x && p x) l
  keep_keep p q [] = refl
  keep_keep p q (a ∷ l) = (elim (q a) as (λ b. filter p (cond b (a ∷ filter q l) (filter q l)) ≡ cond (b && p a) (a ∷ filter (λ x. q x && p x) l) (filter (λ x. q x && p x) l)) [ true ↦ ap (λ x. cond (p a) (a ∷ x) x) (keep_keep p q l) | false ↦ keep_keep p q l ])

  -- two tests that agree keep the same
  pub keep_same : (p q : A → Bool) → ((a : A) → p a ≡ q a) → (l : List A) → filter p l ≡ filter q l
  keep_same p q h [] = refl
  keep_same p q h (a ∷ l) = rw (h a, keep_same p q h l)

  pub keep_all : (p : A → Bool) (l : List A) → list_all p l ≡ true → filter p l ≡ l
  keep_all p [] h = refl
  keep_all p (a ∷ l) h = rw (and_left (p a) (list_all p l) h, keep_all p l (and_right (p a) _ h))

  pub keep_none : (p : A → Bool) (l : List A) → list_any p l ≡ false → filter p l ≡ []
  keep_none p [] h = refl
  keep_none p (a ∷ l) h = (elim (p a) as (λ b. b || list_any p l ≡ false → cond b (a ∷ filter p l) (filter p l) ≡ []) [ true ↦ λ e. not_both true refl e | false ↦ λ e. keep_none p l e ]) h

  pub length_keep : (p : A → Bool) (l : List A) → length (filter p l) ≤ length l
  length_keep p [] = omega arith
  length_keep p (a ∷ l) = let ih = length_keep p l in (elim (p a) as (λ b. length (cond b (a ∷ filter p l) (filter p l)) ≤ suc (length l)) [ true ↦ omega arith | false ↦ omega arith ])

  -- what passes and what doesn't make up the list
  pub length_split : (p : A → Bool) (l : List A) → length l ≡ length (filter p l) + length (filter (λ x. not (p x)) l)
  length_split p [] = omega arith
  length_split p (a ∷ l) = let ih = length_split p l in (elim (p a) as (λ b. suc (length l) ≡ length (cond b (a ∷ filter p l) (filter p l)) + length (cond (not b) (a ∷ filter (λ x. not (p x)) l) (filter (λ x. not (p x)) l))) [ true ↦ omega arith | false ↦ omega arith ])

  -- ---- count

  pub count_append : (q : A → Bool) (l m : List A) → count q (l ++ m) ≡ count q l + count q m
  unfolding count
  count_append q l m = ap length (keep_append q l m) ∙ length-append (filter q l) (filter q m)

  pub count_cons : (q : A → Bool) (a : A) (l : List A) → count q (a ∷ l) ≡ cond (q a) 1 0 + count q l
  unfolding count
  count_cons q a l = (elim (q a) as (λ b. length (cond b (a ∷ filter q l) (filter q l)) ≡ cond b 1 0 + length (filter q l)) [ true ↦ omega arith | false ↦ omega arith ])

  pub count_split : (p q : A → Bool) (l : List A) → count q l ≡ count q (filter p l) + count q (filter (λ x. not (p x)) l)
  count_split p q [] = unfold count in omega arith
  count_split p q (a ∷ l) = let ih = count_split p q l in count_cons q a l ∙ (elim (p a) as (λ b. cond (q a) 1 0 + count q l ≡ count q (cond b (a ∷ filter p l) (filter p l)) + count q (cond (not b) (a ∷ filter (λ x. not (p x)) l) (filter (λ x. not (p x)) l))) [ true ↦ omega (arith, count_cons q a (filter p l)) | false ↦ omega (arith, count_cons q a (filter (λ x. not (p x)) l)) ])

  pub count_le : (q : A → Bool) (l : List A) → count q l ≤ length l
  unfolding count
  count_le q l = length_keep q l

  pub count_all : (q : A → Bool) (l : List A) → list_all q l ≡ true → count q l ≡ length l
  unfolding count
  count_all q l h = ap length (keep_all q l h)

  pub count_none : (q : A → Bool) (l : List A) → list_any q l ≡ false → count q l ≡ 0
  unfolding count
  count_none q l h = ap length (keep_none q l h)

  pub count_any : (q : A → Bool) (l : List A) → list_any q l ≡ true → 1 ≤ count q l
  count_any q [] h = not_both true refl (sym h)
  count_any q (a ∷ l) h = (elim (q a) as (λ b. b || list_any q l ≡ true → count q (a ∷ l) ≡ cond b 1 0 + count q l → 1 ≤ count q (a ∷ l)) [ true ↦ λ e k. omega arith | false ↦ λ e k. let ih = count_any q l e in omega arith ]) h (count_cons q a l)

  -- ---- all, any

  pub all_append : (p : A → Bool) (l m : List A) → list_all p (l ++ m) ≡ list_all p l && list_all p m
  all_append p [] m = refl
  all_append p (a ∷ l) m = (elim (p a) as (λ b. b && list_all p (l ++ m) ≡ b && list_all p l && list_all p m) [ true ↦ all_append p l m | false ↦ refl ])

  pub all_keep : (p q : A → Bool) (l : List A) → list_all p l ≡ true → list_all p (filter q l) ≡ true
  all_keep p q [] h = refl
  all_keep p q (a ∷ l) h = (elim (q a) as (λ b. list_all p (cond b (a ∷ filter q l) (filter q l)) ≡ true) [ true ↦ and_true (p a) _ (and_left (p a) _ h) (all_keep p q l (and_right (p a) _ h)) | false ↦ all_keep p q l (and_right (p a) _ h) ])

  pub all_kept : (p : A → Bool) (l : List A) → list_all p (filter p l) ≡ true
  all_kept p [] = refl
  all_kept p (a ∷ l) = (elim (p a) as (λ b. p a ≡ b → list_all p (cond b (a ∷ filter p l) (filter p l)) ≡ true) [ true ↦ λ e. and_true (p a) _ e (all_kept p l) | false ↦ λ e. all_kept p l ]) refl

  pub all_imp : (p q : A → Bool) → ((a : A) → p a ≡ true → q a ≡ true) → (l : List A) → list_all p l ≡ true → list_all q l ≡ true
  all_imp p q f [] h = refl
  all_imp p q f (a ∷ l) h = and_true (q a) _ (f a (and_left (p a) _ h)) (all_imp p q f l (and_right (p a) _ h))

  pub any_append : (p : A → Bool) (l m : List A) → list_any p (l ++ m) ≡ list_any p l || list_any p m
  any_append p [] m = refl
  any_append p (a ∷ l) m = (elim (p a) as (λ b. b || list_any p (l ++ m) ≡ b || list_any p l || list_any p m) [ true ↦ refl | false ↦ any_append p l m ])

  -- ---- find

  pub find_any : (p : A → Bool) (l : List A) → is_some (find p l) ≡ list_any p l
  unfolding is_some
  find_any p [] = refl
  find_any p (a ∷ l) = (elim (p a) as (λ b. is_some (cond b (Some a) (find p l)) ≡ b || list_any p l) [ true ↦ refl | false ↦ find_any p l ])

  pub find_test : (p : A → Bool) (l : List A) (a : A) → find p l ≡ Some a → p a ≡ true
  find_test p [] a h = let z : ◌≡◌ {A = Bool} true false = cc in absurd (mathlib.Core.Bool.true≢false z)
  find_test p (x ∷ l) a h = (elim (p x) as (λ b. p x ≡ b → cond b (Some x) (find p l) ≡ Some a → p a ≡ true) [ true ↦ λ e k. let z : x ≡ a = cc in rw (← z) e | false ↦ λ e k. find_test p l a k ]) refl h

module _ {A B : Type 0} where
  -- ---- map

  pub keep_map : (p : B → Bool) (f : A → B) (l : List A) → filter p (map f l) ≡ map f (filter (λ x. p (f x)) l)
  keep_map p f [] = refl
  keep_map p f (a ∷ l) = (elim (p (f a)) as (λ b. cond b (f a ∷ filter p (map f l)) (filter p (map f l)) ≡ map f (cond b (a ∷ filter (λ x. p (f x)) l) (filter (λ x. p (f x)) l))) [ true ↦ ap (λ x. f a ∷ x) (keep_map p f l) | false ↦ keep_map p f l ])

  pub any_map : (p : B → Bool) (f : A → B) (l : List A) → list_any p (map f l) ≡ list_any (λ x. p (f x)) l
  any_map p f [] = refl
  any_map p f (a ∷ l) = ap (λ b. p (f a) || b) (any_map p f l)

  pub all_map : (p : B → Bool) (f : A → B) (l : List A) → list_all p (map f l) ≡ list_all (λ x. p (f x)) l
  all_map p f [] = refl
  all_map p f (a ∷ l) = ap (λ b. p (f a) && b) (all_map p f l)

  abbrev pub map_o : (A → B) → Option A → Option B
  map_o f None = None
  map_o f (Some a) = Some (f a)

  pub find_map : (p : B → Bool) (f : A → B) (l : List A) → find p (map f l) ≡ map_o f (find (λ x. p (f x)) l)
  find_map p f [] = refl
  find_map p f (a ∷ l) = (elim (p (f a)) as (λ b. cond b (Some (f a)) (find p (map f l)) ≡ map_o f (cond b (Some a) (find (λ x. p (f x)) l))) [ true ↦ refl | false ↦ find_map p f l ])

  pub count_map : (p : B → Bool) (f : A → B) (l : List A) → count p (map f l) ≡ count (λ x. p (f x)) l
  unfolding count
  count_map p f l = ap length (keep_map p f l) ∙ length-map (filter (λ x. p (f x)) l) f

pub not_true : (b : Bool) → not b ≡ true → b ≡ false
not_true true e = sym e
not_true false e = refl

pub and_last : (a b : Bool) → b ≡ true → a && b ≡ a
and_last true b e = e
and_last false b e = refl

pub and_never : (a b : Bool) → b ≡ false → a && b ≡ false
and_never true b e = e
and_never false b e = refl

-- what fails counts nothing
pub weight_none : (b : Bool) → b ≡ false → ◌≡◌ {A = ℕ} (cond b 1 0) 0
weight_none b e = ap (λ c. cond c 1 0) e

pub weight_imp : (a b : Bool) → (a ≡ true → b ≡ true) → cond {A = ℕ} a 1 0 ≤ cond {A = ℕ} b 1 0
weight_imp false b f = omega arith
weight_imp true b f = omega (arith, ap (λ c. cond {A = ℕ} c 1 0) (f refl))

module _ {A : Type 0} where
  pub count_nil : (q : A → Bool) → count q [] ≡ 0
  unfolding count
  count_nil q = refl

  -- a test counts the same among those that pass a weaker one
  pub count_kept : (p q : A → Bool) → ((a : A) → q a ≡ true → p a ≡ true) → (l : List A) → count q (filter p l) ≡ count q l
  count_kept p q h [] = refl
  count_kept p q h (a ∷ l) = let ih = count_kept p q h l in (elim (p a) as (λ b. p a ≡ b → count q (cond b (a ∷ filter p l) (filter p l)) ≡ count q (a ∷ l)) [ true ↦ λ e. omega (arith, count_cons q a (filter p l), count_cons q a l) | false ↦ λ e. omega (arith, count_cons q a l, weight_none (q a) (true_or_false (q a) (λ k. not_both (p a) (h a k) e))) ]) refl

  -- none passes that the other test keeps apart
  pub count_apart : (p q : A → Bool) → ((a : A) → p a ≡ true → q a ≡ false) → (l : List A) → count q (filter p l) ≡ 0
  count_apart p q h [] = count_nil q
  count_apart p q h (a ∷ l) = (elim (p a) as (λ b. p a ≡ b → count q (cond b (a ∷ filter p l) (filter p l)) ≡ 0) [ true ↦ λ e. omega (arith, count_cons q a (filter p l), weight_none (q a) (h a e), count_apart p q h l) | false ↦ λ e. count_apart p q h l ]) refl

  pub count_one : (q : A → Bool) (a : A) → count q (a ∷ []) ≡ cond (q a) 1 0
  unfolding count
  count_one q a = elim (q a) as (λ b. length (cond b (a ∷ []) []) ≡ cond b 1 0) [ true ↦ refl | false ↦ refl ]

  pub all_both : (p : A → Bool) (l m : List A) → list_all p l ≡ true → list_all p m ≡ true → list_all p (l ++ m) ≡ true
  all_both p l m h k = all_append p l m ∙ and_true (list_all p l) (list_all p m) h k

pub or_true_left : (a b : Bool) → a ≡ true → a || b ≡ true
or_true_left true b e = refl
or_true_left false b e = not_both false e refl

pub or_true_right : (a b : Bool) → b ≡ true → a || b ≡ true
or_true_right true b e = refl
or_true_right false b e = e

pub none_not_some : {A X : Type 0} (o : Option A) (a : A) → o ≡ None → o ≡ Some a → X
none_not_some o a p q = let z : ◌≡◌ {A = Bool} true false = cc in absurd (mathlib.Core.Bool.true≢false z)

module _ {A : Type 0} where
  -- what some kept one is, some one of the list is
  pub any_kept : (p q r : A → Bool) → ((a : A) → q a ≡ true → p a ≡ true → r a ≡ true) → (l : List A) → list_any p (filter q l) ≡ true → list_any r l ≡ true
  any_kept p q r f [] h = h
  any_kept p q r f (a ∷ l) h = (elim (q a) as (λ b. q a ≡ b → list_any p (cond b (a ∷ filter q l) (filter q l)) ≡ true → r a || list_any r l ≡ true) [ true ↦ λ e k. (elim (p a) as (λ b. p a ≡ b → b || list_any p (filter q l) ≡ true → r a || list_any r l ≡ true) [ true ↦ λ d u. or_true_left (r a) _ (f a e d) | false ↦ λ d u. or_true_right (r a) _ (any_kept p q r f l u) ]) refl k | false ↦ λ e k. or_true_right (r a) _ (any_kept p q r f l k) ]) refl h

  -- what every kept one is, every one of the list is that passes
  pub all_unkept : (p q : A → Bool) (l : List A) → list_all p (filter q l) ≡ true → list_all (λ a. not (q a) || p a) l ≡ true
  all_unkept p q [] h = h
  all_unkept p q (a ∷ l) h = (elim (q a) as (λ b. list_all p (cond b (a ∷ filter q l) (filter q l)) ≡ true → (not b || p a) && list_all (λ a. not (q a) || p a) l ≡ true) [ true ↦ λ k. and_true (p a) _ (and_left (p a) _ k) (all_unkept p q l (and_right (p a) _ k)) | false ↦ λ k. all_unkept p q l k ]) h

  pub kept_none : (q : A → Bool) (l : List A) → filter q l ≡ [] → list_any q l ≡ false
  kept_none q [] h = refl
  kept_none q (a ∷ l) h = (elim (q a) as (λ b. cond b (a ∷ filter q l) (filter q l) ≡ [] → b || list_any q l ≡ false) [ true ↦ λ k. let z : ◌≡◌ {A = Bool} true false = cc in z | false ↦ λ k. kept_none q l k ]) h

  pub any_imp : (p q : A → Bool) → ((a : A) → p a ≡ true → q a ≡ true) → (l : List A) → list_any p l ≡ true → list_any q l ≡ true
  any_imp p q f [] h = h
  any_imp p q f (a ∷ l) h = (elim (p a) as (λ b. p a ≡ b → b || list_any p l ≡ true → q a || list_any q l ≡ true) [ true ↦ λ e k. or_true_left (q a) _ (f a e) | false ↦ λ e k. or_true_right (q a) _ (any_imp p q f l k) ]) refl h

  pub all_and : (p q : A → Bool) (l : List A) → list_all p l ≡ true → list_all q l ≡ true → list_all (λ a. p a && q a) l ≡ true
  all_and p q [] h k = refl
  all_and p q (a ∷ l) h k = and_true (p a && q a) _ (and_true (p a) (q a) (and_left (p a) _ h) (and_left (q a) _ k)) (all_and p q l (and_right (p a) _ h) (and_right (q a) _ k))

module _ {A B : Type 0} where
  -- a change of what m does not see
  pub map_change : (m : A → B) (q : A → Bool) (f : A → A) → ((a : A) → m (f a) ≡ m a) → (l : List A) → map m (change q f l) ≡ map m l
  unfolding change
  map_change m q f h [] = refl
  map_change m q f h (a ∷ l) = (elim (q a) as (λ b. map m (cond b (f a ∷ l) (a ∷ change q f l)) ≡ m a ∷ map m l) [ true ↦ ap (λ x. x ∷ map m l) (h a) | false ↦ ap (λ x. m a ∷ x) (map_change m q f h l) ])

  -- lists alike under m are alike for tests that see only m
  pub all_by_map : (p : B → Bool) (m : A → B) (l k : List A) → map m l ≡ map m k → list_all (λ a. p (m a)) l ≡ list_all (λ a. p (m a)) k
  all_by_map p m l k e = sym (all_map p m l) ∙ ap (λ x. list_all p x) e ∙ all_map p m k

  pub any_by_map : (p : B → Bool) (m : A → B) (l k : List A) → map m l ≡ map m k → list_any (λ a. p (m a)) l ≡ list_any (λ a. p (m a)) k
  any_by_map p m l k e = sym (any_map p m l) ∙ ap (λ x. list_any p x) e ∙ any_map p m k

  pub length_by_map : (m : A → B) (l k : List A) → map m l ≡ map m k → length l ≡ length k
  length_by_map m l k e = sym (length-map l m) ∙ ap length e ∙ length-map k m

module _ {A : Type 0} where
  -- some one passes p and every one q: so some one passes both
  pub any_all : {R : Type 0} (p q : A → Bool) → ((a : A) → p a ≡ true → q a ≡ true → R) → (l : List A) → list_any p l ≡ true → list_all q l ≡ true → R
  any_all p q f [] h k = not_both false h refl
  any_all {R} p q f (a ∷ l) h k = (elim (p a) as (λ b. p a ≡ b → b || list_any p l ≡ true → R) [ true ↦ λ e u. f a e (and_left (q a) _ k) | false ↦ λ e u. any_all p q f l u (and_right (q a) _ k) ]) refl h

  pub all_left : (p q : A → Bool) (l : List A) → list_all (λ a. p a && q a) l ≡ true → list_all p l ≡ true
  all_left p q = all_imp (λ a. p a && q a) p (λ a d. and_left (p a) (q a) d)

  pub all_right : (p q : A → Bool) (l : List A) → list_all (λ a. p a && q a) l ≡ true → list_all q l ≡ true
  all_right p q = all_imp (λ a. p a && q a) q (λ a d. and_right (p a) (q a) d)

  pub all_always : (p : A → Bool) → ((a : A) → p a ≡ true) → (l : List A) → list_all p l ≡ true
  all_always p f [] = refl
  all_always p f (a ∷ l) = and_true (p a) _ (f a) (all_always p f l)

  pub all_snoc : (p : A → Bool) (l : List A) (a : A) → list_all p l ≡ true → p a ≡ true → list_all p (l ++ (a ∷ [])) ≡ true
  all_snoc p l a h e = all_append p l (a ∷ []) ∙ and_true (list_all p l) _ h (and_true (p a) true e refl)

pub none_some : {A B : Type 0} (a : A) → None ≡ Some a → B
none_some a h = let z : ◌≡◌ {A = Bool} true false = cc in not_both true refl z

pub not_and : (a b : Bool) → b ≡ false → not (a && b) ≡ true
not_and true b h = ap not h
not_and false b h = refl

pub or_left : (a b : Bool) → a || b ≡ false → a ≡ false
or_left true b h = h
or_left false b h = refl

pub or_right : (a b : Bool) → a || b ≡ false → b ≡ false
or_right true b h = not_both true refl h
or_right false b h = h

module _ {A : Type 0} where
  pub count_last : (q : A → Bool) (l : List A) (a : A) → count q (l ++ (a ∷ [])) ≡ count q l + cond (q a) 1 0
  count_last q l a = omega (arith, count_append q l (a ∷ []), count_cons q a [], count_nil q)

  pub all_yes : (l : List A) → list_all (λ x. true) l ≡ true
  all_yes [] = refl
  all_yes (a ∷ l) = all_yes l

  -- a stronger test keeps nothing that the weaker one removed
  pub keep_under : (p q : A → Bool) → ((a : A) → q a ≡ true → p a ≡ true) → (l : List A) → filter q (filter p l) ≡ filter q l
  keep_under p q h l = keep_keep q p l ∙ keep_same (λ x. p x && q x) q (λ x. (elim (q x) as (λ b. q x ≡ b → p x && b ≡ b) [ true ↦ λ e. rw (h x e) | false ↦ λ e. elim (p x) as (λ b. b && false ≡ false) [ true ↦ refl | false ↦ refl ] ]) refl) l

  pub count_keep : (p q : A → Bool) (l : List A) → count q (filter p l) ≤ count q l
  count_keep p q l = omega (arith, count_split p q l)

  -- a weaker test counts as many or more
  pub count_imp : (p q : A → Bool) → ((a : A) → p a ≡ true → q a ≡ true) → (l : List A) → count p l ≤ count q l
  count_imp p q h l = let k : count p (filter q l) ≡ count p l = (unfold count in ap length (keep_under q p h l)) in let n : count p (filter q l) ≤ count q l = (unfold count in length_keep p (filter q l)) in omega arith

  pub count_zero : (p r : A → Bool) → ((a : A) → r a ≡ true → p a ≡ false) → (l : List A) → list_all r l ≡ true → count p l ≡ 0
  count_zero p r f [] h = count_nil p
  count_zero p r f (a ∷ l) h = count_cons p a l ∙ rw (f a (and_left (r a) _ h), count_zero p r f l (and_right (r a) _ h)) (omega arith)

  -- one that passes, and what holds of all
  pub taken : (p r : A → Bool) (l : List A) → 1 ≤ count p l → list_all r l ≡ true → (a : A) × (p a ≡ true) × (r a ≡ true)
  taken p r [] c h = absurd (omega (arith, count_nil p))
  taken p r (a ∷ l) c h = (elim (p a) as (λ b. p a ≡ b → count p (a ∷ l) ≡ cond b 1 0 + count p l → (a : A) × (p a ≡ true) × (r a ≡ true)) [ true ↦ λ e k. (a, e, and_left (r a) _ h) | false ↦ λ e k. taken p r l (omega arith) (and_right (r a) _ h) ]) refl (count_cons p a l)

  pub find_count : (p q : A → Bool) (l : List A) (a : A) → find p l ≡ Some a → q a ≡ true → 1 ≤ count q l
  unfolding is_some
  find_count p q [] a h k = not_both false (ap (λ o. is_some o) h) refl
  find_count p q (x ∷ l) a h k = (elim (p x) as (λ b. cond b (Some x) (find p l) ≡ Some a → 1 ≤ count q (x ∷ l)) [ true ↦ λ e. let z : x ≡ a = cc in omega (arith, count_cons q x l, ap {B = ℕ} (λ y. cond (q y) 1 0) z, ap {B = ℕ} (λ b. cond b 1 0) k) | false ↦ λ e. omega (arith, count_cons q x l, find_count p q l a e k) ]) h

  -- one that passes is found
  pub find_some : (p : A → Bool) (l : List A) → 1 ≤ count p l → (a : A) × (find p l ≡ Some a)
  unfolding is_some
  find_some p l h = (elim (find p l) as (λ o. is_some o ≡ list_any p l → (a : A) × (o ≡ Some a)) [ None ↦ λ e. absurd (omega (arith, count_none p l (sym e))) | Some a ↦ λ e. (a, refl) ]) (find_any p l)

  -- a last one that fails is not kept
  pub keep_last : (p : A → Bool) (l : List A) (a : A) → p a ≡ false → filter p (l ++ (a ∷ [])) ≡ filter p l
  keep_last p l a h = keep_append p l (a ∷ []) ∙ rw h (append-nil _)

module _ {A : Type 0} (p : A → Bool) where
  -- none passes
  pub any_empty : ((a : A) → p a ≡ false) → (l : List A) → list_any p l ≡ false
  any_empty h [] = refl
  any_empty h (a ∷ l) = rw (h a) (any_empty h l)

  -- some are taken out
  pub keep_fewer : (l : List A) → list_any p l ≡ true → length (filter (λ a. not (p a)) l) < length l
  keep_fewer [] h = not_both false h refl
  keep_fewer (a ∷ l) h =
      (elim (p a) as (λ b. b || list_any p l ≡ true → length (cond (not b) (a ∷ filter (λ a. not (p a)) l) (filter (λ a. not (p a)) l)) < suc (length l)) [
        | true ↦ λ e. omega (arith, length_keep (λ a. not (p a)) l)
        | false ↦ λ e. let i = keep_fewer l e in omega arith
      ]) h
