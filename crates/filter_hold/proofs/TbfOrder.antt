-- Every call keeps the instances rising, so what is due leaves in instance order.
use Prim.Native.Nat.{ℕ, suc, ◌/◌}
use Prim.{Unit}
use mathlib.Core.Path.{◌≡◌, refl}
use mathlib.Core.Bool.{Bool, true, false, ◌&&◌, not, cond}
use mathlib.Core.List.{List, [], ◌∷◌, ◌++◌}
use native.Mathlib.Omega.{arith}
use borrow.Author.Tests.{ltb-true, ltb-false, lt-ltb, eqb-false}
use lib.Dec.{ltb, leb}
use lib.ListN.{length, take, drop}
use Rattle.laws.specs.Answer.{Answer}
use Rattle.laws.specs.Lists.{filter, list_all, list_any, index_of}
use Rattle.laws.proofs.Lists.{and_true, and_left, and_right, all_imp, all_keep, or_left, or_right}
use Rattle.filter_hold.specs.declared.tbf.Time.{Time}
use Rattle.filter_hold.specs.declared.tbf.Separation.{Separation}
use Rattle.filter_hold.specs.declared.tbf.Held.{Held}
use Rattle.filter_hold.specs.Tbf.{rising, follows, is_of, insert, supersede, hold, due_at, not_due_at, not_after, take_due, time_after, nothing}

pub rising_nothing : rising nothing ≡ true
unfolding rising
rising_nothing = refl

pub rising_keep : (p : Held → Bool) (l : List Held) → rising l ≡ true → rising (filter p l) ≡ true
unfolding rising
rising_keep p [] h = refl
rising_keep p (x ∷ l) h =
    let t = and_right (list_all (λ y. follows x.instance y) l) _ h in
    (elim (p x) as (λ b. rising (cond b (x ∷ filter p l) (filter p l)) ≡ true) [
      | true ↦ and_true _ _ (all_keep (λ y. follows x.instance y) p l (and_left (list_all (λ y. follows x.instance y) l) _ h)) (rising_keep p l t)
      | false ↦ rising_keep p l t
    ])

pub insert_step : (h x : Held) (l : List Held) → insert h (x ∷ l) ≡ cond (follows h.instance x) (h ∷ x ∷ l) (x ∷ insert h l)
unfolding insert index_of
insert_step h x l = (elim (follows h.instance x) as (λ b. take (cond b 0 (suc (index_of (λ x. follows h.instance x) l))) (x ∷ l) ++ (h ∷ drop (cond b 0 (suc (index_of (λ x. follows h.instance x) l))) (x ∷ l)) ≡ cond b (h ∷ x ∷ l) (x ∷ (take (index_of (λ x. follows h.instance x) l) l ++ (h ∷ drop (index_of (λ x. follows h.instance x) l) l)))) [ true ↦ refl | false ↦ refl ])

all_insert : (p : Held → Bool) (h : Held) (l : List Held) → p h ≡ true → list_all p l ≡ true → list_all p (insert h l) ≡ true
unfolding insert index_of
all_insert p h [] e t = and_true (p h) true e refl
all_insert p h (x ∷ l) e t =
    rw (insert_step h x l)
    (elim (follows h.instance x) as (λ b. list_all p (cond b (h ∷ x ∷ l) (x ∷ insert h l)) ≡ true) [
      | true ↦ and_true (p h) _ e t
      | false ↦ and_true (p x) _ (and_left (p x) _ t) (all_insert p h l e (and_right (p x) _ t))
    ])

follows_more : (a b c : Held) → follows a.instance b ≡ true → follows b.instance c ≡ true → follows a.instance c ≡ true
unfolding follows
follows_more a b c p q = lt-ltb a.instance c.instance (omega (arith, ltb-true a.instance b.instance p, ltb-true b.instance c.instance q))

-- not larger and of another instance: it stands before
before_other : (h x : Held) → follows h.instance x ≡ false → is_of h.instance x ≡ false → follows x.instance h ≡ true
unfolding follows is_of
before_other h x p q = lt-ltb x.instance h.instance (omega (arith, ltb-false h.instance x.instance p, eqb-false h.instance x.instance q))

pub rising_insert : (h : Held) (l : List Held) → rising l ≡ true → list_any (λ x. is_of h.instance x) l ≡ false → rising (insert h l) ≡ true
unfolding rising insert index_of
rising_insert h [] r a = refl
rising_insert h (x ∷ l) r a =
    let f = and_left (list_all (λ y. follows x.instance y) l) _ r in
    let t = and_right (list_all (λ y. follows x.instance y) l) _ r in
    rw (insert_step h x l)
    ((elim (follows h.instance x) as (λ b. follows h.instance x ≡ b → rising (cond b (h ∷ x ∷ l) (x ∷ insert h l)) ≡ true) [
      | true ↦ λ e. and_true _ _ (and_true _ _ e (all_imp _ (λ y. follows h.instance y) (λ y q. follows_more h x y e q) l f)) r
      | false ↦ λ e.
          and_true _ _
          (all_insert (λ y. follows x.instance y) h l (before_other h x e (or_left _ _ a)) f)
          (rising_insert h l t (or_right (is_of h.instance x) _ a))
    ]) refl)

-- none of the instance is left
none_of : (k : ℕ) (l : List Held) → list_any (λ x. is_of k x) (supersede k l) ≡ false
unfolding supersede
none_of k [] = refl
none_of k (x ∷ l) =
    (elim (is_of k x) as (λ b. is_of k x ≡ b → list_any (λ x. is_of k x) (cond (not b) (x ∷ filter (λ x. not (is_of k x)) l) (filter (λ x. not (is_of k x)) l)) ≡ false) [
      | true ↦ λ e. none_of k l
      | false ↦ λ e. rw e (none_of k l)
    ]) refl

pub rising_supersede : (k : ℕ) (l : List Held) → rising l ≡ true → rising (supersede k l) ≡ true
unfolding supersede
rising_supersede k l h = rising_keep (λ x. not (is_of k x)) l h

by_cases : {X : Type 0} (f : X → List Held) (b : Bool) (u v : X) → rising (f u) ≡ true → rising (f v) ≡ true → rising (f (cond b u v)) ≡ true
by_cases f true u v p q = p
by_cases f false u v p q = q

pub rising_hold : (k i : ℕ) (t : Time) (s : Separation) (l : List Held) → rising l ≡ true → rising (hold k i t s l).1 ≡ true
unfolding hold
rising_hold k i t s l h =
    let x : Held = record { instance = k; item = i; due = time_after t s } in
    by_cases (λ (r : Answer (Unit {0}) × List Held). r.1) (leb 1000000000 s.nanosec) _ _ h
    (by_cases (λ (r : Answer (Unit {0}) × List Held). r.1) (not (list_any (λ x. is_of k x) l) && leb 32 (length l)) _ _ h
    (rising_insert x (supersede k l) (rising_supersede k l h) (none_of k l)))

pub rising_left : (t : Time) (l : List Held) (out : List ℕ) → rising l ≡ true → rising (take_due t l out).1 ≡ true
unfolding take_due not_due_at
rising_left t l out h =
    by_cases (λ (r : Answer ℕ × List Held × List ℕ). r.1) (ltb (length out / 2) (length (due_at t l))) _ _ h
    (rising_keep (λ x. not (not_after x.due t)) l h)

pub rising_due : (t : Time) (l : List Held) → rising l ≡ true → rising (due_at t l) ≡ true
unfolding due_at
rising_due t l h = rising_keep (λ x. not_after x.due t) l h
