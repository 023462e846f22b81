-- The source's filter hold and the definitions, on one call and on every list of calls.
use Prim.{Unit, tt}
use Prim.Native.Nat.{ℕ, ◌+◌, ◌*◌, ◌/◌, ◌%◌, min}
use mathlib.Core.Path.{◌≡◌, refl, sym, ap, ◌∙◌}
use mathlib.Core.Bool.{Bool, true, false, ◌&&◌, ◌||◌, not, cond}
use mathlib.Core.List.{List, [], ◌∷◌, ◌++◌, map}
use Rattle.std.specs.Prelude.{Option, Some, None}
use native.Mathlib.Omega.{arith}
use lib.IntN.{ℤ, pos, negsuc}
use lib.Dec.{ltb, leb, eqb}
use lib.ListN.{length, drop, length-map}
use borrow.Author.Tests.{ltb-true, lt-ltb, eqb-true, eq-eqb, ne_eqb}
use Rattle.std.proofs.lemmas.Bool.Decides.{nat_tests}
use Rattle.laws.specs.Answer.{Answer, refused, answered}
use Rattle.laws.specs.Lists.{filter, list_all, list_any, index_of, is_some}
use Rattle.laws.proofs.Lists.{and_true, and_left, and_right, all_imp, all_map, keep_map}
use Rattle.filter_hold.specs.Tbf.{not_after, follows, is_of}
use Rattle.filter_hold.specs.Tbf as D
use Rattle.filter_hold.proofs.TbfOrder.{insert_step}
use Rattle.filter_hold.specs.declared.tbf.Time.{Time}
use Rattle.filter_hold.specs.declared.tbf.Separation.{Separation}
use Rattle.filter_hold.specs.declared.tbf.Held.{Held}
use Rattle.filter_hold.specs.declared.tbf.TbfHold.{TbfHold}
use Rattle.source_model.specs.Map.{readers, get, insert, remove, ascends}
use Rattle.source_model.proofs.Maps.{readers_lawful, insert_ascends, remove_ascends}
use Rattle.tbf_model.specs.Source.{or_zero, or_max, time_after, Hold, new, hold, supersede, and_item, take_each, take_due, is_empty}
use Rattle.tbf_model.specs.Claim.{Call, holds, supersedes, takes, clears, Told, nanos_of, words, hold_or, take_or, step, run, answers, told_hold, step_by, run_by, answers_by, held_as, map_of, SameRun}

-- instance and item
abbrev pair_of : ℕ × (ℕ × Time) → ℕ × ℕ
pair_of x = (x.0, x.1.0)

abbrev pub flat : Hold → List Held
flat m = map (λ x. held_as x) m

-- ---- times

stops : (n : ℕ) → or_max n ≡ min n 2147483647
stops n = grind (arith, nat_tests)

from_zero_lem : (z : ℤ) → or_zero z ≡ D.from_zero z
from_zero_lem (pos n) = refl
from_zero_lem (negsuc n) = refl

time_same : (at : Time) (s : Separation) → time_after at (nanos_of s) ≡ D.time_after at s
unfolding time_after nanos_of D.time_after D.time_of
time_same at s =
    ap (λ z. record { sec = pos (or_max ((z * 1000000000 + at.nanosec + (s.sec * 1000000000 + s.nanosec)) / 1000000000)); nanosec = (z * 1000000000 + at.nanosec + (s.sec * 1000000000 + s.nanosec)) % 1000000000 }) (from_zero_lem at.sec)
    ∙ ap (λ n. record { sec = pos n; nanosec = (D.from_zero at.sec * 1000000000 + at.nanosec + (s.sec * 1000000000 + s.nanosec)) % 1000000000 }) (stops ((D.from_zero at.sec * 1000000000 + at.nanosec + (s.sec * 1000000000 + s.nanosec)) / 1000000000))

-- ---- hold

abbrev above : ℕ → Hold → Bool
above k m = list_all (λ y. ltb k y.0) m

apart : (k : ℕ) (x : ℕ × (ℕ × Time)) → ltb k x.0 ≡ true → is_of k (held_as x) ≡ false
unfolding is_of held_as
apart k x e = let h = ltb-true k x.0 e in ne_eqb k x.0 (λ q. omega (arith, h, q))

-- none of the instance stands above it
none_above : (k : ℕ) (m : Hold) → above k m ≡ true → D.supersede k (flat m) ≡ flat m
unfolding D.supersede
none_above k [] h = refl
none_above k (x ∷ m) h =
    ap (λ b. cond (not b) (held_as x ∷ filter (λ x. not (is_of k x)) (flat m)) (filter (λ x. not (is_of k x)) (flat m))) (apart k x (and_left (ltb k x.0) _ h))
    ∙ ap (λ l. held_as x ∷ l) (none_above k m (and_right (ltb k x.0) _ h))

insert_none : (h : Held) → D.insert h [] ≡ h ∷ []
unfolding D.insert index_of
insert_none h = refl

follows_as : (k : ℕ) (x : ℕ × (ℕ × Time)) → follows k (held_as x) ≡ ltb k x.0
unfolding follows held_as
follows_as k x = refl

is_as : (k : ℕ) (x : ℕ × (ℕ × Time)) → is_of k (held_as x) ≡ eqb k x.0
unfolding is_of held_as
is_as k x = refl

own : (k : ℕ) (v : ℕ × Time) (y : Held) → follows (held_as (k, v)).instance y ≡ follows k y
unfolding held_as
own k v y = refl

dropped : (k : ℕ) (y : Held) (l : List Held) → is_of k y ≡ true → filter (λ x. not (is_of k x)) (y ∷ l) ≡ D.supersede k l
unfolding D.supersede
dropped k y l e = ap (λ b. cond (not b) (y ∷ filter (λ x. not (is_of k x)) l) (filter (λ x. not (is_of k x)) l)) e

stays : (k : ℕ) (y : Held) (l : List Held) → is_of k y ≡ false → filter (λ x. not (is_of k x)) (y ∷ l) ≡ y ∷ D.supersede k l
unfolding D.supersede
stays k y l e = ap (λ b. cond (not b) (y ∷ filter (λ x. not (is_of k x)) l) (filter (λ x. not (is_of k x)) l)) e

below : (k : ℕ) (x : ℕ × (ℕ × Time)) (m : Hold) → ltb k x.0 ≡ true → above x.0 m ≡ true → above k (x ∷ m) ≡ true
below k x m f up =
    let h = ltb-true k x.0 f in
    and_true (ltb k x.0) _ f (all_imp (λ y. ltb x.0 y.0) (λ y. ltb k y.0) (λ y g. lt-ltb k y.0 (omega (arith, h, ltb-true x.0 y.0 g))) m up)

insert_first : (k : ℕ) (v : ℕ × Time) (m : Hold) → above k m ≡ true → D.insert (held_as (k, v)) (flat m) ≡ held_as (k, v) ∷ flat m
insert_first k v [] h = insert_none (held_as (k, v))
insert_first k v (x ∷ m) h =
    insert_step (held_as (k, v)) (held_as x) (flat m)
    ∙ ap (λ b. cond b (held_as (k, v) ∷ held_as x ∷ flat m) (held_as x ∷ D.insert (held_as (k, v)) (flat m))) (own k v (held_as x) ∙ follows_as k x ∙ and_left (ltb k x.0) _ h)

hold_flat : (k : ℕ) (v : ℕ × Time) (m : Hold) → ascends readers m ≡ true → flat (insert readers k v m) ≡ D.insert (held_as (k, v)) (D.supersede k (flat m))
unfolding insert ascends readers D.supersede
hold_flat k v [] h = sym (insert_none (held_as (k, v)))
hold_flat k v (x ∷ m) h =
    let up : above x.0 m ≡ true = and_left (above x.0 m) _ h in
    let rest : ascends readers m ≡ true = and_right (above x.0 m) _ h in
    (elim (eqb k x.0) as (λ b. eqb k x.0 ≡ b → flat (cond b ((k, v) ∷ m) (cond (ltb k x.0) ((k, v) ∷ x ∷ m) (x ∷ insert readers k v m))) ≡ D.insert (held_as (k, v)) (filter (λ x. not (is_of k x)) (held_as x ∷ flat m))) [
      | true ↦ λ e.
          let a : above k m ≡ true = rw (eqb-true k x.0 e) up in
          sym (ap (λ l. D.insert (held_as (k, v)) l) (dropped k (held_as x) (flat m) (is_as k x ∙ e) ∙ none_above k m a) ∙ insert_first k v m a)
      | false ↦ λ e. (elim (ltb k x.0) as (λ b. ltb k x.0 ≡ b → flat (cond b ((k, v) ∷ x ∷ m) (x ∷ insert readers k v m)) ≡ D.insert (held_as (k, v)) (filter (λ x. not (is_of k x)) (held_as x ∷ flat m))) [
        | true ↦ λ f.
            let a : above k (x ∷ m) ≡ true = below k x m f up in
            sym (ap (λ l. D.insert (held_as (k, v)) l) (none_above k (x ∷ m) a) ∙ insert_first k v (x ∷ m) a)
        | false ↦ λ f.
            ap (λ l. held_as x ∷ l) (hold_flat k v m rest)
            ∙ sym (ap (λ l. D.insert (held_as (k, v)) l) (stays k (held_as x) (flat m) (is_as k x ∙ e)) ∙ insert_step (held_as (k, v)) (held_as x) (D.supersede k (flat m))
            ∙ ap (λ b. cond b (held_as (k, v) ∷ held_as x ∷ D.supersede k (flat m)) (held_as x ∷ D.insert (held_as (k, v)) (D.supersede k (flat m)))) (own k v (held_as x) ∙ follows_as k x ∙ f))
      ]) refl
    ]) refl

-- ---- supersede and take due

remove_flat : (k : ℕ) (m : Hold) → flat (remove readers k m) ≡ D.supersede k (flat m)
unfolding remove readers D.supersede is_of held_as
remove_flat k m = sym (keep_map (λ x. not (is_of k x)) (λ x. held_as x) m)

-- no key of the list is the first's
abbrev apart_from : ℕ → List ℕ → Bool
apart_from k l = list_all (λ j. not (eqb j k)) l

not_yes : (b : Bool) → not b ≡ true → b ≡ false
not_yes true e = sym e
not_yes false e = refl

get_past : (k : ℕ) (x : ℕ × (ℕ × Time)) (m : Hold) → eqb k x.0 ≡ false → get readers k (x ∷ m) ≡ get readers k m
unfolding get readers
get_past k x m e = ap (λ b. cond b (Some x.1) (get readers k m)) e

get_own : (x : ℕ × (ℕ × Time)) (m : Hold) → get readers x.0 (x ∷ m) ≡ Some x.1
unfolding get readers
get_own x m = ap (λ b. cond b (Some x.1) (get readers x.0 m)) (eq-eqb x.0 x.0 refl)

remove_past : (k : ℕ) (x : ℕ × (ℕ × Time)) (m : Hold) → eqb k x.0 ≡ false → remove readers k (x ∷ m) ≡ x ∷ remove readers k m
unfolding remove readers
remove_past k x m e = ap (λ b. cond (not b) (x ∷ filter (λ x. not (eqb k x.0)) m) (filter (λ x. not (eqb k x.0)) m)) e

keeps_above : (k : ℕ) (m : Hold) → above k m ≡ true → filter (λ x. not (eqb k x.0)) m ≡ m
keeps_above k [] h = refl
keeps_above k (x ∷ m) h =
    let g = ltb-true k x.0 (and_left (ltb k x.0) _ h) in
    ap (λ b. cond (not b) (x ∷ filter (λ x. not (eqb k x.0)) m) (filter (λ x. not (eqb k x.0)) m)) (ne_eqb k x.0 (λ q. omega (arith, g, q)))
    ∙ ap (λ l. x ∷ l) (keeps_above k m (and_right (ltb k x.0) _ h))

remove_own : (x : ℕ × (ℕ × Time)) (m : Hold) → above x.0 m ≡ true → remove readers x.0 (x ∷ m) ≡ m
unfolding remove readers
remove_own x m h = ap (λ b. cond (not b) (x ∷ filter (λ y. not (eqb x.0 y.0)) m) (filter (λ y. not (eqb x.0 y.0)) m)) (eq-eqb x.0 x.0 refl) ∙ keeps_above x.0 m h

and_past : (u : Option (ℕ × Time)) (k : ℕ) (x : ℕ × (ℕ × Time)) (r : List (ℕ × ℕ) × Hold) → and_item u k (r.0, x ∷ r.1) ≡ ((and_item u k r).0, x ∷ (and_item u k r).1)
and_past None k x r = refl
and_past (Some v) k x r = refl

skip_first : (x : ℕ × (ℕ × Time)) (ks : List ℕ) (m : Hold) → apart_from x.0 ks ≡ true → take_each ks (x ∷ m) ≡ ((take_each ks m).0, x ∷ (take_each ks m).1)
unfolding take_each
skip_first x [] m h = refl
skip_first x (k ∷ ks) m h =
    let e : eqb k x.0 ≡ false = not_yes (eqb k x.0) (and_left (not (eqb k x.0)) _ h) in
    ap (λ u. and_item u k (take_each ks (remove readers k (x ∷ m)))) (get_past k x m e)
    ∙ ap (λ r. and_item (get readers k m) k (take_each ks r)) (remove_past k x m e)
    ∙ ap (λ r. and_item (get readers k m) k r) (skip_first x ks (remove readers k m) (and_right (not (eqb k x.0)) _ h))
    ∙ and_past (get readers k m) k x (take_each ks (remove readers k m))

keys_apart : (k : ℕ) (p : ℕ × (ℕ × Time) → Bool) (m : Hold) → above k m ≡ true → apart_from k (map (λ x. x.0) (filter p m)) ≡ true
keys_apart k p [] h = refl
keys_apart k p (x ∷ m) h =
    let g = ltb-true k x.0 (and_left (ltb k x.0) _ h) in
    let r : apart_from k (map (λ x. x.0) (filter p m)) ≡ true = keys_apart k p m (and_right (ltb k x.0) _ h) in
    elim (p x) as (λ b. apart_from k (map (λ x. x.0) (cond b (x ∷ filter p m) (filter p m))) ≡ true) [
      | true ↦ and_true (not (eqb x.0 k)) _ (ap not (ne_eqb x.0 k (λ q. omega (arith, g, q)))) r
      | false ↦ r
    ]

taken_same : (p : ℕ × (ℕ × Time) → Bool) (m : Hold) → ascends readers m ≡ true → take_each (map (λ x. x.0) (filter p m)) m ≡ (map pair_of (filter p m), filter (λ x. not (p x)) m)
unfolding ascends readers take_each
taken_same p [] h = refl
taken_same p (x ∷ m) h =
    let up : above x.0 m ≡ true = and_left (above x.0 m) _ h in
    let ih = taken_same p m (and_right (above x.0 m) _ h) in
    elim (p x) as (λ b. take_each (map (λ x. x.0) (cond b (x ∷ filter p m) (filter p m))) (x ∷ m) ≡ (map pair_of (cond b (x ∷ filter p m) (filter p m)), cond (not b) (x ∷ filter (λ x. not (p x)) m) (filter (λ x. not (p x)) m))) [
      | true ↦
          ap (λ u. and_item u x.0 (take_each (map (λ x. x.0) (filter p m)) (remove readers x.0 (x ∷ m)))) (get_own x m)
          ∙ ap (λ r. and_item (Some x.1) x.0 (take_each (map (λ x. x.0) (filter p m)) r)) (remove_own x m up)
          ∙ ap (λ (r : List (ℕ × ℕ) × Hold). ((x.0, x.1.0) ∷ r.0, r.1)) ih
      | false ↦ skip_first x (map (λ x. x.0) (filter p m)) m (keys_apart x.0 p m up) ∙ ap (λ (r : List (ℕ × ℕ) × Hold). (r.0, x ∷ r.1)) ih
    ]

words_same : (l : Hold) → words (map pair_of l) ≡ D.words (flat l)
unfolding words D.words held_as
words_same [] = refl
words_same (x ∷ l) = ap (λ w. x.0 ∷ x.1.0 ∷ w) (words_same l)

due_flat : (now : Time) (m : Hold) → D.due_at now (flat m) ≡ flat (filter (λ x. not_after x.1.1 now) m)
unfolding D.due_at held_as
due_flat now m = keep_map (λ x. not_after x.due now) (λ x. held_as x) m

left_flat : (now : Time) (m : Hold) → D.not_due_at now (flat m) ≡ flat (filter (λ x. not (not_after x.1.1 now)) m)
unfolding D.not_due_at held_as
left_flat now m = keep_map (λ x. not (not_after x.due now)) (λ x. held_as x) m

-- ---- one call

-- the definitions' side of an answer and a hold
abbrev pub also : Told × Hold → Told × List Held
also r = (r.0, flat r.1)

cond_map : {A B : Type 0} (f : A → B) (b : Bool) (u v : A) → f (cond b u v) ≡ cond b (f u) (f v)
cond_map f true u v = refl
cond_map f false u v = refl

known_same : (k : ℕ) (m : Hold) → is_some (get readers k m) ≡ list_any (λ x. is_of k x) (flat m)
unfolding get readers is_some is_of held_as
known_same k [] = refl
known_same k (x ∷ m) = elim (eqb k x.0) as (λ b. is_some (cond b (Some x.1) (get readers k m)) ≡ b || list_any (λ x. is_of k x) (flat m)) [ true ↦ refl | false ↦ known_same k m ]

held_one : (k i : ℕ) (arrival : Time) (s : Separation) (m : Hold) → ascends readers m ≡ true → flat (hold m k i arrival (nanos_of s)) ≡ D.insert (record { instance = k; item = i; due = D.time_after arrival s }) (D.supersede k (flat m))
unfolding hold held_as
held_one k i arrival s m h = ap (λ t. flat (insert readers k (i, t) m)) (time_same arrival s) ∙ hold_flat k (i, D.time_after arrival s) m h

-- the two ways to say that neither refusal applies
abbrev either_hold : {A : Type 0} → Bool → Bool → (Answer (Unit {0}) → A) → A → A
either_hold a b f x = cond a (f (refused 10)) (cond b (f (refused 8)) x)

told_case : (a b : Bool) (l n : List Held)
    → either_hold {A = Told × List Held} a b (λ r. (told_hold r, l)) ((answered 0, []), n)
    ≡ (told_hold (either_hold {A = Answer (Unit {0}) × List Held} a b (λ r. (r, l)) (answered tt, n)).0, (either_hold {A = Answer (Unit {0}) × List Held} a b (λ r. (r, l)) (answered tt, n)).1)
told_case true b l n = refl
told_case false true l n = refl
told_case false false l n = refl

split_case : (b : Bool) (out : List ℕ) (l : List Held) (k : ℕ) (w : List ℕ) (n : List Held)
    → cond {A = Told × List Held} b ((refused 5, out), l) ((answered k, w), n)
    ≡ (((cond {A = Answer ℕ × List Held × List ℕ} b (refused 5, l, out) (answered k, n, w)).0, (cond {A = Answer ℕ × List Held × List ℕ} b (refused 5, l, out) (answered k, n, w)).2), (cond {A = Answer ℕ × List Held × List ℕ} b (refused 5, l, out) (answered k, n, w)).1)
split_case true out l k w n = refl
split_case false out l k w n = refl

hold_same : (k i : ℕ) (arrival : Time) (s : Separation) (m : Hold) → ascends readers m ≡ true → also (hold_or m k i arrival s) ≡ step_by (flat m) (holds k i arrival s)
unfolding hold_or step_by D.hold
hold_same k i arrival s m h =
    cond_map also (leb 1000000000 s.nanosec) ((refused 10, []), m) (cond (not (is_some (get readers k m)) && leb 32 (length m)) ((refused 8, []), m) ((answered 0, []), hold m k i arrival (nanos_of s)))
    ∙ ap (λ r. cond (leb 1000000000 s.nanosec) ((refused 10, []), flat m) r) (cond_map also (not (is_some (get readers k m)) && leb 32 (length m)) ((refused 8, []), m) ((answered 0, []), hold m k i arrival (nanos_of s)))
    ∙ ap (λ b. cond (leb 1000000000 s.nanosec) ((refused 10, []), flat m) (cond (not b && leb 32 (length m)) ((refused 8, []), flat m) ((answered 0, []), flat (hold m k i arrival (nanos_of s))))) (known_same k m)
    ∙ ap (λ n. cond (leb 1000000000 s.nanosec) ((refused 10, []), flat m) (cond (not (list_any (λ x. is_of k x) (flat m)) && leb 32 n) ((refused 8, []), flat m) ((answered 0, []), flat (hold m k i arrival (nanos_of s))))) (sym (length-map m (λ x. held_as x)))
    ∙ ap (λ l. cond (leb 1000000000 s.nanosec) ((refused 10, []), flat m) (cond (not (list_any (λ x. is_of k x) (flat m)) && leb 32 (length (flat m))) ((refused 8, []), flat m) ((answered 0, []), l))) (held_one k i arrival s m h)
    ∙ told_case (leb 1000000000 s.nanosec) (not (list_any (λ x. is_of k x) (flat m)) && leb 32 (length (flat m))) (flat m) (D.insert (record { instance = k; item = i; due = D.time_after arrival s }) (D.supersede k (flat m)))

take_same : (now : Time) (out : List ℕ) (m : Hold) → ascends readers m ≡ true → also (take_or m now out) ≡ step_by (flat m) (takes now out)
unfolding take_or take_due step_by D.take_due D.written
take_same now out m h =
    let p : ℕ × (ℕ × Time) → Bool = λ x. not_after x.1.1 now in
    let d : Hold = filter p m in
    ap (λ (r : List (ℕ × ℕ) × Hold). also (cond (ltb (length out / 2) (length r.0)) ((refused 5, out), m) ((answered (length r.0), words r.0 ++ drop (length r.0 * 2) out), r.1))) (taken_same p m h)
    ∙ ap (λ w. also (cond (ltb (length out / 2) (length (map pair_of d))) ((refused 5, out), m) ((answered (length (map pair_of d)), w ++ drop (length (map pair_of d) * 2) out), filter (λ x. not (p x)) m))) (words_same d)
    ∙ ap (λ n. also (cond (ltb (length out / 2) n) ((refused 5, out), m) ((answered n, D.words (flat d) ++ drop (n * 2) out), filter (λ x. not (p x)) m))) (length-map d pair_of ∙ sym (length-map d (λ x. held_as x)))
    ∙ cond_map also (ltb (length out / 2) (length (flat d))) ((refused 5, out), m) ((answered (length (flat d)), D.words (flat d) ++ drop (length (flat d) * 2) out), filter (λ x. not (p x)) m)
    ∙ ap (λ l. cond (ltb (length out / 2) (length (flat d))) ((refused 5, out), flat m) ((answered (length (flat d)), D.words (flat d) ++ drop (length (flat d) * 2) out), l)) (sym (left_flat now m))
    ∙ ap (λ l. cond (ltb (length out / 2) (length l)) ((refused 5, out), flat m) ((answered (length l), D.words l ++ drop (length l * 2) out), D.not_due_at now (flat m))) (sym (due_flat now m))
    ∙ split_case (ltb (length out / 2) (length (D.due_at now (flat m)))) out (flat m) (length (D.due_at now (flat m))) (D.words (D.due_at now (flat m)) ++ drop (length (D.due_at now (flat m)) * 2) out) (D.not_due_at now (flat m))

supersede_same : (k : ℕ) (m : Hold) → ((answered 0, []), flat (supersede m k)) ≡ step_by (flat m) (supersedes k)
unfolding supersede step_by
supersede_same k m = ap (λ l. ((answered 0, []), l)) (remove_flat k m)

clear_same : (m : Hold) → ((answered 0, []), []) ≡ step_by (flat m) clears
unfolding step_by
clear_same m = refl

pub step_same : (m : Hold) (c : Call) → ascends readers m ≡ true → also (step m c) ≡ step_by (flat m) c
unfolding step
step_same m (holds k i arrival s) h = hold_same k i arrival s m h
step_same m (supersedes k) h = supersede_same k m
step_same m (takes now out) h = take_same now out m h
step_same m clears h = clear_same m

none_ascends : ascends readers new ≡ true
unfolding ascends
none_ascends = refl

hold_ascends : (a b : Bool) (m n : Hold) → ascends readers m ≡ true → ascends readers n ≡ true → ascends readers (cond {A = Told × Hold} a ((refused 10, []), m) (cond b ((refused 8, []), m) ((answered 0, []), n))).1 ≡ true
hold_ascends true b m n h g = h
hold_ascends false true m n h g = h
hold_ascends false false m n h g = g

take_ascends : (a : Bool) (m : Hold) (k : ℕ) (out w : List ℕ) (n : Hold) → ascends readers m ≡ true → ascends readers n ≡ true → ascends readers (cond {A = Told × Hold} a ((refused 5, out), m) ((answered k, w), n)).1 ≡ true
take_ascends true m k out w n h g = h
take_ascends false m k out w n h g = g

and_ascends : (u : Option (ℕ × Time)) (k : ℕ) (r : List (ℕ × ℕ) × Hold) → ascends readers r.1 ≡ true → ascends readers (and_item u k r).1 ≡ true
and_ascends None k r h = h
and_ascends (Some v) k r h = h

each_ascends : (ks : List ℕ) (m : Hold) → ascends readers m ≡ true → ascends readers (take_each ks m).1 ≡ true
unfolding take_each
each_ascends [] m h = h
each_ascends (k ∷ ks) m h = and_ascends (get readers k m) k (take_each ks (remove readers k m)) (each_ascends ks (remove readers k m) (remove_ascends readers_lawful k m h))

pub step_ascends : (m : Hold) (c : Call) → ascends readers m ≡ true → ascends readers (step m c).1 ≡ true
unfolding step hold_or take_or hold supersede take_due
step_ascends m (holds k i arrival s) h = hold_ascends (leb 1000000000 s.nanosec) (not (is_some (get readers k m)) && leb 32 (length m)) m (insert readers k (i, time_after arrival (nanos_of s)) m) h (insert_ascends readers_lawful k (i, time_after arrival (nanos_of s)) m h)
step_ascends m (supersedes k) h = remove_ascends readers_lawful k m h
step_ascends m (takes now out) h =
    let r : List (ℕ × ℕ) = (take_each (map (λ x. x.0) (filter (λ x. not_after x.1.1 now) m)) m).0 in
    take_ascends (ltb (length out / 2) (length r)) m (length r) out (words r ++ drop (length r * 2) out) (take_each (map (λ x. x.0) (filter (λ x. not_after x.1.1 now) m)) m).1 h (each_ascends (map (λ x. x.0) (filter (λ x. not_after x.1.1 now) m)) m h)
step_ascends m clears h = none_ascends

-- ---- every list of calls

answers_from : (cs : List Call) (m : Hold) → ascends readers m ≡ true → answers m cs ≡ answers_by (flat m) cs
unfolding answers answers_by
answers_from [] m h = refl
answers_from (c ∷ cs) m h =
    let e = step_same m c h in
    ap (λ more. (step m c).0 ∷ more) (answers_from cs (step m c).1 (step_ascends m c h)) ∙ ap (λ (r : Told × List Held). r.0 ∷ answers_by r.1 cs) e

run_from : (cs : List Call) (m : Hold) → ascends readers m ≡ true → flat (run m cs) ≡ run_by (flat m) cs
unfolding run run_by
run_from [] m h = refl
run_from (c ∷ cs) m h = run_from cs (step m c).1 (step_ascends m c h) ∙ ap (λ (r : Told × List Held). run_by r.1 cs) (step_same m c h)

pub tbf_alike : (cs : List Call) → SameRun cs
unfolding is_empty
tbf_alike cs = record {
  answers_same = answers_from cs new none_ascends;
  hold_same = run_from cs new none_ascends;
  empty_is = ap (λ n. eqb n 0) (sym (length-map (run new cs) (λ x. held_as x)) ∙ ap (λ l. length l) (run_from cs new none_ascends));
}

-- ---- the code: from any hold whose instances rise (filter_hold/proofs/TbfOrder.antt), what the contracts say is the source's

as_ascends : (l : List Held) → D.rising l ≡ true → ascends readers (map_of l) ≡ true
unfolding D.rising ascends readers follows map_of
as_ascends [] h = refl
as_ascends (x ∷ l) h =
    and_true (above x.instance (map_of l)) _ (all_map (λ y. ltb x.instance y.0) (λ y. (y.instance, (y.item, y.due))) l ∙ and_left (list_all (λ y. follows x.instance y) l) _ h)
    (as_ascends l (and_right (list_all (λ y. follows x.instance y) l) _ h))

flat_map : (l : List Held) → flat (map_of l) ≡ l
unfolding map_of held_as
flat_map [] = refl
flat_map (x ∷ l) = ap (λ m. x ∷ m) (flat_map l)

pub code_same : (h : TbfHold) (c : Call) → D.rising h.held.items ≡ true → step_by h.held.items c ≡ also (step (map_of h.held.items) c)
code_same h c r = ap (λ l. step_by l c) (sym (flat_map h.held.items)) ∙ sym (step_same (map_of h.held.items) c (as_ascends h.held.items r))
