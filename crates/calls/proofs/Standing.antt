-- Laws of what the code's calls stand for.
use Prim.{Unit}
use Prim.Native.Nat.{ℕ, ◌<◌}
use mathlib.Core.Path.{◌≡◌, refl, sym, ap, ◌∙◌}
use mathlib.Core.Logic.{◌⊎◌, inl, inr, ⊎_elim}
use mathlib.Core.Bool.{Bool, true, false, ◌||◌}
use mathlib.Core.List.{List, [], ◌∷◌, ◌++◌, append-nil}
use native.Mathlib.Omega.{arith}
use borrow.Author.Tests.{ltb-true, lt-ltb}
use lib.Dec.{ltb}
use lib.ListN.{length, length-append}
use Rattle.std.specs.Prelude.{Result, Ok, Err, OnOk, OnErr}
use Rattle.arrayvec.specs.ArrayVec.{ArrayVec}
use Rattle.laws.specs.Lists.{list_any}
use Rattle.laws.proofs.Lists.{or_true_left, or_true_right, any_append, any_imp}
use Rattle.rules.specs.State.{State}
use Rattle.rules.specs.declared.view.Pair.{Pair}
use Rattle.rules.specs.declared.view.DigestRow.{DigestRow}
use Rattle.rules.specs.Release.{View, malformed}
use Rattle.call_line.specs.declared.line.Line.TheVariants as L
use Rattle.calls.specs.Run.{Calls, rows_of, with_history, run_call}
use Rattle.calls.specs.Runs.{Stands}

-- all calls of the code stand for some calls
pub every_stands : (d : Calls) → Stands d d
every_stands d = record { history = refl; rows = inl refl }

abbrev pub calls_of : State ℕ → List Pair → List DigestRow → Calls
calls_of h ps ds = record { history = h; counted = ps; digests = ds }

-- a call of the history leaves the rows
pub history_stands : {c : Calls} {h h' s : State ℕ} {ps : List Pair} {ds : List DigestRow} → h' ≡ s → Stands c (calls_of h ps ds)
    → Stands (with_history s c) (calls_of h' ps ds)
unfolding with_history rows_of
history_stands e s = record { history = e; rows = s.rows }

-- ---- malformed rows stay so with more of them

or_each : (a b c d : Bool) → (a ≡ true → c ≡ true) → (b ≡ true → d ≡ true) → a || b ≡ true → c || d ≡ true
or_each true b c d f g e = or_true_left c d (f refl)
or_each false b c d f g e = or_true_right c d (g e)

module _ {A : Type 0} (l m : List A) where
  any_more : (p : A → Bool) → list_any p l ≡ true → list_any p (l ++ m) ≡ true
  any_more p h = any_append p l m ∙ or_true_left (list_any p l) (list_any p m) h

  over_more : (n : ℕ) → ltb n (length l) ≡ true → ltb n (length (l ++ m)) ≡ true
  over_more n h = lt-ltb n (length (l ++ m)) (omega (arith, ltb-true n (length l) h, length-append l m))

malformed_more : (v : View) (ps : List Pair) (ds : List DigestRow) → malformed v ≡ true → malformed (record { counted = v.counted ++ ps; digests = v.digests ++ ds }) ≡ true
unfolding malformed
malformed_more v ps ds =
    or_each _ _ _ _ (or_each _ _ _ _ (or_each _ _ _ _ (over_more v.counted ps 256) (over_more v.digests ds 8)) (any_more v.counted ps (λ p. ltb 7 p.reader)))
    (λ h. any_more v.digests ds _ (any_imp _ _ (λ a. any_more v.digests ds _) v.digests h))

-- over 256 counted rows, over 8 digest rows
many_counted : (ps : List Pair) (ds : List DigestRow) → 256 < length ps → malformed (record { counted = ps; digests = ds }) ≡ true
unfolding malformed
many_counted ps ds h = or_true_left _ _ (or_true_left _ _ (or_true_left _ _ (lt-ltb 256 (length ps) h)))

many_digests : (ps : List Pair) (ds : List DigestRow) → 8 < length ds → malformed (record { counted = ps; digests = ds }) ≡ true
unfolding malformed
many_digests ps ds h = or_true_left _ _ (or_true_left _ _ (or_true_right _ _ (lt-ltb 8 (length ds) h)))

-- ---- a row more

-- it is pushed behind the others, or they were n
abbrev pub Pushed : {A : Type 0} → ℕ → A → List A → List A → Type 0
Pushed n a l l' = (l' ≡ l ++ (a ∷ [])) ⊎ ((l' ≡ l) × (length l ≡ n))

pub pushed : {A E : Type 0} (n : ℕ) (a : A) (v v' : ArrayVec A) (r : Result (Unit {0}) E)
    → OnOk r (v'.items ≡ v.items ++ (a ∷ [])) → OnErr r (v' ≡ v) → OnErr r (length v.items ≡ n) → Pushed n a v.items v'.items
pushed n a v v' (Ok u) p q k = inl p
pushed n a v v' (Err e) p q k = inr (ap (λ x. x.items) q, k)

module _ {c : Calls} {h : State ℕ} {ps : List Pair} {ds : List DigestRow} where
  pub counted_stands : (p : Pair) (ps' : List Pair) → Pushed 257 p ps ps' → Stands c (calls_of h ps ds) → Stands (run_call c (L.Counted p)).0 (calls_of h ps' ds)
  unfolding run_call rows_of
  counted_stands p ps' x s = record {
    history = s.history;
    rows =
        ⊎_elim
        (λ q.
        ⊎_elim
        (λ e. inl (rw q (ap (λ (v : View). record { counted = v.counted ++ (p ∷ []); digests = v.digests }) e)))
        (λ m. inr (rw q (rw (sym (append-nil ds)) (malformed_more (record { counted = ps; digests = ds }) (p ∷ []) [] m.0)), rw (sym (append-nil c.digests)) (malformed_more (rows_of c) (p ∷ []) [] m.1)))
        s.rows)
        (λ q.
        ⊎_elim
        (λ e. inr (many_counted ps' ds (omega (arith, q.1, ap length q.0)), many_counted (c.counted ++ (p ∷ [])) c.digests (omega (arith, q.1, ap (λ (v : View). length v.counted) e, length-append c.counted (p ∷ [])))))
        (λ m. inr (many_counted ps' ds (omega (arith, q.1, ap length q.0)), rw (sym (append-nil c.digests)) (malformed_more (rows_of c) (p ∷ []) [] m.1)))
        s.rows)
        x;
  }

  pub digest_stands : (d : DigestRow) (ds' : List DigestRow) → Pushed 9 d ds ds' → Stands c (calls_of h ps ds) → Stands (run_call c (L.Digest d)).0 (calls_of h ps ds')
  unfolding run_call rows_of
  digest_stands d ds' x s = record {
    history = s.history;
    rows =
        ⊎_elim
        (λ q.
        ⊎_elim
        (λ e. inl (rw q (ap (λ (v : View). record { counted = v.counted; digests = v.digests ++ (d ∷ []) }) e)))
        (λ m. inr (rw q (rw (sym (append-nil ps)) (malformed_more (record { counted = ps; digests = ds }) [] (d ∷ []) m.0)), rw (sym (append-nil c.counted)) (malformed_more (rows_of c) [] (d ∷ []) m.1)))
        s.rows)
        (λ q.
        ⊎_elim
        (λ e. inr (many_digests ps ds' (omega (arith, q.1, ap length q.0)), many_digests c.counted (c.digests ++ (d ∷ [])) (omega (arith, q.1, ap (λ (v : View). length v.digests) e, length-append c.digests (d ∷ [])))))
        (λ m. inr (many_digests ps ds' (omega (arith, q.1, ap length q.0)), rw (sym (append-nil c.counted)) (malformed_more (rows_of c) [] (d ∷ []) m.1)))
        s.rows)
        x;
  }
