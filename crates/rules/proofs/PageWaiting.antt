-- A reader's rows of the page add up to its waiting figure (document 02, U5).
use Prim.Native.Nat.{ℕ, zero, suc, ◌+◌, ◌*◌, ◌≤◌, ◌<◌}
use mathlib.Core.Path.{refl, sym, ap, ◌≡◌, ◌∙◌}
use mathlib.Core.Bool.{Bool, true, false, cond, ◌&&◌, ◌||◌}
use mathlib.Core.List.{List, [], ◌∷◌, ◌++◌}
use Rattle.std.specs.Prelude.{Option, Some, None}
use native.Mathlib.Omega.{arith}
use lib.Dec.{leb, eqb}
use lib.ListN.{length, get_or, replicate}
use borrow.Author.Tests.{le-ltb, leb-true, eqb-true, eqb-false, eq-eqb, ne_eqb}
use Rattle.laws.specs.Lists.{list_all, list_any, count, index_of, is_some}
use Rattle.guids.specs.Guid.{Guid}
use Rattle.rules.specs.Entry.{Entry, is_sample}
use Rattle.rules.specs.State.{State, Group, fresh, is_group, knows_group, knows_writer}
use Rattle.rules.specs.Run.{Call, run, waiting}
use Rattle.rules.specs.Claim.{Reached}
use Rattle.rules.specs.Page.{Row, Page, empty_row, start_rows, counted, in_row, at_row, row_of, read_entry, read_all, page_of}
use Rattle.laws.proofs.Lists.{not_both, and_left, and_right, and_true, all_imp, all_and, count_cons, count_nil}
use Rattle.rules.proofs.Reached.{writer_group, fresh_reached, run_reached}
use Rattle.rules.proofs.Page.{start_known, get_at, of_eight, Eight, run_eight}

-- the samples that a row counts
abbrev amount : Option Row → ℕ
amount None = 0
amount (Some r) = r.pending + r.held

amount_more : (b : Bool) (t : ℕ) (o : Option Row) → is_some o ≡ true → amount (in_row (counted b t) o) ≡ suc (amount o)
unfolding is_some
amount_more b t None h = not_both false h refl
amount_more true t (Some r) h = omega arith
amount_more false t (Some r) h = omega arith

zero_rows : (n i : ℕ) (o : Option Row) (l : List (Option Row)) → amount o ≡ 0 → ((j : ℕ) → amount (get_or l j None) ≡ 0) → amount (get_or (replicate n o ++ l) i None) ≡ 0
zero_rows zero i o l h f = f i
zero_rows (suc n) zero o l h f = h
zero_rows (suc n) (suc i) o l h f = zero_rows n i o l h f

start_zero : (k : ℕ) (gs : List Group) (i : ℕ) → amount (get_or (start_rows k gs) i None) ≡ 0
unfolding start_rows empty_row
start_zero zero gs i = refl
start_zero (suc k) [] i = zero_rows 8 i None (start_rows k []) refl (start_zero k [])
start_zero (suc k) (g ∷ gs) i = zero_rows 8 i (Some empty_row) (start_rows k gs) (omega arith) (start_zero k gs)

-- ---- sums

-- of k numbers
unfoldable pub sum_below : ℕ → (ℕ → ℕ) → ℕ
sum_below zero f = 0
sum_below (suc k) f = sum_below k f + f k

sum_same : (k : ℕ) (f g : ℕ → ℕ) → ((i : ℕ) → i < k → f i ≡ g i) → sum_below k f ≡ sum_below k g
unfolding sum_below
sum_same zero f g h = refl
sum_same (suc k) f g h = omega (arith, sum_same k f g (λ i l. h i (omega (arith, l))), h k (omega arith))

sum_one : (k j : ℕ) (f g : ℕ → ℕ) → j < k → g j ≡ suc (f j) → ((i : ℕ) → eqb j i ≡ false → g i ≡ f i) → sum_below k g ≡ suc (sum_below k f)
unfolding sum_below
sum_one zero j f g l h s = let e : ⊥ = omega arith in absurd e
sum_one (suc k) j f g l h s =
    (elim (eqb j k) as (λ b. eqb j k ≡ b → sum_below k g + g k ≡ suc (sum_below k f + f k)) [
      | true ↦ λ e.
          let q : j ≡ k = eqb-true j k e in
          let i = sum_same k g f (λ i c. s i (ne_eqb j i (λ d. omega (arith, c, d, q)))) in
          omega (arith, i, ap g (sym q) ∙ h, ap f (sym q))
      | false ↦ λ e. let d : j ≡ k → ⊥ = eqb-false j k e in omega (arith, sum_one k j f g (omega (arith, l, d)) h s, s k e)
    ]) refl

-- the pending and held samples of a reader's eight rows
unfoldable pub in_rows : ℕ → List (Option Row) → ℕ
in_rows r l = sum_below 8 (λ k. amount (get_or l (8 * k + r) None))

known_place : (g : Guid) (l : List Group) → knows_group g l ≡ true → index_of (λ x. is_group g x) l < length l
unfolding knows_group index_of
known_place g [] h = not_both false h refl
known_place g (x ∷ l) h = (elim (is_group g x) as (λ b. b || list_any (λ x. is_group g x) l ≡ true → cond b 0 (suc (index_of (λ x. is_group g x) l)) < suc (length l)) [ true ↦ λ e. omega arith | false ↦ λ e. omega (arith, known_place g l e) ]) h

-- the entry's group is known and its reader is one of eight
unfoldable pub placed : {X : Type 0} → List Group → Entry X → Bool
placed gs e = knows_group e.group gs && leb e.reader 7

-- the known groups' rows are there
abbrev There : List Group → List (Option Row) → Type 0
There gs l = (j q : ℕ) → j < length gs → q < 8 → is_some (get_or l (8 * j + q) None) ≡ true

there_on : (gs : List Group) (i : ℕ) (f : Row → Row) (l : List (Option Row)) → There gs l → There gs (at_row i f l)
unfolding is_some
there_on gs i f l h j q a b =
    ap (λ o. is_some o) (get_at i (8 * j + q) f l)
    ∙ (elim (eqb i (8 * j + q)) as (λ c. is_some (cond c (in_row f (get_or l (8 * j + q) None)) (get_or l (8 * j + q) None)) ≡ true) [ true ↦ some_in (get_or l (8 * j + q) None) (h j q a b) | false ↦ h j q a b ])
  where
    some_in : (o : Option Row) → is_some o ≡ true → is_some (in_row f o) ≡ true
    some_in None e = e
    some_in (Some r) e = refl

module _ {X : Type 0} (gs : List Group) (few : length gs ≤ 8) where
  -- a sample counts once for its reader and for no other
  in_rows_on : (b : Bool) (e : Entry X) (r : ℕ) (l : List (Option Row)) → placed gs e ≡ true → r < 8 → There gs l
      → in_rows r (at_row (row_of gs e) (counted b e.time) l) ≡ in_rows r l + cond (eqb r e.reader) 1 0
  unfolding in_rows row_of placed
  in_rows_on b e r l h c t =
      let j : ℕ = index_of (λ x. is_group e.group x) gs in
      let jl : j < length gs = known_place e.group gs (and_left (knows_group e.group gs) _ h) in
      let q : ℕ = e.reader in
      let ql : q ≤ 7 = leb-true q 7 (and_right (knows_group e.group gs) _ h) in
      let f : Row → Row = counted b e.time in
      (elim (eqb r q) as (λ d. eqb r q ≡ d → sum_below 8 (λ k. amount (get_or (at_row (8 * j + q) f l) (8 * k + r) None)) ≡ sum_below 8 (λ k. amount (get_or l (8 * k + r) None)) + cond d 1 0) [
        | true ↦ λ d.
            let s : r ≡ q = eqb-true r q d in
            omega (
              arith,
              sum_one 8 j (λ k. amount (get_or l (8 * k + r) None)) (λ k. amount (get_or (at_row (8 * j + q) f l) (8 * k + r) None)) (omega (arith, jl, few))
                  (ap amount (get_at (8 * j + q) (8 * j + r) f l ∙ ap (λ u. cond u (in_row f (get_or l (8 * j + r) None)) (get_or l (8 * j + r) None)) (eq-eqb (8 * j + q) (8 * j + r) (omega (arith, s)))) ∙ amount_more b e.time (get_or l (8 * j + r) None) (t j r jl c))
                  (λ i n. ap amount (get_at (8 * j + q) (8 * i + r) f l ∙ ap (λ u. cond u (in_row f (get_or l (8 * i + r) None)) (get_or l (8 * i + r) None)) (let v : j ≡ i → ⊥ = eqb-false j i n in ne_eqb (8 * j + q) (8 * i + r) (λ w. v (omega (arith, w, s)))))),
            )
        | false ↦ λ d.
            let s : r ≡ q → ⊥ = eqb-false r q d in
            omega (
              arith,
              sum_same 8 (λ k. amount (get_or (at_row (8 * j + q) f l) (8 * k + r) None)) (λ k. amount (get_or l (8 * k + r) None))
                  (λ i n. ap amount (get_at (8 * j + q) (8 * i + r) f l ∙ ap (λ u. cond u (in_row f (get_or l (8 * i + r) None)) (get_or l (8 * i + r) None)) (ne_eqb (8 * j + q) (8 * i + r) (λ w. s (omega (arith, w, c, ql)))))),
            )
      ]) refl

  read_rows : (b : Bool) (r : ℕ) → r < 8 → (l : List (Entry X)) (p : Page) → list_all (λ e. placed gs e) l ≡ true → There gs p.rows
      → (in_rows r (read_all b gs l p).rows ≡ in_rows r p.rows + count (λ e. is_sample e && eqb r e.reader) l) × There gs (read_all b gs l p).rows
  unfolding read_all read_entry
  read_rows b r c [] p h t = (omega (arith, count_nil {A = Entry X} (λ e. is_sample e && eqb r e.reader)), t)
  read_rows b r c (e ∷ l) p h t =
      let f : Row → Row = counted b e.time in
      let g : placed gs e ≡ true = and_left (placed gs e) _ h in
      (elim (is_sample e) as (λ d. is_sample e ≡ d → (in_rows r (read_all b gs l (record { rows = cond d (at_row (row_of gs e) f p.rows) p.rows; read = suc p.read })).rows ≡ in_rows r p.rows + count (λ e. is_sample e && eqb r e.reader) (e ∷ l)) × There gs (read_all b gs l (record { rows = cond d (at_row (row_of gs e) f p.rows) p.rows; read = suc p.read })).rows) [
        | true ↦ λ d.
            let i = read_rows b r c l (record { rows = at_row (row_of gs e) f p.rows; read = suc p.read }) (and_right (placed gs e) _ h) (there_on gs (row_of gs e) f p.rows t) in
            (omega (arith, i.0, in_rows_on b e r p.rows g c t, count_cons (λ e. is_sample e && eqb r e.reader) e l, ap (λ x. cond {A = ℕ} (x && eqb r e.reader) 1 0) d), i.1)
        | false ↦ λ d.
            let i = read_rows b r c l (record { rows = p.rows; read = suc p.read }) (and_right (placed gs e) _ h) t in
            (omega (arith, i.0, count_cons (λ e. is_sample e && eqb r e.reader) e l, ap (λ x. cond {A = ℕ} (x && eqb r e.reader) 1 0) d), i.1)
      ]) refl

-- for a reader, pending and held over its rows are its waiting figure
pub page_waiting_of : {X : Type 0} (s : State X) → length s.groups ≤ 8 → list_all (λ e. placed s.groups e) s.pending ≡ true → list_all (λ e. placed s.groups e) s.held ≡ true
    → (r : ℕ) → r < 8 → in_rows r (page_of s).rows ≡ waiting s r
unfolding page_of waiting sum_below
page_waiting_of s few p h r c =
    let start : Page = record { rows = start_rows 8 s.groups; read = 0 } in
    let a = read_rows s.groups few true r c s.pending start p (λ j q u v. ap (λ o. is_some o) (start_known 8 j q s.groups u (omega (arith, u, few)) v) ∙ (unfold is_some in refl)) in
    let b = read_rows s.groups few false r c s.held (read_all true s.groups s.pending start) h a.1 in
    let z : in_rows r (start_rows 8 s.groups) ≡ 0 = unfold in_rows in sum_same 8 (λ k. amount (get_or (start_rows 8 s.groups) (8 * k + r) None)) (λ k. 0) (λ i l. start_zero 8 s.groups (8 * i + r)) in
    rw (le-ltb 7 r (omega (arith, c))) (omega (arith, a.0, b.0, z))

-- ---- of every state that calls reach

module _ {X : Type 0} where
  entries_placed : (s : State X) → Reached s → (l : List (Entry X)) → list_all (λ e. knows_writer e.group e.writer s.writers) l ≡ true → list_all (λ e. of_eight e) l ≡ true → list_all (λ e. placed s.groups e) l ≡ true
  unfolding placed of_eight
  entries_placed s r l k e =
      all_imp (λ e. knows_writer e.group e.writer s.writers && leb e.reader 7) (λ e. knows_group e.group s.groups && leb e.reader 7)
      (λ e d. and_true (knows_group e.group s.groups) _ (writer_group e.group e.writer s.groups s.writers r.groups_known (and_left (knows_writer e.group e.writer s.writers) _ d)) (and_right (knows_writer e.group e.writer s.writers) _ d))
      l (all_and (λ e. knows_writer e.group e.writer s.writers) (λ e. leb e.reader 7) l k e)

-- after any calls, for a reader, the pending and held of its rows add up to its waiting figure
pub page_waiting : {X : Type 0} (t : ℕ) (cs : List (Call X)) (r : ℕ) → r < 8 → in_rows r (page_of (run (fresh t) cs)).rows ≡ waiting (run (fresh t) cs) r
page_waiting {X} t cs r c =
    let s : State X = run (fresh t) cs in
    let h : Reached s = run_reached cs (fresh t) (fresh_reached t) in
    let e : Eight s = run_eight (fresh t) cs (unfold fresh in record { pending = refl; held = refl }) in
    page_waiting_of s h.most_groups (entries_placed s h s.pending h.pending_known e.pending) (entries_placed s h s.held h.held_known e.held) r c
