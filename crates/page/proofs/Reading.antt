-- Entries read into rows, one after the other.
use Rattle.std.proofs.Common.{◌≡◌, ℕ, zero, suc, ◌+◌, ◌<◌, ◌≤◌, Bool, true, false, cond, not, List, [], ◌∷◌, ◌++◌, length, take, get_or, set, slice_get, Some, None, refl, sym, ap, ◌∙◌, arith, unwrap_or, option_map, replicate, subst, ltb}
use borrow.Author.Tests.{ltb-false}
use Rattle.std.specs.Prelude.{Option}
use Rattle.std.specs.List.{position_or_len}
use Rattle.std.specs.Option.{option_flatten}
use Rattle.std.proofs.lemmas.List.{take_more}
use Rattle.laws.specs.Lists.{index_of}
use Rattle.rules.specs.declared.entry.Entry.{Entry}
use Rattle.rules.specs.declared.state.Group.{Group}
use Rattle.rules.specs.Entry.{is_sample}
use Rattle.rules.specs.Page.{Page, counted, in_row, at_row, row_of, start_rows, empty_row, read_entry, read_all}
use Rattle.rules.specs.Page as P
use Rattle.page.specs.Rows.{row_as, rows_as, FewIn, Few, ReadRows, ReadCount}
use Rattle.page.specs.declared.row.Row.{Row}

-- ---- the place of a group

place_same : {A : Type 0} (p : A → Bool) (l : List A) → position_or_len p l ≡ index_of p l
unfolding index_of
place_same p [] = refl
place_same p (a ∷ l) =
    let i : 1 + position_or_len p l ≡ suc (index_of p l) = omega (arith, place_same p l) in
    elim (p a) as (λ b. cond (not b) (1 + position_or_len p l) 0 ≡ cond b 0 (suc (index_of p l))) [ true ↦ refl | false ↦ i ]

pub index_within : {A : Type 0} (p : A → Bool) (l : List A) → index_of p l ≤ length l
unfolding index_of
index_within p [] = omega arith
index_within p (a ∷ l) = let ih = index_within p l in elim (p a) as (λ b. cond b 0 (suc (index_of p l)) ≤ suc (length l)) [ true ↦ omega arith | false ↦ omega arith ]

pub index_place : {A : Type 0} (p : A → Bool) (l : List A) → unwrap_or (cond (ltb (position_or_len p l) (length l)) (Some (position_or_len p l)) None) (length l) ≡ index_of p l
unfolding index_of
index_place p l =
    let i = index_of p l in
    rw (place_same p l)
    ((elim (ltb i (length l)) as (λ b. ltb i (length l) ≡ b → unwrap_or (cond b (Some i) None) (length l) ≡ i) [ true ↦ λ e. refl | false ↦ λ e. omega (arith, ltb-false i (length l) e, index_within p l) ]) refl)

-- ---- how many samples a row counts

few_mono_in : (m n : ℕ) (o : Option P.Row) → m ≤ n → FewIn m o → FewIn n o
few_mono_in m n None h f = f
few_mono_in m n (Some r) h f = (omega (arith, f.0), omega (arith, f.1))

pub few_mono : (m n : ℕ) (l : List (Option P.Row)) → m ≤ n → Few m l → Few n l
few_mono m n [] h f = f
few_mono m n (o ∷ l) h f = (few_mono_in m n o h f.0, few_mono m n l h f.1)

few_counted : (n : ℕ) (b : Bool) (t : ℕ) (o : Option P.Row) → FewIn n o → FewIn (suc n) (in_row (counted b t) o)
few_counted n b t None f = f
few_counted n true t (Some r) f = (omega (arith, f.0), omega (arith, f.1))
few_counted n false t (Some r) f = (omega (arith, f.0), omega (arith, f.1))

few_row : (k n : ℕ) (b : Bool) (t : ℕ) (l : List (Option P.Row)) → Few n l → Few (suc n) (at_row k (counted b t) l)
unfolding at_row
few_row k n b t [] f = f
few_row zero n b t (o ∷ l) f = (few_counted n b t o f.0, few_mono n (suc n) l (omega arith) f.1)
few_row (suc k) n b t (o ∷ l) f = (few_mono_in n (suc n) o (omega arith) f.0, few_row k n b t l f.1)

pub few_at : (n : ℕ) (l : List (Option Row)) (k : ℕ) (r : Row) → Few n (rows_as l) → option_flatten (slice_get l k) ≡ Some r → (r.pending ≤ n) × (r.held ≤ n)
few_at n [] k r f e = let z : ⊥ = cc in absurd z
few_at n (o ∷ l) zero r f e = subst (λ x. FewIn n (option_map (λ y. row_as y) x)) e f.0
few_at n (o ∷ l) (suc k) r f e = few_at n l k r f.1 e

few_rows : (m n : ℕ) (o : Option P.Row) (l : List (Option P.Row)) → FewIn n o → Few n l → Few n (replicate m o ++ l)
few_rows zero n o l f g = g
few_rows (suc m) n o l f g = (f, few_rows m n o l f g)

pub few_start : (k : ℕ) (gs : List Group) → Few 0 (start_rows k gs)
unfolding start_rows empty_row
few_start zero gs = tt {0}
few_start (suc k) [] = few_rows 8 0 None (start_rows k []) (tt {0}) (few_start k [])
few_start (suc k) (g ∷ gs) = few_rows 8 0 (Some empty_row) (start_rows k gs) (omega arith, omega arith) (few_start k gs)

module _ (b : Bool) (gs : List Group) where
  few_all : (n : ℕ) (es : List (Entry ℕ)) (p : Page) → Few n p.rows → Few (n + length es) (read_all b gs es p).rows
  unfolding read_all read_entry
  few_all n [] p f = few_mono n (n + 0) p.rows (omega arith) f
  few_all n (e ∷ es) p f =
      few_mono (suc n + length es) (n + suc (length es)) _ (omega arith)
      (few_all (suc n) es (read_entry b gs e p) (elim (is_sample e) as (λ c. Few (suc n) (cond c (at_row (row_of gs e) (counted b e.time) p.rows) p.rows)) [ true ↦ few_row (row_of gs e) n b e.time p.rows f | false ↦ few_mono n (suc n) p.rows (omega arith) f ]))

  -- after so many entries each row counts no more
  pub few_then : (m n : ℕ) (es : List (Entry ℕ)) (l k : List (Option Row)) → Few m (rows_as l) → ReadRows b gs es l k → m + length es ≤ n → Few n (rows_as k)
  few_then m n es l k f r h =
      let p : Page = record { rows = rows_as l; read = 0 } in
      few_mono (m + length es) n (rows_as k) h (subst (λ x. Few (m + length es) x) (sym (r p refl)) (few_all m es p f))

  -- ---- one entry

  pub read_sample : (e : Entry ℕ) (l m : List (Option Row)) → is_sample e ≡ true → rows_as m ≡ at_row (row_of gs e) (counted b e.time) (rows_as l) → ReadRows b gs (e ∷ []) l m
  unfolding read_all read_entry
  read_sample e l m s h p q = rw (s, q) h

  pub read_end : (e : Entry ℕ) (l : List (Option Row)) → is_sample e ≡ false → ReadRows b gs (e ∷ []) l l
  unfolding read_all read_entry
  read_end e l s p q = rw s (sym q)

  -- ---- one entry more

  read_append : (es fs : List (Entry ℕ)) (p : Page) → read_all b gs (es ++ fs) p ≡ read_all b gs fs (read_all b gs es p)
  unfolding read_all
  read_append [] fs p = refl
  read_append (e ∷ es) fs p = read_append es fs (read_entry b gs e p)

  count_all : (es : List (Entry ℕ)) (p : Page) → (read_all b gs es p).read ≡ p.read + length es
  unfolding read_all read_entry
  count_all [] p = omega arith
  count_all (e ∷ es) p = let ih = count_all es (read_entry b gs e p) in omega (arith, ih)

  pub read_count : (es : List (Entry ℕ)) (n : ℕ) → n ≡ length es → ReadCount b gs es n
  read_count es n h p = count_all es p ∙ ap (λ k. p.read + k) (sym h)

  pub read_none : (l : List (Option Row)) → ReadRows b gs [] l l
  unfolding read_all
  read_none l p q = sym q

  pub read_more : (es : List (Entry ℕ)) (i : ℕ) (d : Entry ℕ) (l m n : List (Option Row)) → i < length es → ReadRows b gs (take i es) l m → ReadRows b gs (get_or es i d ∷ []) m n → ReadRows b gs (take (i + 1) es) l n
  read_more es i d l m n h f g p q =
      g (read_all b gs (take i es) p) (sym (f p q))
      ∙ sym (ap (λ x. x.rows) (read_append (take i es) (get_or es i d ∷ []) p))
      ∙ ap (λ x. (read_all b gs x p).rows) (sym (take_more es i d h))

-- ---- a row of the code, written

module _ (f : P.Row → P.Row) where
  pub at_put : (l : List (Option Row)) (k : ℕ) (r s : Row) → option_flatten (slice_get l k) ≡ Some r → row_as s ≡ f (row_as r) → rows_as (set l k (Some s)) ≡ at_row k f (rows_as l)
  unfolding at_row
  at_put [] k r s e h = let z : ⊥ = cc in absurd z
  at_put (o ∷ l) zero r s e h = rw e (ap (λ x. Some x ∷ rows_as l) h)
  at_put (o ∷ l) (suc k) r s e h = ap (λ x. option_map (λ y. row_as y) o ∷ x) (at_put l k r s e h)

  -- none there, or no row of a known group
  pub at_none : (l : List (Option Row)) (k : ℕ) → option_flatten (slice_get l k) ≡ None → rows_as l ≡ at_row k f (rows_as l)
  unfolding at_row
  at_none [] k e = refl
  at_none (o ∷ l) zero e = rw e
  at_none (o ∷ l) (suc k) e = ap (λ x. option_map (λ y. row_as y) o ∷ x) (at_none l k e)
