-- Pending and held entries read in any order come to the same page: the pending ones first, then the held ones.
use Prim.Native.Nat.{ℕ, zero, suc}
use mathlib.Core.Path.{◌≡◌, refl, sym, ap, ◌∙◌}
use mathlib.Core.Bool.{Bool, true, false, cond}
use mathlib.Core.List.{List, [], ◌∷◌, ◌++◌, map}
use Rattle.std.specs.Prelude.{Option, Some, None}
use native.Mathlib.Omega.{arith}
use lib.Dec.{eqb}
use lib.ListN.{length}
use borrow.Author.Tests.{ne_eqb}
use Rattle.laws.specs.Lists.{filter}
use Rattle.rules.specs.Entry.{is_sample}
use Rattle.rules.specs.declared.entry.Entry.{Entry}
use Rattle.rules.specs.declared.state.Group.{Group}
use Rattle.rules.specs.Page.{Page, counted, in_row, at_row, row_of, read_entry, read_all}
use Rattle.rules.specs.Page as G
use Rattle.rules.proofs.Page.{at_length}
use Rattle.rules.proofs.PageRow.{older_swap}
use Rattle.page.specs.Walk.{Row, staged, of_stage, walk}

-- ---- two samples in either order

counted_swap : (b c : Bool) (t u : ℕ) (r : G.Row) → counted b t (counted c u r) ≡ counted c u (counted b t r)
counted_swap true true t u r = ap (λ o. record { pending = suc (suc r.pending); held = r.held; oldest = o }) (older_swap t u r.oldest)
counted_swap true false t u r = ap (λ o. record { pending = suc r.pending; held = suc r.held; oldest = o }) (older_swap t u r.oldest)
counted_swap false true t u r = ap (λ o. record { pending = suc r.pending; held = suc r.held; oldest = o }) (older_swap t u r.oldest)
counted_swap false false t u r = ap (λ o. record { pending = r.pending; held = suc (suc r.held); oldest = o }) (older_swap t u r.oldest)

in_swap : (f g : G.Row → G.Row) → ((r : G.Row) → f (g r) ≡ g (f r)) → (o : Option G.Row) → in_row f (in_row g o) ≡ in_row g (in_row f o)
in_swap f g h None = refl
in_swap f g h (Some r) = ap Some (h r)

at_swap : (i j : ℕ) (f g : G.Row → G.Row) → ((r : G.Row) → f (g r) ≡ g (f r)) → (l : List (Option G.Row)) → at_row i f (at_row j g l) ≡ at_row j g (at_row i f l)
unfolding at_row
at_swap i j f g h [] = refl
at_swap zero zero f g h (o ∷ l) = ap (λ x. x ∷ l) (in_swap f g h o)
at_swap zero (suc j) f g h (o ∷ l) = refl
at_swap (suc i) zero f g h (o ∷ l) = refl
at_swap (suc i) (suc j) f g h (o ∷ l) = ap (λ x. o ∷ x) (at_swap i j f g h l)

module _ (gs : List Group) where
  read_swap : (b c : Bool) (e d : Entry ℕ) (p : Page) → read_entry b gs e (read_entry c gs d p) ≡ read_entry c gs d (read_entry b gs e p)
  unfolding read_entry
  read_swap b c e d p =
      ap (λ l. record { rows = l; read = suc (suc p.read) })
      (elim (is_sample e) as (λ x. cond x (at_row (row_of gs e) (counted b e.time) (cond (is_sample d) (at_row (row_of gs d) (counted c d.time) p.rows) p.rows)) (cond (is_sample d) (at_row (row_of gs d) (counted c d.time) p.rows) p.rows) ≡ cond (is_sample d) (at_row (row_of gs d) (counted c d.time) (cond x (at_row (row_of gs e) (counted b e.time) p.rows) p.rows)) (cond x (at_row (row_of gs e) (counted b e.time) p.rows) p.rows)) [
        | true ↦ (elim (is_sample d) as (λ y. at_row (row_of gs e) (counted b e.time) (cond y (at_row (row_of gs d) (counted c d.time) p.rows) p.rows) ≡ cond y (at_row (row_of gs d) (counted c d.time) (at_row (row_of gs e) (counted b e.time) p.rows)) (at_row (row_of gs e) (counted b e.time) p.rows)) [ true ↦ at_swap (row_of gs e) (row_of gs d) (counted b e.time) (counted c d.time) (counted_swap b c e.time d.time) p.rows | false ↦ refl ])
        | false ↦ refl
      ])

  all_swap : (b c : Bool) (e : Entry ℕ) (l : List (Entry ℕ)) (p : Page) → read_all b gs l (read_entry c gs e p) ≡ read_entry c gs e (read_all b gs l p)
  unfolding read_all
  all_swap b c e [] p = refl
  all_swap b c e (d ∷ l) p = ap (λ x. read_all b gs l x) (read_swap b c d e p) ∙ all_swap b c e l (read_entry b gs d p)

  -- the pending entries first, then the held ones: the same
  pub walk_stages : (l : List Row) (p : Page) → walk gs l p ≡ read_all false gs (staged 1 l) (read_all true gs (staged 0 l) p)
  unfolding walk staged read_all
  walk_stages [] p = refl
  walk_stages (x ∷ l) p = walk_stages l (of_stage x.stage gs x.entry p) ∙ at_stage x.stage refl
    where
      at_stage : (k : ℕ) → x.stage ≡ k → read_all false gs (staged 1 l) (read_all true gs (staged 0 l) (of_stage k gs x.entry p)) ≡ read_all false gs (map (λ r. r.entry) (cond (eqb k 1) (x ∷ filter (λ r. eqb r.stage 1) l) (filter (λ r. eqb r.stage 1) l))) (read_all true gs (map (λ r. r.entry) (cond (eqb k 0) (x ∷ filter (λ r. eqb r.stage 0) l) (filter (λ r. eqb r.stage 0) l))) p)
      at_stage zero h = refl
      at_stage (suc zero) h = ap (λ q. read_all false gs (staged 1 l) q) (all_swap true false x.entry (staged 0 l) p)
      at_stage (suc (suc k)) h =
          let put : Bool → Bool → Page = λ a b. read_all false gs (map (λ r. r.entry) (cond a (x ∷ filter (λ r. eqb r.stage 1) l) (filter (λ r. eqb r.stage 1) l))) (read_all true gs (map (λ r. r.entry) (cond b (x ∷ filter (λ r. eqb r.stage 0) l) (filter (λ r. eqb r.stage 0) l))) p) in
          sym (ap (λ a. put a (eqb (suc (suc k)) 0)) (ne_eqb (suc (suc k)) 1 (λ z. omega (arith, z))) ∙ ap (λ b. put false b) (ne_eqb (suc (suc k)) 0 (λ z. omega (arith, z))))

-- ---- laws of the walk that no proof here cites

module _ (gs : List Group) where
  -- one row more
  pub walk_more : (l : List Row) (x : Row) (p : Page) → walk gs (l ++ (x ∷ [])) p ≡ of_stage x.stage gs x.entry (walk gs l p)
  unfolding walk
  walk_more [] x p = refl
  walk_more (y ∷ l) x p = walk_more l x (of_stage y.stage gs y.entry p)

  read_length : (b : Bool) (e : Entry ℕ) (p : Page) → length (read_entry b gs e p).rows ≡ length p.rows
  unfolding read_entry
  read_length b e p = elim (is_sample e) as (λ c. length (cond c (at_row (row_of gs e) (counted b e.time) p.rows) p.rows) ≡ length p.rows) [ true ↦ at_length (row_of gs e) (counted b e.time) p.rows | false ↦ refl ]

  stage_length : (k : ℕ) (e : Entry ℕ) (p : Page) → length (of_stage k gs e p).rows ≡ length p.rows
  stage_length zero e p = read_length true e p
  stage_length (suc zero) e p = read_length false e p
  stage_length (suc (suc k)) e p = refl

  -- as many rows as before
  pub walk_length : (l : List Row) (p : Page) → length (walk gs l p).rows ≡ length p.rows
  unfolding walk
  walk_length [] p = refl
  walk_length (x ∷ l) p = walk_length l (of_stage x.stage gs x.entry p) ∙ stage_length x.stage x.entry p
