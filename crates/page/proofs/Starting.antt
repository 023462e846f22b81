-- The rows before any entry is read.
use Rattle.std.proofs.Common.{◌≡◌, ℕ, zero, suc, ◌+◌, ◌-◌, ◌*◌, ◌≤◌, List, [], ◌∷◌, ◌++◌, length, replicate, Some, None, refl, sym, ap, ap₂, ◌∙◌, arith, append_assoc, le_of_suc-le-suc, option_map}
use Rattle.std.proofs.lemmas.List.{replicate-append-replicate}
use Rattle.std.specs.Prelude.{Option}
use Rattle.rules.specs.declared.state.Group.{Group}
use Rattle.rules.specs.Page.{start_rows, empty_row}
use Rattle.page.specs.Rows.{row_as, rows_as}
use Rattle.page.specs.declared.row.Row.{Row}

-- a row without samples
abbrev pub row0 : Row
row0 = record { pending = 0; held = 0; oldest = None }

pub row_is : (r : Row) → (r.pending ≡ 0) × ((r.held ≡ 0) × (r.oldest ≡ None)) → r ≡ row0
row_is r h = ap₂ (λ p q. record { pending = p; held = q; oldest = r.oldest }) h.0 h.1.0 ∙ ap (λ o. record { pending = 0; held = 0; oldest = o }) h.1.1

-- the first k of n are a, the others z
abbrev pub first_of : {A : Type 0} → A → A → ℕ → ℕ → List A
first_of a z k n = replicate k a ++ replicate (n - k) z

rows_rep : (m : ℕ) (o : Option Row) (l : List (Option Row)) → rows_as (replicate m o ++ l) ≡ replicate m (option_map (λ y. row_as y) o) ++ rows_as l
rows_rep zero o l = refl
rows_rep (suc m) o l = ap (λ x. option_map (λ y. row_as y) o ∷ x) (rows_rep m o l)

-- the rows of the known groups are empty, the others absent
pub start_first : (r : Row) (gs : List Group) (n : ℕ) → row_as r ≡ empty_row → length gs ≤ n → rows_as (first_of (Some r) None (8 * length gs) (8 * n)) ≡ start_rows n gs
unfolding start_rows
start_first r [] zero e h = refl
start_first r (g ∷ gs) zero e h = absurd (omega arith)
start_first r [] (suc n) e h =
    let i : 8 * suc n - 0 ≡ 8 + (8 * n - 0) = omega arith in
    ap (λ k. rows_as (replicate k None)) i ∙ ap (λ l. rows_as l) (sym (replicate-append-replicate 8 (8 * n - 0) None)) ∙ rows_rep 8 None (replicate (8 * n - 0) None) ∙ ap (λ l. replicate 8 None ++ l) (start_first r [] n e (omega arith))
start_first r (g ∷ gs) (suc n) e h =
    let a : 8 * suc (length gs) ≡ 8 + 8 * length gs = omega arith in
    let i : 8 * suc n - 8 * suc (length gs) ≡ 8 * n - 8 * length gs = omega arith in
    ap₂ (λ k j. rows_as (replicate k (Some r) ++ replicate j None)) a i
    ∙ ap (λ l. rows_as (l ++ replicate (8 * n - 8 * length gs) None)) (sym (replicate-append-replicate 8 (8 * length gs) (Some r)))
    ∙ ap (λ l. rows_as l) (append_assoc (replicate 8 (Some r)) (replicate (8 * length gs) (Some r)) (replicate (8 * n - 8 * length gs) None))
    ∙ rows_rep 8 (Some r) (first_of (Some r) None (8 * length gs) (8 * n))
    ∙ ap₂ (λ o l. replicate 8 (Some o) ++ l) e (start_first r gs n e (le_of_suc-le-suc h))
