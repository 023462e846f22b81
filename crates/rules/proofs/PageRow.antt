-- Each row of the page (document 02, U5): its samples counted over the lists, and the oldest of their offer times.
use Prim.Native.Nat.compare
use Prim.Native.Nat.{ℕ, zero, suc, min, ◌+◌, ◌*◌, ◌≤◌, ◌<◌}
use mathlib.Core.Path.{refl, sym, ap, ◌≡◌, ◌∙◌}
use mathlib.Core.Bool.{Bool, true, false, cond, ◌&&◌}
use mathlib.Core.List.{List, [], map, map-append, ◌∷◌, ◌++◌}
use Rattle.std.specs.Prelude.{Option, Some, None}
use native.Mathlib.Omega.{arith}
use native.Mathlib.Nat.{le_of_suc-le-suc}
use lib.Dec.{ltb, eqb}
use lib.ListN.{length, get_or, replicate}
use borrow.Author.Tests.{ltb-true, ltb-false, leb-true, eqb-true, eqb-false, eq-eqb, ne_eqb}
use Rattle.laws.specs.Lists.{filter, list_all, count, index_of}
use Rattle.guids.specs.Guid.{Guid, same_guid, before}
use Rattle.guids.proofs.Guids.{same_eq, same_sym, after_not_same}
use Rattle.rules.specs.Entry.{Entry, is_sample, of_group}
use Rattle.rules.specs.State.{State, Group, new_group, fresh, is_group}
use Rattle.rules.specs.Run.{Call, run}
use Rattle.rules.specs.Claim.{ascending, Reached}
use Rattle.rules.specs.Page.{Row, Page, empty_row, start_rows, older, oldest_of, in_cell, cell, counted, in_row, at_row, row_of, read_entry, read_all, page_of}
use Rattle.laws.proofs.Lists.{keep_append, and_left, and_right}
use Rattle.rules.proofs.Reached.{fresh_reached, run_reached}
use Rattle.rules.proofs.Page.{start_known, absent, get_at, get_behind, of_eight, Eight, run_eight}

pub older_swap : (t u : ℕ) (o : Option ℕ) → older t (older u o) ≡ older u (older t o)
older_swap t u None = let e : min u t ≡ min t u = omega arith in ap Some e
older_swap t u (Some s) = let e : min (min s u) t ≡ min (min s t) u = omega arith in ap Some e

-- the times, one after the other
abbrev olders : List ℕ → Option ℕ → Option ℕ
olders [] o = o
olders (t ∷ l) o = older t (olders l o)

olders_older : (t : ℕ) (l : List ℕ) (o : Option ℕ) → olders l (older t o) ≡ older t (olders l o)
olders_older t [] o = refl
olders_older t (u ∷ l) o = ap (older u) (olders_older t l o) ∙ older_swap u t (olders l o)

olders_both : (l m : List ℕ) → olders l (olders m None) ≡ oldest_of (m ++ l)
unfolding oldest_of
olders_both [] [] = refl
olders_both (t ∷ l) [] = ap (older t) (olders_both l [])
olders_both l (t ∷ m) = olders_older t l (olders m None) ∙ ap (older t) (olders_both l m)

-- a row with n samples more of those times
abbrev grown : Bool → ℕ → List ℕ → Row → Row
grown true n ts r = record { pending = n + r.pending; held = r.held; oldest = olders ts r.oldest }
grown false n ts r = record { pending = r.pending; held = n + r.held; oldest = olders ts r.oldest }

grown_none : (b : Bool) (o : Option Row) → o ≡ in_row (grown b 0 []) o
grown_none b None = refl
grown_none true (Some r) = let e : r.pending ≡ 0 + r.pending = omega arith in ap (λ n. Some (record { pending = n; held = r.held; oldest = r.oldest })) e
grown_none false (Some r) = let e : r.held ≡ 0 + r.held = omega arith in ap (λ n. Some (record { pending = r.pending; held = n; oldest = r.oldest })) e

grown_more : (b : Bool) (n : ℕ) (ts : List ℕ) (t : ℕ) (o : Option Row) → in_row (grown b n ts) (in_row (counted b t) o) ≡ in_row (grown b (suc n) (t ∷ ts)) o
grown_more b n ts t None = refl
grown_more true n ts t (Some r) = let e : n + suc r.pending ≡ suc n + r.pending = omega arith in let d = olders_older t ts r.oldest in rw (e, d)
grown_more false n ts t (Some r) = let e : n + suc r.held ≡ suc n + r.held = omega arith in let d = olders_older t ts r.oldest in rw (e, d)

module _ {X : Type 0} (gs : List Group) (k : ℕ) where
  -- a sample whose row stands at k
  abbrev at_place : Entry X → Bool
  at_place e = is_sample e && eqb (row_of gs e) k

  read_row : (b : Bool) (e : Entry X) (p : Page) → get_or (read_entry b gs e p).rows k None ≡ cond (at_place e) (in_row (counted b e.time) (get_or p.rows k None)) (get_or p.rows k None)
  unfolding read_entry
  read_row b e p =
      elim (is_sample e) as (λ d. get_or (cond d (at_row (row_of gs e) (counted b e.time) p.rows) p.rows) k None ≡ cond (d && eqb (row_of gs e) k) (in_row (counted b e.time) (get_or p.rows k None)) (get_or p.rows k None)) [
        | true ↦ get_at (row_of gs e) k (counted b e.time) p.rows
        | false ↦ refl
      ]

  abbrev grown_by : Bool → List (Entry X) → Option Row → Option Row
  grown_by b l o = in_row (grown b (count (λ e. at_place e) l) (map (λ e. e.time) (filter (λ e. at_place e) l))) o

  walk_row : (b : Bool) (l : List (Entry X)) (p : Page) → get_or (read_all b gs l p).rows k None ≡ grown_by b l (get_or p.rows k None)
  unfolding read_all count
  walk_row b [] p = grown_none b (get_or p.rows k None)
  walk_row b (e ∷ l) p =
      let o : Option Row = get_or p.rows k None in
      walk_row b l (read_entry b gs e p) ∙ ap (λ x. grown_by b l x) (read_row b e p)
      ∙ (elim (at_place e) as (λ d. grown_by b l (cond d (in_row (counted b e.time) o) o) ≡ in_row (grown b (length (cond d (e ∷ filter (λ e. at_place e) l) (filter (λ e. at_place e) l))) (map (λ e. e.time) (cond d (e ∷ filter (λ e. at_place e) l) (filter (λ e. at_place e) l)))) o) [
        | true ↦ grown_more b (count (λ e. at_place e) l) (map (λ e. e.time) (filter (λ e. at_place e) l)) e.time o
        | false ↦ refl
      ])

-- an empty row that grew twice
grown_empty : (m n : ℕ) (t u v : List ℕ) → v ≡ t ++ u → in_row (grown false n u) (in_row (grown true m t) (Some empty_row)) ≡ Some (record { pending = m; held = n; oldest = oldest_of v })
unfolding empty_row
grown_empty m n t u v e =
    let a : m + 0 ≡ m = omega arith in
    let b : n + 0 ≡ n = omega arith in
    let d : olders u (olders t None) ≡ oldest_of v = olders_both u t ∙ ap (λ l. oldest_of l) (sym e) in
    rw (a, b, d)

-- the rows before the walk
none_rows : (n i : ℕ) (l : List (Option Row)) → ((j : ℕ) → get_or l j None ≡ None) → get_or (replicate n absent ++ l) i None ≡ None
none_rows zero i l f = f i
none_rows (suc n) zero l f = refl
none_rows (suc n) (suc i) l f = none_rows n i l f

start_none : (k i : ℕ) → get_or (start_rows k []) i None ≡ None
unfolding start_rows
start_none zero i = refl
start_none (suc k) i = none_rows 8 i (start_rows k []) (start_none k)

pub start_absent : (k j q : ℕ) (gs : List Group) → length gs ≤ j → get_or (start_rows k gs) (8 * j + q) None ≡ None
unfolding start_rows
start_absent k j q [] h = start_none k (8 * j + q)
start_absent zero j q (g ∷ gs) h = refl
start_absent (suc k) zero q (g ∷ gs) h = absurd (omega arith)
start_absent (suc k) (suc j) q (g ∷ gs) h =
    let e : 8 * suc j + q ≡ 8 + (8 * j + q) = omega arith in
    ap (λ m. get_or (replicate 8 (Some empty_row) ++ start_rows k gs) m None) e
    ∙ get_behind 8 (8 * j + q) (Some empty_row) None (start_rows k gs) ∙ start_absent k j q gs (le_of_suc-le-suc h)

-- two tests that agree where a third holds keep the same of a list whose every one passes it
keep_where : {A : Type 0} (p q c : A → Bool) → ((a : A) → c a ≡ true → p a ≡ q a) → (l : List A) → list_all c l ≡ true → filter p l ≡ filter q l
keep_where p q c h [] e = refl
keep_where p q c h (a ∷ l) e = rw (h a (and_left (c a) _ e), keep_where p q c h l (and_right (c a) _ e))

all_get : {A : Type 0} (p : A → Bool) (l : List A) (i : ℕ) (z : A) → list_all p l ≡ true → i < length l → p (get_or l i z) ≡ true
all_get p [] i z h c = absurd (omega arith)
all_get p (a ∷ l) zero z h c = and_left (p a) _ h
all_get p (a ∷ l) (suc i) z h c = all_get p l i z (and_right (p a) _ h) (le_of_suc-le-suc c)

abbrev pub no_group : Group
no_group = new_group []

-- groups in order: the place found is j where the group at j is meant
place_of_lem : (h : Guid) (gs : List Group) (j : ℕ) → ascending gs ≡ true → j < length gs → eqb (index_of (λ x. is_group h x) gs) j ≡ same_guid (get_or gs j no_group).guid h
unfolding index_of is_group ascending
place_of_lem h [] j a l = absurd (omega arith)
place_of_lem h (g ∷ gs) zero a l =
    rw (same_sym h g.guid) (elim (same_guid h g.guid) as (λ b. eqb (cond b 0 (suc (index_of (λ x. same_guid h x.guid) gs))) 0 ≡ b) [ true ↦ eq-eqb 0 0 refl | false ↦ ne_eqb (suc (index_of (λ x. same_guid h x.guid) gs)) 0 (λ e. omega (arith, e)) ])
place_of_lem h (g ∷ gs) (suc j) a l =
    let i = place_of_lem h gs j (and_right (list_all (λ x. before g.guid x.guid) gs) _ a) (le_of_suc-le-suc l) in
    (elim (same_guid h g.guid) as (λ b. same_guid h g.guid ≡ b → eqb (cond b 0 (suc (index_of (λ x. same_guid h x.guid) gs))) (suc j) ≡ same_guid (get_or gs j no_group).guid h) [
      | true ↦ λ e.
          ne_eqb 0 (suc j) (λ z. omega (arith, z))
          ∙ sym (ap (λ x. same_guid (get_or gs j no_group).guid x) (same_eq h g.guid e) ∙ after_not_same (get_or gs j no_group).guid g.guid (all_get (λ x. before g.guid x.guid) gs j no_group (and_left (list_all (λ x. before g.guid x.guid) gs) _ a) (le_of_suc-le-suc l)))
      | false ↦ λ e. rw compare.suc-suc i
    ]) refl

-- a row's place tells group and reader
apart : (a b j r : ℕ) → b ≤ 7 → r < 8 → eqb (8 * a + b) (8 * j + r) ≡ eqb a j && eqb r b
apart a b j r h c =
    (elim (eqb a j) as (λ x. eqb a j ≡ x → eqb (8 * a + b) (8 * j + r) ≡ x && eqb r b) [
      | true ↦ λ e.
          let p : a ≡ j = eqb-true a j e in
          (elim (eqb r b) as (λ x. eqb r b ≡ x → eqb (8 * a + b) (8 * j + r) ≡ x) [
            | true ↦ λ f. let q : r ≡ b = eqb-true r b f in eq-eqb (8 * a + b) (8 * j + r) (omega (arith, p, q))
            | false ↦ λ f. let q : r ≡ b → ⊥ = eqb-false r b f in ne_eqb (8 * a + b) (8 * j + r) (λ z. q (omega (arith, p, z)))
          ]) refl
      | false ↦ λ e. let p : a ≡ j → ⊥ = eqb-false a j e in ne_eqb (8 * a + b) (8 * j + r) (λ z. p (omega (arith, z, h, c)))
    ]) refl

module _ {X : Type 0} (s : State X) (order : ascending s.groups ≡ true) (j r : ℕ) (c : r < 8) where
  abbrev g : Guid
  g = (get_or s.groups j no_group).guid

  in_cell_lem : j < length s.groups → (e : Entry X) → of_eight e ≡ true → at_place s.groups (8 * j + r) e ≡ in_cell g r e
  unfolding row_of in_cell of_group of_eight
  in_cell_lem l e h =
      ap (λ b. is_sample e && b) (apart (index_of (λ x. is_group e.group x) s.groups) e.reader j r (leb-true e.reader 7 h) c)
      ∙ ap (λ b. is_sample e && (b && eqb r e.reader)) (place_of_lem e.group s.groups j order l)

  kept_cell : j < length s.groups → (l : List (Entry X)) → list_all (λ e. of_eight e) l ≡ true → filter (λ e. at_place s.groups (8 * j + r) e) l ≡ filter (λ e. in_cell g r e) l
  kept_cell h l e = keep_where (λ e. at_place s.groups (8 * j + r) e) (λ e. in_cell g r e) (λ e. of_eight e) (in_cell_lem h) l e

  -- of a known group: what its samples at the reader come to
  row_known : (i : j < length s.groups) (few : length s.groups ≤ 8) → Eight s → get_or (page_of s).rows (8 * j + r) None ≡ Some (cell s g r)
  unfolding page_of cell count
  row_known i few h =
      let start : Page = record { rows = start_rows 8 s.groups; read = 0 } in
      let k : ℕ = 8 * j + r in
      let n : List (Entry X) → ℕ = λ l. length (filter (λ e. in_cell g r e) l) in
      let t : List (Entry X) → List ℕ = λ l. map (λ e. e.time) (filter (λ e. in_cell g r e) l) in
      let p = kept_cell i s.pending h.pending in
      let q = kept_cell i s.held h.held in
      let z : in_row (grown false (n s.held) (t s.held)) (in_row (grown true (n s.pending) (t s.pending)) (Some empty_row)) ≡ Some (record { pending = n s.pending; held = n s.held; oldest = oldest_of (t (s.pending ++ s.held)) })
      = grown_empty (n s.pending) (n s.held) (t s.pending) (t s.held) (t (s.pending ++ s.held)) (ap (map (λ e. e.time)) (keep_append (λ e. in_cell g r e) s.pending s.held) ∙ map-append (λ e. e.time) (filter (λ e. in_cell g r e) s.pending) (filter (λ e. in_cell g r e) s.held)) in
      walk_row s.groups k false s.held (read_all true s.groups s.pending start)
      ∙ ap (λ o. grown_by s.groups k false s.held o) (walk_row s.groups k true s.pending start)
      ∙ ap (λ o. grown_by s.groups k false s.held (grown_by s.groups k true s.pending o)) (start_known 8 j r s.groups i (omega (arith, i, few)) c)
      ∙ ap (λ l. grown_by s.groups k false s.held (in_row (grown true (length l) (map (λ e. e.time) l)) (Some empty_row))) p
      ∙ ap (λ l. in_row (grown false (length l) (map (λ e. e.time) l)) (in_row (grown true (n s.pending) (t s.pending)) (Some empty_row))) q
      ∙ z

  -- past the last known group: none
  row_absent : length s.groups ≤ j → get_or (page_of s).rows (8 * j + r) None ≡ None
  unfolding page_of
  row_absent i =
      let start : Page = record { rows = start_rows 8 s.groups; read = 0 } in
      let k : ℕ = 8 * j + r in
      walk_row s.groups k false s.held (read_all true s.groups s.pending start)
      ∙ ap (λ o. grown_by s.groups k false s.held o) (walk_row s.groups k true s.pending start)
      ∙ ap (λ o. grown_by s.groups k false s.held (grown_by s.groups k true s.pending o)) (start_absent 8 j r s.groups i)

-- after any calls, each of the 64 rows: of the group at place j and reader r, absent past the last known group
pub page_row : {X : Type 0} (t : ℕ) (cs : List (Call X)) (j r : ℕ) → r < 8 → (let s : State X = run (fresh t) cs in get_or (page_of s).rows (8 * j + r) None ≡ cond (ltb j (length s.groups)) (Some (cell s (get_or s.groups j no_group).guid r)) None)
page_row {X} t cs j r c =
    let s : State X = run (fresh t) cs in
    let h : Reached s = run_reached cs (fresh t) (fresh_reached t) in
    let e : Eight s = run_eight (fresh t) cs (unfold fresh in record { pending = refl; held = refl }) in
    (elim (ltb j (length s.groups)) as (λ b. ltb j (length s.groups) ≡ b → get_or (page_of s).rows (8 * j + r) None ≡ cond b (Some (cell s (get_or s.groups j no_group).guid r)) None) [
      | true ↦ λ l. row_known s h.groups_ordered j r c (ltb-true j (length s.groups) l) h.most_groups e
      | false ↦ λ l. row_absent s h.groups_ordered j r c (omega (arith, ltb-false j (length s.groups) l))
    ]) refl
