-- The page of all groups and readers (document 02, U5) reads every stored entry once and has 64 rows.
use Prim.Native.Nat.{ℕ, zero, suc, ◌+◌, ◌*◌, ◌<◌}
use mathlib.Core.Path.{◌≡◌, refl, sym, ap, ◌∙◌}
use mathlib.Core.Bool.{Bool, true, false, ◌&&◌, not, cond}
use mathlib.Core.List.{List, [], ◌∷◌, ◌++◌}
use Rattle.std.specs.Prelude.{Option, Some, None}
use native.Mathlib.Omega.{arith}
use native.Mathlib.Nat.{le_of_suc-le-suc}
use lib.Dec.{ltb, leb, eqb}
use lib.ListN.{length, get_or, replicate, length-append, length-replicate}
use borrow.Author.Tests.{ltb-false, le-leb, eqb-true, eqb-false, eq-eqb, ne_eqb}
use Rattle.laws.specs.Lists.{filter, list_all, find}
use Rattle.rules.specs.Entry.{Entry, is_sample}
use Rattle.rules.specs.State.{State, Group, stored}
use Rattle.rules.specs.Offer.{Offer, Fate, Stored, Joined, Late, replaced, marked, mark_of, keep_end, join, entry_of, fate_of, offer_refusal, refusal, ninth, pair33, adds, place, heard_offer, offered, offer, with_marks}
use Rattle.rules.specs.Release.{View, turn_of, work_of, back_to, released, release_refusal, released_if, release}
use Rattle.rules.specs.Run.{Call, offers, heartbeats, gaps, releases, step, run}
use Rattle.rules.specs.Page.{Row, Page, empty_row, start_rows, counted, in_row, at_row, row_of, read_entry, read_all, page_of}
use Rattle.laws.proofs.Lists.{all_snoc, all_keep, all_yes, none_not_some}
use Rattle.rules.proofs.Stays.{heartbeat_same, gap_same}
use Rattle.rules.proofs.Keeping.{release_all_all}

-- ---- the entries read

read_all_lem : {X : Type 0} (b : Bool) (gs : List Group) (l : List (Entry X)) (p : Page) → (read_all b gs l p).read ≡ p.read + length l
unfolding read_all read_entry
read_all_lem b gs [] p = omega arith
read_all_lem b gs (e ∷ l) p = omega (arith, read_all_lem b gs l (read_entry b gs e p))

-- as many as are stored
pub page_read : {X : Type 0} (s : State X) → (page_of s).read ≡ stored s
unfolding page_of stored
page_read s = omega (arith, read_all_lem false s.groups s.held (read_all true s.groups s.pending (record { rows = start_rows 8 s.groups; read = 0 })), read_all_lem true s.groups s.pending (record { rows = start_rows 8 s.groups; read = 0 }))

-- ---- 64 rows

pub at_length : (i : ℕ) (f : Row → Row) (l : List (Option Row)) → length (at_row i f l) ≡ length l
unfolding at_row
at_length i f [] = refl
at_length zero f (r ∷ l) = refl
at_length (suc i) f (r ∷ l) = ap suc (at_length i f l)

all_length : {X : Type 0} (b : Bool) (gs : List Group) (l : List (Entry X)) (p : Page) → length (read_all b gs l p).rows ≡ length p.rows
unfolding read_all read_entry
all_length b gs [] p = refl
all_length b gs (e ∷ l) p =
    all_length b gs l (read_entry b gs e p)
    ∙ (elim (is_sample e) as (λ c. length (cond c (at_row (row_of gs e) (counted b e.time) p.rows) p.rows) ≡ length p.rows) [ true ↦ at_length (row_of gs e) (counted b e.time) p.rows | false ↦ refl ])

abbrev pub absent : Option Row
absent = None

pub start_length : (k : ℕ) (gs : List Group) → length (start_rows k gs) ≡ 8 * k
unfolding start_rows
start_length zero gs = refl
start_length (suc k) [] = omega (arith, length-append (replicate 8 absent) (start_rows k []), length-replicate 8 absent, start_length k [])
start_length (suc k) (g ∷ gs) = omega (arith, length-append (replicate 8 (Some empty_row)) (start_rows k gs), length-replicate 8 (Some empty_row), start_length k gs)

pub page_rows : {X : Type 0} (s : State X) → length (page_of s).rows ≡ 64
unfolding page_of
page_rows s = all_length false s.groups s.held (read_all true s.groups s.pending (record { rows = start_rows 8 s.groups; read = 0 })) ∙ all_length true s.groups s.pending (record { rows = start_rows 8 s.groups; read = 0 }) ∙ start_length 8 s.groups

-- ---- a row at a place

pub get_at : (i j : ℕ) (f : Row → Row) (l : List (Option Row)) → get_or (at_row i f l) j None ≡ cond (eqb i j) (in_row f (get_or l j None)) (get_or l j None)
unfolding at_row
get_at i j f [] = elim (eqb i j) as (λ b. absent ≡ cond b absent absent) [ true ↦ refl | false ↦ refl ]
get_at zero zero f (r ∷ l) = sym (ap (λ b. cond b (in_row f r) r) (eq-eqb 0 0 refl))
get_at zero (suc j) f (r ∷ l) = sym (ap (λ b. cond b (in_row f (get_or l j None)) (get_or l j None)) (ne_eqb 0 (suc j) (λ e. omega (arith, e))))
get_at (suc i) zero f (r ∷ l) = sym (ap (λ b. cond b (in_row f r) r) (ne_eqb (suc i) 0 (λ e. omega (arith, e))))
get_at (suc i) (suc j) f (r ∷ l) = get_at i j f l ∙ ap (λ b. cond b (in_row f (get_or l j None)) (get_or l j None)) (eqb_suc i j)
  where
    eqb_suc : (i j : ℕ) → eqb i j ≡ eqb (suc i) (suc j)
    eqb_suc i j = (elim (eqb i j) as (λ b. eqb i j ≡ b → b ≡ eqb (suc i) (suc j)) [ true ↦ λ e. sym (eq-eqb (suc i) (suc j) (ap suc (eqb-true i j e))) | false ↦ λ e. let d : i ≡ j → ⊥ = eqb-false i j e in sym (ne_eqb (suc i) (suc j) (λ q. d (omega (arith, q)))) ]) refl

pub get_in : {A : Type 0} (n i : ℕ) (a d : A) (l : List A) → i < n → get_or (replicate n a ++ l) i d ≡ a
get_in zero i a d l h = let e : ⊥ = omega arith in absurd e
get_in (suc n) zero a d l h = refl
get_in (suc n) (suc i) a d l h = get_in n i a d l (le_of_suc-le-suc h)

pub get_behind : {A : Type 0} (n i : ℕ) (a d : A) (l : List A) → get_or (replicate n a ++ l) (n + i) d ≡ get_or l i d
get_behind zero i a d l = ap (λ m. get_or l m d) (omega arith)
get_behind (suc n) i a d l = let e : suc n + i ≡ suc (n + i) = omega arith in ap (λ m. get_or (replicate (suc n) a ++ l) m d) e ∙ get_behind n i a d l

-- before the walk a known group's rows are empty
pub start_known : (k j q : ℕ) (gs : List Group) → j < length gs → j < k → q < 8 → get_or (start_rows k gs) (8 * j + q) None ≡ Some empty_row
unfolding start_rows
start_known zero j q gs h i c = absurd (omega arith)
start_known (suc k) j q [] h i c = absurd (omega arith)
start_known (suc k) zero q (g ∷ gs) h i c = let e : 8 * 0 + q ≡ q = omega arith in ap (λ m. get_or (replicate 8 (Some empty_row) ++ start_rows k gs) m None) e ∙ get_in 8 q (Some empty_row) None (start_rows k gs) c
start_known (suc k) (suc j) q (g ∷ gs) h i c =
    let e : 8 * suc j + q ≡ 8 + (8 * j + q) = omega arith in
    ap (λ m. get_or (replicate 8 (Some empty_row) ++ start_rows k gs) m None) e
    ∙ get_behind 8 (8 * j + q) (Some empty_row) None (start_rows k gs) ∙ start_known k j q gs (le_of_suc-le-suc h) (le_of_suc-le-suc i) c

-- ---- of every state that calls reach

-- an entry's reader is one of eight
unfoldable pub of_eight : {X : Type 0} → Entry X → Bool
of_eight e = leb e.reader 7

pub record Eight {X : Type 0} (s : State X) : Type 0 where
  pub pending : list_all (λ e. of_eight e) s.pending ≡ true
  pub held : list_all (λ e. of_eight e) s.held ≡ true

module _ {X : Type 0} where
  eight_same : (s t : State X) → t.pending ≡ s.pending → t.held ≡ s.held → Eight s → Eight t
  eight_same s t p h e = record { pending = ap (λ l. list_all (λ e. of_eight e) l) p ∙ e.pending; held = ap (λ l. list_all (λ e. of_eight e) l) h ∙ e.held }

  placed_eight : (f : Fate) (o : Offer X) (s : State X) → leb o.reader 7 ≡ true → Eight s → Eight (place f (entry_of o) s)
  unfolding place join keep_end of_eight
  placed_eight Stored o s h e = record { pending = all_snoc (λ e. leb e.reader 7) s.pending (entry_of o) e.pending (unfold entry_of in h); held = e.held }
  placed_eight Joined o s h e = record {
    pending = e.pending;
    held =
        all_snoc (λ e. leb e.reader 7) (filter (λ h. not (replaced (entry_of o) h)) s.held) (marked (mark_of (find (λ h. replaced (entry_of o) h) s.held)) (entry_of o))
        (all_keep (λ e. leb e.reader 7) (λ h. not (replaced (entry_of o) h)) s.held e.held) (unfold marked entry_of in h);
  }
  placed_eight Late o s h e = record { pending = e.pending; held = e.held }

  offered_eight : (r : Option ℕ) (o : Offer X) (s : State X) → (r ≡ None → leb o.reader 7 ≡ true) → Eight s → Eight (offered r s o).1
  unfolding heard_offer with_marks
  offered_eight (Some n) o s h e = e
  offered_eight None o s h e = placed_eight (fate_of s o) o (heard_offer o s) (h refl) (record { pending = e.pending; held = e.held })

  first_fails : (s : State X) (o : Offer X) → offer_refusal s o ≡ None → leb o.reader 7 ≡ true
  unfolding offer_refusal refusal
  first_fails s o h = (elim (ltb 7 o.reader) as (λ b. ltb 7 o.reader ≡ b → cond b (Some 1) (refusal ((2, ninth o.group s) ∷ (3, pair33 o.group o.writer s) ∷ (4, adds (fate_of s o) s o && leb 256 (stored s)) ∷ [])) ≡ None → leb o.reader 7 ≡ true) [ true ↦ λ e k. none_not_some (Some 1) 1 k refl | false ↦ λ e k. le-leb o.reader 7 (omega (arith, ltb-false 7 o.reader e)) ]) refl h

  released_eight : (r : Option ℕ) (s : State X) (v : View) (now : ℕ) → Eight s → Eight (released_if r s v now).1
  unfolding released back_to
  released_eight (Some n) s v now e = e
  released_eight None s v now e =
      let k = release_all_all {X = X} (λ g. turn_of v now s.timeout s.writers g) (λ x. unfold turn_of in refl) (λ e. of_eight e) (λ e. of_eight e) (λ m e. unfold of_eight marked in refl) (λ x. true) (λ x e a b c. c) s.groups (all_yes s.groups) (work_of s) (unfold work_of in (e.pending, e.held)) in
      record { pending = k.0; held = k.1 }

  step_eight : (s : State X) (c : Call X) → Eight s → Eight (step s c).1
  unfolding step offer release
  step_eight s (offers o) e = offered_eight (offer_refusal s o) o s (first_fails s o) e
  step_eight s (heartbeats h) e = let k = heartbeat_same s h in eight_same s _ k.pending k.held e
  step_eight s (gaps g) e = let k = gap_same s g in eight_same s _ k.pending k.held e
  step_eight s (releases now v l) e = released_eight (release_refusal s v (length l)) s v now e

  pub run_eight : (s : State X) (cs : List (Call X)) → Eight s → Eight (run s cs)
  unfolding run
  run_eight s [] e = e
  run_eight s (c ∷ cs) e = run_eight (step s c).1 cs (step_eight s c e)
