-- The group's rows, each once.
use Rattle.std.proofs.Common.{◌≡◌, ◌∙◌, ℕ, ◌+◌, ◌<◌, ℤ, Bool, true, false, ◌&&◌, ◌||◌, cond, List, [], ◌∷◌, ◌++◌, length, take, get_or, eqb, not, refl, sym, ap, ap₂, subst, append-nil}
use Rattle.std.proofs.lemmas.List.Folds.{list_all-append}
use Rattle.std.proofs.lemmas.List.Elements.{filter-append}
use Rattle.std.proofs.lemmas.List.{take_more}
use Rattle.std.proofs.lemmas.Bool.{eqb-true, and_parts}
use Rattle.laws.specs.Lists.{filter, list_all, list_any}
use Rattle.guids.specs.Guid.{same_guid}
use Rattle.guids.proofs.Guids.{same_eq}
use Rattle.rules.specs.declared.view.Pair.{Pair}
use Rattle.rules.specs.declared.entry.Entry.{Entry}
use Rattle.rules.specs.declared.turn.GroupTurn.{GroupTurn}
use Rattle.rules.specs.Commit.{Turn}
use Rattle.rules.specs.Release.{waits, finish, finish_if}
use Rattle.rules.proofs.SameRows.{with_counted, whole_same, waits_same}
use Rattle.sets.specs.declared.Sets.{Sets}
use Rattle.sets.specs.Works.{Carries, Goes}
use Rattle.release.specs.OwnTurn.{own_turn}
use Rattle.release.specs.Rows.{SameRows, same_row}

same_row_is : (a b : Pair) → same_row a b ≡ true → a ≡ b
unfolding same_row
same_row_is a b e =
    let p = and_parts (eqb a.reader b.reader && same_guid a.writer b.writer) (same_guid a.group b.group) e in
    let q = and_parts (eqb a.reader b.reader) (same_guid a.writer b.writer) p.0 in
    ap₂ (λ g w. record { group = g; writer = w; reader = a.reader }) (same_eq a.group b.group p.1) (same_eq a.writer b.writer q.1)
    ∙ ap (λ r. record { group = b.group; writer = b.writer; reader = r }) (eqb-true a.reader b.reader q.0)

-- one of the rows passes what all of them pass
there_passes : (q : Pair → Bool) (rows : List Pair) (x : Pair) → list_any (λ r. same_row r x) rows ≡ true → list_all q rows ≡ true → q x ≡ true
there_passes q [] x a e = cc
there_passes q (y ∷ rows) x a e =
    let p = and_parts (q y) (list_all q rows) e in
    (elim (same_row y x) as (λ b. same_row y x ≡ b → b || list_any (λ r. same_row r x) rows ≡ true → q x ≡ true) [
      | true ↦ λ k u. ap q (sym (same_row_is y x k)) ∙ p.0
      | false ↦ λ k u. there_passes q rows x u p.1
    ]) refl a

module _ (l rows : List Pair) (h : SameRows l rows) (x : Pair) where
  pub same_added : SameRows (l ++ (x ∷ [])) (rows ++ (x ∷ []))
  same_added q = list_all-append q l (x ∷ []) ∙ ap (λ b. b && list_all q (x ∷ [])) (h q) ∙ sym (list_all-append q rows (x ∷ []))

  pub same_there : list_any (λ r. same_row r x) rows ≡ true → SameRows (l ++ (x ∷ [])) rows
  same_there a q =
      list_all-append q l (x ∷ []) ∙ ap (λ b. b && list_all q (x ∷ [])) (h q)
      ∙ (elim (list_all q rows) as (λ b. list_all q rows ≡ b → b && (q x && true) ≡ b) [
        | true ↦ λ k. ap (λ b. b && true) (there_passes q rows x a k)
        | false ↦ λ k. refl
      ]) refl

-- the rows up to the next one
pub more_rows : (p : Pair → Bool) (cs : List Pair) (i : ℕ) (d : Pair) → i < length cs → filter p (take (i + 1) cs) ≡ cond (p (get_or cs i d)) (filter p (take i cs) ++ (get_or cs i d ∷ [])) (filter p (take i cs))
more_rows p cs i d h =
    let x = get_or cs i d in
    ap (λ l. filter p l) (take_more cs i d h) ∙ filter-append p (take i cs) (x ∷ [])
    ∙ (elim (p x) as (λ b. filter p (take i cs) ++ cond b (x ∷ []) [] ≡ cond b (filter p (take i cs) ++ (x ∷ [])) (filter p (take i cs))) [ true ↦ refl | false ↦ append-nil (filter p (take i cs)) ])

-- rows of which the same may be asked finish a set alike
module _ (t : GroupTurn) (rows : List Pair) (h : SameRows (filter (λ p. same_guid t.group.guid p.group) t.counted.now) rows) (z y : ℤ) (e : y ≡ z) where
  abbrev asked : Turn
  asked = record { guid = t.group.guid; announced = t.group.announced; writers = t.writers.now; counted = rows; digests = t.digests.now; now = t.time; timeout = t.timeout }

  pub waits_alike : (b : Bool) (l : List (Entry ℕ)) → b ≡ not (waits asked y l) → b ≡ not (waits (own_turn t) z l)
  unfolding with_counted
  waits_alike b l f = f ∙ ap (λ k. not (waits asked k l)) e ∙ ap not (sym (waits_same (own_turn t).counted rows h (own_turn t) z l))

  pub finish_alike : (s u : Sets) (o p : List ℕ) → Goes (λ w. finish asked y w) s o u p → Goes (λ w. finish (own_turn t) z w) s o u p
  unfolding finish
  finish_alike s u o p f w x =
      subst (λ b. Carries u p (finish_if b t.group.guid z w)) (sym (whole_same (own_turn t).counted rows h t.group.guid z w.held)) (subst (λ k. Carries u p (finish asked k w)) e (f w x))
