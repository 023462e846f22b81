-- A group's release on its rows gathered is the one on the rows of all groups.
use Rattle.std.specs.Prelude.{ℕ, ◌≡◌, ◌<◌, Bool, true, false, cond, List, [], ◌∷◌, length, get_or}
use Rattle.std.proofs.Common.{refl, sym, ap, subst, ◌∙◌}
use Rattle.std.proofs.lemmas.List.{get_or_default}
use Rattle.laws.specs.Lists.{filter, list_all}
use Rattle.laws.proofs.Lists.{keep_all, and_true}
use Rattle.guids.specs.Guid.{same_guid}
use Rattle.rules.specs.declared.view.Pair.{Pair}
use Rattle.rules.specs.declared.view.DigestRow.{DigestRow}
use Rattle.rules.specs.declared.state.Group.{Group}
use Rattle.rules.specs.Release.{Work, release_group, enough, at_group, turn_of}
use Rattle.rules.proofs.SameRows.{with_counted, rounds_same}
use Rattle.store.specs.declared.Store.{Store}
use Rattle.release.specs.Rows.{SameRows}
use Rattle.release.specs.Released.{view_of}
use Rattle.release.specs.GroupSteps.{turn_in, GroupStep, Steps}

kept_pass : (p : Pair → Bool) (l : List Pair) → list_all p (filter p l) ≡ true
kept_pass p [] = refl
kept_pass p (x ∷ l) = (elim (p x) as (λ b. p x ≡ b → list_all p (cond b (x ∷ filter p l) (filter p l)) ≡ true) [ true ↦ λ e. and_true (p x) _ e (kept_pass p l) | false ↦ λ e. kept_pass p l ]) refl

-- the rows are those of the group at place i, but for how often one stands
module _ (i now : ℕ) (s u : Store) (o p : List ℕ) (all rows : List Pair) (ds : List DigestRow) (d : Group) (within : i < length s.groups.items)
    (same : SameRows (filter (λ q. same_guid (get_or s.groups.items i d).guid q.group) all) rows) where
  own : (g : Group) → get_or s.groups.items i g ≡ g → SameRows (filter (λ q. same_guid g.guid q.group) all) (filter (λ q. same_guid g.guid q.group) rows)
  own g e q =
      let of : Pair → Bool = λ x. same_guid g.guid x.group in
      let h : SameRows (filter of all) rows = subst (λ (x : Group). SameRows (filter (λ y. same_guid x.guid y.group) all) rows) (get_or_default s.groups.items i d g within ∙ e) same in
      h q ∙ ap (list_all q) (sym (keep_all of rows (sym (h of) ∙ kept_pass of all)))

  alike : (g : Group) → get_or s.groups.items i g ≡ g → (w : Work ℕ) → release_group (turn_in (view_of rows ds) now s g) g w ≡ release_group (turn_in (view_of all ds) now s g) g w
  unfolding release_group with_counted enough at_group turn_of
  alike g e w = sym (rounds_same _ _ (own g e) (enough (at_group g w)) (turn_in (view_of all ds) now s g) (at_group g w))

  pub gathered_steps : Steps (view_of rows ds) now i s o u p → Steps (view_of all ds) now i s o u p
  gathered_steps f = record {
    step = λ g e w x. subst (λ v. GroupStep i s u p g v) (alike g e w) (f.step g e w x);
    writers = f.writers;
    timeout = f.timeout;
  }
