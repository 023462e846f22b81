use Rattle.std.proofs.Common.{◌≡◌, ◌∙◌, ◌+◌, ◌++◌, ◌∷◌, [], cond, true, false, sym, ap, subst, get_or, take, length, rules, tests, arith, length-append}
use Rattle.laws.specs.Lists.{filter, list_any}
use Rattle.guids.specs.Guid.{same_guid}
use Rattle.rules.specs.declared.view.Pair.{Pair}
use Rattle.release.specs.Rows.{SameRows, same_row}
use Rattle.release.proofs.OwnRows.{same_added, same_there, more_rows}
use Rattle.release.proofs.rows.rows_of.Goals as goal
use Rattle.release.proofs.rows.rows_of.Goals.{then-same+then-not-ends_with, else-same, else-same-via-then-same+else-not-ends_with, else-same-via-else-same}

pub loop-p-preserved : goal.loop-p-preserved
loop-p-preserved c =
    let d : Pair = record { group = []; writer = []; reader = 0 } in
    let i = c.loop-p.p-index in
    let cs = c.args.counted.now in
    let g = c.args.group in
    let x = get_or cs i d in
    let l = filter (λ p. same_guid g p.group) (take i cs) in
    let m = more_rows (λ p. same_guid g p.group) cs i d (omega arith) in
    let was : SameRows l c.loop-p.rows.items = c.loop-p.invariant.same in
    elim c.if-same.branch [
      | then-same+then-not-ends_with w ↦
          let t : same_guid g x.group ≡ true = search (rules, tests) in
          let n : filter (λ p. same_guid g p.group) (take (i + 1) cs) ≡ l ++ (x ∷ []) = m ∙ ap (λ b. cond b (l ++ (x ∷ [])) l) t in
          let e : c.if-same.rows.items ≡ c.loop-p.rows.items ++ (x ∷ []) = search (rules, tests) in
          record {
            same = subst (λ k. SameRows k c.if-same.rows.items) (sym n) (subst (λ r. SameRows (l ++ (x ∷ [])) r) (sym e) (same_added l c.loop-p.rows.items was x));
            few = omega (arith, ap length e, length-append c.loop-p.rows.items (x ∷ []), c.loop-p.invariant.few);
          }
      | else-same w ↦
          let e : c.if-same.rows.items ≡ c.loop-p.rows.items = search (rules, tests) in
          let k : SameRows (filter (λ p. same_guid g p.group) (take (i + 1) cs)) c.loop-p.rows.items =
          elim w.else-same.branch [
            | else-same-via-then-same+else-not-ends_with v ↦
                let t : same_guid g x.group ≡ true = search (rules, tests) in
                let a : list_any (λ r. same_row r x) c.loop-p.rows.items ≡ true = search (rules, tests) in
                subst (λ q. SameRows q c.loop-p.rows.items) (sym (m ∙ ap (λ b. cond b (l ++ (x ∷ [])) l) t)) (same_there l c.loop-p.rows.items was x a)
            | else-same-via-else-same v ↦
                let t : same_guid g x.group ≡ false = search (rules, tests) in
                subst (λ q. SameRows q c.loop-p.rows.items) (sym (m ∙ ap (λ b. cond b (l ++ (x ∷ [])) l) t)) was
          ] in
          record { same = subst (λ r. SameRows (filter (λ p. same_guid g p.group) (take (i + 1) cs)) r) (sym e) k; few = omega (arith, ap length e, c.loop-p.invariant.few) }
    ]
