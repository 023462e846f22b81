use Rattle.std.proofs.Common.{◌≡◌, ◌∙◌, List, ℕ, [], ap, rules, sym, subst, IsNone, ◌++◌}
use Rattle.std.specs.Io.KnownBytes.{Appends}
use Rattle.fixed_list.specs.FixedList.{FixedList}
use Rattle.line_output.specs.declared.Output.{Output}
use Rattle.line_output.specs.Output.{pending, Written}
use Rattle.line_output.proofs.Writing.{gathered_first, failed_first, written_too}
use Rattle.line_output.proofs.Output.gather.Goals as goal
use Rattle.line_output.proofs.Output.gather.Goals.{else-is_none-via-then-is_none+else-not-extend_from_slice, else-is_none-via-else-is_none}

pub returns-then-not-extend_from_slice-clause-written : goal.returns-then-not-extend_from_slice-clause-written
returns-then-not-extend_from_slice-clause-written g c = let W = g.W.Write.contents in
    let e : c.extend_from_slice.new.self ≡ c.args.self.now.room = search rules in
    let f = c.flush.new.self in
    let w : Written (W c.args.self.now.writer) (W f.writer) (pending c.args.self.now) [] f =
    subst (λ (r : FixedList ℕ). Written (W c.args.self.now.writer) (W f.writer) r.items [] f) e c.flush.ensures.written in
    let n : IsNone f.failed = search rules in
    let p : pending f ≡ [] = c.flush.ensures.flushed.none (search rules) in
    let q : c.extend_from_slice-then-is_none.new.self ≡ f.room = search rules in
    let a : IsNone c.err-self.result → Appends (W f.writer) (W c.write_out.new.writer) c.args.text.now = λ h. search rules in
    written_too (W c.args.self.now.writer) (W f.writer) (pending c.args.self.now) f w (W c.write_out.new.writer) c.args.text.now _ n p (ap (λ (r : FixedList ℕ). r.items) q ∙ p) a c.write_out.ensures.front

pub returns-else-is_none-clause-written : goal.returns-else-is_none-clause-written
returns-else-is_none-clause-written g c = let W = g.W.Write.contents in
    let e : c.extend_from_slice.new.self ≡ c.args.self.now.room = search rules in
    let f = c.flush.new.self in
    let w : Written (W c.args.self.now.writer) (W f.writer) (pending c.args.self.now) [] f =
    subst (λ (r : FixedList ℕ). Written (W c.args.self.now.writer) (W f.writer) r.items [] f) e c.flush.ensures.written in
    let p : pending f ≡ [] = c.flush.ensures.flushed.none (search rules) in
    let G : Output g.row.W.Denot → Type 0 =
    λ r. Written (W c.args.self.now.writer) (W r.writer) (pending c.args.self.now) c.args.text.now r in
    elim c.else-is_none.branch [
      | else-is_none-via-then-is_none+else-not-extend_from_slice v ↦ subst G (sym v.self-is)
          (gathered_first (W c.args.self.now.writer) (W f.writer) (pending c.args.self.now) f w c.args.text.now _ (search rules) p
          (let t : v.extend_from_slice-then-is_none.new.self.items ≡ f.room.items ++ c.args.text.now = search rules in t ∙ ap (λ (l : List ℕ). l ++ c.args.text.now) p))
      | else-is_none-via-else-is_none v ↦ subst G (sym v.self-is)
          (failed_first (W c.args.self.now.writer) (W f.writer) (pending c.args.self.now) f w c.args.text.now f (λ h. search rules))
    ]
