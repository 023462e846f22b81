use Rattle.std.proofs.Common.{ℕ, List, take, refl, sym, ap, ◌∙◌, arith, true≢false, Some, None}
use Rattle.std.proofs.lemmas.List.{take_all}
use Rattle.decimal.specs.Split.{before}
use Rattle.line_input.specs.Input.{left, with_part}
use Rattle.line_input.proofs.Ends.{has_is, part_written}
use Rattle.line_input.proofs.Lines.take_part.Goals as goal

pub returns-in-Some : goal.returns-in-Some
returns-in-Some g c =
    let a = c.args.self.now.ahead in
    let line = c.args.self.now.line.items in
    let k = c.in-Some.ensures in
    record {
      is_whole = has_is a (Some c.in-Some.end) k;
      line =
          part_written line c.write-fit.new.self.items (take c.in-Some.end c.left-left.result.now) c.write-fit.result c.write-fit.ensures.bytes c.write-fit.ensures.count
          ∙ ap (λ (s : List ℕ). with_part line (take c.in-Some.end s)) c.left-left.ensures
          ∙ ap (λ (n : ℕ). with_part line (take n (left a))) k.0;
      whole =
          λ _. (c.take.ensures.chunk, omega (arith, c.take.ensures.at, k.0), c.take.ensures.count);
      begun = λ h. absurd (true≢false h);
      reader = refl;
    }

pub returns-in-None : goal.returns-in-None
returns-in-None g c =
    let a = c.args.self.now.ahead in
    let line = c.args.self.now.line.items in
    record {
      is_whole = has_is a None c.in-None.ensures;
      line =
          part_written line c.write-fit-in-None.new.self.items c.left-left.result.now c.write-fit-in-None.result c.write-fit-in-None.ensures.bytes c.write-fit-in-None.ensures.count
          ∙ ap (λ (s : List ℕ). with_part line s) (c.left-left.ensures ∙ sym (take_all (before 10 (left a)) (left a) (omega (arith, c.in-None.ensures))));
      whole = λ h. absurd (true≢false (sym h));
      begun = λ _. c.clear.ensures;
      reader = refl;
    }
