-- `lowest_open` meets its contract: each case of the ends is the walk's answer.
use Rattle.std.proofs.Common.{◌≡◌, ◌∙◌, ap, ◌+◌, ◌-◌, max, min, arith}
use Rattle.rules.specs.Commit.{lowest_open}
use Rattle.rules.proofs.Open.{all_gap, at_late, at_empty, at_before, at_within, at_behind}
use Rattle.rules.proofs.number.Marks.lowest_open.Goals as goal

pub returns-then-end-from : goal.returns-then-end-from
unfolding lowest_open
returns-then-end-from c = let z : c.args.end - c.args.from ≡ 0 = omega arith in rw z

pub returns-then-end-self : goal.returns-then-end-self
returns-then-end-self c = let m = c.args.self.now in all_gap m.seen m.gap_end m.first m.last m.current c.args.from c.args.end c.if-end-from.false c.if-end-self.true

pub returns-then-self-a : goal.returns-then-self-a
returns-then-self-a c = let m = c.args.self.now in
    let is = c.max-a.ensures ∙ ap (λ x. max x (m.gap_end + 1)) c.max.ensures in
    c.min.ensures ∙ at_late m.seen m.gap_end m.first m.last m.current c.args.from c.args.end c.if-end-from.false c.max-a.result is c.if-self-a.true

pub returns-then-self : goal.returns-then-self
returns-then-self c = let m = c.args.self.now in
    let is = c.max-a.ensures ∙ ap (λ x. max x (m.gap_end + 1)) c.max.ensures in
    c.min-then-self.ensures ∙ at_empty m.seen m.gap_end m.first m.last m.current c.args.from c.args.end c.if-end-from.false c.max-a.result is c.if-self-a.false c.if-self.true

pub returns-then-a-self : goal.returns-then-a-self
returns-then-a-self c = let m = c.args.self.now in
    let is = c.max-a.ensures ∙ ap (λ x. max x (m.gap_end + 1)) c.max.ensures in
    c.min-then-a-self-2.ensures ∙ ap (λ x. min x c.args.end) c.min-then-a-self.ensures ∙ at_before m.seen m.gap_end m.first m.last m.current c.args.from c.args.end c.if-end-from.false c.max-a.result is c.if-self-a.false c.if-self.false c.if-a-self.true

pub returns-then-a-self-2 : goal.returns-then-a-self-2
returns-then-a-self-2 c = let m = c.args.self.now in
    let is = c.max-a.ensures ∙ ap (λ x. max x (m.gap_end + 1)) c.max.ensures in
    c.min-then-a-self-2-2.ensures ∙ at_within m.seen m.gap_end m.first m.last m.current c.args.from c.args.end c.if-end-from.false c.max-a.result is c.if-a-self.false c.if-a-self-2.true

pub returns : goal.returns
returns c = let m = c.args.self.now in
    let is = c.max-a.ensures ∙ ap (λ x. max x (m.gap_end + 1)) c.max.ensures in
    c.min-2.ensures ∙ at_behind m.seen m.gap_end m.first m.last m.current c.args.from c.args.end c.if-end-from.false c.max-a.result is c.if-self-a.false c.if-a-self-2.false
