use Rattle.std.proofs.Common.{rules, tests, ◌≡◌, ◌∙◌, ◌<◌, ◌≤◌, ap, length, option_map, unwrap_or, [], arith}
use Rattle.std.proofs.lemmas.Grind.{common_steps}
use Rattle.calls.proofs.Listing.{left_first, left_none, left_next, rest_shorter, shown_or}
use Rattle.calls.proofs.list.gubrestal_run_list.Goals as goal

pub loop-rest-init : goal.loop-rest-init
loop-rest-init c = left_first c.new-calls.ensures c.new-answers.ensures

pub loop-rest-smaller : goal.loop-rest-smaller
loop-rest-smaller c =
    let h : 0 < length c.loop-rest.rest.now = search rules in
    let r : c.unwrap_or-rest.result.now ≡ unwrap_or (option_map (λ s. s.now) c.parse_first-line.result.1) [] = ap (λ s. s.now) c.unwrap_or-rest.ensures ∙ shown_or c.parse_first-line.result.1 _ (search rules) in
    rw r (rest_shorter c.loop-rest.rest.now _ _ h c.parse_first-line.ensures.behind)

pub loop-rest-preserved : goal.loop-rest-preserved
loop-rest-preserved c =
    let h : 0 < length c.loop-rest.rest.now = search rules in
    let r : c.unwrap_or-rest.result.now ≡ unwrap_or (option_map (λ s. s.now) c.parse_first-line.result.1) [] = ap (λ s. s.now) c.unwrap_or-rest.ensures ∙ shown_or c.parse_first-line.result.1 _ (search rules) in
    left_next c.loop-rest.invariant h c.make_room-at.ensures.put c.make_room-at.ensures.room c.make_room-at.ensures.within c.parse_first-line.ensures.line c.run.ensures c.put_byte.ensures _ c.parse_first-line.ensures.behind c.unwrap_or-rest.result.now r

pub returns : goal.returns
returns c =
    let h : length c.loop-rest.rest.now ≤ 0 = search rules in
    c.put_answers.ensures.put ∙ left_none h c.loop-rest.invariant
