-- `extend_from_slice`: the places behind the items put stay blank.
use Rattle.std.proofs.Common.{◌≡◌, ◌+◌, ◌≤◌, ◌∙◌, length, take, ap, arith, length-append}
use Rattle.std.proofs.lemmas.List.{length-take-le}
use Rattle.fixed_list.proofs.Free.{fewer, drop_front, length_front}
use Rattle.fixed_list.proofs.list.FixedList.extend_from_slice.Goals as goal

pub invariant_of-self : goal.invariant_of-self
invariant_of-self g c =
    let inside = c.self.inside in
    let all = c.copy_to.new.items in
    let end = inside.len + length c.args.items.now in
    let whole = c.self.invariant.1 in
    let fits : end ≤ g.row.N = omega (arith, c.self.invariant.0, c.if-fits.true) in
    let front : length (take end inside.places) ≡ end = length-take-le end inside.places (omega (arith, whole, fits)) in
    let long : length all ≡ end = ap length c.copy_to.ensures.items ∙ length-append (take inside.len (take end inside.places)) c.args.items.now ∙ ap (λ n. n + length c.args.items.now) (length-take-le inside.len (take end inside.places) (omega (arith, front))) in (
      fits,
      length_front all inside.places end long (omega (arith, whole, fits)) ∙ whole,
      drop_front all inside.places end long ∙ fewer g.row.N g.T.Blank.blank inside.places inside.len end (omega arith) c.self.invariant.2,
    )
