use Prim.Native.Nat.{ℕ, ◌+◌}
use mathlib.Core.Path.{◌≡◌, refl, ap, ◌∙◌}
use mathlib.Core.List.{List, [], ◌∷◌, ◌++◌}
use native.Mathlib.Numerals.{add-one}
use native.Mathlib.Omega.{arith}
use borrow.Author.Rules.{rules}
use lib.ListN.{take}
use lib.Seq.{take_all}
use Rattle.decimal.specs.Print.{put}
use Rattle.decimal.proofs.Putting.{put_none, puts}
use Rattle.hex_digits.specs.Hex.{hex_of}
use Rattle.hex_digits.proofs.Spelled.{hex_more}
use Rattle.hex_digits.proofs.put_hex.Goals as goal

pub loop-i-init : goal.loop-i-init
unfolding hex_of
loop-i-init c = (omega arith, refl, put_none c.args.out.now c.args.at)

pub digit-requires : goal.digit-requires
digit-requires c = omega (arith, c.type_inv.bytes c.loop-i.i)

pub digit-requires-in-loop-i : goal.digit-requires-in-loop-i
digit-requires-in-loop-i c = omega (arith, c.type_inv.bytes c.loop-i.i)

pub loop-i-preserved : goal.loop-i-preserved
loop-i-preserved c = let l = c.loop-i in
    let a = c.args in
    let s = a.bytes.now in
    let x = c.digit in
    let y = c.digit-in-loop-i in
    let pair = x.result ∷ y.result ∷ [] in
    let e : hex_of (take l.i s) ++ pair ≡ hex_of (take (l.i + 1) s) = rw (x.ensures, y.ensures, add-one) (hex_more s l.i (omega arith)) in (
      omega arith,
      search rules,
      puts a.out.now a.at (hex_of (take l.i s)) pair l.invariant.2 c.put_bytes-next.ensures
          ∙ ap (λ (t : List ℕ). put a.out.now a.at t) e,
    )

pub returns : goal.returns
returns c = let l = c.loop-i in
    let a = c.args in
    l.invariant.2 ∙ ap (λ (s : List ℕ). put a.out.now a.at (hex_of s)) (take_all l.i a.bytes.now (omega arith))
