use Prim.Native.Nat.{◌/◌, ◌%◌, ◌^◌}
use mathlib.Core.Path.{sym}
use mathlib.Core.List.{append_assoc, [], ◌∷◌}
use Rattle.decimal.specs.Print.{digits_of}
use Rattle.calls.specs.Said.{place_text}
use Rattle.calls.proofs.Saying.{said, said_both, said_as}
use Rattle.calls.proofs.say.put_sample.Goals as goal

pub returns : goal.returns
unfolding place_text
returns g c =
    let p = c.args.place in
    said_as (sym (append_assoc (32 ∷ digits_of (p / 2 ^ 32)) (58 ∷ []) (digits_of (p % 2 ^ 32)))) (said_both (said_both c.put_spaced.ensures (said c.put_byte.ensures)) (said c.put_unsigned.ensures))
