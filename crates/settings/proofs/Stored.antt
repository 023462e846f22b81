-- What an accepted save keeps fits its fields: it can be packed again, and its durations are answered.
use Rattle.std.specs.Prelude.{unwrap_or}
use Prim.Native.Nat.{ℕ, ◌<◌, ◌%◌}
use mathlib.Core.Path.{◌≡◌, ap, ◌∙◌}
use mathlib.Core.Bool.{Bool, true, false}
use mathlib.Core.List.{List}
use native.Mathlib.Nat.{mod-lt}
use borrow.Author.Tests.{lt-ltb}
use lib.Dec.{leb, lit<, lit≤}
use lib.ListN.{length, take, drop, get_or}
use Rattle.laws.specs.Bytes.{number_of}
use Rattle.laws.proofs.Bytes.{Bytes, drop_bytes, number_of_take_lt}
use Rattle.settings.specs.Setting.{fits, setting_in, good_length}
use Rattle.settings.proofs.Packing.{fits_narrowly}
use Rattle.settings.proofs.Shown.{shown, shown_lifespan, setting_shown}

module _ (bs : List ℕ) (b : Bytes bs) where
  pair_lt : (k : ℕ) → number_of (take 2 (drop k bs)) < 65536
  pair_lt k = number_of_take_lt (drop k bs) 2 2 (drop_bytes k bs b) (lit≤ tt)

  lifespan_lt : (t : Bool) → unwrap_or (shown_lifespan t bs) 0 < 65536
  unfolding shown_lifespan
  lifespan_lt true = pair_lt 6
  lifespan_lt false = lit< tt

  shown_fits : (t : Bool) → fits (shown t bs) ≡ true
  unfolding shown
  shown_fits t =
      fits_narrowly (shown t bs)
      ∙ rw (
        lt-ltb (number_of (take 2 bs) % 4096) 4096 (mod-lt (number_of (take 2 bs)) (lit< tt)),
        lt-ltb (get_or bs 2 0) 256 (b 2),
        lt-ltb (get_or bs 3 0) 256 (b 3),
        lt-ltb (number_of (take 2 (drop 4 bs))) 65536 (pair_lt 4),
        lt-ltb (unwrap_or (shown_lifespan t bs) 0) 65536 (lifespan_lt t),
      )

  pub saved_fits : (v : ℕ) → good_length v (length bs) ≡ true → fits (setting_in v bs) ≡ true
  saved_fits v g = ap fits (setting_shown bs b v g) ∙ shown_fits (leb 2 v)
