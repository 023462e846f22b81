-- The P lines of document 01, all of them, on the definitions that the contracts use.
use mathlib.Core.Path.{◌≡◌, refl}
use mathlib.Core.List.{[], ◌∷◌}
use lib.IntN.{pos, negsuc}
use Rattle.laws.specs.Bytes.{bytes_of}
use Rattle.coherent_set.specs.Marker.{high, low, wire}
use Rattle.rules.proofs.Figures as F
use Rattle.filter_hold.specs.Tbf.{time_after, time_of}

pub record PLines : Type 0 where
  -- number 0 late; number 5 at the timeout; own 2 and 3; first absent; an ended set without members; a heartbeat 4..6; the call list
  pub history : F.PLines
  -- marker −4294967296
  pub marker : wire (negsuc 4294967295) ≡ 255 ∷ 255 ∷ 255 ∷ 255 ∷ 0 ∷ 0 ∷ 0 ∷ 0 ∷ []
  -- due for 5 s 4294967295 ns plus 999999999 ns
  pub due : time_after (record { sec = pos 5; nanosec = 4294967295 }) (record { sec = 0; nanosec = 999999999 }) ≡ record { sec = pos 10; nanosec = 294967294 }

pub p_lines : PLines
unfolding wire bytes_of high low time_after time_of
p_lines = record { history = F.p_lines; marker = refl; due = refl }
