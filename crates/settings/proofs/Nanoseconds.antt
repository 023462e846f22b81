-- A setting's separation in the filter hold: whole, and never refused 10.
use Prim.Native.Nat.{◌+◌, ◌*◌, ◌<◌}
use mathlib.Core.Path.{◌≡◌, ap}
use native.Mathlib.Omega.{arith}
use Rattle.filter_hold.specs.Tbf.{from_zero, time_of, time_after}
use Rattle.filter_hold.specs.declared.tbf.Time.{Time}
use Rattle.settings.specs.Durations.{separation_of}
use Rattle.settings.specs.declared.setting.Setting.{Setting}

pub separation_whole : (x : Setting) → (separation_of x).sec * 1000000000 + (separation_of x).nanosec ≡ x.separation * 1000000
separation_whole x = omega arith

pub separation_below : (x : Setting) → (separation_of x).nanosec < 1000000000
separation_below x = omega arith

-- due so many ms later
pub due_later : (at : Time) (x : Setting)
    → time_after at (separation_of x) ≡ time_of (from_zero at.sec * 1000000000 + at.nanosec + x.separation * 1000000)
unfolding time_after
due_later at x = ap (λ n. time_of (from_zero at.sec * 1000000000 + at.nanosec + n)) (separation_whole x)
