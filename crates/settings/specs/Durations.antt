-- What a setting means to the history, the filter hold and a sample's lifespan, in nanoseconds (request U13's units).
use Rattle.std.specs.Prelude.{ℕ, ◌*◌, ◌/◌, ◌%◌, cond, Option, option_map}
use Rattle.laws.specs.Answer.{Answer, refused, answered}
use Rattle.filter_hold.specs.declared.tbf.Separation.{Separation}
use Rattle.settings.specs.Setting.{fits}
use Rattle.settings.specs.declared.setting.Setting.{Setting}
use Rattle.settings.specs.declared.durations.Durations.{Durations}

-- units of 10 ms
abbrev pub timeout_of : Setting → ℕ
timeout_of x = x.timeout * 10000000

-- a number of nanoseconds as a separation
abbrev pub separation_from : ℕ → Separation
separation_from n = record { sec = n / 1000000000; nanosec = n % 1000000000 }

-- ms
abbrev pub separation_of : Setting → Separation
separation_of x = separation_from (x.separation * 1000000)

-- seconds
abbrev pub validity_of : Setting → Option ℕ
validity_of x = option_map (λ n. n * 1000000000) x.lifespan

-- 15, a value too wide for its field
abbrev pub durations : Setting → Answer Durations
durations x =
    cond (fits x)
    (answered (record { timeout = timeout_of x; separation = separation_of x; lifespan = validity_of x }))
    (refused 15)
