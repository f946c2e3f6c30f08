-- Times in whole milliseconds and microseconds.
use Rattle.std.specs.Prelude.{ℕ, ◌/◌, ◌-◌, ◌^◌, min}
use Rattle.std.specs.Duration.{as_nanos}
use Rattle.std.specs.declared.time.Duration.{Duration}

-- in 64 bits
abbrev pub millis_of : Duration → ℕ
millis_of time = min (as_nanos time / 1_000_000) (2 ^ 64 - 1)

abbrev pub micros_of : Duration → ℕ
micros_of time = min (as_nanos time / 1_000) (2 ^ 64 - 1)
