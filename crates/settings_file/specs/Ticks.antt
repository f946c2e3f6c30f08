-- How long a tick is, and how many ticks a duration is.
use Rattle.std.specs.Prelude.{ℕ, ℤ, pos, ◌+◌, ◌-◌, ◌/◌, Bool, List, Option, Some, None, unwrap_or, Result, Ok, Err}
use Rattle.std.specs.Prelude.{if◌then◌else◌}
use Rattle.toml.specs.Data.{Members}
use Rattle.settings_file.specs.declared.serve.fault.ServeFault.{ServeFault}
use Rattle.settings_file.specs.Durations.{duration_in}
use Rattle.settings_file.specs.Keyed.{serve_at, tick_ms_at}
use Rattle.settings_file.specs.Shapes.{and_then}

-- how long a tick is in milliseconds, by what a server says of it: 200 ms if that can't be read
abbrev pub tick_told : Result ℕ ServeFault → ℕ
tick_told (Ok tick_ms) = tick_ms
tick_told (Err fault) = 200

-- the same, if it can be read
abbrev pub tick_if_told : Result ℕ ServeFault → Option ℕ
tick_if_told (Ok tick_ms) = Some tick_ms
tick_if_told (Err fault) = None

-- how long a tick is in a file, which may have no server
unfoldable pub tick_of : Members → ℕ
tick_of t = tick_told (and_then (serve_at t) tick_ms_at)

-- the length of a tick, if the version of the file has durations
abbrev pub clock_of : (has_durations : Bool) → Members → Option ℕ
clock_of has_durations t = if has_durations then Some (tick_of t) else None

-- how many ticks last as long; the last of them may be over later
abbrev pub ticks_lasting : (tick_ms ms : ℕ) → ℕ
ticks_lasting tick_ms ms = (ms + (tick_ms - 1)) / tick_ms

-- how many ticks a text says. One that is no duration says 0, which no timer may run
abbrev pub ticks_said : (tick_ms : ℕ) → List ℕ → ℤ
ticks_said tick_ms text = pos (ticks_lasting tick_ms (unwrap_or (duration_in text) 0))
