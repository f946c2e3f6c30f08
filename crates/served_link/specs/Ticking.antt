-- The clock of a node.
use Rattle.std.specs.Prelude.{ℕ, ◌-◌, ◌+◌, ◌/◌, ◌&&◌, nat_lt, nat_le, Bool, if◌then◌else◌}

-- how many milliseconds a tick takes, how many ticks were handed out, and when the last one was, in milliseconds
pub record ClockState : Type 0 where
  pub tick_ms : ℕ
  pub handed : ℕ
  pub last : ℕ

-- how many ticks passed by now and weren't handed out
abbrev pub ticks_left : ClockState → (elapsed : ℕ) → ℕ
ticks_left c elapsed = elapsed / c.tick_ms - c.handed

-- a tick is left, and half of a tick's time is over since the last one
abbrev pub is_due : ClockState → (elapsed : ℕ) → Bool
is_due c elapsed = nat_lt 0 (ticks_left c elapsed) && nat_le (c.tick_ms / 2) (elapsed - c.last)

-- the clock after a call, which hands out a tick if one is due
abbrev pub after_call : ClockState → (elapsed : ℕ) → ClockState
after_call c elapsed =
    if is_due c elapsed then record c { handed = c.handed + 1; last = elapsed } else c
