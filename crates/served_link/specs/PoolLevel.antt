-- When the pool of user messages is nearly full.
use Rattle.std.specs.Prelude.{ℕ, ◌*◌, Bool, true, false, nat_le, nat_lt}

-- the alarm is raised from four fifths of the pool on, and then stays until less than half of it is full
abbrev pub is_high : (was_high : Bool) → (messages pool : ℕ) → Bool
is_high false messages pool = nat_le (4 * pool) (5 * messages)
is_high true messages pool = nat_le pool (2 * messages)
