-- Notices that the log couldn't tell of: how many have no line yet, and when a line last told of some.
use Rattle.std.specs.Prelude.{ℕ, ◌+◌, ◌-◌, ◌^◌, Bool, false, if◌then◌else◌, Option, None, Some, min, nat_eq}
use Rattle.served_node.specs.declared.missed_notices.MissedNotices.{MissedNotices}

-- none was missed yet
abbrev pub none_missed : MissedNotices
none_missed = record { count = 0; told = None }

-- so many more were missed
abbrev pub more_missed : (missed : ℕ) → MissedNotices → MissedNotices
more_missed missed m = record m { count = min (m.count + missed) (2 ^ 64 - 1) }

-- whether the last line that told of some was of this second
abbrev is_of : (second : ℕ) → Option ℕ → Bool
is_of second None = false
is_of second (Some last) = nat_eq last second

-- what a line tells of all of them, if there are some
abbrev some_of : ℕ → Option ℕ
some_of count = if nat_eq count 0 then None else Some count

abbrev pub all_told : MissedNotices → Option ℕ
all_told m = some_of m.count

-- what a line of this second tells
abbrev pub due_in : (second : ℕ) → MissedNotices → Option ℕ
due_in second m = if is_of second m.told then None else all_told m

abbrev after_line : (second : ℕ) → Option ℕ → MissedNotices → MissedNotices
after_line second None m = m
after_line second (Some told) m = record { count = 0; told = Some second }

-- and what has no line then
abbrev pub told_in : (second : ℕ) → MissedNotices → MissedNotices
told_in second m = after_line second (due_in second m) m
