-- What the calls do to the table.
use Rattle.timers.proofs.Basics.{ℕ, length, map, filter, position, replicate, slice_set, get_or, Option, Some, None, is_some, if◌then◌else◌, option_map, TimerName, NodeCounts, count_of, named_sets, place_of, name_at, one_less, no_tick_left, Table}

abbrev pub none_in : NodeCounts → Table
none_in n = record { counts = n; left = replicate (count_of (named_sets n)) None }

-- an index has n ticks left, or its timer doesn't run
abbrev pub put : ℕ → Option ℕ → Table → Table
put place left t = record t { left = slice_set t.left place left }

abbrev pub put_at : Option ℕ → Option ℕ → Table → Table
put_at (Some place) left t = put place left t
put_at None left t = t

-- a timer has n ticks left, or doesn't run; one that has no index is ignored
abbrev pub put_in : TimerName → Option ℕ → Table → Table
put_in name left t = put_at (place_of (named_sets t.counts) name) left t

-- an index has n ticks left, unless its timer runs
abbrev pub start_at : Option ℕ → ℕ → Table → Table
start_at (Some place) left t = if is_some (get_or t.left place None) then t else put place (Some left) t
start_at None left t = t

abbrev pub ticked_in : Table → Table
ticked_in t = record t { left = map one_less t.left }

-- the first place that is due
abbrev pub due_place : Table → Option ℕ
due_place t = position no_tick_left t.left

abbrev pub due_in : Table → Option TimerName
due_in t = option_map (name_at (named_sets t.counts)) (due_place t)

abbrev pub after_due_in : Table → Table
after_due_in t = put_at (due_place t) None t

abbrev pub count_in : Table → ℕ
count_in t = length (filter no_tick_left t.left)
