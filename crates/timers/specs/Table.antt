-- The timers of a node by their places, and the map that they say.
use Rattle.std.specs.Prelude.{◌≡◌, ℕ, Bool, if◌then◌else◌, Option, None, List, length, get_or}
use Rattle.timers.specs.declared.name.TimerName.{TimerName}
use Rattle.timers.specs.declared.name.NodeCounts.{NodeCounts}
use Rattle.timers.specs.declared.timers.Timers.TheInside.{Inside}
use Rattle.timers.specs.Timers.{has_name, count_of, Running, running_with}
use Rattle.timers.specs.Places.{named_sets, place_in}

pub record Table : Type 0 where
  -- how many links, sets and destinations the node has
  pub counts : NodeCounts
  -- the ticks that are left at each place
  pub left : List (Option ℕ)

abbrev pub has_place : TimerName → Table → Bool
has_place name t = has_name (named_sets t.counts) name

-- the ticks that are left to a timer
unfoldable pub left_to : TimerName → Table → Option ℕ
left_to name t = if has_place name t then get_or t.left (place_in (named_sets t.counts) name) None else None

-- the map that the table says
unfoldable pub map_of : Table → Running
map_of t = running_with t.counts (λ name. left_to name t)

-- there is a place for each name
pub record IsWhole (t : Table) : Type 0 where
  pub places : length t.left ≡ count_of (named_sets t.counts)

abbrev pub table_in : Inside → Table
table_in s = record { counts = s.counts; left = s.left }

abbrev pub map_in : Inside → Running
map_in s = map_of (table_in s)

pub record ArePlaced (s : Inside) : Type 0 where
  pub whole : IsWhole (table_in s)
