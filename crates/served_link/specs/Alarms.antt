-- The table of alarms: which are raised, and what becomes of one when what it is about is looked at.
use Rattle.std.specs.Prelude.{ℕ, ◌+◌, ◌-◌, ◌*◌, ◌<◌, Bool, true, false, nat_eq, nat_lt, if◌then◌else◌, List, replicate, slice_index_or, slice_set, Option, None, Some}
use Rattle.served_link.specs.declared.alarm.TheConstants.{DESTINATION_NUMBERS, LINK_NUMBERS, NEAR_ALARMS, NODE_ALARMS}
use Rattle.served_link.specs.declared.alarm.Alarm.{Alarm}
use Rattle.served_link.specs.declared.alarm.Alarm.TheVariants as alarm
use Rattle.served_link.specs.declared.alarms.AlarmChange.{AlarmChange}
use Rattle.served_link.specs.declared.alarms.AlarmChange.TheVariants.{Raised, Cleared}

-- the places of the table: the node's alarms, then those of links, of sets and of destinations by their numbers
abbrev pub place_of : Alarm → ℕ
place_of alarm.LostAny = 0
place_of alarm.LateAny = 1
place_of alarm.Pool = 2
place_of alarm.Capture = 3
place_of alarm.Behind = 4
place_of (alarm.Link link) = NODE_ALARMS + link
place_of (alarm.Set set) = NODE_ALARMS + LINK_NUMBERS + set
place_of (alarm.Destination destination) = NEAR_ALARMS + destination

-- the alarm at a place so far behind those of the node
abbrev pub behind_node : ℕ → Option Alarm
behind_node place =
    if nat_lt place LINK_NUMBERS then Some (alarm.Link place)
    else if nat_lt place (2 * LINK_NUMBERS) then Some (alarm.Set (place - LINK_NUMBERS))
    else if nat_lt place (2 * LINK_NUMBERS + DESTINATION_NUMBERS) then Some (alarm.Destination (place - 2 * LINK_NUMBERS))
    else None

-- the alarm at a place of the table, if there is one
abbrev pub alarm_at : ℕ → Option Alarm
alarm_at place =
    if nat_eq place 0 then Some alarm.LostAny
    else if nat_eq place 1 then Some alarm.LateAny
    else if nat_eq place 2 then Some alarm.Pool
    else if nat_eq place 3 then Some alarm.Capture
    else if nat_eq place 4 then Some alarm.Behind
    else behind_node (place - NODE_ALARMS)

-- an alarm whose link, set or destination has a number that one can have
abbrev pub IsAlarm : Alarm → Type 0
IsAlarm alarm.LostAny = Unit
IsAlarm alarm.LateAny = Unit
IsAlarm alarm.Pool = Unit
IsAlarm alarm.Capture = Unit
IsAlarm alarm.Behind = Unit
IsAlarm (alarm.Link link) = link < LINK_NUMBERS
IsAlarm (alarm.Set set) = set < LINK_NUMBERS
IsAlarm (alarm.Destination destination) = destination < DESTINATION_NUMBERS

-- since when each alarm is raised, if it is; none is at first
abbrev pub none_raised : (destinations : ℕ) → List (Option ℕ)
none_raised destinations = replicate (NEAR_ALARMS + destinations) None

abbrev pub since_of : Alarm → List (Option ℕ) → Option ℕ
since_of alarm table = slice_index_or table (place_of alarm) None

-- what becomes of an alarm by a look, by whether it is to be raised, and since when it is
abbrev pub change_of : (is_on : Bool) → (since : Option ℕ) → Option AlarmChange
change_of true None = Some Raised
change_of true (Some since) = None
change_of false None = None
change_of false (Some since) = Some (Cleared since)

-- since when it is raised after that look: it is exactly if it is to be, and since the look that raised it
abbrev pub after_look : (is_on : Bool) → (now : ℕ) → (since : Option ℕ) → Option ℕ
after_look true now None = Some now
after_look true now (Some since) = Some since
after_look false now since = None

-- what becomes of the alarm at a place, if there is one
abbrev pub change_at : (is_on : Bool) → Option (Option ℕ) → Option AlarmChange
change_at is_on None = None
change_at is_on (Some since) = change_of is_on since

-- the table after a look at what an alarm is about
abbrev pub noted : Alarm → (is_on : Bool) → (now : ℕ) → List (Option ℕ) → List (Option ℕ)
noted alarm is_on now table = slice_set table (place_of alarm) (after_look is_on now (since_of alarm table))
