-- The alarms that are raised, as a client is shown them.
use Rattle.std.specs.Prelude.{ℕ, List, [], ◌++◌, codes, length, slice_index_or, Option, None, Some}
use Rattle.settings.specs.Configuration.{Configuration}
use Rattle.settings.specs.declared.point.PointFormat.{PointFormat}
use Rattle.served_link.specs.Alarms.{alarm_at}
use Rattle.served_link.specs.AlarmTexts.{alarm_name, seconds_text}
use Rattle.served_link.specs.declared.alarm.Alarm.{Alarm}
use Rattle.served_node.specs.Counters.{first_texts}
use Rattle.served_node.specs.Tables.{cell, last_cell}

abbrev pub alarms_head : List ℕ
alarms_head = codes "  ALARM                     SINCE\n"

-- an alarm that is raised, and since when, in seconds after the start
abbrev pub alarm_row : PointFormat → Configuration → Alarm → (since : ℕ) → List ℕ
alarm_row points c alarm since = cell 24 (alarm_name points c alarm) ++ last_cell (seconds_text since)

-- the row of an alarm; nothing if there is none, or if it isn't raised
abbrev pub row_since : PointFormat → Configuration → Option Alarm → (since : Option ℕ) → List ℕ
row_since points c None since = []
row_since points c (Some alarm) None = []
row_since points c (Some alarm) (Some since) = alarm_row points c alarm since

-- the row of the alarm at a place of the table
abbrev pub row_at : PointFormat → Configuration → List (Option ℕ) → (place : ℕ) → List ℕ
row_at points c table place = row_since points c (alarm_at place) (slice_index_or table place None)

-- a row for each alarm that is raised, in the order of the table
abbrev pub raised_text : PointFormat → Configuration → List (Option ℕ) → List ℕ
raised_text points c table = first_texts (row_at points c table) (length table)

abbrev pub alarms_text : PointFormat → Configuration → List (Option ℕ) → List ℕ
alarms_text points c table = alarms_head ++ raised_text points c table
