-- The names of alarms, and seconds as texts.
use Rattle.std.specs.Prelude.{ℕ, ◌/◌, ◌%◌, List, [], ◌++◌, codes, decimal, slice_get, unwrap_or}
use Rattle.std.specs.Option.{option_map}
use Rattle.settings.specs.Configuration.{Configuration}
use Rattle.settings.specs.Points.{point_text}
use Rattle.settings.specs.declared.point.PointFormat.{PointFormat}
use Rattle.console.specs.Names.{name_in, set_name_in}
use Rattle.served_link.specs.declared.alarm.Alarm.{Alarm}
use Rattle.served_link.specs.declared.alarm.Alarm.TheVariants as alarm

-- the point of a destination; nothing if none has this number
abbrev pub destination_name_in : PointFormat → Configuration → ℕ → List ℕ
destination_name_in points c destination =
    unwrap_or (option_map (λ row. point_text points row.point) (slice_get c.destinations destination)) []

-- the name of an alarm
abbrev pub alarm_name : PointFormat → Configuration → Alarm → List ℕ
alarm_name points c alarm.LostAny = codes "flag lost_any"
alarm_name points c alarm.LateAny = codes "flag late_any"
alarm_name points c alarm.Pool = codes "pool"
alarm_name points c alarm.Capture = codes "capture"
alarm_name points c alarm.Behind = codes "behind"
alarm_name points c (alarm.Link link) = codes "link " ++ name_in c link
alarm_name points c (alarm.Set set) = codes "set " ++ set_name_in c set
alarm_name points c (alarm.Destination destination) =
    codes "destination " ++ destination_name_in points c destination

-- milliseconds as seconds, with three digits behind the point
abbrev pub seconds_text : (ms : ℕ) → List ℕ
seconds_text ms =
    decimal (ms / 1000) ++ codes "." ++ decimal (ms / 100 % 10) ++ decimal (ms / 10 % 10) ++ decimal (ms % 10)
