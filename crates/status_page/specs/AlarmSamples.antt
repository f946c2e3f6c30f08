-- The samples of alarms.
use Rattle.std.specs.Prelude.{ℕ, List, [], ◌++◌, codes, length, nat_lt, slice_index_or, Bool, true, false, if◌then◌else◌, Option, None, Some}
use Rattle.settings.specs.Configuration.{Configuration}
use Rattle.settings.specs.declared.point.PointFormat.{PointFormat}
use Rattle.exchange_rules.specs.State.{State}
use Rattle.console.specs.Names.{name_in, set_name_in}
use Rattle.served_link.specs.Alarms.{alarm_at}
use Rattle.served_link.specs.declared.alarm.Alarm.{Alarm}
use Rattle.served_link.specs.declared.alarm.Alarm.TheVariants as alarm
use Rattle.status_page.specs.Each.{each}
use Rattle.status_page.specs.Facts.{NodeFacts}
use Rattle.status_page.specs.Places.{destination_text}
use Rattle.status_page.specs.Samples.{text_if}
use Rattle.status_page.specs.declared.family.Family.{Family}

-- what an alarm is about, in a word
abbrev pub alarm_word : Alarm → List ℕ
alarm_word alarm.LostAny = codes "flag"
alarm_word alarm.LateAny = codes "flag"
alarm_word alarm.Pool = codes "pool"
alarm_word alarm.Capture = codes "capture"
alarm_word alarm.Behind = codes "behind"
alarm_word (alarm.Link link) = codes "link"
alarm_word (alarm.Set set) = codes "set"
alarm_word (alarm.Destination destination) = codes "destination"

-- the name of that; an alarm about the node as a whole has none
abbrev pub alarm_subject : PointFormat → Configuration → Alarm → List ℕ
alarm_subject points c alarm.LostAny = codes "lost_any"
alarm_subject points c alarm.LateAny = codes "late_any"
alarm_subject points c alarm.Pool = []
alarm_subject points c alarm.Capture = []
alarm_subject points c alarm.Behind = []
alarm_subject points c (alarm.Link link) = name_in c link
alarm_subject points c (alarm.Set set) = set_name_in c set
alarm_subject points c (alarm.Destination destination) = destination_text points c destination

abbrev pub alarm_labels : PointFormat → Configuration → Alarm → List ℕ
alarm_labels points c alarm =
    codes "{alarm=\"" ++ alarm_word alarm ++ codes "\",name=\"" ++ alarm_subject points c alarm ++ codes "\"}"

-- whether an alarm is shown while it isn't raised: those of destinations, which may be thousands, aren't, nor are those
-- of links and sets that aren't there
abbrev pub is_shown_clear : Configuration → Alarm → Bool
is_shown_clear c alarm.LostAny = true
is_shown_clear c alarm.LateAny = true
is_shown_clear c alarm.Pool = true
is_shown_clear c alarm.Capture = true
is_shown_clear c alarm.Behind = true
is_shown_clear c (alarm.Link link) = nat_lt link (length c.links)
is_shown_clear c (alarm.Set set) = nat_lt set (length c.sets)
is_shown_clear c (alarm.Destination destination) = false

-- 1 if it is raised, else 0, if it is shown
abbrev pub alarm_value : Configuration → Alarm → (since : Option ℕ) → Option ℕ
alarm_value c alarm (Some since) = Some 1
alarm_value c alarm None = if is_shown_clear c alarm then Some 0 else None

abbrev pub alarm_text : Configuration → PointFormat → Family → Option Alarm → (since : Option ℕ) → List ℕ
alarm_text c points family None since = []
alarm_text c points family (Some alarm) since =
    text_if (alarm_value c alarm since) family (alarm_labels points c alarm)

-- the sample of the alarm at a place of the table
unfoldable pub alarm_sample : {Q : Type 0} → State Q → NodeFacts → Family → (place : ℕ) → List ℕ
alarm_sample s f family place =
    alarm_text s.settings f.points family (alarm_at place) (slice_index_or f.alarms place None)

-- the samples of all alarms
abbrev pub alarm_samples : {Q : Type 0} → State Q → NodeFacts → Family → List ℕ
alarm_samples s f family = each (alarm_sample s f family) (length f.alarms)
