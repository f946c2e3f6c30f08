-- The lines of the log that tell what changed at a node, without their time.
use Rattle.std.specs.Prelude.{ℕ, ◌-◌, Bool, true, false, List, [], ◌++◌, codes, decimal, Option, None, Some}
use Rattle.settings.specs.Configuration.{Configuration}
use Rattle.settings.specs.declared.point.PointFormat.{PointFormat}
use Rattle.console.specs.Names.{name_in, set_name_in}
use Rattle.served_link.specs.AlarmTexts.{alarm_name, destination_name_in, seconds_text}
use Rattle.served_link.specs.DestinationStates.{access_words}
use Rattle.served_link.specs.ServiceStates.{is_in_service, state_words}
use Rattle.served_link.specs.declared.alarm.Alarm.{Alarm}
use Rattle.served_link.specs.declared.alarms.AlarmChange.{AlarmChange}
use Rattle.served_link.specs.declared.alarms.AlarmChange.TheVariants.{Raised, Cleared}
use Rattle.served_link.specs.declared.destination_states.DestinationState.{DestinationState}
use Rattle.served_link.specs.declared.service_states.ServiceState.{ServiceState}
use Rattle.served_link.specs.declared.service_states.ServiceState.TheVariants as state
use Rattle.served_link.specs.declared.service_states.StateChange.{StateChange}

-- of the messages of a link that leaves service: how many aren't confirmed as they begin to change over, or that they
-- have changed over by now
abbrev pub left_service : (was_in_service : Bool) → List ℕ
left_service true = codes ", changed over"
left_service false = []

abbrev pub changeover_text : (was_in_service : Bool) → ServiceState → (waiting : ℕ) → List ℕ
changeover_text was_in_service state.InService waiting = []
changeover_text was_in_service state.UnderTest waiting = []
changeover_text was_in_service state.ProcessorOutage waiting = []
changeover_text was_in_service state.Aligning waiting = left_service was_in_service
changeover_text was_in_service state.ChangingOver waiting = codes ", " ++ decimal waiting ++ codes " unconfirmed"
changeover_text was_in_service state.Barred waiting = left_service was_in_service
changeover_text was_in_service state.Closing waiting = left_service was_in_service
changeover_text was_in_service state.NotYetInService waiting = left_service was_in_service
changeover_text was_in_service state.Failed waiting = left_service was_in_service
changeover_text was_in_service state.Deactivated waiting = left_service was_in_service

-- a link: its state, how long it was in the former one, and what becomes of its messages
abbrev pub link_change_text : Configuration → (link : ℕ) → StateChange → (waiting now : ℕ) → List ℕ
link_change_text c link change waiting now =
    codes "link " ++ name_in c link ++ codes " " ++ state_words change.state
    ++ codes " after " ++ seconds_text (now - change.former.since_ms) ++ codes " s " ++ state_words change.former.state
    ++ changeover_text (is_in_service change.former.state) change.state waiting

-- a set: whether a link of it is in service
abbrev pub availability : (is_available : Bool) → List ℕ
availability true = codes " available"
availability false = codes " unavailable"

abbrev pub set_change_text : Configuration → (set : ℕ) → (is_available : Bool) → List ℕ
set_change_text c set is_available = codes "set " ++ set_name_in c set ++ availability is_available

-- the sets that messages to a destination take
abbrev pub second_set : Configuration → Option ℕ → List ℕ
second_set c None = []
second_set c (Some set) = codes "+" ++ set_name_in c set

abbrev pub sets_by : Configuration → (first second : Option ℕ) → List ℕ
sets_by c None second = []
sets_by c (Some set) second = codes " by " ++ set_name_in c set ++ second_set c second

abbrev pub sets_text : Configuration → DestinationState → List ℕ
sets_text c found = sets_by c found.first found.second

-- a destination: whether messages have a way, and which sets they take
abbrev pub destination_change_text : PointFormat → Configuration → (destination : ℕ) → DestinationState → List ℕ
destination_change_text points c destination found =
    codes "destination " ++ destination_name_in points c destination ++ codes " " ++ access_words found.access
    ++ sets_text c found

-- an alarm: that it is raised, or that it is cleared, and how long it was raised
abbrev pub alarm_change_text : PointFormat → Configuration → Alarm → AlarmChange → (now : ℕ) → List ℕ
alarm_change_text points c alarm Raised now = codes "alarm " ++ alarm_name points c alarm
alarm_change_text points c alarm (Cleared since) now =
    codes "clear " ++ alarm_name points c alarm ++ codes " after " ++ seconds_text (now - since) ++ codes " s"
