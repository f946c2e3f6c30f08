-- What the log is told of what is found at a node.
use Rattle.std.specs.Prelude.{◌≡◌, ℕ, zero, suc, Bool, true, false, not, List, [], ◌∷◌, Option, None, Some, is_some}
use Rattle.std.specs.Prelude.{slice_get, slice_set, unwrap_or}
use Rattle.std.specs.Option.{option_map}
use Rattle.std.specs.declared.time.Duration.{Duration}
use Rattle.settings.specs.Configuration.{Configuration}
use Rattle.settings.specs.declared.point.PointFormat.{PointFormat}
use Rattle.exchange.specs.Calls.{Kept}
use Rattle.script.specs.Streams.{Output}
use Rattle.served_link.specs.Alarms.{change_at, noted, place_of}
use Rattle.served_link.specs.DestinationStates.{is_changed, is_closed}
use Rattle.served_link.specs.LogLines.{alarm_change_text, destination_change_text, link_change_text, set_change_text}
use Rattle.served_link.specs.LinkFailures.{failing_timer}
use Rattle.served_link.specs.ServiceStates.{change_at as state_change_at, is_available, links_after, timed_at}
use Rattle.served_link.specs.declared.alarm.Alarm.{Alarm}
use Rattle.served_link.specs.declared.alarm.Alarm.TheVariants as alarm
use Rattle.served_link.specs.declared.alarms.AlarmChange.{AlarmChange}
use Rattle.served_link.specs.declared.destination_states.DestinationState.{DestinationState}
use Rattle.served_link.specs.declared.service_states.ServiceState.{ServiceState}
use Rattle.served_link.specs.declared.service_states.StateChange.{StateChange}
use Rattle.served_link.specs.declared.service_states.StateSince.{StateSince}
use Rattle.served_link.specs.declared.unavailable.Unavailable.{Unavailable}
use Rattle.served_node.specs.Logging.{Writes, line_of, timed}

-- what was last seen of a node: since when each alarm is raised, and its links and destinations; for how long each link
-- and each set was unavailable; the destination at which the next look begins, and how points are shown
pub record Watched : Type 0 where
  pub alarms : List (Option ℕ)
  pub links : List StateSince
  pub destinations : List DestinationState
  pub link_times : List Unavailable
  pub set_times : List Unavailable
  pub next : ℕ
  pub points : PointFormat

-- the lines of these texts were written at this time, one after another
abbrev pub TellsEach : (now : Duration) → List (List ℕ) → (old new : Output) → Type 0
TellsEach now [] old new = new ≡ old
TellsEach now (text ∷ texts) old new =
    (between : Output) × Writes (line_of (timed now text)) old between × TellsEach now texts between new

-- whether a link was in service when it was last seen
abbrev pub is_available_in : List StateSince → (link : ℕ) → Bool
is_available_in links link = unwrap_or (option_map (λ seen. is_available seen.state) (slice_get links link)) false

-- ---- an alarm that is to be raised or isn't

abbrev pub alarm_change : Alarm → (is_on : Bool) → Watched → Option AlarmChange
alarm_change alarm is_on w = change_at is_on (slice_get w.alarms (place_of alarm))

abbrev pub after_alarm : Alarm → (is_on : Bool) → (now : ℕ) → Watched → Watched
after_alarm alarm is_on now w = record w { alarms = noted alarm is_on now w.alarms }

-- a line if it is raised or cleared, and these behind it
abbrev pub alarm_texts :
    PointFormat → Configuration → Alarm → Option AlarmChange → (now : ℕ) → List (List ℕ) → List (List ℕ)
alarm_texts points c alarm None now behind = []
alarm_texts points c alarm (Some change) now behind = alarm_change_text points c alarm change now ∷ behind

-- ---- a set of which a link is in service, or none is

abbrev pub set_texts : Configuration → (set : ℕ) → (is_available : Bool) → (now : ℕ) → Watched → List (List ℕ)
set_texts c set is_available now w =
    alarm_texts w.points c (alarm.Set set) (alarm_change (alarm.Set set) (not is_available) w) now
    (set_change_text c set is_available ∷ [])

-- ---- a link in this state

abbrev pub after_link : (link : ℕ) → (found : ServiceState) → (now : ℕ) → Watched → Watched
after_link link found now w =
    after_alarm (alarm.Link link) (not (is_available found)) now
    (record w { links = links_after link found now w.links })

-- a tick begins: by which timer each of the first links fails if it runs out
abbrev pub with_timers : Kept → (links : ℕ) → List StateSince → List StateSince
with_timers s zero states = states
with_timers s (suc link) states = timed_at link (failing_timer s link) (with_timers s link states)

-- a line if its state changed, and these behind it
abbrev pub link_texts_by :
    Option StateChange → Configuration → (link waiting now : ℕ) → List (List ℕ) → List (List ℕ)
link_texts_by None c link waiting now behind = behind
link_texts_by (Some change) c link waiting now behind = link_change_text c link change waiting now ∷ behind

abbrev pub link_texts : Configuration → (link : ℕ) → (found : ServiceState) → (waiting now : ℕ) → Watched → List (List ℕ)
link_texts c link found waiting now w =
    link_texts_by (state_change_at found (slice_get w.links link)) c link waiting now
    (alarm_texts w.points c (alarm.Link link) (alarm_change (alarm.Link link) (not (is_available found)) w) now [])

-- ---- a destination in this state

abbrev pub after_destination : (number : ℕ) → (found : DestinationState) → (now : ℕ) → Watched → Watched
after_destination number found now w =
    after_alarm (alarm.Destination number) (is_closed found.access) now
    (record w { destinations = slice_set w.destinations number found })

-- a line if it was in another state before, and these behind it
abbrev pub destination_texts_by :
    (is_changed : Bool) → PointFormat → Configuration → (number : ℕ) → DestinationState → List (List ℕ) → List (List ℕ)
destination_texts_by false points c number found behind = behind
destination_texts_by true points c number found behind = destination_change_text points c number found ∷ behind

abbrev pub destination_texts :
    Configuration → (number : ℕ) → (found : DestinationState) → (now : ℕ) → Watched → List (List ℕ)
destination_texts c number found now w =
    destination_texts_by (is_changed found (slice_get w.destinations number)) w.points c number found
    (alarm_texts w.points c (alarm.Destination number)
    (alarm_change (alarm.Destination number) (is_closed found.access) w) now [])
