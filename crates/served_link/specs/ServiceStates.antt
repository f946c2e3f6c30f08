-- The states of links as an operator sees them, and what a look changes.
use Rattle.std.specs.Prelude.{ℕ, ◌+◌, Bool, true, false, ◌&&◌, ◌||◌, not, List, codes, replicate, slice_index_or, slice_set, if◌then◌else◌, Option, None, Some, nat_eq}
use Rattle.signalling_types.specs.declared.notice.FailureReason.{FailureReason}
use Rattle.served_link.specs.LinkFailures.{ran_out}
use Rattle.served_link.specs.Saturating.{saturated}
use Rattle.served_link.specs.declared.link_failure.FailingTimer.{FailingTimer}
use Rattle.served_link.specs.declared.service_states.ServiceState.{ServiceState}
use Rattle.served_link.specs.declared.service_states.ServiceState.TheVariants as state
use Rattle.served_link.specs.declared.service_states.StateChange.{StateChange}
use Rattle.served_link.specs.declared.service_states.StateSince.{StateSince}

-- the words of a state
abbrev pub state_words : ServiceState → List ℕ
state_words state.InService = codes "in service"
state_words state.UnderTest = codes "under test"
state_words state.ProcessorOutage = codes "processor outage"
state_words state.Aligning = codes "aligning"
state_words state.ChangingOver = codes "changing over"
state_words state.Barred = codes "barred"
state_words state.Closing = codes "closing"
state_words state.NotYetInService = codes "not in service yet"
state_words state.Failed = codes "failed"
state_words state.Deactivated = codes "deactivated"

-- the states by number
abbrev pub state_number : ServiceState → ℕ
state_number state.InService = 0
state_number state.UnderTest = 1
state_number state.ProcessorOutage = 2
state_number state.Aligning = 3
state_number state.ChangingOver = 4
state_number state.Barred = 5
state_number state.Closing = 6
state_number state.NotYetInService = 7
state_number state.Failed = 8
state_number state.Deactivated = 9

-- a link is aligned and proved (Q.703 §7)
abbrev pub is_in_service : ServiceState → Bool
is_in_service state.InService = true
is_in_service state.UnderTest = true
is_in_service state.ProcessorOutage = true
is_in_service state.Aligning = false
is_in_service state.ChangingOver = false
is_in_service state.Barred = false
is_in_service state.Closing = false
is_in_service state.NotYetInService = false
is_in_service state.Failed = false
is_in_service state.Deactivated = false

-- a link is available in service alone (Q.704 §3.2.1): blocked it isn't (§3.2.6), nor before its first test (Q.707 §2.2)
abbrev pub is_available : ServiceState → Bool
is_available state.InService = true
is_available state.UnderTest = false
is_available state.ProcessorOutage = false
is_available state.Aligning = false
is_available state.ChangingOver = false
is_available state.Barred = false
is_available state.Closing = false
is_available state.NotYetInService = false
is_available state.Failed = false
is_available state.Deactivated = false

-- the messages of a link change over, and that isn't over (Q.704 §5)
abbrev pub is_changing_over : ServiceState → Bool
is_changing_over state.InService = false
is_changing_over state.UnderTest = false
is_changing_over state.ProcessorOutage = false
is_changing_over state.Aligning = false
is_changing_over state.ChangingOver = true
is_changing_over state.Barred = false
is_changing_over state.Closing = false
is_changing_over state.NotYetInService = false
is_changing_over state.Failed = false
is_changing_over state.Deactivated = false

-- as a node starts its links are out of service, wait for an association, were never available, and neither changed
-- over nor failed
abbrev pub at_start : StateSince
at_start = record {
  state = state.NotYetInService;
  since_ms = 0;
  was_available = false;
  changeovers = 0;
  timer = None;
  failure = None;
}

abbrev pub first_links : ℕ → List StateSince
first_links links = replicate links at_start

abbrev pub same_state : (a b : ServiceState) → Bool
same_state a b = nat_eq (state_number a) (state_number b)

-- a link that may open has failed only if it was available before
abbrev pub may_open_as : (was_available : Bool) → ServiceState
may_open_as false = state.NotYetInService
may_open_as true = state.Failed

abbrev pub seen_as : (was_available : Bool) → ServiceState → ServiceState
seen_as was_available state.InService = state.InService
seen_as was_available state.UnderTest = state.UnderTest
seen_as was_available state.ProcessorOutage = state.ProcessorOutage
seen_as was_available state.Aligning = state.Aligning
seen_as was_available state.ChangingOver = state.ChangingOver
seen_as was_available state.Barred = state.Barred
seen_as was_available state.Closing = state.Closing
seen_as was_available state.NotYetInService = may_open_as was_available
seen_as was_available state.Failed = may_open_as was_available
seen_as was_available state.Deactivated = state.Deactivated

-- what a look changes that finds a link in this state: nothing, if it is seen as before
abbrev pub change_to : (seen : ServiceState) → StateSince → Option StateChange
change_to seen link = if same_state link.state seen then None else Some (record { former = link; state = seen })

abbrev pub change_of : (found : ServiceState) → StateSince → Option StateChange
change_of found link = change_to (seen_as link.was_available found) link

abbrev pub change_at : (found : ServiceState) → Option StateSince → Option StateChange
change_at found None = None
change_at found (Some link) = change_of found link

-- a changeover of a link ended between two looks: the link was changing over by the first, or left service since, and
-- isn't changing over by the second
abbrev pub has_changed_over : (former state : ServiceState) → Bool
has_changed_over former state =
    (is_changing_over former || (is_in_service former && not (is_in_service state))) && not (is_changing_over state)

-- how many changeovers of a link ended by now, all in all
abbrev pub changeovers_by : StateChange → ℕ
changeovers_by change =
    if has_changed_over change.former.state change.state
    then saturated (change.former.changeovers + 1)
    else change.former.changeovers

-- how it is seen after the look: since then, if it wasn't seen so before
abbrev pub after_change : Option StateChange → (found : ServiceState) → (now : ℕ) → StateSince → StateSince
after_change None found now link = link
after_change (Some change) found now link = record link {
  state = change.state;
  since_ms = now;
  was_available = link.was_available || is_available found;
  changeovers = changeovers_by change;
}

abbrev pub seen_after : (found : ServiceState) → (now : ℕ) → StateSince → StateSince
seen_after found now link = after_change (change_of found link) found now link

-- the links after a look at one of them
abbrev pub links_after : (link : ℕ) → (found : ServiceState) → (now : ℕ) → List StateSince → List StateSince
links_after link found now links = slice_set links link (seen_after found now (slice_index_or links link at_start))

-- ---- failures

-- a link, of which this timer may run out next
abbrev pub timed : Option FailingTimer → StateSince → StateSince
timed timer link = record link { timer = timer }

abbrev pub timed_at : (link : ℕ) → Option FailingTimer → List StateSince → List StateSince
timed_at link timer links = slice_set links link (timed timer (slice_index_or links link at_start))

-- a link that failed for this reason: a timer ran out if that is the reason
abbrev pub after_failure : FailureReason → (now : ℕ) → StateSince → StateSince
after_failure reason now link =
    record link { failure = Some (record { reason = reason; timer = ran_out reason link.timer; at_ms = now }) }

abbrev pub failed_at : (link : ℕ) → FailureReason → (now : ℕ) → List StateSince → List StateSince
failed_at link reason now links =
    slice_set links link (after_failure reason now (slice_index_or links link at_start))

abbrev pub timer_of : FailureReason → Option StateSince → Option FailingTimer
timer_of reason None = None
timer_of reason (Some link) = ran_out reason link.timer
