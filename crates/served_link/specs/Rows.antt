-- Rows worked by hand: the changeovers of a link that are counted by looks at it (Q.704 §5), and which timer failed it
-- (Q.703 §12.3).
use Rattle.std.specs.Prelude.{◌≡◌, ℕ, ◌-◌, ◌^◌, true, List, [], ◌∷◌, ◌++◌, codes, Option, None, Some}
use Rattle.signalling_types.specs.Notices.{failure_name}
use Rattle.signalling_types.specs.declared.notice.FailureReason.{FailureReason}
use Rattle.signalling_types.specs.declared.notice.FailureReason.TheVariants.{Association, Timer, Test}
use Rattle.exchange.specs.declared.view.LinkStanding.{LinkStanding}
use Rattle.exchange.specs.declared.view.LinkStanding.TheVariants as standing
use Rattle.exchange.specs.declared.view.Obstacle.{Obstacle}
use Rattle.exchange.specs.declared.view.Obstacle.TheVariants.{PeerBusy, PeerOutage, Untested}
use Rattle.served_link.specs.LinkFailures.{failing_by, failure_text, timer_suffix}
use Rattle.served_link.specs.declared.link_failure.FailingTimer.TheVariants.{L7}
use Rattle.served_link.specs.ServiceStates.{after_failure, at_start, seen_after, timed, timer_of}
use Rattle.served_link.specs.declared.service_states.ServiceState.{ServiceState}
use Rattle.served_link.specs.declared.service_states.ServiceState.TheVariants as state
use Rattle.served_link.specs.declared.service_states.StateSince.{StateSince}

-- how many are counted after each of these looks at a link, one after another
abbrev pub counted_by_each : List ServiceState → StateSince → List ℕ
counted_by_each [] link = []
counted_by_each (found ∷ more) link =
    (seen_after found 0 link).changeovers ∷ counted_by_each more (seen_after found 0 link)

-- a changeover counts as it ends, and once: not as it begins, nor while it lasts, nor by what the link does then
abbrev pub changeover_counts_as_it_ends : Type 0
changeover_counts_as_it_ends =
    counted_by_each
    (state.Aligning ∷ state.InService ∷ state.ProcessorOutage ∷ state.ChangingOver ∷ state.ChangingOver ∷
    state.Barred ∷ state.Failed ∷ state.Aligning ∷ state.UnderTest ∷ state.InService ∷ []) at_start
    ≡ 0 ∷ 0 ∷ 0 ∷ 0 ∷ 0 ∷ 1 ∷ 1 ∷ 1 ∷ 1 ∷ 1 ∷ []

-- one that begins and ends between two looks counts once, too
abbrev pub short_changeover_counts_once : Type 0
short_changeover_counts_once =
    counted_by_each
    (state.InService ∷ state.Closing ∷ state.Deactivated ∷ state.Aligning ∷ state.InService ∷ state.Barred ∷
    state.Failed ∷ state.InService ∷ state.ChangingOver ∷ state.Aligning ∷ []) at_start
    ≡ 0 ∷ 1 ∷ 1 ∷ 1 ∷ 1 ∷ 2 ∷ 2 ∷ 2 ∷ 2 ∷ 3 ∷ []

-- a link that fails before it is in service has nothing to change over
abbrev pub link_that_never_served_has_none : Type 0
link_that_never_served_has_none =
    counted_by_each (state.Aligning ∷ state.Closing ∷ state.NotYetInService ∷ state.Deactivated ∷ []) at_start
    ≡ 0 ∷ 0 ∷ 0 ∷ 0 ∷ []

-- the greatest count stays
abbrev pub greatest_count_stays : Type 0
greatest_count_stays =
    counted_by_each (state.Closing ∷ [])
    (record at_start { state = state.ChangingOver; was_available = true; changeovers = 2 ^ 64 - 1 })
    ≡ (2 ^ 64 - 1) ∷ []

-- ---- which timer failed a link

-- what the log tells, behind its name, of a link that stood so as a tick began, and fails for this reason
abbrev pub told_as : LinkStanding → Option Obstacle → FailureReason → List ℕ
told_as standing obstacle reason =
    failure_name reason ++ timer_suffix (timer_of reason (Some (timed (failing_by standing obstacle) at_start)))

-- T2: the peer doesn't align. T3: it is aligned, and doesn't prove. T1: this end is ready, and the peer isn't
abbrev pub peer_that_does_not_align : Type 0
peer_that_does_not_align = told_as standing.NotAligned None Timer ≡ codes "timer L2"

abbrev pub peer_that_does_not_prove : Type 0
peer_that_does_not_prove = told_as standing.Aligned None Timer ≡ codes "timer L3"

abbrev pub peer_that_is_not_ready : Type 0
peer_that_is_not_ready = told_as standing.AlignedReady None Timer ≡ codes "timer L1"

-- T6: the peer stays busy, or its processor out. T7: it takes messages, and confirms none
abbrev pub peer_that_stays_busy : Type 0
peer_that_stays_busy = told_as standing.InService (Some PeerBusy) Timer ≡ codes "timer L6"

abbrev pub processor_that_stays_out : Type 0
processor_that_stays_out = told_as standing.InService (Some PeerOutage) Timer ≡ codes "timer L6"

abbrev pub peer_that_confirms_nothing : Type 0
peer_that_confirms_nothing = told_as standing.InService None Timer ≡ codes "timer L7"

abbrev pub link_under_test : Type 0
link_under_test = told_as standing.InService (Some Untested) Timer ≡ codes "timer L6 or L7"

-- two tests in a row that aren't answered (Q.707 §2.2) are a reason of their own, and no timer of Q.703
abbrev pub tests_that_are_not_answered : Type 0
tests_that_are_not_answered = told_as standing.InService None Test ≡ codes "test"

-- nor is one told of a link that fails in another way, or hasn't failed
abbrev pub association_that_is_lost : Type 0
association_that_is_lost = told_as standing.InService None Association ≡ codes "association"

abbrev pub link_that_never_failed : Type 0
link_that_never_failed = failure_text at_start.failure ≡ codes "-"

-- and the failure is shown until the next one, whatever state the link is in then
abbrev pub failure_lasts : Type 0
failure_lasts =
    (seen_after state.Aligning 13000 (seen_after state.Closing 12400
    (after_failure Timer 12345 (timed (Some L7) at_start)))).failure
    ≡ Some (record { reason = Timer; timer = Some L7; at_ms = 12345 })
