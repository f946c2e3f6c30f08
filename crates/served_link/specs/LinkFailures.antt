-- Which timer fails a link, and the words on a failure.
use Rattle.std.specs.Prelude.{ℕ, List, [], ◌++◌, codes, Option, None, Some}
use Rattle.signalling_types.specs.Notices.{failure_name}
use Rattle.signalling_types.specs.declared.notice.FailureReason.{FailureReason}
use Rattle.signalling_types.specs.declared.notice.FailureReason.TheVariants.{Association, Timer, Sequence, Status}
use Rattle.signalling_types.specs.declared.notice.FailureReason.TheVariants.{Length, Changeover, Operator, Test}
use Rattle.exchange.specs.Calls.{Kept}
use Rattle.exchange.specs.KeptQueues.{kept}
use Rattle.exchange.specs.Views.{link_view, obstacle_at}
use Rattle.exchange.specs.declared.view.LinkStanding.{LinkStanding}
use Rattle.exchange.specs.declared.view.LinkStanding.TheVariants as standing
use Rattle.exchange.specs.declared.view.LinkView.{LinkView}
use Rattle.exchange.specs.declared.view.Obstacle.{Obstacle}
use Rattle.exchange.specs.declared.view.Obstacle.TheVariants.{PeerBusy, PeerOutage, Untested}
use Rattle.exchange_rules.specs.State.{QueueKind, State}
use Rattle.served_link.specs.AlarmTexts.{seconds_text}
use Rattle.served_link.specs.declared.link_failure.FailingTimer.{FailingTimer}
use Rattle.served_link.specs.declared.link_failure.FailingTimer.TheVariants.{L1, L2, L3, L6, L7, L6OrL7}
use Rattle.served_link.specs.declared.link_failure.LinkFailure.{LinkFailure}

-- ---- which timer fails a link if it runs out (Q.703 §12.3)

-- in service: L6 while the peer is busy, or its processor is out, else L7. Of a link under test neither is seen
abbrev pub timer_in_service : Option Obstacle → FailingTimer
timer_in_service None = L7
timer_in_service (Some PeerBusy) = L6
timer_in_service (Some PeerOutage) = L6
timer_in_service (Some Untested) = L6OrL7

-- L2 until the peer is aligned, L3 until it proves, and L1 until it is ready; L4, which ends proving, fails no link
abbrev pub failing_by : LinkStanding → Option Obstacle → Option FailingTimer
failing_by standing.Down obstacle = None
failing_by standing.NotAligned obstacle = Some L2
failing_by standing.Aligned obstacle = Some L3
failing_by standing.Proving obstacle = None
failing_by standing.AlignedReady obstacle = Some L1
failing_by standing.InService obstacle = Some (timer_in_service obstacle)

abbrev pub failing_of : Option LinkView → Option Obstacle → Option FailingTimer
failing_of None obstacle = None
failing_of (Some view) obstacle = failing_by view.standing obstacle

-- of a link of a node, if it is there
abbrev pub failing_at : {Q : Type 0} → QueueKind Q → State Q → (link : ℕ) → Option FailingTimer
failing_at q s link = failing_of (link_view q s link) (obstacle_at s link)

abbrev pub failing_timer : Kept → (link : ℕ) → Option FailingTimer
failing_timer s link = failing_at kept s link

-- ---- a failure

-- a timer ran out as the link failed, if that is the reason: the one that could fail it before
abbrev pub ran_out : FailureReason → Option FailingTimer → Option FailingTimer
ran_out Association timer = None
ran_out Timer timer = timer
ran_out Sequence timer = None
ran_out Status timer = None
ran_out Length timer = None
ran_out Changeover timer = None
ran_out Operator timer = None
ran_out Test timer = None

abbrev pub timer_suffix : Option FailingTimer → List ℕ
timer_suffix None = []
timer_suffix (Some L1) = codes " L1"
timer_suffix (Some L2) = codes " L2"
timer_suffix (Some L3) = codes " L3"
timer_suffix (Some L6) = codes " L6"
timer_suffix (Some L7) = codes " L7"
timer_suffix (Some L6OrL7) = codes " L6 or L7"

-- its reason, the timer that ran out, and when that was
abbrev pub failure_words : LinkFailure → List ℕ
failure_words f = failure_name f.reason ++ timer_suffix f.timer ++ codes " at " ++ seconds_text f.at_ms

abbrev pub failure_text : Option LinkFailure → List ℕ
failure_text None = codes "-"
failure_text (Some f) = failure_words f
