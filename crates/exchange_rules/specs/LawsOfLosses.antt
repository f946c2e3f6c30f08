-- Each loss is among the notices of its event, and counted: laws.
use Rattle.std.specs.Prelude.{Bool, if◌then◌else◌, List, None, Option, Some, [], ◌∷◌, count_by, false, filter, length, map, not, suc, true, zero, ℕ, ◌*◌, ◌+◌, ◌++◌, ◌≡◌, ◌≤◌}
use Rattle.signalling_types.specs.Message.{Message, dpc_of, flow_of}
use Rattle.signalling_types.specs.declared.cause.Cause.{Cause}
use Rattle.signalling_types.specs.declared.cause.Cause.TheVariants.{LostUnconfirmed, NoRoute}
use Rattle.signalling_types.specs.declared.notice.Notice.{Notice}
use Rattle.signalling_types.specs.declared.notice.Notice.TheVariants as notices
use Rattle.signalling_types.specs.declared.notice.LateTimer.TheVariants as late_timer
use Rattle.signalling_types.specs.declared.notice.ChangeoverTimer.TheVariants as changeover_timer
use Rattle.settings.specs.Configuration.{Configuration}
use Rattle.timers.specs.declared.name.TimerName.{TimerName}
use Rattle.timers.specs.declared.name.TimerName.TheVariants.{T3, T4}
use Rattle.timers.specs.Timers.{due_count, due_name, ticked}
use Rattle.route_management.specs.Told.{owed}
use Rattle.exchange_rules.specs.State.{FrameCame, Ticked, Happening, Node, Parts, noted_all, once_more, noted}
use Rattle.exchange_rules.specs.ChangingOver.{bars}
use Rattle.exchange_rules.specs.Telling.{send_anew, send_on, send_routed}
use Rattle.exchange_rules.specs.Routing.{facts, link_of, no_room}
use Rattle.exchange_rules.specs.Exchange.{after, handle_event, release, run_next, taken, with_timers}
use Rattle.exchange_rules.specs.Queues.{WholeQueues, whole}
use Rattle.exchange_rules.specs.First.{Abstract}
use Rattle.exchange_rules.specs.Lasting.{tells_of_lateness}
use Rattle.exchange_rules.specs.Conserving.{gone, gone_by, gone_by_release}
use Rattle.exchange_rules.specs.GivingUpEvents.{expired_of, unsent_of}

-- the notice that names a message as lost
abbrev pub naming : Cause → Message → Notice
naming cause m = notices.Lost cause (flow_of m).point (flow_of m).sls

-- whether a notice names a user message as lost
abbrev pub names_a_message : Notice → Bool
names_a_message (notices.Lost cause point sls) = true
names_a_message (notices.Unsent cause point) = false
names_a_message (notices.Expired timer link) = false
names_a_message (notices.Unbarred by link) = false
names_a_message (notices.Refused cause link) = false
names_a_message (notices.Frame fault link) = false
names_a_message (notices.Failed link why) = false
names_a_message (notices.Late timer number) = false

abbrev pub names_none : Notice → Bool
names_none notice = not (names_a_message notice)

-- what happened this often was counted each time
abbrev pub counted : ℕ → (times : ℕ) → ℕ
counted zero times = times
counted (suc more) times = counted more (once_more times)

-- whether a notice says that management was sent in vain
abbrev pub tells_unsent : Notice → Bool
tells_unsent (notices.Unsent cause point) = true
tells_unsent (notices.Lost cause point sls) = false
tells_unsent (notices.Expired timer link) = false
tells_unsent (notices.Unbarred by link) = false
tells_unsent (notices.Refused cause link) = false
tells_unsent (notices.Frame fault link) = false
tells_unsent (notices.Failed link why) = false
tells_unsent (notices.Late timer number) = false

-- or that T2 ran out, or that a link is barred no longer though its answer didn't come
abbrev pub tells_of_t2 : Notice → Bool
tells_of_t2 (notices.Expired changeover_timer.T2 link) = true
tells_of_t2 (notices.Expired changeover_timer.T1 link) = false
tells_of_t2 (notices.Unbarred by link) = true
tells_of_t2 (notices.Unsent cause point) = false
tells_of_t2 (notices.Lost cause point sls) = false
tells_of_t2 (notices.Refused cause link) = false
tells_of_t2 (notices.Frame fault link) = false
tells_of_t2 (notices.Failed link why) = false
tells_of_t2 (notices.Late timer number) = false

-- the reasons for which flags rise: the notices of each kind, in order, how many completions were in doubt, and how
-- many changeovers ended so that it isn't known for sure what the other end has
pub record Reasons : Type 0 where
  pub lost : List Notice
  pub unsent : List Notice
  pub expired : List Notice
  pub late : List Notice
  pub doubts : ℕ
  pub breaks : ℕ

-- how often `lost_any` rises for them, and `late_any`
abbrev pub losses : Reasons → ℕ
losses r = length r.lost + length r.unsent + length r.expired + r.doubts

abbrev pub latenesses : Reasons → ℕ
latenesses r = length r.late

-- Some notices were made. Those that name a message as lost, that tell of management sent in vain, of T2, and of
-- lateness are those of the reasons, in order; and at most `others` name no message. Each possible loss was counted,
-- each possible lateness, each message that is named as lost, and each break, and no other.
pub record AreAccounted (r : Reasons) (others : ℕ) (old new : Parts) : Type 0 where
  pub made : List Notice
  pub noted : new.notices ≡ noted_all made old.notices
  pub names : filter names_a_message made ≡ r.lost
  pub unsent : filter tells_unsent made ≡ r.unsent
  pub expired : filter tells_of_t2 made ≡ r.expired
  pub lates : filter tells_of_lateness made ≡ r.late
  pub few : count_by names_none made ≤ others
  pub times_lost : new.times_lost ≡ counted (losses r) old.times_lost
  pub times_late : new.times_late ≡ counted (latenesses r) old.times_late
  pub messages_lost : new.messages_lost ≡ counted (length r.lost) old.messages_lost
  pub times_broken : new.times_broken ≡ counted r.breaks old.times_broken

-- the node that an event leaves before it is told what adjacent points are owed
abbrev pub released : Happening → Abstract → Node WholeQueues
released what a = release whole a.settings (handle_event whole a.settings what a.node).left

-- the notices that name what an event loses: first by completions, then by the release at its end
abbrev pub losses_of : Happening → Abstract → List Notice
losses_of what a =
    map (naming LostUnconfirmed) (gone_by what a).lost
    ++ map (naming NoRoute) (gone_by_release a.settings (handle_event whole a.settings what a.node).left).lost

-- the notice of the timer that ends the holds of a changeback: T3 of those by time, T4 of those of a code
abbrev pub late_by_timer : Option TimerName → List Notice
late_by_timer (Some (T3 link)) = notices.Late late_timer.T3 link ∷ []
late_by_timer (Some (T4 set code)) = notices.Late late_timer.T4 code ∷ []
late_by_timer other = []

-- those of the timers that run at a tick, each as it runs
abbrev pub late_by_timers : ℕ → Configuration → Node WholeQueues → List Notice
late_by_timers zero c node = []
late_by_timers (suc more) c node =
    late_by_timer (due_name node.parts.timers) ++ late_by_timers more c (run_next whole c node)

abbrev pub late_by_tick : Configuration → Node WholeQueues → List Notice
late_by_tick c node =
    late_by_timers (due_count (ticked node.parts.timers)) c (with_timers node (ticked node.parts.timers))

-- the notices of the lateness of an event
abbrev pub lateness_of : Happening → Abstract → List Notice
lateness_of Ticked a = late_by_tick a.settings a.node
lateness_of what a = []

-- how many rules an event runs: at a tick one for each timer that is due
abbrev pub rules_run : Happening → Parts → ℕ
rules_run Ticked p = due_count (ticked p.timers)
rules_run what p = 1

-- how many orders may go out late at most: one for each link
abbrev pub late_orders : Happening → Configuration → ℕ
late_orders (FrameCame link text) c = if c.changeover_by_any_route then length c.links else 0
late_orders Ticked c = if c.changeover_by_any_route then length c.links else 0
late_orders what c = 0

-- the most notices of other kinds: three for each rule, one for each message that a completion queues again, one for
-- each order that goes out late, and one for each status that an adjacent point is owed
abbrev pub others_of : Happening → Abstract → ℕ
others_of what a =
    length (gone_by what a).queued_anew + (late_orders what a.settings + 3 * rules_run what a.node.parts)
    + length (owed (facts a.settings (released what a).parts) (released what a).parts.told)

-- whether a notice says that the answer to an order isn't awaited any more, though it didn't come: that a link isn't
-- barred any longer, or, where none is, that T2 ran out
abbrev pub ends_a_wait : (bars : Bool) → Notice → Bool
ends_a_wait bars (notices.Unbarred by link) = true
ends_a_wait bars (notices.Expired changeover_timer.T2 link) = not bars
ends_a_wait bars (notices.Expired changeover_timer.T1 link) = false
ends_a_wait bars (notices.Unsent cause point) = false
ends_a_wait bars (notices.Lost cause point sls) = false
ends_a_wait bars (notices.Refused cause link) = false
ends_a_wait bars (notices.Frame fault link) = false
ends_a_wait bars (notices.Failed link why) = false
ends_a_wait bars (notices.Late timer number) = false

abbrev pub waits_ended : (bars : Bool) → List Notice → ℕ
waits_ended bars notices = count_by (ends_a_wait bars) notices

-- the reasons of an event
abbrev pub reasons_of : Happening → Abstract → Reasons
reasons_of what a = record {
  lost = losses_of what a;
  unsent = unsent_of what a;
  expired = expired_of what a;
  late = lateness_of what a;
  doubts = (gone what a).doubts;
  breaks = waits_ended (bars a.settings) (expired_of what a) + (gone what a).wrong;
}

-- The notices of an event that name a message as lost are those of what it loses; those of management sent in vain are
-- of what it sends so; those of T2 and of lateness are of T2, T3 and T4 that run out. It counts a possible loss for each
-- of the first three, and for each completion without a reasonable number; and a possible lateness for each of the last.
-- It counts each message that is named as lost; and a break for each answer that isn't awaited any more though it
-- didn't come, and for each number of a completion that names no count.
abbrev pub events_account_for_losses : Type 0
events_account_for_losses =
    (what : Happening) (a : Abstract) →
    AreAccounted (reasons_of what a) (others_of what a) a.node.parts (after whole what a).node.parts

-- a take counts none of these
abbrev pub takes_flag_nothing : Type 0
takes_flag_nothing =
    (a : Abstract) (link : ℕ) →
    ((taken whole a link).node.parts.times_lost ≡ a.node.parts.times_lost)
    × ((taken whole a link).node.parts.times_late ≡ a.node.parts.times_late)
    × ((taken whole a link).node.parts.messages_lost ≡ a.node.parts.messages_lost)
    × ((taken whole a link).node.parts.times_broken ≡ a.node.parts.times_broken)

-- ---- management that is given up

-- a message made here is given up: that is named, with why and the point that it was for, and counts as a possible
-- loss; nothing else changes
pub record IsGivenUp (cause : Cause) (m : Message) (old new : Node WholeQueues) : Type 0 where
  pub queues : new.queues ≡ old.queues
  pub parts : new.parts ≡ record old.parts {
    notices = noted (notices.Unsent cause (dpc_of m)) old.parts.notices;
    times_lost = once_more old.parts.times_lost;
  }

-- it goes to the end of a link's queue, and nothing else changes; but without room or a link it is given up
pub record IsPlaced (room : Option Cause) (link : Option ℕ) (m : Message) (old new : Node WholeQueues) : Type 0 where
  pub queued : (its : ℕ) → room ≡ None → link ≡ Some its →
      new ≡ record old { queues = whole.appended old.queues its m }
  pub full : (cause : Cause) → room ≡ Some cause → IsGivenUp cause m old new
  pub stranded : room ≡ None → link ≡ None → IsGivenUp NoRoute m old new

-- so it is with a message that goes by its flow, with one that goes by a given link, and with one that is queued anew
-- and has its room
pub record IsSent (c : Configuration) (link : ℕ) (m : Message) (node : Node WholeQueues) : Type 0 where
  pub routed : IsPlaced (no_room whole c m node.queues) (link_of c node.parts (flow_of m)) m node
      (send_routed whole c m node)
  pub answered : IsPlaced (no_room whole c m node.queues) (Some link) m node (send_on whole c link m node)
  pub anew : IsPlaced None (link_of c node.parts (flow_of m)) m node (send_anew whole c m node)

abbrev pub management_is_named : Type 0
management_is_named =
    (c : Configuration) (link : ℕ) (m : Message) (node : Node WholeQueues) → IsSent c link m node
