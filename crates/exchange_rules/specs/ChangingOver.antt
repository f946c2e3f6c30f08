-- TCOC, changeover control (Q.704 §5, with the numbers of Q.2210): the flows that a changeover holds, and how it
-- begins, goes on and ends.
use Rattle.std.specs.Prelude.{ℕ, zero, suc, Bool, ◌&&◌, ◌||◌, not, nat_eq, List, length, Some, is_some, true, false, if◌then◌else◌, [], ◌∷◌, Option, None}
use Rattle.std.specs.List.{list_any}
use Rattle.std.specs.Option.{option_eq}
use Rattle.signalling_types.specs.Message.{Message, flow_of, is_management}
use Rattle.settings.specs.Configuration.{Configuration}
use Rattle.settings.specs.Readings.{destination_place}
use Rattle.routes.specs.Routes.{Facts, chosen_link, has_link, set_at}
use Rattle.flow_hold.specs.declared.procedure.Procedure.TheVariants.{Changeover}
use Rattle.flow_hold.specs.Holds.{with_flows, lifted}
use Rattle.exchange_rules.specs.State.{Parts, ◌▷◌, QueueKind, Node, with_parts, link_at, links_with, in_service, note, unless◌then◌else◌, Done, Found, answer, is_link, down, flagged, counted_lost, broken_if}
use Rattle.exchange_rules.specs.Routing.{facts, goes_by, entry_of, set_of, peer_of, link_of}
use Rattle.signalling_types.specs.declared.notice.FailureReason.{FailureReason}
use Rattle.signalling_types.specs.declared.notice.FailureReason.TheVariants as reasons
use Rattle.signalling_types.specs.declared.notice.Notice.{Notice}
use Rattle.signalling_types.specs.declared.notice.Notice.TheVariants as notices
use Rattle.signalling_types.specs.declared.notice.Unbarring.TheVariants as unbarring
use Rattle.mtp3_codec.specs.declared.management.Management.TheVariants.{ExtendedChangeoverOrder, ExtendedChangeoverAcknowledgement}
use Rattle.timers.specs.declared.name.TimerName.TheVariants.{T1, T2}
use Rattle.timers.specs.Timers.{Running, set_timer, clear_timer}
use Rattle.changeover.specs.Changeover.{Standing, standing_at, with_standing, is_unasked, with_order, failed, begun_by_peer, completed, acknowledged, awaits_incomplete, stays_awaited}
use Rattle.node_links.specs.NodeLinks.{after_failure}
use Rattle.exchange_rules.specs.Timing.{without_timers}
use Rattle.exchange_rules.specs.Telling.{management_to, send_routed, send_anew}
use Rattle.exchange_rules.specs.Rerouting.{without_tests}
use Rattle.signalling_types.specs.declared.cause.Cause.{Cause}
use Rattle.signalling_types.specs.declared.cause.Cause.TheVariants.{LostUnconfirmed}
use Rattle.signalling_types.specs.declared.outcome.Outcome.TheVariants.{Handled, Ignored}
use Rattle.signalling_types.specs.declared.notice.ChangeoverTimer.{ChangeoverTimer}
use Rattle.signalling_types.specs.declared.notice.ChangeoverTimer.TheVariants as timer
use Rattle.changeover.specs.Changeover as standing

-- whether a message is a user message of a flow: to this destination, by its index in the settings, with this selection
abbrev pub is_of_flow : Configuration → (destination sls : ℕ) → Message → Bool
is_of_flow c destination sls m =
    not (is_management m)
    && (option_eq nat_eq (destination_place c (flow_of m).point) (Some destination) && nat_eq (flow_of m).sls sls)

-- whether a flow fails with a link: its link is that one, or an unconfirmed message of it is there
abbrev pub is_failed : Configuration → Facts → (link : ℕ) → (unconfirmed : List Message) → (destination sls : ℕ) → Bool
is_failed c f link unconfirmed destination sls =
    goes_by (chosen_link f destination sls) link || list_any (is_of_flow c destination sls) unconfirmed

-- the changeover of a link holds each flow that fails with it
abbrev pub suspended : Configuration → ℕ → (unconfirmed : List Message) → Parts → Parts
suspended c link unconfirmed p =
    record p { holds = with_flows p.holds (Changeover link) (is_failed c (facts c p) link unconfirmed) }

-- ---- TCOC (Q.704 §5.2, §5.3): a link fails, and its changeover begins.

-- whether a link of the same set carries traffic
abbrev pub has_other : Configuration → ℕ → Parts → Bool
has_other c link p = has_link (facts c p).in_service (set_at (facts c p) (set_of c link))

-- whether the order itself has a way to that link's point, with the link's code as its selection, over whatever set
abbrev pub has_way : Configuration → ℕ → Parts → Bool
has_way c link p = is_some (link_of c p (record { point = peer_of c link; sls = (entry_of c link).slc }))

-- whether an order goes out: by any route, where the settings ask for that; else if a link of its set is left
abbrev pub is_ordered : Configuration → ℕ → Parts → Bool
is_ordered c link p = if c.changeover_by_any_route then has_way c link p else has_other c link p

-- the order to change over from a link, with the number of the last message that was accepted on it
abbrev pub changeover_order : Configuration → ℕ → ℕ → Message
changeover_order c link number = management_to c (peer_of c link) (ExtendedChangeoverOrder (entry_of c link).slc number)

-- how far the changeover of a link is
abbrev pub changeover_of : Parts → ℕ → Standing
changeover_of p link = standing_at p.changeovers link

abbrev pub with_changeover : ℕ → Standing → Parts → Parts
with_changeover link standing p = record p { changeovers = with_standing p.changeovers link standing }

-- the link is down, its timers don't run, and that is noted
abbrev pub fail_link : ℕ → FailureReason → Parts → Parts
fail_link link why p =
    note (notices.Failed link why)
    (record p { links = links_with p link (after_failure (link_at p link)); timers = without_timers link p.timers })

-- if it was the last of its set, its point is sent no more route set tests
abbrev pub without_tests_if_last : Configuration → ℕ → Parts → Parts
without_tests_if_last c link p = if has_other c link p then p else without_tests (set_of c link) p

-- T2 runs if an order goes out, else T1
abbrev pub timed_changeover : Configuration → (ordered : Bool) → ℕ → Running → Running
timed_changeover c ordered link r =
    if ordered then set_timer (T2 link) c.timers.t2 r else set_timer (T1 link) c.timers.t1 r

-- its changeover isn't complete and, if an order goes out, the answer is awaited
abbrev pub changing : Configuration → (ordered : Bool) → ℕ → Parts → Parts
changing c ordered link p = record p {
  changeovers = with_standing p.changeovers link (failed ordered (changeover_of p link));
  timers = timed_changeover c ordered link p.timers;
}

module _ {Q : Type 0} (q : QueueKind Q) (c : Configuration) where
  -- a link goes down. In service, its flows are held first, while it is still their link
  abbrev pub make_unavailable : (serving : Bool) → ℕ → FailureReason → Node Q → Node Q
  make_unavailable true link why node =
      with_parts node
      (node.parts
      ▷ suspended c link (q.unconfirmed node.queues link)
      ▷ fail_link link why
      ▷ without_tests_if_last c link)
  make_unavailable false link why node = with_parts node (fail_link link why node.parts)

  -- its changeover begins, with an order to the peer or without
  abbrev pub begin : (ordered : Bool) → ℕ → Node Q → Node Q
  begin true link node =
      send_routed q c (changeover_order c link (q.last_accepted node.queues link))
      (with_parts node (changing c true link node.parts))
  begin false link node = with_parts node (changing c false link node.parts)

  -- a link that was in service begins its changeover
  abbrev pub change_over : (served : Bool) → ℕ → Node Q → Node Q
  change_over true link node = begin (is_ordered c link node.parts) link node
  change_over false link node = node

  -- a link fails
  abbrev pub fail : ℕ → FailureReason → Node Q → Node Q
  fail link why node =
      node ▷ make_unavailable (in_service node.parts link) link why ▷ change_over (in_service node.parts link) link

  -- its changeover isn't complete, and no order goes out
  abbrev pub begin_by_peer : (served : Bool) → ℕ → Node Q → Node Q
  begin_by_peer true link node =
      with_parts node (with_changeover link (begun_by_peer (changeover_of node.parts link)) node.parts)
  begin_by_peer false link node = node

  -- a link fails because its peer says so
  abbrev pub fail_by_peer : ℕ → Node Q → Node Q
  fail_by_peer link node =
      node ▷ make_unavailable (in_service node.parts link) link reasons.Changeover
      ▷ begin_by_peer (in_service node.parts link) link

-- ---- An order that had no way goes out late, once there is one (Q.704 §5 has the order wherever there is a way).

-- whether the order about a link goes out now: none did yet, and it has a way
abbrev pub is_late : Configuration → ℕ → Parts → Bool
is_late c link p = is_unasked (changeover_of p link) && has_way c link p

-- T1 stops, T2 starts, and the answer is awaited
abbrev pub asking : Configuration → ℕ → Parts → Parts
asking c link p = record p {
  changeovers = with_standing p.changeovers link (with_order (changeover_of p link));
  timers = set_timer (T2 link) c.timers.t2 (clear_timer (T1 link) p.timers);
}

module _ {Q : Type 0} (q : QueueKind Q) (c : Configuration) where
  abbrev pub order_late : ℕ → Node Q → Node Q
  order_late link node =
      send_routed q c (changeover_order c link (q.last_accepted node.queues link))
      (with_parts node (asking c link node.parts))

  abbrev pub order_if_late : ℕ → Node Q → Node Q
  order_if_late link node = if is_late c link node.parts then order_late link node else node

  -- about the first n links, in order
  unfoldable pub order_each : (count : ℕ) → Node Q → Node Q
  order_each zero node = node
  order_each (suc link) node = node ▷ order_each link ▷ order_if_late link

  -- about all links, where orders go by any route
  abbrev pub order_all : Node Q → Node Q
  order_all node = if c.changeover_by_any_route then order_each (length c.links) node else node

-- ---- TCOC (Q.704 §5.4 to §5.7): a changeover goes on and ends, by an order or an acknowledgement of the peer, or by a
-- timer.

-- a user message is lost, and that is noted
abbrev pub lose : Cause → Message → Parts → Parts
lose cause m p = p ▷ note (notices.Lost cause (flow_of m).point (flow_of m).sls) ▷ flagged ▷ counted_lost

abbrev pub lose_each : List Message → Parts → Parts
lose_each [] p = p
lose_each (m ∷ ms) p = p ▷ lose LostUnconfirmed m ▷ lose_each ms

-- without a reasonable number something may be lost, even if nothing was sent
abbrev pub judged : (is_reasonable : Bool) → Parts → Parts
judged true p = p
judged false p = flagged p

-- the hold of the changeover is lifted, and T1 stops
abbrev pub lifted_parts : ℕ → Parts → Parts
lifted_parts link p = record p { holds = lifted p.holds (Changeover link); timers = clear_timer (T1 link) p.timers }

-- what a completion loses is noted
abbrev pub with_losses : Found → Parts → Parts
with_losses found p = p ▷ lose_each found.lost ▷ judged found.is_reasonable ▷ broken_if found.is_wrong

-- the parts after a completion that found this
abbrev pub concluded : ℕ → Found → Parts → Parts
concluded link found p = p ▷ with_losses found ▷ lifted_parts link

-- the answer about a link, with the number of the last message that was accepted on it
abbrev pub changeover_acknowledgement : Configuration → ℕ → ℕ → Message
changeover_acknowledgement c link number =
    management_to c (peer_of c link) (ExtendedChangeoverAcknowledgement (entry_of c link).slc number)

-- whether the settings bar a link whose changeover is complete until its answer comes, or a longer time is over
abbrev pub bars : Configuration → Bool
bars c = is_some c.timers.t2_bar

-- T2 of a link that is barred from now on is set anew
abbrev pub timed_bar : (t2_bar : Option ℕ) → (is_barred : Bool) → ℕ → Running → Running
timed_bar (Some ticks) true link r = set_timer (T2 link) ticks r
timed_bar (Some ticks) false link r = r
timed_bar None is_barred link r = r

-- the changeover of a link is about to be completed: if its answer is awaited, the link is barred from now on
abbrev pub barred : Configuration → ℕ → Parts → Parts
barred c link p = record p {
  timers = timed_bar c.timers.t2_bar (awaits_incomplete (changeover_of p link)) link p.timers;
}

-- if T2 ran out, something may be lost
abbrev pub flagged_by : ChangeoverTimer → Parts → Parts
flagged_by timer.T1 p = p
flagged_by timer.T2 p = flagged p

-- the notice of a timer that ran out: where links are barred, that of T2 of a changeover that was complete says that
-- the bar is over
abbrev pub expiry_notice : Configuration → ChangeoverTimer → Standing → ℕ → Notice
expiry_notice c timer.T1 s link = notices.Expired timer.T1 link
expiry_notice c timer.T2 s link =
    if bars c && not s.incomplete then notices.Unbarred unbarring.T2 link else notices.Expired timer.T2 link

-- whether a timer that runs out ends the wait for the answer
abbrev pub ends_wait : Configuration → ChangeoverTimer → Standing → Bool
ends_wait c timer.T1 s = false
ends_wait c timer.T2 s = not (stays_awaited (bars c) s)

-- a timer of the changeover ran out, and that is noted
abbrev pub with_expiry : Configuration → ChangeoverTimer → ℕ → Parts → Parts
with_expiry c which link p =
    p ▷ note (expiry_notice c which (changeover_of p link) link)
    ▷ with_changeover link (standing.expired (bars c) which (changeover_of p link))
    ▷ flagged_by which
    ▷ broken_if (ends_wait c which (changeover_of p link))

-- the answer came: T2 stops
abbrev pub with_changeover_acknowledged : ℕ → Parts → Parts
with_changeover_acknowledged link p =
    record p {
      changeovers = (with_changeover link (acknowledged (changeover_of p link)) p).changeovers;
      timers = clear_timer (T2 link) p.timers;
    }

-- a link is no longer barred, by an order of the operator: something may be lost
abbrev pub unbarred : ℕ → Parts → Parts
unbarred link p =
    p ▷ note (notices.Unbarred unbarring.Operator link) ▷ with_changeover_acknowledged link ▷ flagged ▷ broken_if true

module _ {Q : Type 0} (q : QueueKind Q) (c : Configuration) where
  -- management messages go out again, each on the link of its flow
  abbrev pub send_each : List Message → Node Q → Node Q
  send_each [] node = node
  send_each (m ∷ ms) node = node ▷ send_anew q c m ▷ send_each ms

  -- what becomes of the messages of a link, by the number that its peer gave
  abbrev pub conclude : Found → ℕ → Option ℕ → Node Q → Node Q
  conclude found link number node =
      record { queues = q.completed node.queues link number; parts = concluded link found node.parts }
      ▷ send_each found.queued_anew

  -- a changeover is completed, if it isn't complete
  abbrev pub complete_if : (incomplete : Bool) → ℕ → Option ℕ → Node Q → Node Q
  complete_if true link number node = conclude (q.found node.queues link number) link number node
  complete_if false link number node = node

  -- a link that isn't down fails by its peer's order
  abbrev pub fail_by_order : ℕ → Node Q → Node Q
  fail_by_order link node = if down node.parts link then node else fail_by_peer q c link node

  -- the changeover of a link is about to be completed
  abbrev pub bar : ℕ → Node Q → Node Q
  bar link node = with_parts node (barred c link node.parts)

  -- the changeover of a link is completed, by the number in the peer's order
  abbrev pub complete_by_order : ℕ → Option ℕ → Node Q → Node Q
  complete_by_order link number node =
      with_parts node (with_changeover link (completed (changeover_of node.parts link)) node.parts)
      ▷ complete_if (changeover_of node.parts link).incomplete link number

  -- the peer is told what was accepted on the link
  abbrev pub acknowledge_changeover : ℕ → Node Q → Node Q
  acknowledge_changeover link node =
      send_routed q c (changeover_acknowledgement c link (q.last_accepted node.queues link)) node

  -- the peer orders a changeover
  abbrev pub on_changeover_order : ℕ → Option ℕ → Node Q → Done Q
  on_changeover_order link number node =
      answer Handled
      (node ▷ fail_by_order link ▷ bar link ▷ complete_by_order link number ▷ acknowledge_changeover link)

  -- the peer answers an order
  abbrev pub on_changeover_acknowledgement : ℕ → Option ℕ → Node Q → Done Q
  on_changeover_acknowledgement link number node =
      unless (changeover_of node.parts link).awaited then answer Ignored node
      else answer Handled (with_parts node (with_changeover_acknowledged link node.parts)
      ▷ complete_if (changeover_of node.parts link).incomplete link number)

  -- T1 or T2 of a link ran out
  abbrev pub on_changeover_timer : ChangeoverTimer → ℕ → Node Q → Node Q
  on_changeover_timer timer link node =
      unless is_link node.parts link then node
      else (with_parts node (node.parts ▷ barred c link ▷ with_expiry c timer link)
      ▷ complete_if (changeover_of node.parts link).incomplete link None)
