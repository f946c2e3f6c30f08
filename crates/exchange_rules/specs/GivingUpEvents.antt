-- The management that an event sends in vain: the reasons of Unsent. And T2 that runs out, or a bar that ends
-- otherwise: the reasons of Expired(T2) and Unbarred.
use Rattle.std.specs.Prelude.{Err, List, None, Ok, Option, Result, Some, [], if◌then◌else◌, length, nat_lt, not, suc, zero, ℕ, ◌&&◌, ◌||◌, ◌++◌, ◌∷◌}
use Rattle.signalling_types.specs.Message.{Message}
use Rattle.signalling_types.specs.declared.notice.ChangeoverTimer.TheVariants as changeover
use Rattle.signalling_types.specs.declared.notice.FailureReason.{FailureReason}
use Rattle.signalling_types.specs.declared.notice.FailureReason.TheVariants as reasons
use Rattle.signalling_types.specs.declared.notice.FrameFault.{FrameFault}
use Rattle.signalling_types.specs.declared.notice.FrameFault.TheVariants as faults
use Rattle.signalling_types.specs.declared.notice.Notice.{Notice}
use Rattle.signalling_types.specs.declared.notice.Notice.TheVariants as notices
use Rattle.signalling_types.specs.declared.notice.Unbarring.TheVariants as unbarring
use Rattle.settings.specs.Configuration.{Configuration}
use Rattle.link.specs.declared.action.Action.{Action}
use Rattle.link.specs.declared.action.Action.TheVariants as act
use Rattle.link.specs.declared.action.Input.TheVariants.{Expiry, Status, UserData}
use Rattle.link.specs.declared.action.LinkTimer.{LinkTimer}
use Rattle.link.specs.declared.action.LinkTimer.TheVariants as timer
use Rattle.link.specs.declared.fault.SeqFault.{SeqFault}
use Rattle.m2pa_codec.specs.Frames.{EmptyFrame, FrameValue, MessageFrame, StatusFrame, read_frame}
use Rattle.m2pa_codec.specs.declared.status.LinkStatus.{LinkStatus}
use Rattle.node_links.specs.NodeLinks.{acts_on}
use Rattle.route_management.specs.Told.{Owed, owed}
use Rattle.routes.specs.Routes.{status_of}
use Rattle.routes.specs.declared.route.RouteStatus.{RouteStatus}
use Rattle.routes.specs.declared.route.RouteStatus.TheVariants.{Allowed, Prohibited, Restricted}
use Rattle.timers.specs.Timers.{after_due, due_count, due_name, ticked}
use Rattle.timers.specs.declared.name.TimerName.{TimerName}
use Rattle.timers.specs.declared.name.TimerName.TheVariants as name
use Rattle.exchange_rules.specs.State.{Deactivated, Done, FrameCame, Happening, Released, Node, Ticked, WentDown, down, in_service, is_link, link_at, with_parts}
use Rattle.changeover.specs.Changeover.{is_barred}
use Rattle.exchange_rules.specs.ChangingOver.{asking, changeover_of, changeover_order, expiry_notice, is_late, order_each}
use Rattle.exchange_rules.specs.Routing.{facts}
use Rattle.exchange_rules.specs.Queues.{WholeQueues, whole}
use Rattle.exchange_rules.specs.First.{Abstract}
use Rattle.exchange_rules.specs.Telling.{is_led, may_tell, route_message, tell_if, told_parts}
use Rattle.exchange_rules.specs.Rerouting.{prohibited_test, restricted_test, with_next_test}
use Rattle.exchange_rules.specs.Frames.{Carrying, accept, advance, empty_data, message_data, numbers, receive, tells_outage, tells_recovery}
use Rattle.exchange_rules.specs.Exchange.{handle_event, release, run_next, tick, with_timers}
use Rattle.signalling_types.specs.declared.outcome.Outcome.{Outcome}
use Rattle.signalling_types.specs.declared.outcome.Outcome.TheVariants as outcome
use Rattle.exchange_rules.specs.GivingUp.{unsent, unsent_by_expiry, unsent_by_new, unsent_failing, unsent_falling}

module _ (c : Configuration) where
  -- ---- orders that go out late, after a frame or a tick

  abbrev pub unsent_late : ℕ → Node WholeQueues → List Notice
  unsent_late link node =
      if is_late c link node.parts
      then unsent c (changeover_order c link (whole.last_accepted node.queues link))
      (with_parts node (asking c link node.parts))
      else []

  abbrev pub unsent_late_each : (count : ℕ) → Node WholeQueues → List Notice
  unsent_late_each zero node = []
  unsent_late_each (suc link) node =
      unsent_late_each link node ++ unsent_late link (order_each whole c link node)

  abbrev pub unsent_late_all : Node WholeQueues → List Notice
  unsent_late_all node = if c.changeover_by_any_route then unsent_late_each (length c.links) node else []

  abbrev pub unsent_late_by : Outcome → Node WholeQueues → List Notice
  unsent_late_by (outcome.Refused cause) node = []
  unsent_late_by (outcome.Queued link) node = unsent_late_all node
  unsent_late_by outcome.Held node = unsent_late_all node
  unsent_late_by outcome.Local node = unsent_late_all node
  unsent_late_by outcome.Handled node = unsent_late_all node
  unsent_late_by outcome.Ignored node = unsent_late_all node

  -- ---- frames: the message of User Data, or a link that fails by its frame

  abbrev pub unsent_by_numbers : Result ℕ SeqFault → ℕ → Carrying → Node WholeQueues → List Notice
  unsent_by_numbers (Ok confirmed) link d node =
      unsent_by_new c link d.message (accept whole c link d confirmed node)
  unsent_by_numbers (Err fault) link d node = unsent_failing c link reasons.Sequence node

  abbrev pub unsent_by_data : Action → ℕ → Carrying → Node WholeQueues → List Notice
  unsent_by_data act.Ignored link d node = []
  unsent_by_data act.Fail link d node = unsent_failing c link reasons.Sequence node
  unsent_by_data (act.Go step) link d node =
      let next : Node WholeQueues = advance whole c link step node in
      unsent_by_numbers (numbers whole c link d next) link d next

  -- what a link does that fails for this reason, if it fails
  abbrev pub unsent_acting : Action → FailureReason → ℕ → Node WholeQueues → List Notice
  unsent_acting act.Ignored why link node = []
  unsent_acting act.Fail why link node = unsent_failing c link why node
  unsent_acting (act.Go step) why link node = []

  abbrev pub unsent_by_status : ℕ → LinkStatus → Node WholeQueues → List Notice
  unsent_by_status link status node =
      if tells_outage c link status node.parts || tells_recovery link status node.parts
      then []
      else unsent_acting (acts_on (link_at node.parts link) (Status status)) reasons.Status link node

  abbrev pub unsent_by_fault : ℕ → FrameFault → Node WholeQueues → List Notice
  unsent_by_fault link faults.Length node = unsent_failing c link reasons.Length node
  unsent_by_fault link other node = []

  abbrev pub unsent_by_frame : ℕ → Result FrameValue FrameFault → Node WholeQueues → List Notice
  unsent_by_frame link (Ok (EmptyFrame bsn fsn)) node =
      unsent_by_data (acts_on (link_at node.parts link) UserData) link (empty_data bsn fsn) node
  unsent_by_frame link (Ok (MessageFrame bsn fsn sio sif)) node =
      unsent_by_data (acts_on (link_at node.parts link) UserData) link (message_data bsn fsn sio sif) node
  unsent_by_frame link (Ok (StatusFrame bsn fsn status)) node = unsent_by_status link status node
  unsent_by_frame link (Err fault) node = unsent_by_fault link fault node

  abbrev pub unsent_by_text : ℕ → List ℕ → Node WholeQueues → List Notice
  unsent_by_text link text node =
      if is_link node.parts link && not (down node.parts link) then unsent_by_frame link (read_frame text) node else []

  -- ---- timers: a link that fails, a changeover that ends, a route that is asked about again

  abbrev pub unsent_by_own_timer : LinkTimer → ℕ → Node WholeQueues → List Notice
  unsent_by_own_timer its link node =
      unsent_acting (acts_on (link_at node.parts link) (Expiry its)) reasons.Timer link node

  -- the second test in a row without an answer fails the link
  abbrev pub unsent_untested : ℕ → Node WholeQueues → List Notice
  unsent_untested link node =
      if in_service node.parts link && (link_at node.parts link).test_failed
      then unsent_failing c link reasons.Test node
      else []

  -- a route set test is made only with a link
  abbrev pub unsent_route_test : Message → (set destination : ℕ) → Node WholeQueues → List Notice
  unsent_route_test m set destination node =
      if is_led c m node.parts
      then unsent c m (with_parts node (with_next_test whole c set destination node.parts))
      else []

  abbrev pub unsent_asking : Option RouteStatus → (set destination : ℕ) → Node WholeQueues → List Notice
  unsent_asking (Some Prohibited) set destination node =
      unsent_route_test (prohibited_test whole c set destination) set destination node
  unsent_asking (Some Restricted) set destination node =
      unsent_route_test (restricted_test whole c set destination) set destination node
  unsent_asking (Some Allowed) set destination node = []
  unsent_asking None set destination node = []

  abbrev pub unsent_asking_again : (set destination : ℕ) → Node WholeQueues → List Notice
  unsent_asking_again set destination node =
      if nat_lt set (length c.sets) && nat_lt destination (length c.destinations)
      then unsent_asking (status_of (facts c node.parts) destination set) set destination node
      else []

  abbrev pub unsent_by_timer : Option TimerName → Node WholeQueues → List Notice
  unsent_by_timer (Some (name.L1 link)) node = unsent_by_own_timer timer.L1 link node
  unsent_by_timer (Some (name.L2 link)) node = unsent_by_own_timer timer.L2 link node
  unsent_by_timer (Some (name.L3 link)) node = unsent_by_own_timer timer.L3 link node
  unsent_by_timer (Some (name.L4 link)) node = unsent_by_own_timer timer.L4 link node
  unsent_by_timer (Some (name.L6 link)) node = unsent_by_own_timer timer.L6 link node
  unsent_by_timer (Some (name.L7 link)) node = unsent_by_own_timer timer.L7 link node
  unsent_by_timer (Some (name.T1 link)) node = unsent_by_expiry c changeover.T1 link node
  unsent_by_timer (Some (name.T2 link)) node = unsent_by_expiry c changeover.T2 link node
  unsent_by_timer (Some (name.T10 set destination)) node = unsent_asking_again set destination node
  unsent_by_timer (Some (name.Slt1 link)) node = unsent_untested link node
  unsent_by_timer other node = []

  -- those that run at a tick, each as it runs
  abbrev pub unsent_by_timers : ℕ → Node WholeQueues → List Notice
  unsent_by_timers zero node = []
  unsent_by_timers (suc more) node =
      unsent_by_timer (due_name node.parts.timers) (with_timers node (after_due node.parts.timers))
      ++ unsent_by_timers more (run_next whole c node)

  -- ---- what adjacent points are owed, at the end of an event, while there is room for it

  abbrev pub unsent_telling : List Owed → Node WholeQueues → List Notice
  unsent_telling [] node = []
  unsent_telling (o ∷ os) node =
      (if may_tell whole c node
      then unsent c (route_message c o.set o.destination o.status) (with_parts node (told_parts c o node.parts))
      else [])
      ++ unsent_telling os (tell_if whole c o node)

  -- ---- T2 runs out: a changeover is completed without a number, or the answer to its order isn't awaited any more

  abbrev pub expired_by_timer : Option TimerName → Node WholeQueues → List Notice
  expired_by_timer (Some (name.T2 link)) node =
      if is_link node.parts link
      then expiry_notice c changeover.T2 (changeover_of node.parts link) link ∷ []
      else []
  expired_by_timer other node = []

  abbrev pub expired_by_timers : ℕ → Node WholeQueues → List Notice
  expired_by_timers zero node = []
  expired_by_timers (suc more) node =
      expired_by_timer (due_name node.parts.timers) (with_timers node (after_due node.parts.timers))
      ++ expired_by_timers more (run_next whole c node)

-- ---- an event

-- what its rule sends in vain
abbrev pub unsent_by_rule : Happening → Abstract → List Notice
unsent_by_rule (FrameCame link text) a =
    let d : Done WholeQueues = receive whole a.settings link text a.node in
    unsent_by_text a.settings link text a.node ++ unsent_late_by a.settings d.outcome d.left
unsent_by_rule (WentDown link) a =
    if is_link a.node.parts link && (link_at a.node.parts link).association
    then unsent_falling a.settings link reasons.Association a.node
    else []
unsent_by_rule (Deactivated link) a =
    if is_link a.node.parts link then unsent_falling a.settings link reasons.Operator a.node else []
unsent_by_rule Ticked a =
    unsent_by_timers a.settings (due_count (ticked a.node.parts.timers))
    (with_timers a.node (ticked a.node.parts.timers))
    ++ unsent_late_all a.settings (tick whole a.settings a.node).left
unsent_by_rule what a = []

-- and what the event sends in vain in all
abbrev pub unsent_of : Happening → Abstract → List Notice
unsent_of what a =
    let freed : Node WholeQueues = release whole a.settings (handle_event whole a.settings what a.node).left in
    unsent_by_rule what a
    ++ unsent_telling a.settings (owed (facts a.settings freed.parts) freed.parts.told) freed

-- the notices of T2 that runs out, and of a link that the operator lets open
abbrev pub expired_of : Happening → Abstract → List Notice
expired_of Ticked a =
    expired_by_timers a.settings (due_count (ticked a.node.parts.timers))
    (with_timers a.node (ticked a.node.parts.timers))
expired_of (Released link) a =
    if is_link a.node.parts link && is_barred (changeover_of a.node.parts link)
    then notices.Unbarred unbarring.Operator link ∷ []
    else []
expired_of what a = []
