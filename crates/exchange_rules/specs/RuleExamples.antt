-- Laws of the exchange at nodes of one link: wrong definitions make them false here.
use Rattle.std.specs.Prelude.{◌≡◌, Bool, true, false, List, [], ◌∷◌, Option, None, Some}
use Rattle.signalling_types.specs.Message.{Message}
use Rattle.signalling_types.specs.declared.cause.Cause.{Cause}
use Rattle.signalling_types.specs.declared.cause.Cause.TheVariants.{PoolFull}
use Rattle.signalling_types.specs.declared.outcome.Outcome.TheVariants.{Queued, Refused}
use Rattle.signalling_types.specs.declared.notice.FailureReason.TheVariants as reasons
use Rattle.signalling_types.specs.declared.notice.Notice.TheVariants.{Failed}
use Rattle.settings.specs.Configuration.{Configuration}
use Rattle.settings.specs.declared.timer_ticks.TimerTicks.{TimerTicks}
use Rattle.link.specs.declared.alignment.Alignment.TheVariants.{InService}
use Rattle.link.specs.Queue.{first_queue}
use Rattle.routes.specs.declared.route.Route.{Route}
use Rattle.routes.specs.declared.route.RouteStatus.TheVariants.{Allowed, Prohibited}
use Rattle.node_links.specs.NodeLinks.{down_link}
use Rattle.timers.specs.declared.name.TimerName.TheVariants.{L6, T3, T4}
use Rattle.timers.specs.Timers.{Running, is_running}
use Rattle.routes.specs.Routes.{Facts, first_route}
use Rattle.flow_hold.specs.declared.procedure.Procedure.TheVariants.{Changeover, Time}
use Rattle.flow_hold.specs.Holds.{HoldSet, no_holds, holds, with_hold}
use Rattle.exchange_rules.specs.State.{lost_any, late_any, Done, Node, Noted, with_node, with_parts, flagged, made_since, noted, Happens, CameUp}
use Rattle.exchange_rules.specs.Queues.{WholeQueues, queue_at, whole}
use Rattle.exchange_rules.specs.First.{Abstract, first_parts, first_state}
use Rattle.exchange_rules.specs.Routing.{waits}
use Rattle.exchange_rules.specs.Messages.{offer}
use Rattle.exchange_rules.specs.ChangingOver.{complete_if, fail}
use Rattle.exchange_rules.specs.ChangingBack.{code_in_use, hold_flows}
use Rattle.exchange_rules.specs.Rerouting.{forced}
use Rattle.exchange_rules.specs.Telling.{answer_no_route}
use Rattle.exchange_rules.specs.Timing.{timed_busy, timed_busy_ended}
use Rattle.exchange_rules.specs.Exchange.{release}
use Rattle.exchange_rules.specs.Lasting.{after_each}

abbrev pub ticks : TimerTicks
ticks = record {
  l1 = 1;
  l2 = 1;
  l3 = 1;
  l4 = 1;
  l6 = 1;
  l7 = 1;
  t1 = 1;
  t2 = 1;
  t3 = 1;
  t4 = 1;
  t6 = 1;
  t8 = 1;
  t10 = 1;
  link_tests = None;
  l4e = None;
  sst = None;
  t2_bar = None;
}

-- one link to an adjacent point, which is the only destination
abbrev pub settings : Configuration
settings = record {
  own = 1;
  network = 2;
  window = 2;
  pool = 10;
  users = [];
  subsystems = [];
  extended_unitdata = false;
  subsystem_tests = false;
  user_part_unavailable = false;
  processor_outage = false;
  out_of_service = false;
  changeover_by_any_route = false;
  timers = ticks;
  sets = record { name = []; adjacent = 2 } ∷ [];
  links = record { name = []; set = 0; slc = 0; share = None } ∷ [];
  destinations = record { point = 2; sets = 0 ∷ []; joined = false } ∷ [];
  titles = [];
}

-- a user message for that point
abbrev pub message : Message
message = record { sio = 133; sif = 2 ∷ 0 ∷ 0 ∷ 0 ∷ [] }

abbrev pub booted : Abstract
booted = first_state settings

-- the link is in service, with messages that weren't sent; others are held
abbrev pub node_with : HoldSet → (routes : List Route) → (held unsent : List Message) → Node WholeQueues
node_with its_holds routes held unsent = record {
  queues = record { held = held; links = record first_queue { all = unsent } ∷ [] };
  parts = record (first_parts settings) {
    links = record down_link { alignment = InService; association = true } ∷ [];
    routes = routes ∷ [];
    holds = its_holds;
  };
}

-- the route over its set is allowed
abbrev pub the_routes : List Route
the_routes = record { set = 0; status = Allowed; joined = false } ∷ []

-- ---- flags

-- a completion without a number raises the flag, even if the link has no message
abbrev pub no_number_is_reasonable : Type 0
no_number_is_reasonable = (whole.found booted.node.queues 0 None).is_reasonable ≡ false

abbrev pub completion_raises_the_flag : Type 0
completion_raises_the_flag = lost_any (complete_if whole settings true 0 None booted.node).parts ≡ true

-- and an association that comes up leaves it
abbrev pub with_flag : Abstract
with_flag = with_node booted (with_parts booted.node (flagged booted.node.parts))

abbrev pub opening_leaves_the_flag : Type 0
opening_leaves_the_flag = lost_any (after_each (Happens (CameUp 0) ∷ []) with_flag).node.parts ≡ true

-- after forced rerouting no message of a flow may have gone out of order
abbrev pub forced_rerouting_leaves_the_flag : Type 0
forced_rerouting_leaves_the_flag = late_any (forced settings 0 0 Prohibited booted.node.parts) ≡ false

-- ---- notices

-- the first notice is counted
abbrev pub one_noted : Noted
one_noted = noted (Failed 0 reasons.Operator) booted.node.parts.notices

abbrev pub first_notice_is_counted : Type 0
first_notice_is_counted = made_since 0 one_noted ≡ 1

-- ---- a release

abbrev pub nothing_held : HoldSet
nothing_held = no_holds 1 1 1

abbrev pub flow_held : HoldSet
flow_held = with_hold nothing_held (Changeover 0) 0 0

-- a message whose flow is held stays in Held
abbrev pub message_waits : Type 0
message_waits = waits settings flow_held message ≡ true

abbrev pub message_stays : Type 0
message_stays =
    (release whole settings (node_with flow_held the_routes (message ∷ []) [])).queues.held ≡ message ∷ []

-- a message whose flow isn't held goes to the queue of its link, once
abbrev pub message_goes_on : Type 0
message_goes_on =
    (queue_at (release whole settings (node_with nothing_held the_routes (message ∷ []) [])).queues 0).all
    ≡ message ∷ []

-- ---- a message for another point

-- if it is queued, it is on its link
abbrev pub offered : Option Cause → Done WholeQueues
offered room = offer whole settings room false (Some 0) None message (node_with nothing_held the_routes [] [])

abbrev pub queued_message_is_on_its_link : Type 0
queued_message_is_on_its_link =
    ((offered None).outcome ≡ Queued 0) × ((queue_at (offered None).left.queues 0).all ≡ message ∷ [])

-- if it is refused, it is on none
abbrev pub refused_message_is_on_none : Type 0
refused_message_is_on_none =
    ((offered (Some PoolFull)).outcome ≡ Refused PoolFull)
    × ((queue_at (offered (Some PoolFull)).left.queues 0).all ≡ [])

-- no link is in service: the point at the other end of the one that a message came by isn't told that the message has no
-- route, and nothing is lost
abbrev pub with_far_point : Configuration
with_far_point = record settings {
  destinations = record { point = 2; sets = 0 ∷ []; joined = false }
      ∷ record { point = 300; sets = 0 ∷ []; joined = false } ∷ [];
}

abbrev pub nothing_is_told_without_a_link : Type 0
nothing_is_told_without_a_link =
    lost_any (answer_no_route whole with_far_point (Some 0) (Some 1) (first_state with_far_point).node).parts ≡ false

-- ---- a failure

-- a message on the link was never sent, and its flow no longer has a link: the changeover holds it
abbrev pub failure_holds_the_flow : Type 0
failure_holds_the_flow =
    holds (fail whole settings 0 reasons.Association (node_with nothing_held [] [] (message ∷ []))).parts.holds
    (Changeover 0) 0 0
    ≡ true

-- ---- a return

-- two sets of one link each lead to the destination; the link of the second is in service
abbrev pub two_sets : (first_serves : Bool) → Facts
two_sets first_serves = record {
  sets = (0 ∷ []) ∷ (1 ∷ []) ∷ [];
  in_service = first_serves ∷ true ∷ [];
  routes = (first_route 0 ∷ first_route 1 ∷ []) ∷ [];
}

-- the link of the first returns, and holds the flow by time
abbrev pub returned : Node WholeQueues
returned =
    hold_flows whole settings (two_sets false) (two_sets true) None 0 1 (node_with nothing_held the_routes [] [])

abbrev pub return_holds_the_flow : Type 0
return_holds_the_flow = holds returned.parts.holds (Time 0) 0 0 ≡ true

-- so T3 runs
abbrev pub return_has_its_timer : Type 0
return_has_its_timer = is_running (T3 0) returned.parts.timers ≡ true

-- ---- timers

-- the peer of a link with nothing unconfirmed is busy, and then no longer: L6 stops
abbrev pub busy_ends : Running
busy_ends = timed_busy_ended settings 0 0 (timed_busy settings 0 booted.node.parts.timers)

abbrev pub l6_ends_with_it : Type 0
l6_ends_with_it = is_running (L6 0) busy_ends ≡ false

-- T4 has a setting of its own
abbrev pub with_longer_t4 : Configuration
with_longer_t4 = record settings { timers = record ticks { t4 = 2 } }

abbrev pub t4_runs_by_its_setting : Type 0
t4_runs_by_its_setting = (code_in_use with_longer_t4 0 0 booted.node.parts).timers.left (T4 0 0) ≡ Some 2
