-- TFRC and TCRC, forced and controlled rerouting control (Q.704 §7, §8), and RSRT, route set test control (§13.5): what
-- adjacent points say of routes, what that does to flows, and the tests that this node sends.
use Rattle.std.specs.Prelude.{ℕ, List, [], ◌∷◌, Option, Some, None, Result, Ok, Err, ◌&&◌, nat_lt, length, if◌then◌else◌}
use Rattle.settings.specs.Configuration.{Configuration}
use Rattle.signalling_types.specs.Message.{Message}
use Rattle.signalling_types.specs.declared.outcome.Outcome.{Outcome}
use Rattle.signalling_types.specs.declared.outcome.Outcome.TheVariants as outcomes
use Rattle.mtp3_codec.specs.declared.management.Management.TheVariants.{RouteSetTestProhibited, RouteSetTestRestricted}
use Rattle.timers.specs.declared.name.TimerName.TheVariants as name
use Rattle.timers.specs.declared.name.RouteTimer.TheVariants as of_set
use Rattle.timers.specs.Timers.{Running, set_timer, clear_timer, clear_set}
use Rattle.routes.specs.declared.route.RouteStatus.{RouteStatus}
use Rattle.routes.specs.declared.route.RouteStatus.TheVariants.{Allowed, Restricted, Prohibited}
use Rattle.routes.specs.Routes.{status_of}
use Rattle.node_links.specs.NodeLinks.{with_route_status, with_statuses_reset}
use Rattle.flow_hold.specs.declared.procedure.Procedure.TheVariants.{Reroute}
use Rattle.flow_hold.specs.Holds.{lifted}
use Rattle.changeback.specs.Rerouting.{rerouted, held_for}
use Rattle.route_management.specs.Told.{with_told_reset, heard}
use Rattle.route_management.specs.declared.heard.Heard.{Heard}
use Rattle.route_management.specs.declared.heard.Heard.TheVariants.{Ignored, Unchanged, Changed}
use Rattle.exchange_rules.specs.State.{QueueKind, Parts, Node, Done, with_parts, answer}
use Rattle.exchange_rules.specs.Routing.{network_of, facts, adjacent_of, point_of}
use Rattle.exchange_rules.specs.Telling.{is_led, management_to, send_if}

-- ---- a status

-- T10 runs while a route isn't allowed
abbrev pub timed_status : Configuration → (set destination : ℕ) → RouteStatus → Running → Running
timed_status c set destination Allowed r = clear_timer (name.T10 set destination) r
timed_status c set destination Restricted r = set_timer (name.T10 set destination) c.timers.t10 r
timed_status c set destination Prohibited r = set_timer (name.T10 set destination) c.timers.t10 r

-- forced rerouting: a route gets another status, and the flows to its destination follow at once
abbrev pub forced : Configuration → (set destination : ℕ) → RouteStatus → Parts → Parts
forced c set destination status p =
    record p { routes = (with_route_status destination set status (network_of c p)).routes }

-- flows to a destination are held, and T6 starts or restarts; if there are none, nothing changes
abbrev pub held_by_rerouting : Configuration → (destination : ℕ) → (selections : List ℕ) → Parts → Parts
held_by_rerouting c destination [] p = p
held_by_rerouting c destination (sls ∷ others) p = record p {
  holds = held_for destination (sls ∷ others) p.holds;
  timers = set_timer (name.T6 destination) c.timers.t6 p.timers;
}

-- controlled rerouting: the flows that change their link by this are held
abbrev pub controlled : Configuration → (set destination : ℕ) → RouteStatus → Parts → Parts
controlled c set destination status p =
    let next : Parts = forced c set destination status p in
    held_by_rerouting c destination (rerouted (facts c p) (facts c next) destination) next

-- which of the two, by the status
abbrev pub rerouted_by : RouteStatus → Configuration → (set destination : ℕ) → Parts → Parts
rerouted_by Prohibited c set destination p = forced c set destination Prohibited p
rerouted_by Restricted c set destination p = controlled c set destination Restricted p
rerouted_by Allowed c set destination p = controlled c set destination Allowed p

abbrev pub with_status_heard : Configuration → (set destination : ℕ) → RouteStatus → Parts → Parts
with_status_heard c set destination status p =
    rerouted_by status c set destination
    (record p { timers = timed_status c set destination status p.timers })

-- T6 of a destination ran out: its rerouting no longer holds anything
abbrev pub rerouting_ended : (destination : ℕ) → Parts → Parts
rerouting_ended destination p = record p { holds = lifted p.holds (Reroute destination) }

-- ---- a set

-- when the first link of a set begins to carry traffic, what is known over it is reset: its routes are allowed, its
-- adjacent point counts as told so, and T8 and T10 of the set stop
abbrev pub with_set_reset : Configuration → (set : ℕ) → Parts → Parts
with_set_reset c set p = record p {
  routes = (with_statuses_reset set (network_of c p)).routes;
  told = with_told_reset set p.told;
  timers = clear_set of_set.T10 set (clear_set of_set.T8 set p.timers);
}

-- when its last link fails, its point is sent no more tests
abbrev pub without_tests : (set : ℕ) → Parts → Parts
without_tests set p = record p { timers = clear_set of_set.T10 set p.timers }

module _ {Q : Type 0} (q : QueueKind Q) (c : Configuration) where
  -- ---- what is heard

  abbrev pub apply_route_status : Heard → (set destination : ℕ) → RouteStatus → Node Q → Done Q
  apply_route_status Ignored set destination status node = answer outcomes.Ignored node
  apply_route_status Unchanged set destination status node = answer outcomes.Handled node
  apply_route_status Changed set destination status node =
      answer outcomes.Handled (with_parts node (with_status_heard c set destination status node.parts))

  -- a status that an adjacent point tells of a route
  abbrev pub on_route_status : RouteStatus → Result (ℕ × ℕ) Outcome → Node Q → Done Q
  on_route_status status (Ok (set, destination)) node =
      apply_route_status (heard (facts c node.parts) node.parts.told set destination status) set destination status node
  on_route_status status (Err outcome) node = answer outcome node

  -- ---- tests of our own

  -- the test that asks the adjacent point of a set of its route to a destination
  abbrev pub prohibited_test : (set destination : ℕ) → Message
  prohibited_test set destination =
      management_to c (adjacent_of c set) (RouteSetTestProhibited (point_of c destination))

  abbrev pub restricted_test : (set destination : ℕ) → Message
  restricted_test set destination =
      management_to c (adjacent_of c set) (RouteSetTestRestricted (point_of c destination))

  -- T10 runs again
  abbrev pub with_next_test : (set destination : ℕ) → Parts → Parts
  with_next_test set destination p =
      record p { timers = set_timer (name.T10 set destination) c.timers.t10 p.timers }

  -- the test goes out, if its flow has a link
  abbrev pub ask : Message → (set destination : ℕ) → Node Q → Node Q
  ask m set destination node =
      send_if q c (is_led c m node.parts) m (with_parts node (with_next_test set destination node.parts))

  -- the test is that of the route's status; one that is allowed isn't tested
  abbrev pub ask_by : Option RouteStatus → (set destination : ℕ) → Node Q → Node Q
  ask_by (Some Prohibited) set destination node = ask (prohibited_test set destination) set destination node
  ask_by (Some Restricted) set destination node = ask (restricted_test set destination) set destination node
  ask_by (Some Allowed) set destination node = node
  ask_by None set destination node = node

  -- T10 of a set and a destination that are there ran out
  abbrev pub ask_again : (set destination : ℕ) → Node Q → Node Q
  ask_again set destination node =
      if nat_lt set (length c.sets) && nat_lt destination (length c.destinations)
      then ask_by (status_of (facts c node.parts) destination set) set destination node
      else node
