-- Routes that aren't allowed are tested, over every event and every take: laws (Q.704 §13.5).
use Rattle.std.specs.Prelude.{◌≡◌, ◌≤◌, ◌<◌, ℕ, Bool, true, false, if◌then◌else◌, is_some, length, List, Option, Some, None}
use Rattle.signalling_types.specs.Message.{Message, flow_of}
use Rattle.settings.specs.Configuration.{Configuration}
use Rattle.signalling_types.specs.declared.limits.TheConstants.Limits.{LINKS}
use Rattle.routes.specs.declared.route.RouteStatus.{RouteStatus}
use Rattle.routes.specs.declared.route.RouteStatus.TheVariants.{Allowed, Restricted, Prohibited}
use Rattle.routes.specs.Routes.{has_link, set_at, status_of}
use Rattle.timers.specs.declared.name.TimerName.TheVariants.{T10}
use Rattle.timers.specs.Timers.{is_running, set_timer}
use Rattle.mtp3_codec.specs.declared.management.Management.{Management}
use Rattle.mtp3_codec.specs.declared.management.Management.TheVariants.{RouteSetTestProhibited, RouteSetTestRestricted}
use Rattle.exchange_rules.specs.State.{Asking, Parts, Node, with_parts}
use Rattle.exchange_rules.specs.Routing.{facts, adjacent_of, link_of, point_of}
use Rattle.exchange_rules.specs.Telling.{management_to, send_routed}
use Rattle.exchange_rules.specs.Queues.{WholeQueues, whole}
use Rattle.exchange_rules.specs.Exchange.{run_timer}
use Rattle.exchange_rules.specs.Lasting.{after_each}
use Rattle.exchange_rules.specs.First.{first_state}

-- whether a link of a set carries traffic
abbrev pub serves_set : Configuration → Parts → (set : ℕ) → Bool
serves_set c p set = has_link (facts c p).in_service (set_at (facts c p) set)

-- whether a route is to be tested: there is one, and it isn't allowed
abbrev pub is_unsure : Option RouteStatus → Bool
is_unsure None = false
is_unsure (Some Allowed) = false
is_unsure (Some Restricted) = true
is_unsure (Some Prohibited) = true

-- for each route that isn't allowed, over a set that carries traffic, T10 runs, and when it runs out the adjacent point
-- is asked
pub record AreTested (c : Configuration) (p : Parts) : Type 0 where
  pub each : (set destination : ℕ) → serves_set c p set ≡ true →
      is_unsure (status_of (facts c p) destination set) ≡ true → is_running (T10 set destination) p.timers ≡ true

-- this holds in each state reached from the first
abbrev pub unsure_routes_are_tested : Type 0
unsure_routes_are_tested =
    (c : Configuration) (asked : List Asking) → length c.links ≤ LINKS →
    AreTested c (after_each asked (first_state c)).node.parts

-- T10 of a route that isn't allowed runs out: T10 runs again, and if a link leads to the adjacent point a test of the
-- route goes there; else nothing else changes
abbrev pub asked_again : Configuration → (set destination : ℕ) → Management → Node WholeQueues → Node WholeQueues
asked_again c set destination test node =
    let asking : Message = management_to c (adjacent_of c set) test in
    let next : Node WholeQueues =
    with_parts node (record node.parts { timers = set_timer (T10 set destination) c.timers.t10 node.parts.timers }) in
    if is_some (link_of c node.parts (flow_of asking)) then send_routed whole c asking next else next

pub record AsksAgain (c : Configuration) (set destination : ℕ) (node : Node WholeQueues) : Type 0 where
  pub prohibited : status_of (facts c node.parts) destination set ≡ Some Prohibited →
      run_timer whole c (T10 set destination) node
      ≡ asked_again c set destination (RouteSetTestProhibited (point_of c destination)) node
  pub restricted : status_of (facts c node.parts) destination set ≡ Some Restricted →
      run_timer whole c (T10 set destination) node
      ≡ asked_again c set destination (RouteSetTestRestricted (point_of c destination)) node

abbrev pub tests_are_repeated : Type 0
tests_are_repeated =
    (c : Configuration) (set destination : ℕ) (node : Node WholeQueues) → set < length c.sets →
    destination < length c.destinations → AsksAgain c set destination node
