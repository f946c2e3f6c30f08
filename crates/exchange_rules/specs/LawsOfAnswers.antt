-- What answers mean: laws.
use Rattle.std.specs.Prelude.{◌≡◌, ◌≤◌, ◌<◌, ◌⊎◌, ◌+◌, ◌++◌, ◌↔◌, ℕ, true, false, max, length, List, [], ◌∷◌, None, Ok, Option, Some}
use Rattle.settings.specs.Configuration.{Configuration}
use Rattle.signalling_types.specs.Message.{Message, dpc_of, flow_of}
use Rattle.signalling_types.specs.declared.limits.TheConstants.Limits.{LINKS, WINDOW}
use Rattle.signalling_types.specs.declared.outcome.Outcome.TheVariants.{Queued, Handled, Refused}
use Rattle.signalling_types.specs.declared.cause.Cause.TheVariants.{NoRoute}
use Rattle.settings.specs.Readings.{destination_place}
use Rattle.timers.specs.declared.name.TimerName.TheVariants.{T8}
use Rattle.timers.specs.Timers.{is_running}
use Rattle.exchange_rules.specs.declared.wants.Wants.TheVariants.{Open}
use Rattle.exchange_rules.specs.State.{Activated, Asking, AsksWants, CameUp, Deactivated, Released, FrameCame, Happening, Happens, Node, Parts, Submitted, Takes, Ticked, TitleAdded, TitleSet, TitleRemoved, WentDown, link_at}
use Rattle.exchange_rules.specs.Routing.{link_of, set_of}
use Rattle.exchange_rules.specs.Messages.{transfer}
use Rattle.exchange_rules.specs.Telling.{on_route_test, route_message}
use Rattle.route_management.specs.declared.heard.RouteTest.{RouteTest}
use Rattle.routes.specs.declared.route.RouteStatus.{RouteStatus}
use Rattle.routes.specs.declared.route.RouteStatus.TheVariants.{Prohibited}
use Rattle.exchange_rules.specs.Queues.{WholeQueues, queue_at, whole}
use Rattle.exchange_rules.specs.Exchange.{after, outcome_of, taken, wants_of}
use Rattle.exchange_rules.specs.First.{Abstract, first_state}
use Rattle.exchange_rules.specs.Lasting.{HasAllPlaces, after_asking, after_each}
use Rattle.exchange_rules.specs.Aligning.{Carries, MayEnter, RunsOut}
use Rattle.exchange_rules.specs.Testing.{serves_set}

-- a link wants to open exactly when its association would be accepted, in each state reached from the first
abbrev pub wanted_links_open : Type 0
wanted_links_open =
    (c : Configuration) (asked : List Asking) (link : ℕ) → length c.links ≤ LINKS → c.window ≤ WINDOW →
    (wants_of (after_each asked (first_state c)) link ≡ Open)
    ↔ (outcome_of whole (CameUp link) (after_each asked (first_state c)) ≡ Handled)

-- Queued names the link that the flow had before the message came, and the message goes to the end of its queue
abbrev pub queued_stands_last : Type 0
queued_stands_last =
    (c : Configuration) (from : Option ℕ) (m : Message) (node : Node WholeQueues) (link : ℕ) →
    link < length node.queues.links → (transfer whole c from m node).outcome ≡ Queued link →
    (link_of c node.parts (flow_of m) ≡ Some link)
    × ((queue_at (transfer whole c from m node).left.queues link).all ≡ (queue_at node.queues link).all ++ m ∷ [])

-- A message that came by a link finds no route. While T8 of the link's set and the destination runs, the point at the
-- other end is told nothing, nor while no link leads to it; if it is told, T8 runs from then on, for as long as it is
-- set to.
pub record IsToldOnce (c : Configuration) (set destination : ℕ) (before after : Node WholeQueues) : Type 0 where
  pub inhibited : is_running (T8 set destination) before.parts.timers ≡ true → after ≡ before
  pub stranded : link_of c before.parts (flow_of (route_message c set destination Prohibited)) ≡ None → after ≡ before
  pub told : (after ≡ before) ⊎ (after.parts.timers.left (T8 set destination) ≡ Some (max 1 c.timers.t8))

abbrev pub one_answer_within_t8 : Type 0
one_answer_within_t8 =
    (c : Configuration) (link destination : ℕ) (m : Message) (node : Node WholeQueues) → HasAllPlaces c node →
    set_of c link < length c.sets → destination < length c.destinations →
    destination_place c (dpc_of m) ≡ Some destination →
    (transfer whole c (Some link) m node).outcome ≡ Refused NoRoute →
    IsToldOnce c (set_of c link) destination node (transfer whole c (Some link) m node).left

-- A test by which an adjacent point asks about a route is answered only if a link leads there. Else nothing changes, so
-- the point is still owed what it was owed.
abbrev pub route_tests_need_a_link : Type 0
route_tests_need_a_link =
    (c : Configuration) (asked : RouteTest) (set destination : ℕ) (node : Node WholeQueues) →
    ((status : RouteStatus) →
    link_of c node.parts (flow_of (route_message c set destination status)) ≡ None) →
    (on_route_test whole c asked (Ok (set, destination)) node).left ≡ node

-- ---- T8 isn't stopped early

-- a link may begin to carry traffic by an event: it may enter service, or User Data comes by it, which may carry the
-- answer to its first test
abbrev pub MayCarry : (link : ℕ) → Happening → Parts → Type 0
MayCarry link what p = MayEnter link what p ⊎ (Carries link what × ((link_at p link).untested ≡ true))

-- a set comes back by an event: one of its links may begin to carry traffic, and none of them does
pub record ComesBack (c : Configuration) (what : Happening) (set : ℕ) (p : Parts) : Type 0 where
  pub link : ℕ
  pub of_set : set_of c link ≡ set
  pub begins : MayCarry link what p
  pub first : serves_set c p set ≡ false

-- T8 of a set and a destination runs on over each event, unless it runs out at this tick or the set comes back
abbrev pub t8_runs_its_time : Type 0
t8_runs_its_time =
    (what : Happening) (a : Abstract) (set destination : ℕ) →
    is_running (T8 set destination) a.node.parts.timers ≡ true →
    (is_running (T8 set destination) (after whole what a).node.parts.timers ≡ true)
    ⊎ (RunsOut (T8 set destination) what a.node.parts.timers ⊎ ComesBack a.settings what set a.node.parts)

-- and a take leaves it
abbrev pub takes_leave_t8 : Type 0
takes_leave_t8 =
    (a : Abstract) (link set destination : ℕ) →
    (taken whole a link).node.parts.timers.left (T8 set destination)
    ≡ a.node.parts.timers.left (T8 set destination)

-- how many of these are ticks
abbrev pub ticks_by : Happening → ℕ
ticks_by Ticked = 1
ticks_by (CameUp link) = 0
ticks_by (WentDown link) = 0
ticks_by (FrameCame link text) = 0
ticks_by (Submitted message) = 0
ticks_by (Activated link emergency) = 0
ticks_by (Deactivated link) = 0
ticks_by (Released link) = 0
ticks_by (TitleAdded row is_memory_refused) = 0
ticks_by (TitleSet row is_memory_refused) = 0
ticks_by (TitleRemoved key digits) = 0

abbrev pub ticks_in : Asking → ℕ
ticks_in (Happens what) = ticks_by what
ticks_in (Takes link) = 0
ticks_in (AsksWants link) = 0

abbrev pub ticks_among : List Asking → ℕ
ticks_among [] = 0
ticks_among (asking ∷ others) = ticks_in asking + ticks_among others

-- a set comes back by none of these
abbrev pub StaysAway : Asking → (set : ℕ) → Abstract → Type 0
StaysAway (Happens what) set a = ComesBack a.settings what set a.node.parts → ⊥
StaysAway (Takes link) set a = Unit {0}
StaysAway (AsksWants link) set a = Unit {0}

abbrev pub AllStayAway : List Asking → (set : ℕ) → Abstract → Type 0
AllStayAway [] set a = Unit {0}
AllStayAway (asking ∷ others) set a = StaysAway asking set a × AllStayAway others set (after_asking asking a)

-- So whatever is asked, T8 that was started runs on for fewer ticks than it is set to, unless the set comes back.
abbrev pub t8_lasts : Type 0
t8_lasts =
    (asked : List Asking) (a : Abstract) (set destination : ℕ) →
    a.node.parts.timers.left (T8 set destination) ≡ Some (max 1 a.settings.timers.t8) →
    ticks_among asked < max 1 a.settings.timers.t8 → AllStayAway asked set a →
    is_running (T8 set destination) (after_each asked a).node.parts.timers ≡ true
