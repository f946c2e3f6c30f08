-- TLAC, link availability control (Q.704 §3.2): the state of a link, apart from its queue.
use Rattle.std.specs.Prelude.{◌≡◌, Bool, List, true, false, [], ◌∷◌, ◌++◌, ℕ, map, length, replicate, slice_index_or, slice_set, ◌&&◌, not}
use Rattle.m2pa_codec.specs.declared.status.LinkStatus.{LinkStatus}
use Rattle.m2pa_codec.specs.declared.status.LinkStatus.TheVariants.{OutOfService, Ready}
use Rattle.link.specs.declared.alignment.Alignment.{Alignment}
use Rattle.std.specs.Option.{option_to_list}
use Rattle.link.specs.declared.alignment.Alignment.TheVariants.{Down, NotAligned, Aligned, Proving, AlignedReady, InService}
use Rattle.link.specs.declared.action.Transition.{Transition}
use Rattle.link.specs.declared.action.Action.{Action}
use Rattle.link.specs.declared.action.Action.TheVariants.{Ignored, Fail, Go}
use Rattle.link.specs.declared.action.Input.{Input}
use Rattle.link.specs.declared.period.Period.{Period}
use Rattle.link.specs.declared.period.Period.TheVariants.{Fixed}
use Rattle.link.specs.Table.{action_at, opening}
use Rattle.settings.specs.Configuration.{LinkEntry, DestinationEntry}
use Rattle.routes.specs.declared.route.Route.{Route}
use Rattle.routes.specs.Routes.{Facts, first_sets, first_routes}
use Rattle.routes.specs.declared.route.RouteStatus.{RouteStatus}
use Rattle.routes.specs.Routes as facts

pub record Link : Type 0 where
  -- where it stands on its way into service
  pub alignment : Alignment
  -- how long it is proved on that way
  pub period : Period
  pub association : Bool
  -- whether the operator lets it open
  pub active : Bool
  -- whether the operator asked for emergency proving with that
  pub emergency : Bool
  -- the statuses that wait to go out, the oldest first
  pub waiting : List LinkStatus
  -- whether its peer takes no messages for now
  pub peer_busy : Bool
  -- whether that is because the peer's processor is out
  pub peer_outage : Bool
  -- whether a message that came isn't acknowledged yet
  pub acknowledgement_owed : Bool
  -- whether its last test failed (Q.707 §2.2)
  pub test_failed : Bool
  -- whether it has yet to pass a test before it carries traffic
  pub untested : Bool

-- ---- The state of one link, apart from its queue.

-- a link that has never been up; the operator lets it open
abbrev pub down_link : Link
down_link = record {
  alignment = Down;
  period = Fixed;
  association = false;
  active = true;
  emergency = false;
  waiting = [];
  peer_busy = false;
  peer_outage = false;
  acknowledgement_owed = false;
  test_failed = false;
  untested = false;
}

-- what a link does about an input
abbrev pub acts_on : Link → Input → Action
acts_on l input = action_at l.period l.alignment input

-- the statuses that wait before a step sends one: none of them if the link begins anew
abbrev pub kept_waiting : (anew : Bool) → List LinkStatus → List LinkStatus
kept_waiting true waiting = []
kept_waiting false waiting = waiting

-- a link after a step of its alignment; the status that the step sends waits after the others
abbrev pub stepped : Transition → Link → Link
stepped step l = record l {
  alignment = step.state;
  period = step.period;
  waiting = kept_waiting step.anew l.waiting ++ option_to_list step.send;
}

-- a link after what its alignment does about an input
abbrev pub after_action : Action → Link → Link
after_action Ignored l = l
after_action Fail l = l
after_action (Go step) l = stepped step l

-- a link that failed: no status waits, and Busy, an outage, an acknowledgement that was owed, and what its tests said
-- are forgotten
abbrev pub after_failure : Link → Link
after_failure l = record l {
  alignment = Down;
  waiting = [];
  peer_busy = false;
  peer_outage = false;
  acknowledgement_owed = false;
  test_failed = false;
  untested = false;
}

-- the statuses that go out before a link aligns: its peer may be told first that the link is out of service (RFC 4165
-- §4.1.3, §5.1)
abbrev pub sent_first : (tells_out : Bool) → List LinkStatus
sent_first true = OutOfService ∷ []
sent_first false = []

-- a link that got an association restarts, with a proving period
abbrev pub opened : (tells_out : Bool) → Period → Link → Link
opened tells_out period l =
    stepped (opening period) (record (after_failure l) { association = true; waiting = sent_first tells_out })

-- Ready waits to go out, unless a status waits still: in service that is Ready too, or Ready is behind it
abbrev pub with_ready : List LinkStatus → List LinkStatus
with_ready [] = Ready ∷ []
with_ready (status ∷ others) = status ∷ others

-- the processor of a link's peer recovered: the outage is over, and Ready answers that (RFC 4165 §4.1.4)
abbrev pub recovered : Link → Link
recovered l = record l { peer_outage = false; waiting = with_ready l.waiting }

-- what the operator ordered of a link stays
pub record IsOrderedAlike (l m : Link) : Type 0 where
  pub active : m.active ≡ l.active
  pub emergency : m.emergency ≡ l.emergency

-- a link that is down takes no frames
abbrev pub is_down : Alignment → Bool
is_down Down = true
is_down NotAligned = false
is_down Aligned = false
is_down (Proving ready) = false
is_down AlignedReady = false
is_down InService = false

-- a link in service sends and takes messages
abbrev pub is_in_service : Alignment → Bool
is_in_service Down = false
is_in_service NotAligned = false
is_in_service Aligned = false
is_in_service (Proving ready) = false
is_in_service AlignedReady = false
is_in_service InService = true

-- it carries traffic, unless it has yet to pass a test (Q.707 §2.2)
abbrev pub carries_traffic : Link → Bool
carries_traffic l = is_in_service l.alignment && not l.untested

-- ---- The links of a node, the links of each set, and the routes to each destination.

pub record Network : Type 0 where
  pub links : List Link
  pub sets : List (List ℕ)
  pub routes : List (List Route)

-- for each link, whether it carries traffic
abbrev pub serving : List Link → List Bool
serving links = map carries_traffic links

-- what is known of routes: of the links, those count as in service that carry traffic
abbrev pub facts_of : Network → Facts
facts_of n = record { sets = n.sets; in_service = serving n.links; routes = n.routes }

-- one link; one that isn't there is down
abbrev pub link_in : List Link → ℕ → Link
link_in links link = slice_index_or links link down_link

-- one link in another state
abbrev pub with_state : Network → ℕ → Link → Network
with_state n link state = record n { links = slice_set n.links link state }

-- at first every link is down, and every route is allowed
abbrev pub first_network : ℕ → List LinkEntry → List DestinationEntry → Network
first_network sets links destinations = record {
  links = replicate (length links) down_link;
  sets = first_sets sets links;
  routes = map first_routes destinations;
}

-- ---- The statuses of a node's routes, as they change (Q.704 §13).

-- the route to a destination by a set gets a status, if there is one
abbrev pub with_route_status : (destination set : ℕ) → RouteStatus → Network → Network
with_route_status destination set status n =
    record n { routes = (facts.with_status destination set status (facts_of n)).routes }

-- all routes by a set are allowed
abbrev pub with_statuses_reset : ℕ → Network → Network
with_statuses_reset set n = record n { routes = (facts.with_statuses_reset set (facts_of n)).routes }
