-- The states of links and destinations, by what an exchange shows of them.
use Rattle.std.specs.Prelude.{ℕ, Bool, true, false, ◌&&◌, ◌==◌, List, slice_get, Option, None, Some}
use Rattle.std.specs.List.{list_any}
use Rattle.std.specs.Option.{option_map}
use Rattle.exchange.specs.Calls.{Kept}
use Rattle.exchange.specs.KeptQueues.{kept}
use Rattle.exchange.specs.Views.{is_barred_at, link_view, may_restart_at, obstacle_at, route_view}
use Rattle.exchange.specs.declared.view.LinkStanding.{LinkStanding}
use Rattle.exchange.specs.declared.view.LinkStanding.TheVariants as standing
use Rattle.exchange.specs.declared.view.Obstacle.{Obstacle}
use Rattle.exchange.specs.declared.view.Obstacle.TheVariants.{PeerBusy, PeerOutage, Untested}
use Rattle.exchange.specs.declared.view.RouteView.{RouteView}
use Rattle.exchange_rules.specs.Exchange.{wants_of}
use Rattle.exchange_rules.specs.declared.wants.Wants.{Wants}
use Rattle.exchange_rules.specs.declared.wants.Wants.TheVariants as wants
use Rattle.served_link.specs.DestinationStates.{by_sets}
use Rattle.served_link.specs.declared.destination_states.Access.{Access}
use Rattle.served_link.specs.declared.destination_states.Access.TheVariants as access
use Rattle.served_link.specs.declared.destination_states.DestinationState.{DestinationState}
use Rattle.served_link.specs.declared.service_states.ServiceState.{ServiceState}
use Rattle.served_link.specs.declared.service_states.ServiceState.TheVariants as state
use Rattle.routes.specs.declared.route.RouteStatus.{RouteStatus}
use Rattle.routes.specs.declared.route.RouteStatus.TheVariants as status

-- the state of a link that is down, by whether it is barred, whether its changeover lets it restart, and what it wants
abbrev pub down_state : (is_barred may_restart : Bool) → Wants → ServiceState
down_state true may_restart wanted = state.Barred
down_state false false wanted = state.ChangingOver
down_state false true wants.Close = state.Closing
down_state false true wants.Open = state.Failed
down_state false true wants.Nothing = state.Deactivated

-- the state of a link in service, by what keeps user messages off it: a busy peer leaves it available (Q.704 §3.2.1)
abbrev pub served_state : Option Obstacle → ServiceState
served_state None = state.InService
served_state (Some Untested) = state.UnderTest
served_state (Some PeerOutage) = state.ProcessorOutage
served_state (Some PeerBusy) = state.InService

-- the state of a link, by where it stands, and by the states that it has if it is down, and if it is in service
abbrev pub state_by : LinkStanding → (down served : ServiceState) → ServiceState
state_by standing.Down down served = down
state_by standing.NotAligned down served = state.Aligning
state_by standing.Aligned down served = state.Aligning
state_by standing.Proving down served = state.Aligning
state_by standing.AlignedReady down served = state.Aligning
state_by standing.InService down served = served

-- the state of a link, if there is one
abbrev pub service_state_in : Kept → (link : ℕ) → Option ServiceState
service_state_in s link =
    option_map
    (λ view. state_by view.standing (down_state (is_barred_at s link) (may_restart_at s link) (wants_of s link))
    (served_state (obstacle_at s link)))
    (link_view kept s link)

-- whether a destination is accessible, by the status of the routes that messages take (Q.704 §3.4)
abbrev pub access_by : RouteStatus → Access
access_by status.Allowed = access.Accessible
access_by status.Restricted = access.Restricted
access_by status.Prohibited = access.Inaccessible

abbrev pub state_of_route : RouteView → DestinationState
state_of_route view = by_sets (access_by view.status) view.sets.items

-- the state of a destination, if there is one
abbrev pub destination_state_in : Kept → (destination : ℕ) → Option DestinationState
destination_state_in s destination = option_map state_of_route (route_view s destination)
