-- What an exchange shows of its links and its routes.
use Rattle.std.specs.Prelude.{ℕ, Bool, ◌&&◌, is_some, List, [], ◌∷◌, Option, Some, None, codes, length, slice_get, if◌then◌else◌}
use Rattle.std.specs.Option.{option_map}
use Rattle.link.specs.declared.alignment.Alignment.{Alignment}
use Rattle.link.specs.declared.alignment.Alignment.TheVariants as alignment
use Rattle.routes.specs.declared.route.Route.{Route}
use Rattle.routes.specs.declared.route.RouteStatus.{RouteStatus}
use Rattle.routes.specs.declared.route.RouteStatus.TheVariants.{Prohibited}
use Rattle.routes.specs.Routes.{chosen_routes, sets_of, status_of}
use Rattle.exchange.specs.declared.view.LinkStanding.{LinkStanding}
use Rattle.exchange.specs.declared.view.LinkStanding.TheVariants as standing
use Rattle.exchange.specs.declared.view.LinkView.{LinkView}
use Rattle.exchange.specs.declared.view.Obstacle.{Obstacle}
use Rattle.exchange.specs.declared.view.Obstacle.TheVariants.{Untested, PeerOutage, PeerBusy}
use Rattle.exchange.specs.declared.view.RouteView.{RouteView}
use Rattle.exchange_rules.specs.State.{QueueKind, Node, State, is_link, link_at, down, in_service}
use Rattle.node_links.specs.NodeLinks.{Link}
use Rattle.changeover.specs.Changeover.{may_restart, is_barred}
use Rattle.exchange_rules.specs.ChangingOver.{changeover_of}
use Rattle.exchange_rules.specs.Routing.{facts}

-- where a link stands; what it remembers in Proving isn't shown
abbrev pub standing_of : Alignment → LinkStanding
standing_of alignment.Down = standing.Down
standing_of alignment.NotAligned = standing.NotAligned
standing_of alignment.Aligned = standing.Aligned
standing_of (alignment.Proving ready) = standing.Proving
standing_of alignment.AlignedReady = standing.AlignedReady
standing_of alignment.InService = standing.InService

abbrev pub standing_name : LinkStanding → List ℕ
standing_name standing.Down = codes "Down"
standing_name standing.NotAligned = codes "NotAligned"
standing_name standing.Aligned = codes "Aligned"
standing_name standing.Proving = codes "Proving"
standing_name standing.AlignedReady = codes "AlignedReady"
standing_name standing.InService = codes "InService"

abbrev pub link_shown : {Q : Type 0} → QueueKind Q → Node Q → ℕ → LinkView
link_shown q node link = record {
  standing = standing_of (link_at node.parts link).alignment;
  waiting = length (q.unconfirmed node.queues link);
  last_sent = q.last_sent node.queues link;
  last_accepted = q.last_accepted node.queues link;
}

abbrev pub link_view : {Q : Type 0} → QueueKind Q → State Q → ℕ → Option LinkView
link_view q s link = if is_link s.node.parts link then Some (link_shown q s.node link) else None

-- whether a link may open as far as its changeover goes: it is there and down, its changeover is complete, and no
-- answer to its order is awaited
abbrev pub may_restart_at : {Q : Type 0} → State Q → ℕ → Bool
may_restart_at s link =
    is_link s.node.parts link && (down s.node.parts link && may_restart (changeover_of s.node.parts link))

-- whether a link is barred from opening: the settings bar links, its changeover is complete, and the answer to its
-- order is awaited
abbrev pub is_barred_at : {Q : Type 0} → State Q → ℕ → Bool
is_barred_at s link =
    is_some s.settings.timers.t2_bar && (is_link s.node.parts link && is_barred (changeover_of s.node.parts link))

-- what keeps a link in service from carrying user messages: its first test isn't passed (Q.707 §2.2), the peer's
-- processor is out (RFC 4165 §4.1.4), or the peer is busy (§4.1.5)
abbrev pub obstacle_of : Link → Option Obstacle
obstacle_of l =
    if l.untested then Some Untested
    else if l.peer_outage then Some PeerOutage
    else if l.peer_busy then Some PeerBusy
    else None

-- the same of the link of this number: nothing if there is none, or if it isn't in service
abbrev pub obstacle_at : {Q : Type 0} → State Q → ℕ → Option Obstacle
obstacle_at s link =
    if is_link s.node.parts link && in_service s.node.parts link then obstacle_of (link_at s.node.parts link) else None

-- the status of the routes that messages take
abbrev pub status_shown : List Route → RouteStatus
status_shown [] = Prohibited
status_shown (first ∷ rest) = first.status

-- a destination as it is shown, with the sets that messages take to it
abbrev pub route_shown : ℕ → List Route → RouteView
route_shown point routes = record {
  point = point;
  sets = record { items = sets_of routes };
  status = status_shown routes;
}

abbrev pub route_view : {Q : Type 0} → State Q → ℕ → Option RouteView
route_view s destination =
    option_map (λ row. route_shown row.point (chosen_routes (facts s.settings s.node.parts) destination))
    (slice_get s.settings.destinations destination)

-- the status of the route to a destination over a set, if there is one
abbrev pub route_status : {Q : Type 0} → State Q → (destination set : ℕ) → Option RouteStatus
route_status s destination set = status_of (facts s.settings s.node.parts) destination set
