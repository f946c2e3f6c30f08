-- TSRC, signalling routing control (Q.704 §2.3, §4.2): the links of a set in the order of their signalling link codes
-- (§15.2), what is known of routes, and which link a flow takes.
use Rattle.std.specs.Prelude.{ℕ, zero, suc, Bool, ◌&&◌, List, [], ◌++◌, Option, position, nat_eq, false, ◌∷◌, length, map, replicate, slice_index_or, slice_set, if◌then◌else◌, ◌/◌, ◌%◌, find, slice_get, ◌==◌, Some, None, codes, unwrap_or}
use Rattle.std.specs.List.{list_any, remove, filter, flat_map}
use Rattle.std.specs.Option.{option_to_list, option_map}
use Rattle.settings.specs.Configuration.{LinkEntry, DestinationEntry}
use Rattle.routes.specs.declared.route.Route.{Route}
use Rattle.routes.specs.declared.route.RouteStatus.{RouteStatus}
use Rattle.routes.specs.declared.route.RouteStatus.TheVariants.{Allowed, Restricted, Prohibited}
use Rattle.routes.specs.declared.link_group.Member.{Member}

abbrev pub has_code : (set code : ℕ) → LinkEntry → Bool
has_code set code link = nat_eq link.set set && nat_eq link.slc code

-- the link of a set that has this code, if there is one
abbrev pub link_with : (links : List LinkEntry) (set code : ℕ) → Option ℕ
link_with links set code = position (has_code set code) links

-- the links of a set whose codes are below a limit, in the order of their codes
unfoldable pub links_below : ℕ → (links : List LinkEntry) (set : ℕ) → List ℕ
links_below zero links set = []
links_below (suc code) links set = links_below code links set ++ option_to_list (link_with links set code)

-- all links of a set, in the order of their codes, which have four bits
abbrev pub links_of : (links : List LinkEntry) (set : ℕ) → List ℕ
links_of links set = links_below 16 links set

abbrev pub has_member : (link : ℕ) → List ℕ → Bool
has_member link links = list_any (λ l. nat_eq l link) links

-- ---- What is known of routes (Q.704 §3).

-- routing facts: the links of each set, by their codes; whether each link is in service; and the routes of each
-- destination, by the sets that lead there, the preferred one first
pub record Facts : Type 0 where
  pub sets : List (List ℕ)
  pub in_service : List Bool
  pub routes : List (List Route)

-- the links of one set
abbrev pub set_at : Facts → ℕ → List ℕ
set_at f set = slice_index_or f.sets set []

-- the routes to one destination
abbrev pub routes_to : Facts → ℕ → List Route
routes_to f destination = slice_index_or f.routes destination []

-- ---- how they begin

-- a route is allowed at first
abbrev pub first_route : ℕ → Route
first_route set = record { set = set; status = Allowed; joined = false }

-- whether the second of some routes is joined to the first
abbrev pub with_second_joined : Bool → List Route → List Route
with_second_joined joined [] = []
with_second_joined joined (first ∷ []) = first ∷ []
with_second_joined joined (first ∷ second ∷ rest) = first ∷ record second { joined = joined } ∷ rest

-- the routes to a destination at first
abbrev pub first_routes : DestinationEntry → List Route
first_routes d = with_second_joined d.joined (map first_route d.sets)

-- the links of the first n sets
unfoldable pub first_sets : ℕ → List LinkEntry → List (List ℕ)
first_sets zero links = []
first_sets (suc n) links = first_sets n links ++ links_of links n ∷ []

-- no link is in service, and all routes are allowed
abbrev pub first_facts : ℕ → List LinkEntry → List DestinationEntry → Facts
first_facts sets links destinations = record {
  sets = first_sets sets links;
  in_service = replicate (length links) false;
  routes = map first_routes destinations;
}

-- ---- how they change

-- a link enters service, or leaves it
abbrev pub with_link : ℕ → Bool → Facts → Facts
with_link link in_service f = record f { in_service = slice_set f.in_service link in_service }

-- a route gets a status, if it goes by this set
abbrev pub with_status_over : ℕ → RouteStatus → Route → Route
with_status_over set status route = if nat_eq route.set set then record route { status = status } else route

-- the route to a destination by a set gets a status, if there is one
abbrev pub with_status : ℕ → ℕ → RouteStatus → Facts → Facts
with_status destination set status f =
    record f { routes = slice_set f.routes destination (map (with_status_over set status) (routes_to f destination)) }

-- ---- In which order a flow tries the links of a group, of one set or of two that are joined (this node's own).

-- the order in which n links are tried: first the one at the selection modulo n, then the others by the quotient
abbrev pub order_of : {A : Type 0} → ℕ → ℕ → List A → List A
order_of zero selection links = []
order_of (suc n) selection [] = []
order_of (suc n) selection (first ∷ rest) =
    slice_index_or (first ∷ rest) (selection % suc n) first
    ∷ order_of n (selection / suc n) (remove (first ∷ rest) (selection % suc n))

-- the order in which a flow of this selection tries the links of a group
abbrev pub preference : {A : Type 0} → ℕ → List A → List A
preference selection links = order_of (length links) selection links

-- whether a link is in service, by the list of all links
abbrev pub is_in_service : List Bool → ℕ → Bool
is_in_service in_service link = slice_index_or in_service link false

-- whether some link of a set is in service
abbrev pub has_link : List Bool → List ℕ → Bool
has_link in_service links = list_any (λ l. is_in_service in_service l) links

-- the links of a set, each with that set
abbrev pub members_of : (set : ℕ) → List ℕ → List Member
members_of set links = map (λ link. record { link = link; set = set }) links

-- whether messages that take these sets may take a link: it is in service, and its set is one of them
abbrev pub serves : List Bool → (sets : List ℕ) → Member → Bool
serves in_service sets m = is_in_service in_service m.link && list_any (λ set. nat_eq set m.set) sets

-- the link of a group that a flow of this selection tries first, of those that messages that take these sets may take
abbrev pub first_member : ℕ → List Bool → (sets : List ℕ) → List Member → Option Member
first_member selection in_service sets group = find (serves in_service sets) (preference selection group)

-- the same, as a link alone
abbrev pub first_serving : ℕ → List Bool → (sets : List ℕ) → List Member → Option ℕ
first_serving selection in_service sets group = option_map (λ m. m.link) (first_member selection in_service sets group)

-- the link of a group that a flow of this selection tries first
abbrev pub first_tried : ℕ → List Member → Option Member
first_tried selection group = slice_get (preference selection group) 0

-- ---- Which sets and which link a flow takes (Q.704 §4.2).

-- the statuses by number
abbrev pub status_number : RouteStatus → ℕ
status_number Allowed = 0
status_number Restricted = 1
status_number Prohibited = 2

-- and by name
abbrev pub status_name : RouteStatus → List ℕ
status_name Allowed = codes "allowed"
status_name Restricted = codes "restricted"
status_name Prohibited = codes "prohibited"

-- whether a route has this status, and its set a link in service
abbrev pub is_open : Facts → RouteStatus → Route → Bool
is_open f status route =
    (status_number route.status == status_number status) && has_link f.in_service (set_at f route.set)

-- ---- the sets

-- each of some routes as a group by itself
abbrev pub alone : List Route → List (List Route)
alone routes = map (λ route. route ∷ []) routes

-- the routes to a destination in groups: the first two together if they are joined, and every other by itself
abbrev pub groups_of : List Route → List (List Route)
groups_of [] = []
groups_of (first ∷ []) = alone (first ∷ [])
groups_of (first ∷ second ∷ rest) =
    if second.joined then (first ∷ second ∷ []) ∷ alone rest else alone (first ∷ second ∷ rest)

-- how many routes the first group has
abbrev pub first_size : List Route → ℕ
first_size [] = 0
first_size (first ∷ []) = 1
first_size (first ∷ second ∷ rest) = if second.joined then 2 else 1

-- the first group with a route that has this status and whose set has a link in service, if there is one
abbrev pub open_group : Facts → RouteStatus → List (List Route) → List Route
open_group f status groups = unwrap_or (find (list_any (is_open f status)) groups) []

-- a group, and the status of those of its routes that messages take
pub record Choice : Type 0 where
  pub group : List Route
  pub status : RouteStatus

-- a group by its allowed routes; if it has none, another group by its restricted ones
abbrev pub allowed_or : (allowed restricted : List Route) → Choice
allowed_or (first ∷ rest) restricted = record { group = first ∷ rest; status = Allowed }
allowed_or [] restricted = record { group = restricted; status = Restricted }

-- the group that messages take: the first that has an allowed set with a link in service, else the first that has a
-- restricted one
unfoldable pub choice_among : Facts → List Route → Choice
choice_among f routes =
    allowed_or (open_group f Allowed (groups_of routes)) (open_group f Restricted (groups_of routes))

-- the routes of the group that they take: all with that status whose sets have a link in service
abbrev pub taken_by : Facts → Choice → List Route
taken_by f c = filter (is_open f c.status) c.group

-- the sets that routes go by
abbrev pub sets_of : List Route → List ℕ
sets_of routes = map (λ route. route.set) routes

-- the routes that messages to a destination take
abbrev pub chosen_routes : Facts → ℕ → List Route
chosen_routes f destination = taken_by f (choice_among f (routes_to f destination))

-- the sets that they take
abbrev pub chosen_sets : Facts → ℕ → List ℕ
chosen_sets f destination = sets_of (chosen_routes f destination)

-- ---- the link

-- the links of a group, each with its set: the first set's in the order of their codes, then the second's
abbrev pub members : Facts → List Route → List Member
members f group = flat_map (λ route. members_of route.set (set_at f route.set)) group

-- the link of a flow by a choice: of the links in service whose set messages take, the one that it tries first
unfoldable pub link_by : Facts → Choice → (selection : ℕ) → Option ℕ
link_by f c selection = first_serving selection f.in_service (sets_of (taken_by f c)) (members f c.group)

-- the link of a flow
abbrev pub chosen_link : Facts → (destination selection : ℕ) → Option ℕ
chosen_link f destination selection = link_by f (choice_among f (routes_to f destination)) selection

-- ---- a set alone

-- the set of a group of one route
abbrev pub alone_in : List Route → Option ℕ
alone_in [] = None
alone_in (route ∷ []) = Some route.set
alone_in (first ∷ second ∷ rest) = None

-- the set that all messages to a destination take, if the group that they take is that set alone
abbrev pub lone_set : Facts → ℕ → Option ℕ
lone_set f destination = alone_in (choice_among f (routes_to f destination)).group

-- ---- The statuses of routes: reading one, and making those of a set allowed again (Q.704 §13).

-- whether a route goes by a set
abbrev pub leads_by : ℕ → Route → Bool
leads_by set route = nat_eq route.set set

-- the status of the route to a destination by a set, if there is such a route
abbrev pub status_of : Facts → (destination set : ℕ) → Option RouteStatus
status_of f destination set = option_map (λ route. route.status) (find (leads_by set) (routes_to f destination))

-- all routes by a set are allowed
abbrev pub with_statuses_reset : ℕ → Facts → Facts
with_statuses_reset set f = record f { routes = map (map (with_status_over set Allowed)) f.routes }
