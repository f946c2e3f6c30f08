-- How routing facts are kept and lent, with the links of all flows.
use Rattle.std.specs.Prelude.{◌≡◌, ℕ, ◌≤◌, List, Option, length}
use Rattle.routes.specs.Routes.{Facts}
use Rattle.signalling_types.specs.declared.limits.TheConstants.Limits.{LINKS, SELECTIONS}
use Rattle.routes.specs.Table.{table_of}
use Rattle.routes.specs.declared.route_facts.RouteFacts.TheInside as route_facts
use Rattle.routes.specs.declared.known.KnownRoutes.TheInside as known
use Rattle.routes.specs.declared.flow_links.FlowLinks.TheInside as flow_links
use Rattle.routes.specs.declared.routes.Routes.TheInside as routes

abbrev pub route_facts_in : route_facts.Inside → Facts
route_facts_in s = record s.known.now { in_service = s.in_service.now }

abbrev pub facts_in : known.Inside → Facts
facts_in s = record { sets = s.sets.items; in_service = s.in_service.items; routes = s.destinations.items }

-- there are no more links than a node may have
pub record HasFew (s : known.Inside) : Type 0 where
  pub few : length s.in_service.items ≤ LINKS

abbrev pub flow_links_in : flow_links.Inside → List (Option ℕ)
flow_links_in s = s.links

-- there is a place for each selection
pub record HasPlaces (s : flow_links.Inside) : Type 0 where
  pub places : length s.links ≡ SELECTIONS

abbrev pub known_in : routes.Inside → Facts
known_in s = s.known

-- the table has the links that follow from what is known
pub record IsCompiled (s : routes.Inside) : Type 0 where
  pub table : s.links.items ≡ table_of s.known
