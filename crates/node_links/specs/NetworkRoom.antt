-- How the links of a node are kept.
use Rattle.std.specs.Prelude.{◌≡◌}
use Rattle.node_links.specs.NodeLinks.{Network, serving}
use Rattle.node_links.specs.declared.node_links.NodeLinks.TheInside.{Inside}

abbrev pub network_in : Inside → Network
network_in s = record { links = s.states.items; sets = s.routes.sets; routes = s.routes.routes }

-- the routes know which links carry traffic
pub record Agrees (s : Inside) : Type 0 where
  pub serving : s.routes.in_service ≡ serving s.states.items
