-- One adjacent point is told of one destination, or of all.
use Rattle.std.specs.Prelude.{ℕ, Option, Some, None}
use Rattle.settings.specs.Configuration.{Configuration}
use Rattle.routes.specs.Routes.{Facts}
use Rattle.routes.specs.declared.route.RouteStatus.{RouteStatus}
use Rattle.route_management.specs.Told.{owed_at, owed_to}
use Rattle.exchange_rules.specs.State.{QueueKind, Node, State, with_node}
use Rattle.exchange_rules.specs.Routing.{facts}
use Rattle.exchange_rules.specs.Telling.{tell_if, tell_each}
use Rattle.exchange.specs.KeptQueues.{KeptQueues, kept}

module _ {Q : Type 0} (q : QueueKind Q) (c : Configuration) where
  -- tells what is owed at one place, if anything is
  abbrev pub tell_at : (set destination : ℕ) → Option RouteStatus → Node Q → Node Q
  tell_at set destination (Some status) node =
      tell_if q c (record { set = set; destination = destination; status = status }) node
  tell_at set destination None node = node

abbrev pub known : State KeptQueues → Facts
known s = facts s.settings s.node.parts

-- the adjacent point of a set is told of one destination
abbrev pub told_at_place : (set destination : ℕ) → State KeptQueues → State KeptQueues
told_at_place set destination s =
    with_node s (tell_at kept s.settings set destination (owed_at (known s) s.node.parts.told set destination) s.node)

-- the adjacent point of a set is told of all
abbrev pub told_set : (set : ℕ) → State KeptQueues → State KeptQueues
told_set set s = with_node s (tell_each kept s.settings (owed_to (known s) s.node.parts.told set) s.node)
