-- The route to an adjacent point over its own set, over every event and every take: a law.
use Rattle.std.specs.Prelude.{◌≡◌, ℕ, true, List, Some}
use Rattle.settings.specs.Configuration.{Configuration}
use Rattle.routes.specs.declared.route.RouteStatus.{RouteStatus}
use Rattle.routes.specs.declared.route.RouteStatus.TheVariants.{Allowed}
use Rattle.routes.specs.Routes.{status_of}
use Rattle.route_management.specs.Told.{is_own_point}
use Rattle.exchange_rules.specs.Routing.{facts}
use Rattle.exchange_rules.specs.State.{Asking, Parts}
use Rattle.exchange_rules.specs.First.{first_state}
use Rattle.exchange_rules.specs.Lasting.{after_each}

-- the parts in each state reached from the first
abbrev pub parts_after : Configuration → List Asking → Parts
parts_after c asked = (after_each asked (first_state c)).node.parts

-- there that route is allowed, if there is one: what the point says of itself changes nothing
abbrev pub own_routes_stay_allowed : Type 0
own_routes_stay_allowed =
    (c : Configuration) (asked : List Asking) (set destination : ℕ) (status : RouteStatus) →
    is_own_point (parts_after c asked).told set destination ≡ true →
    status_of (facts c (parts_after c asked)) destination set ≡ Some status → status ≡ Allowed
