-- Whatever routes are told, they go by the same sets.
use Rattle.node_moves.proofs.Basics.{◌≡◌, ℕ, Bool, true, false, List, [], ◌∷◌, map, nat_eq, refl, ap, sym, ◌∙◌, slice_index_or, if◌then◌else◌}
use Rattle.node_moves.proofs.Definitions.{Configuration, Parts}
use Rattle.exchange_rules.proofs.Lists.{map-set_alike}
use Rattle.exchange_rules.proofs.Steps.{any_status, ways_of}
use Rattle.exchange_rules.specs.Rerouting.{forced, with_set_reset}
use Rattle.routes.specs.Routes.{with_status_over}
use Rattle.routes.specs.declared.route.Route.{Route}
use Rattle.routes.specs.declared.route.RouteStatus.{RouteStatus}
use Rattle.routes.specs.declared.route.RouteStatus.TheVariants.{Allowed}

-- a status that is given leaves all else
given-way : (given : RouteStatus) (b : Bool) (r : Route) → any_status (if b then record r { status = given } else r) ≡ any_status r
given-way given true r = refl
given-way given false r = refl

given-ways : (set : ℕ) (given : RouteStatus) (rs : List Route) → map any_status (map (with_status_over set given) rs) ≡ map any_status rs
given-ways set given [] = refl
given-ways set given (r ∷ rs) =
    ap (λ (way : Route). way ∷ map any_status (map (with_status_over set given) rs)) (given-way given (nat_eq r.set set) r)
    ∙ ap (λ (ways : List Route). any_status r ∷ ways) (given-ways set given rs)

all-given : (set : ℕ) (given : RouteStatus) (routes : List (List Route)) → ways_of (map (map (with_status_over set given)) routes) ≡ ways_of routes
all-given set given [] = refl
all-given set given (rs ∷ routes) =
    ap (λ (ways : List Route). ways ∷ ways_of (map (map (with_status_over set given)) routes)) (given-ways set given rs)
    ∙ ap (λ (more : List (List Route)). map any_status rs ∷ more) (all-given set given routes)

pub forced-ways : (c : Configuration) (set destination : ℕ) (status : RouteStatus) (p : Parts) → ways_of (forced c set destination status p).routes ≡ ways_of p.routes
forced-ways c set destination status p =
    sym (map-set_alike (map any_status) p.routes destination (map (with_status_over set status) (slice_index_or p.routes destination [])) []
    (given-ways set status (slice_index_or p.routes destination [])))

pub reset-ways : (c : Configuration) (set : ℕ) (p : Parts) → ways_of (with_set_reset c set p).routes ≡ ways_of p.routes
reset-ways c set p = all-given set Allowed p.routes
