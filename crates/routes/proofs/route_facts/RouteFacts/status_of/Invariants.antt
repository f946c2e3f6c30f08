use Rattle.routes.proofs.Basics.{◌≡◌, drop, find, option_map, leads_by, status_of}
use Rattle.routes.proofs.route_facts.RouteFacts.status_of.Given as goal

abbrev pub invariant-loop-route : goal.invariant-loop-route
invariant-loop-route l =
    option_map (λ route. route.status) (find (leads_by l.fn.set) (drop l.route-index l.route-items)) ≡ status_of l.fn.self l.fn.destination l.fn.set
