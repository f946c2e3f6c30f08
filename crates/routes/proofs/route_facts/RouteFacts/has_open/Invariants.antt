use Rattle.routes.proofs.Basics.{◌≡◌, drop, list_any, is_open}
use Rattle.routes.proofs.route_facts.RouteFacts.has_open.Given as goal

abbrev pub invariant-loop-route : goal.invariant-loop-route
invariant-loop-route l = list_any (is_open l.fn.self l.fn.status) (drop l.route-index l.fn.routes) ≡ list_any (is_open l.fn.self l.fn.status) l.fn.routes
