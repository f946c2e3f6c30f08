use Rattle.routes.proofs.Basics.{◌≡◌, ◌++◌, map, take, drop, with_status_over}
use Rattle.routes.proofs.route.tell.Given as goal

abbrev pub invariant-loop-route : goal.invariant-loop-route
invariant-loop-route l =
    l.routes ≡ map (with_status_over l.fn.set l.fn.status) (take l.route-index l.fn.routes) ++ drop l.route-index l.fn.routes
