use Rattle.routes.proofs.Basics.{◌≡◌, ◌++◌, map, take, drop, Allowed, with_status_over}
use Rattle.routes.proofs.known.allow_all.Given as goal

abbrev pub invariant-loop-routes : goal.invariant-loop-routes
invariant-loop-routes l =
    l.destinations ≡ map (map (with_status_over l.fn.set Allowed)) (take l.routes-index l.fn.destinations) ++ drop l.routes-index l.fn.destinations
