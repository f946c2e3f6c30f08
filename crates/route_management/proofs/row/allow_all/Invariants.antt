use Rattle.route_management.proofs.Basics.{◌≡◌, ◌++◌, map, take, drop, Allowed}
use Rattle.route_management.proofs.row.allow_all.Given as goal

abbrev pub invariant-loop-status : goal.invariant-loop-status
invariant-loop-status l =
    l.statuses ≡ map (λ old. Allowed) (take l.status-index l.fn.statuses) ++ drop l.status-index l.fn.statuses
