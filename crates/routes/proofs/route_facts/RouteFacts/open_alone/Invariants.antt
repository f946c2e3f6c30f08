use Rattle.routes.proofs.Basics.{◌≡◌, drop, alone, open_group}
use Rattle.routes.proofs.route_facts.RouteFacts.open_alone.Given as goal

abbrev pub invariant-loop-i : goal.invariant-loop-i
invariant-loop-i l = open_group l.fn.self l.fn.status (alone (drop l.i l.fn.routes)) ≡ open_group l.fn.self l.fn.status (alone l.fn.routes)
