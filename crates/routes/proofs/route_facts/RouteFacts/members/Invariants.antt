use Rattle.routes.proofs.Basics.{◌≡◌, ◌≤◌, ◌*◌, ◌++◌, drop, length, members}
use Rattle.routes.proofs.route_facts.RouteFacts.members.Given as goal

abbrev pub invariant-loop-route : goal.invariant-loop-route
invariant-loop-route l = record {
  links : l.members ++ members l.fn.self (drop l.route-index l.fn.group) ≡ members l.fn.self l.fn.group;
  room : length l.members ≤ 16 * l.route-index;
}
