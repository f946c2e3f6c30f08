use Rattle.routes.proofs.Basics.{◌≡◌, ◌≤◌, ◌++◌, drop, filter, array_vec_len, is_open}
use Rattle.routes.proofs.route_facts.RouteFacts.taken_by.Given as goal

abbrev pub invariant-loop-route : goal.invariant-loop-route
invariant-loop-route l = record {
  routes : l.taken.items ++ filter (is_open l.fn.self l.fn.status) (drop l.route-index l.fn.group) ≡ filter (is_open l.fn.self l.fn.status) l.fn.group;
  count : array_vec_len l.taken ≤ l.route-index;
}
