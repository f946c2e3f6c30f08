use Rattle.routes.proofs.Basics.{◌≡◌, ◌≤◌, length, map, take, vec_len, vec_capacity, first_routes}
use Rattle.routes.proofs.known.route_lists.Given as goal

abbrev pub invariant-loop-destination : goal.invariant-loop-destination
invariant-loop-destination l = record {
  routes : l.made.items ≡ map first_routes (take l.destination-index l.fn.destinations);
  count : vec_len l.made ≡ l.destination-index;
  room : length l.fn.destinations ≤ vec_capacity l.made;
}
