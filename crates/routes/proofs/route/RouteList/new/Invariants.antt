use Rattle.routes.proofs.Basics.{◌≡◌, map, take, array_vec_len, first_route}
use Rattle.routes.proofs.route.RouteList.new.Given as goal

abbrev pub invariant-loop-set : goal.invariant-loop-set
invariant-loop-set l = record {
  routes : l.routes.items ≡ map first_route (take l.set-index l.set-items);
  count : array_vec_len l.routes ≡ l.set-index;
}
