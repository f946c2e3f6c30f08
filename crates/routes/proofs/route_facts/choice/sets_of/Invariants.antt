use Rattle.routes.proofs.Basics.{◌≡◌, take, array_vec_len, sets_of}
use Rattle.routes.proofs.route_facts.choice.sets_of.Given as goal

abbrev pub invariant-loop-route : goal.invariant-loop-route
invariant-loop-route l = record {
  sets : l.sets.items ≡ sets_of (take l.route-index l.fn.routes);
  count : array_vec_len l.sets ≡ l.route-index;
}
