use Rattle.route_management.proofs.Basics.{◌≡◌, ◌≤◌, length, map, take, vec_len, vec_capacity, adjacent_place}
use Rattle.route_management.proofs.told.adjacents.Given as goal

abbrev pub invariant-loop-set : goal.invariant-loop-set
invariant-loop-set l = record {
  made : l.made.items ≡ map (adjacent_place l.fn.destinations) (take l.set-index l.fn.sets);
  count : vec_len l.made ≡ l.set-index;
  room : length l.fn.sets ≤ vec_capacity l.made;
}
