use Rattle.settings.proofs.Basics.{◌≡◌, ◌≤◌, [], length, map, take, drop, vec_len, vec_capacity, entries_fault, destination_of, points_of, destination_fault}
use Rattle.settings.proofs.destinations.destination_rows.Given as goal

abbrev pub invariant-loop-i : goal.invariant-loop-i
invariant-loop-i l = record {
  len : vec_len l.rows ≡ l.i;
  room : length l.destinations ≤ vec_capacity l.rows;
  rows : l.rows.items ≡ map (destination_of l.sets) (take l.i l.destinations);
  points : l.points ≡ points_of (take l.i l.destinations);
  indexed : l.points ≡ map (λ d. d.point) l.rows.items;
  fault : entries_fault (destination_fault l.own l.sets) (take l.i l.destinations) (drop l.i l.destinations) ≡ entries_fault (destination_fault l.own l.sets) [] l.destinations;
}
