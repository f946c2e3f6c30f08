use Rattle.routes.proofs.Basics.{◌≡◌, ◌≤◌, length, map, take, vec_len, vec_capacity, links_among}
use Rattle.routes.proofs.routes.table.compiled.Given as goal

abbrev pub invariant-loop-destination : goal.invariant-loop-destination
invariant-loop-destination l = record {
  rows : l.rows.items ≡ map (links_among l.fn.facts) (take l.destination l.fn.facts.routes);
  count : vec_len l.rows ≡ l.destination;
  room : length l.fn.facts.routes ≤ vec_capacity l.rows;
}
