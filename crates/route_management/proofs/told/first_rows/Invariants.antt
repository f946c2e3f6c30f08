use Rattle.route_management.proofs.Basics.{◌≡◌, ◌≤◌, replicate, vec_len, vec_capacity, Allowed}
use Rattle.route_management.proofs.told.first_rows.Given as goal

abbrev pub invariant-loop-index : goal.invariant-loop-index
invariant-loop-index l = record {
  rows : l.rows.items ≡ replicate l.index (replicate l.fn.destinations Allowed);
  count : vec_len l.rows ≡ l.index;
  room : l.fn.sets ≤ vec_capacity l.rows;
}
