-- the cells so far, with room for all
use Rattle.std.proofs.Common.{◌≡◌, ◌≤◌, length, vec_capacity}
use Rattle.sctp_sending.proofs.ring.empty_cells.Given as goal

abbrev pub invariant-loop : goal.invariant-loop
invariant-loop l = record {
  count : length l.cells.items ≡ l.counter;
  room : 256 ≤ vec_capacity l.cells;
}
