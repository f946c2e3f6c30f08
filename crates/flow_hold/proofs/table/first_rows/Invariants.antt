-- the rows so far, in which nothing is marked, with room for all
use Rattle.flow_hold.proofs.Basics.{◌≡◌, ℕ, ◌+◌, ◌*◌, ◌≤◌, length, map, vec_capacity, All, range_with_len, Marks, first_row, marked_as_held, SELECTIONS}
use Rattle.flow_hold.proofs.table.first_rows.Given as goal

abbrev pub invariant-loop-place : goal.invariant-loop-place
invariant-loop-place l = record {
  rows : l.rows.items ≡ map (first_row l.shared l.destinations) (range_with_len 0 l.place);
  none : (flow : ℕ) → marked_as_held l.rows.items flow ≡ 0;
  fits : All (λ (row : Marks). row.first + length row.marks ≤ SELECTIONS * l.destinations) l.rows.items;
  room : l.shared + l.destinations ≤ vec_capacity l.rows;
}
