-- the lists so far, with room for all
use Rattle.cell_pool.proofs.Basics.{◌≡◌, ◌≤◌, replicate, vec_capacity, no_cells}
use Rattle.cell_pool.proofs.cell_links.empty_chains.Given as goal

abbrev pub invariant-loop : goal.invariant-loop
invariant-loop l = record {
  chains : l.chains.items ≡ replicate l.counter no_cells;
  room : l.count ≤ vec_capacity l.chains;
}
