-- the cell at the index reached
use Rattle.cell_pool.proofs.Basics.{◌≡◌, get_or, ring_at}
use Rattle.cell_pool.proofs.cell_links.CellLinks.walked.Given as goal

abbrev pub invariant-loop : goal.invariant-loop
invariant-loop l = l.cell ≡ get_or (ring_at l.self.rings l.ring) l.counter 0
