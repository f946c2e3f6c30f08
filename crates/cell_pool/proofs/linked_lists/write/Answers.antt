-- A message is in its cell, which was in the row or comes after it.
use Rattle.cell_pool.proofs.Basics.{[], arith, lent}
use Rattle.cell_pool.proofs.LinkedReading.{written-behind, written-in}
use Rattle.cell_pool.proofs.linked_lists.write.Goals as goal
use Rattle.cell_pool.proofs.linked_lists.write.Goals.{then-index-len, else-index-len}

pub returns-clause-cells : goal.returns-clause-cells
returns-clause-cells c =
    rw c.refill.ensures (elim c.if-index-len.branch [
      | then-index-len w ↦
          rw (w.cells-is, w.add_blank.ensures.cells) (written-behind c.args.cells.now.items c.args.index (record { sio = 0; sif = [] }) (lent c.args.message) (omega (arith, w.if-index-len.true, c.len.ensures, c.args.cells.now.ok.0)))
      | else-index-len w ↦
          rw w.cells-is (written-in c.args.cells.now.items c.args.index (lent c.args.message) (omega (arith, w.if-index-len.false, c.requires.index, c.len.ensures, c.args.cells.now.ok.0)))
    ])
