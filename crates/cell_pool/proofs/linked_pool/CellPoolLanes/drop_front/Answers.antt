-- One more message is dropped.
use Rattle.cell_pool.proofs.Basics.{List, ap, Message}
use Rattle.cell_pool.proofs.Counting.{dropped-next}
use Rattle.cell_pool.proofs.linked_pool.CellPoolLanes.drop_front.Goals as goal

pub loop-preserved : goal.loop-preserved
loop-preserved c = rw (c.drop_first.ensures, c.loop.invariant) (ap (λ (lists : List (List Message)). record { lists = lists; pool = c.args.self.now.pool }) (dropped-next c.args.self.now.lists c.args.lane c.loop.counter c.requires))
