-- No list has the cell that is written.
use Rattle.cell_pool.proofs.Basics.{◌<◌, ◌≤◌, List, length, arith, ap, Message, lent}
use Rattle.cell_pool.proofs.LinkedReading.{within_linked, written-lists}
use Rattle.cell_pool.proofs.linked_lists.LinkedLists.push_back.Goals as goal

pub returns : goal.returns
returns c =
    let inside : c.args.list < length c.self.inside.links.rings = within_linked c.self.inside _ c.args.list c.self.view_is c.requires.list in
    let within : c.claim-cell.result ≤ length c.self.inside.cells.items = omega (arith, c.self.invariant.row, c.claim-cell.ensures.used.within) in
    rw (← c.self.view_is, c.write.ensures.cells, c.index.ensures, c.claim-cell.ensures.rings, c.claim-cell.ensures.total) (ap (λ (lists : List (List Message)). record { lists = lists; cells = c.self.inside.links.total }) (written-lists c.self.inside.cells.items c.self.inside.links.rings c.args.list c.claim-cell.result (lent c.args.message) within inside c.claim-cell.ensures.fresh))
