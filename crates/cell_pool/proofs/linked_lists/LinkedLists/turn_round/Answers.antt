-- A list of cells that is turned round is one of their messages.
use Rattle.cell_pool.proofs.Basics.{◌<◌, List, length, ap, Message}
use Rattle.cell_pool.proofs.LinkedReading.{within_linked, cut-lists}
use Rattle.cell_pool.proofs.linked_lists.LinkedLists.turn_round.Goals as goal

pub returns : goal.returns
returns c =
    let inside : c.args.list < length c.self.inside.links.rings = within_linked c.self.inside _ c.args.list c.self.view_is c.requires in
    rw (← c.self.view_is, c.turn_round.ensures) (ap (λ (lists : List (List Message)). record { lists = lists; cells = c.self.inside.links.total }) (cut-lists c.self.inside.cells.items c.self.inside.links.rings c.args.list c.args.count inside))
