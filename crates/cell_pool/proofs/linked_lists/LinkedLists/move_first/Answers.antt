-- The first cell of a list moves to another list.
use Rattle.cell_pool.proofs.Basics.{◌<◌, List, length, ap, Message}
use Rattle.cell_pool.proofs.Reading.{first-lists}
use Rattle.cell_pool.proofs.LinkedReading.{within_linked}
use Rattle.cell_pool.proofs.linked_lists.LinkedLists.move_first.Goals as goal

pub returns : goal.returns
returns c =
    let inside : c.args.from < length c.self.inside.links.rings = within_linked c.self.inside _ c.args.from c.self.view_is c.requires.from in
    let target : c.args.to < length c.self.inside.links.rings = within_linked c.self.inside _ c.args.to c.self.view_is c.requires.to in
    rw (← c.self.view_is, c.move_first.ensures) (ap (λ (lists : List (List Message)). record { lists = lists; cells = c.self.inside.links.total }) (first-lists c.self.inside.cells.items _ c.args.from c.args.to inside target))
