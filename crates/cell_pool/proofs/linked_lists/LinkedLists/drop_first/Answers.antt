-- The first cell of the list is free now.
use Rattle.cell_pool.proofs.Basics.{◌<◌, List, length, ap, arith, length-map, Message, ring_at, lane_at, Occupied, message_at}
use Rattle.cell_pool.proofs.Reading.{dropped-lists, list_at}
use Rattle.cell_pool.proofs.LinkedReading.{within_linked}
use Rattle.cell_pool.proofs.linked_lists.LinkedLists.drop_first.Goals as goal

pub free_first-requires-clause-some : goal.free_first-requires-clause-some
free_first-requires-clause-some c =
    let inside : c.args.list < length c.self.inside.links.rings = within_linked c.self.inside _ c.args.list c.self.view_is c.requires.list in
    omega (arith, c.requires.some, ap (λ (o : Occupied). length (lane_at o.lists c.args.list)) c.self.view_is, ap (length {A = Message}) (list_at c.self.inside.cells.items c.self.inside.links.rings c.args.list inside), length-map (ring_at c.self.inside.links.rings c.args.list) (message_at c.self.inside.cells.items))

pub returns : goal.returns
returns c =
    let inside : c.args.list < length c.self.inside.links.rings = within_linked c.self.inside _ c.args.list c.self.view_is c.requires.list in
    rw (← c.self.view_is, c.free_first.ensures) (ap (λ (lists : List (List Message)). record { lists = lists; cells = c.self.inside.links.total }) (dropped-lists _ _ _ 1 inside))
