-- The messages in the cells of a list are the list.
use Rattle.std.proofs.Common.{◌∙◌, List, ap, drop, count_by}
use Rattle.signalling_types.specs.Message.{Message}
use Rattle.cell_pool.specs.Numbering.{ring_at}
use Rattle.cell_pool.specs.Lanes.{is_user_picked, lane_at}
use Rattle.cell_pool.specs.Cells.{Occupied, messages_at}
use Rattle.cell_pool.proofs.LinkedReading.{within_linked}
use Rattle.cell_pool.proofs.Picking.{counted_list}
use Rattle.cell_pool.proofs.linked_lists.LinkedLists.count_users.Goals as goal

pub returns : goal.returns
returns g c =
    c.count_users.ensures
    ∙ ap (λ (cells : List Message). count_by (is_user_picked (g.P.Pick.picks c.args.pick.now)) (messages_at cells (drop c.args.first (ring_at c.self.inside.links.rings c.args.list)))) c.deref.ensures.value
    ∙ counted_list (is_user_picked (g.P.Pick.picks c.args.pick.now)) c.self.inside.cells.items c.self.inside.links.rings c.args.list c.args.first
    (within_linked c.self.inside _ c.args.list c.self.view_is c.requires)
    ∙ ap (λ (o : Occupied). count_by (is_user_picked (g.P.Pick.picks c.args.pick.now)) (drop c.args.first (lane_at o.lists c.args.list))) c.self.view_is
