-- What was put after a list comes before it, if the list is turned round at its old end.
use Rattle.cell_pool.proofs.Basics.{Bool, not, ap, ◌∙◌, filter, Message, Stored, lane_at}
use Rattle.cell_pool.proofs.Turning.{cut-behind}
use Rattle.cell_pool.proofs.linked_pool.CellPoolLanes.splice_where.Goals as goal

pub returns-clause-lists : goal.returns-clause-lists
returns-clause-lists g c =
    let picks : Message → Bool = g.P.Pick.picks c.args.pick.now in
    ap (λ (s : Stored). s.lists) c.turn_round.ensures
    ∙ rw (c.move_where.ensures.lists, c.note.ensures.lists, c.count-count.ensures) (cut-behind c.args.self.now.lists c.args.from c.args.to (filter (λ x. not (picks x)) (lane_at c.args.self.now.lists c.args.from)) (filter picks (lane_at c.args.self.now.lists c.args.from)) c.requires.apart c.requires.to)
