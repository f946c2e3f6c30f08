-- What was put after a list comes before it, if the list is turned round at its old end.
use Rattle.cell_pool.proofs.Basics.{[], ap, ◌∙◌, Stored, lane_at}
use Rattle.cell_pool.proofs.Turning.{cut-behind}
use Rattle.cell_pool.proofs.linked_pool.CellPoolLanes.splice_front.Goals as goal

pub returns-clause-lists : goal.returns-clause-lists
returns-clause-lists c =
    ap (λ (s : Stored). s.lists) c.turn_round.ensures
    ∙ rw (c.append.ensures.lists, c.note.ensures.lists, c.count-count.ensures) (cut-behind c.args.self.now.lists c.args.from c.args.to [] (lane_at c.args.self.now.lists c.args.from) c.requires.apart c.requires.to)
