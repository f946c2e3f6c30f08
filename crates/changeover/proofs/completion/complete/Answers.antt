use Rattle.changeover.proofs.Finishing.{held-completed, anew-completed}
use Rattle.changeover.proofs.completion.complete.Goals as goal

pub returns-clause-queue_held : goal.returns-clause-queue_held
returns-clause-queue_held g c = λ w q h.
    rw (c.move_left.ensures.lists, c.done_with-done.ensures)
    (held-completed w (g.L.Lanes.lists c.args.lanes.now) c.args.lane c.args.held c.args.sequence.now q c.args.confirmed c.requires.lane c.requires.held c.requires.apart h)

pub returns-clause-queue_anew : goal.returns-clause-queue_anew
returns-clause-queue_anew g c = λ w q h.
    rw (c.move_left.ensures.lists, c.done_with-done.ensures)
    (anew-completed w (g.L.Lanes.lists c.args.lanes.now) c.args.lane c.args.held c.args.sequence.now q c.args.confirmed c.requires.lane c.requires.held c.requires.apart h)
