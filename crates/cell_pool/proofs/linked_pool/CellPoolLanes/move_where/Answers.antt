-- One more message has been examined.
use Rattle.cell_pool.proofs.Basics.{◌<◌, Bool, length, arith, ap, ◌∙◌, Message, Stored, list_at, turned}
use Rattle.cell_pool.proofs.Moving.{turned-more, stored, blank}
use Rattle.cell_pool.proofs.linked_pool.CellPoolLanes.move_where.Goals as goal

pub loop-preserved : goal.loop-preserved
loop-preserved g c =
    let left : c.loop.counter < length (list_at c.args.self.now.lists c.args.from) = omega (arith, c.loop-test.true, c.count-end.ensures, ap (λ (s : Stored). length (list_at s.lists c.args.from)) c.self.view_is) in
    let picks : Message → Bool = g.P.Pick.picks c.args.pick.now in
    stored c.turn.new.self _ _
    (ap (λ (s : Stored). s.lists) c.turn.ensures
    ∙ ap (λ (s : Stored). turned picks s.lists c.args.from c.args.to) c.loop.invariant
    ∙ turned-more picks c.args.self.now.lists c.args.from c.args.to c.loop.counter blank c.requires.apart c.requires.from c.requires.to left)
    (ap (λ (s : Stored). s.pool) c.turn.ensures ∙ ap (λ (s : Stored). s.pool) c.loop.invariant)
