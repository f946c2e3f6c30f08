use Rattle.std.proofs.Common.{arith}
use Rattle.sctp_sending.proofs.Windows.{is_count, window-drop}
use Rattle.sctp_sending.proofs.ring.Ring.drop_front.Goals as goal

pub index-self-inside-requires-clause-distance : goal.index-self-inside-requires-clause-distance
index-self-inside-requires-clause-distance c =
    let count = is_count c.self.inside.cells.items c.self.inside.start c.self.inside.count c.args.self.now c.self.view_is in
    omega (arith, count, c.self.invariant.count, c.requires)

pub overflow_sub-self : goal.overflow_sub-self
overflow_sub-self c =
    let count = is_count c.self.inside.cells.items c.self.inside.start c.self.inside.count c.args.self.now c.self.view_is in
    omega (arith, count, c.requires)

pub returns : goal.returns
returns c =
    let count = is_count c.self.inside.cells.items c.self.inside.start c.self.inside.count c.args.self.now c.self.view_is in
    rw (← c.self.view_is, c.index-self-inside.ensures.index) (window-drop c.self.inside.cells.items c.self.inside.start c.self.inside.count c.args.count (omega (arith, count, c.requires)))
