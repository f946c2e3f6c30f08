use Rattle.std.proofs.Common.{sym, arith}
use Rattle.sctp_sending.proofs.Windows.{is_count}
use Rattle.sctp_sending.proofs.ring.Ring.len.Goals as goal

pub returns-clause-count : goal.returns-clause-count
returns-clause-count c = sym (is_count c.self.inside.cells.items c.self.inside.start c.self.inside.count c.args.self.now c.self.view_is)

pub returns-clause-most : goal.returns-clause-most
returns-clause-most c =
    let count = is_count c.self.inside.cells.items c.self.inside.start c.self.inside.count c.args.self.now c.self.view_is in
    omega (arith, count, c.self.invariant.count)
