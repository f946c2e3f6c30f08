use Rattle.std.proofs.Common.{arith}
use Rattle.sctp_sending.proofs.Windows.{is_count, window-take}
use Rattle.sctp_sending.proofs.ring.Ring.truncate.Goals as goal

pub invariant_of-self : goal.invariant_of-self
invariant_of-self c =
    let count = is_count c.self.inside.cells.items c.self.inside.start c.self.inside.count c.args.self.now c.self.view_is in
    record {
      row = c.self.invariant.row;
      start = c.self.invariant.start;
      count = omega (arith, count, c.self.invariant.count, c.requires);
    }

pub returns : goal.returns
returns c =
    let count = is_count c.self.inside.cells.items c.self.inside.start c.self.inside.count c.args.self.now c.self.view_is in
    rw (← c.self.view_is) (window-take c.self.inside.cells.items c.self.inside.start c.self.inside.count c.args.count (omega (arith, count, c.requires)))
