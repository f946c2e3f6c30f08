use Rattle.std.proofs.Common.{◌∙◌, arith}
use Rattle.std.proofs.lemmas.List.{length-set}
use Rattle.sctp_sending.proofs.Windows.{is_count, window-push}
use Rattle.sctp_sending.proofs.ring.Ring.push.Goals as goal

pub invariant_of-self : goal.invariant_of-self
invariant_of-self c =
    let count = is_count c.self.inside.cells.items c.self.inside.start c.self.inside.count c.args.self.now c.self.view_is in
    record {
      row = length-set c.self.inside.cells.items c.index-index.result c.refill.new.self ∙ c.self.invariant.row;
      start = c.self.invariant.start;
      count = omega (arith, count, c.requires.room);
    }

pub returns : goal.returns
returns c =
    let count = is_count c.self.inside.cells.items c.self.inside.start c.self.inside.count c.args.self.now c.self.view_is in
    rw (← c.self.view_is, c.refill.ensures, c.index-index.ensures.index)
    (window-push c.self.inside.cells.items c.self.inside.start c.self.inside.count _ c.self.invariant.row (omega (arith, count, c.requires.room)))
