use Rattle.std.proofs.Common.{arith}
use Rattle.std.proofs.lemmas.List.{get_or_read}
use Rattle.sctp_sending.specs.Outgoing.{passed_over}
use Rattle.sctp_sending.proofs.Windows.{blank, is_count, window-changed}
use Rattle.sctp_sending.proofs.ring.Ring.pass_over.Goals as goal

pub index-index-requires-clause-distance : goal.index-index-requires-clause-distance
index-index-requires-clause-distance c =
    let count = is_count c.self.inside.cells.items c.self.inside.start c.self.inside.count c.args.self.now c.self.view_is in
    omega (arith, count, c.self.invariant.count, c.requires)

pub returns : goal.returns
returns c =
    let count = is_count c.self.inside.cells.items c.self.inside.start c.self.inside.count c.args.self.now c.self.view_is in
    let cells = c.self.inside.cells.items in
    let old = get_or_read cells c.index-index.result c.index_mut.result.now (omega (arith, c.self.invariant.row, c.index-index.ensures.within)) c.index_mut.ensures.value blank in
    rw (← c.self.view_is, c.pass_over.ensures, old, c.index-index.ensures.index)
    (window-changed (passed_over) cells c.self.inside.start c.self.inside.count c.args.place c.self.invariant.row c.self.invariant.count (omega (arith, count, c.requires)))
