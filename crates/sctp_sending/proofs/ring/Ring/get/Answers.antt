use Rattle.std.proofs.Common.{ℕ, List, get_or, sym, ap, ◌∙◌, arith}
use Rattle.std.proofs.lemmas.List.{get_or_read}
use Rattle.sctp_sending.specs.Outgoing.{Outgoing}
use Rattle.sctp_sending.proofs.Windows.{blank, is_count, at-window}
use Rattle.sctp_sending.proofs.ring.Ring.get.Goals as goal

pub index-requires-clause-distance : goal.index-requires-clause-distance
index-requires-clause-distance c =
    let count = is_count c.self.inside.cells.items c.self.inside.start c.self.inside.count c.args.self.now c.self.view_is in
    omega (arith, count, c.self.invariant.count, c.requires)

pub returns : goal.returns
returns c =
    let count = is_count c.self.inside.cells.items c.self.inside.start c.self.inside.count c.args.self.now c.self.view_is in
    let cells = c.self.inside.cells.items in
    get_or_read cells c.index.result c.index-2.result.now (omega (arith, c.self.invariant.row, c.index.ensures.within)) c.index-2.ensures blank
    ∙ ap (λ (k : ℕ). get_or cells k blank) c.index.ensures.index
    ∙ sym (at-window cells c.self.inside.start c.self.inside.count c.args.place (omega (arith, count, c.requires)))
    ∙ ap (λ (out : List Outgoing). get_or out c.args.place blank) c.self.view_is
