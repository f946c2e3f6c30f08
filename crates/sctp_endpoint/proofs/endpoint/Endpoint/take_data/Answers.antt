use Rattle.std.proofs.Common.{true, sym, ap, ◌∙◌}
use Rattle.sctp_codec.specs.Values.{data_of}
use Rattle.sctp_rules.specs.Data.{piece_of}
use Rattle.sctp_endpoint.specs.Endpoints.{Endpoint}
use Rattle.sctp_endpoint.specs.Inside.{endpoint_in}
use Rattle.sctp_endpoint.proofs.Draining.{sack_due, data-goes, data-stops}
use Rattle.sctp_endpoint.proofs.endpoint.Endpoint.take_data.Goals as goal

pub returns-then-take_piece : goal.returns-then-take_piece
returns-then-take_piece g c =
    let due = endpoint_in (record c.self.inside { is_sack_due = true }) in
    let is = ap (λ (x : Endpoint). record x { state = sack_due x.state }) c.self.view_is in
    data-goes g.W.Watch.has c.args.watch.now c.take_piece.new.watch c.take_held.new.watch c.args.self.now due c.take_piece.new.self c.take_held.new.self c.args.carried.now.tsn (piece_of (data_of c.args.carried.now)) is c.take_piece.ensures.does (sym c.take_piece.ensures.goes_on ∙ c.if-take_piece.true) c.take_held.ensures

pub returns-else-take_piece : goal.returns-else-take_piece
returns-else-take_piece g c =
    let due = endpoint_in (record c.self.inside { is_sack_due = true }) in
    let is = ap (λ (x : Endpoint). record x { state = sack_due x.state }) c.self.view_is in
    data-stops g.W.Watch.has c.args.watch.now c.take_piece.new.watch c.args.self.now due c.take_piece.new.self c.args.carried.now.tsn (piece_of (data_of c.args.carried.now)) is c.take_piece.ensures.does (sym c.take_piece.ensures.goes_on ∙ c.if-take_piece.false)
