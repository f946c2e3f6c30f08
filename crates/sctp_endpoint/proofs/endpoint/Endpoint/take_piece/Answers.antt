use Rattle.std.proofs.Common.{refl}
use Rattle.sctp_codec.specs.Values.{data_of}
use Rattle.sctp_receiving.specs.Reading.{told_by}
use Rattle.sctp_receiving.specs.Receiver.{hear}
use Rattle.sctp_rules.specs.Data.{piece_of}
use Rattle.sctp_endpoint.specs.Inside.{endpoint_in}
use Rattle.sctp_endpoint.proofs.Draining.{step-does}
use Rattle.sctp_endpoint.proofs.endpoint.Endpoint.take_piece.Goals as goal

pub returns-clause-does : goal.returns-clause-does
returns-clause-does g c =
    let p = piece_of (data_of c.args.carried.now) in
    let e = endpoint_in c.self.inside in
    rw (← c.self.view_is) (step-does g.W.Watch.has c.args.watch.now c.tell_user.new.watch c.answer.new.watch e (endpoint_in (record c.self.inside { receiver = c.hear-told.new.self })) c.answer.new.self
    (hear c.self.inside.receiver c.args.carried.now.tsn p) (told_by p c.hear-told.new.buffer c.hear-told.result) c.hear-told.new.self
    refl c.hear-told.ensures.left c.hear-told.ensures.told c.tell_user.ensures (c.answer.ensures p c.hear-told.new.buffer))
