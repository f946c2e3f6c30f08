use Rattle.std.proofs.Common.{refl}
use Rattle.sctp_endpoint.proofs.Flushing.{in-its-place}
use Rattle.sctp_endpoint.proofs.endpoint.Endpoint.flush.Goals as goal

pub returns-in-Some : goal.returns-in-Some
returns-in-Some g c =
    in-its-place g.W.Watch.has c.args.watch.now c.flush_into.new.watch c.args.self.now c.take_draft.new.self c.flush_into.new.self c.keep_draft.new.self c.args.now c.take_draft.ensures c.keep_draft.ensures c.flush_into.ensures

pub returns-in-None : goal.returns-in-None
returns-in-None g c =
    in-its-place g.W.Watch.has c.args.watch.now c.flush_into-in-None.new.watch c.args.self.now c.take_draft.new.self c.flush_into-in-None.new.self c.flush_into-in-None.new.self c.args.now c.take_draft.ensures refl c.flush_into-in-None.ensures
