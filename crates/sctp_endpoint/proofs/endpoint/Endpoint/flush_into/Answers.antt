use Rattle.std.proofs.Common.{ap, List, [], ◌∙◌}
use Rattle.sctp_codec.specs.Packets.{ChunkValue}
use Rattle.sctp_rules.specs.State.{with_association}
use Rattle.sctp_endpoint.specs.Inside.{endpoint_in}
use Rattle.sctp_endpoint.specs.Endpoints.{Endpoint}
use Rattle.sctp_endpoint.proofs.Flushing.{flushed-does}
use Rattle.sctp_endpoint.proofs.endpoint.Endpoint.flush_into.Goals as goal

pub returns : goal.returns
returns g c =
    let begun = c.begin_draft in
    let acknowledged = c.bundle_acknowledgement in
    let sent = c.bundle_messages in
    let left : Endpoint = endpoint_in c.self.inside in
    flushed-does g.W.Watch.has c.args.self.now acknowledged.new.self sent.new.self (record left { state = with_association left.state (record left.state.association { control = c.clear.new.self }) }) c.args.now
    c.args.watch.now acknowledged.new.watch sent.new.watch c.put_rest.new.watch begun.new.draft acknowledged.new.draft sent.new.draft
    begun.ensures.few begun.ensures.way begun.ensures.text acknowledged.ensures.bundled acknowledged.ensures.left sent.ensures.bundled sent.ensures.left c.put_rest.ensures
    (ap (λ (xs : List ChunkValue). record left { state = with_association left.state (record left.state.association { control = xs }) }) c.clear.ensures
    ∙ ap (λ (e : Endpoint). record e { state = with_association e.state (record e.state.association { control = [] }) }) c.self.view_is)
