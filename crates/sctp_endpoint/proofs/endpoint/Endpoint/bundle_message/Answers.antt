use Rattle.std.proofs.Common.{ap, subst, ◌∷◌, [], ◌∙◌}
use Rattle.sctp_codec.specs.Packets.{ChunkValue, DataChunk}
use Rattle.sctp_rules.specs.Confirming.{data_at}
use Rattle.sctp_bundling.specs.Bundling.{Adds}
use Rattle.sctp_endpoint.specs.Endpoints.{Endpoint}
use Rattle.sctp_endpoint.proofs.Going.{message-said}
use Rattle.sctp_endpoint.proofs.endpoint.Endpoint.bundle_message.Goals as goal

pub returns : goal.returns
returns g c =
    let m = c.data-carried.result in
    let same = message-said c.self.inside.sender c.args.place m.tsn m.sequence m.message c.data-carried.ensures.tsn c.data-carried.ensures.sequence c.data-carried.ensures.message
    ∙ ap (λ (e : Endpoint). DataChunk (data_at e.state.association.sender c.args.place)) c.self.view_is in
    subst (λ (x : ChunkValue). Adds g.W.Watch.has c.args.watch.now c.add_message.new.watch c.args.draft.now c.add_message.new.self (x ∷ [])) same c.add_message.ensures
