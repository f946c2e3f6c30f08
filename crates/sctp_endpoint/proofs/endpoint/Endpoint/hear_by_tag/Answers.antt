use Rattle.std.proofs.Common.{subst}
use Rattle.sctp_codec.specs.Values.{chunks_of}
use Rattle.sctp_rules.specs.Packets.{heard_chunks}
use Rattle.sctp_endpoint.specs.Endpoints.{Endpoint, Does, secrets_of}
use Rattle.sctp_endpoint.proofs.endpoint.Endpoint.hear_by_tag.Goals as goal

pub returns : goal.returns
returns g c =
    let h = subst (λ (x : Endpoint). Does g.W.Watch.has c.args.watch.now c.hear_chunks.new.watch x c.hear_chunks.new.self (heard_chunks x.settings (secrets_of x) c.args.now c.args.tag (chunks_of c.args.chunks) x.state)) c.note_source.ensures c.hear_chunks.ensures in
    record { gives = h.gives; left_is = h.left_is }
