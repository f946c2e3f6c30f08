use Rattle.std.proofs.Common.{sym, ap, ◌∙◌}
use Rattle.sctp_codec.specs.Values.{chunk_value}
use Rattle.sctp_endpoint.specs.Endpoints.{Endpoint, secrets_of}
use Rattle.sctp_endpoint.specs.Dispatching.{counts_behind}
use Rattle.sctp_endpoint.proofs.Dispatching.{goes-on}
use Rattle.sctp_endpoint.proofs.endpoint.Endpoint.hear_chunk.Goals as goal

pub returns-clause-goes_on : goal.returns-clause-goes_on
returns-clause-goes_on g c =
    let e = c.args.self.now in
    c.counts_behind.ensures ∙ ap (λ (x : Endpoint). counts_behind (chunk_value c.args.chunk.now) c.args.tag x.state) c.handle.ensures.left_is
    ∙ sym (goes-on e.settings (secrets_of e) c.args.now c.args.tag (chunk_value c.args.chunk.now) e.state)
