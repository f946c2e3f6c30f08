use Rattle.std.proofs.Common.{◌+◌, ◌-◌, ◌<◌, ◌^◌, length}
use Rattle.sctp_codec.specs.Values.{chunks_of}
use Rattle.sctp_rules.specs.Packets.{heard_chunks}
use Rattle.sctp_endpoint.specs.Endpoints.{secrets_of}
use Rattle.sctp_endpoint.proofs.Chained.{LeadsTo}
use Rattle.sctp_endpoint.proofs.endpoint.Endpoint.hear_chunks.Given as goal

abbrev pub invariant-each_chunk : goal.invariant-each_chunk
invariant-each_chunk g l = record {
  rest : LeadsTo g.W.Watch.has l.fn.watch l.watch l.fn.self l.self
      (heard_chunks l.fn.self.settings (secrets_of l.fn.self) l.now l.tag (chunks_of l.fn.chunks) l.fn.self.state)
      (heard_chunks l.self.settings (secrets_of l.self) l.now l.tag (chunks_of l.chunk-iterator) l.self.state);
  generation : l.self.state.generation + length (chunks_of l.chunk-iterator) < 2 ^ 64 - 1;
}
