use Rattle.std.proofs.Common.{sym, ap, ◌∙◌, arith}
use Rattle.sctp_codec.specs.Values.{chunk_value, chunks_of}
use Rattle.sctp_bundling.specs.Settings.{address_of}
use Rattle.sctp_endpoint.specs.Endpoints.{Endpoint, secrets_of}
use Rattle.sctp_endpoint.proofs.Growing.{chunk-grows}
use Rattle.sctp_endpoint.proofs.Dispatching.{chunk-goes, source-stays}
use Rattle.sctp_endpoint.proofs.endpoint.Endpoint.hear_from.Goals as goal

pub hear_chunks-requires-clause-generation : goal.hear_chunks-requires-clause-generation
hear_chunks-requires-clause-generation g c =
    let here = c.note_source.new.self in
    omega (
      arith,
      chunk-grows here.settings (secrets_of here) c.args.now c.args.tag (chunk_value c.args.first.now) here.state,
      ap (λ (x : Endpoint). x.state.generation) c.hear_chunk.ensures.does.left_is,
      ap (λ (x : Endpoint). x.state.generation) c.note_source.ensures,
      source-stays (address_of c.args.source.now) c.args.self.now.state,
      c.requires.generation,
    )

pub returns-then-not-has_peer_tag : goal.returns-then-not-has_peer_tag
returns-then-not-has_peer_tag g c =
    chunk-goes g.W.Watch.has c.args.watch.now c.hear_chunk.new.watch c.hear_chunks.new.watch c.args.self.now c.note_source.new.self c.hear_chunk.new.self c.hear_chunks.new.self c.args.now (address_of c.args.source.now) c.args.tag (chunk_value c.args.first.now) (chunks_of c.args.more) c.note_source.ensures c.hear_chunk.ensures.does (sym c.hear_chunk.ensures.goes_on ∙ c.if-hear_chunk.true) (sym c.has_peer_tag.ensures ∙ c.if-not-has_peer_tag.true) c.hear_chunks.ensures
