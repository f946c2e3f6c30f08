use Rattle.std.proofs.Common.{◌≡◌}
use Rattle.std.specs.List.{list_any}
use Rattle.sctp_codec.specs.Values.{chunks_of}
use Rattle.sctp_rules.specs.Packets.{is_quiet}
use Rattle.sctp_endpoint.proofs.endpoint.out_of_the_blue.is_any_quiet.Given as goal

abbrev pub invariant-each_chunk : goal.invariant-each_chunk
invariant-each_chunk l = list_any is_quiet (chunks_of l.chunk-iterator) ≡ list_any is_quiet (chunks_of l.fn.chunks)
