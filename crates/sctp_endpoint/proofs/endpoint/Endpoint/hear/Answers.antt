use Rattle.std.proofs.Common.{ap, arith}
use Rattle.sctp_codec.specs.Reading.{read_packet}
use Rattle.sctp_codec.specs.Values.{packet_of}
use Rattle.sctp_bundling.specs.Settings.{address_of}
use Rattle.sctp_endpoint.specs.Endpoints.{Endpoint}
use Rattle.sctp_endpoint.proofs.Counting.{packet-short}
use Rattle.sctp_endpoint.proofs.Dispatching.{packet-heard}
use Rattle.sctp_endpoint.proofs.endpoint.Endpoint.hear.Goals as goal

pub hear_packet-requires-clause-generation : goal.hear_packet-requires-clause-generation
hear_packet-requires-clause-generation g c =
    let short = packet-short c.args.octets.now (packet_of c.in-Some.packet) c.in-Some.ensures.packet in
    omega (arith, short, c.requires.generation, ap (λ (e : Endpoint). e.state.generation) c.read.ensures.kept)

pub returns-in-Some : goal.returns-in-Some
returns-in-Some g c =
    packet-heard g.W.Watch.has c.args.watch.now c.hear_packet.new.watch c.args.self.now c.read.new.self c.hear_packet.new.self c.args.now (address_of c.args.source.now)
    (read_packet c.args.octets.now) (packet_of c.in-Some.packet) c.read.ensures.kept c.in-Some.ensures.packet c.hear_packet.ensures
