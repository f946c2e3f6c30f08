use Rattle.sctp_codec.specs.Packets.{lone}
use Rattle.sctp_codec.specs.Values.{data_of, sack_of, packet_of}
use Rattle.sctp_bundling.specs.Settings.{address_of}
use Rattle.sctp_endpoint.proofs.Dispatching.{data-is, sack-is, data-goes-alone, sack-goes-alone}
use Rattle.sctp_endpoint.proofs.endpoint.Endpoint.hear_established.Goals as goal

pub returns-in-Some : goal.returns-in-Some
returns-in-Some g c =
    data-goes-alone g.W.Watch.has c.args.watch.now c.hear_data.new.watch c.args.self.now c.note_source.new.self c.hear_data.new.self c.args.now (address_of c.args.source.now) c.args.packet.now.tag
    (data_of c.in-Some.carried) (packet_of c.args.packet.now).chunks c.requires.established (data-is (lone (packet_of c.args.packet.now).chunks) (data_of c.in-Some.carried) c.in-Some.ensures)
    c.note_source.ensures c.hear_data.ensures

pub returns-in-Some-lone_sack : goal.returns-in-Some-lone_sack
returns-in-Some-lone_sack g c =
    sack-goes-alone g.W.Watch.has c.args.watch.now c.hear_sack.new.watch c.args.self.now c.note_source-in-Some-lone_sack.new.self c.hear_sack.new.self c.args.now (address_of c.args.source.now)
    c.args.packet.now.tag (sack_of c.in-Some-lone_sack.sack) (packet_of c.args.packet.now).chunks c.requires.established
    (sack-is (lone (packet_of c.args.packet.now).chunks) (sack_of c.in-Some-lone_sack.sack) c.in-Some-lone_sack.ensures) c.note_source-in-Some-lone_sack.ensures c.hear_sack.ensures
