use Rattle.std.proofs.Common.{◌++◌, refl, take, ◌∙◌}
use Rattle.sctp_codec.specs.Writing.{header_octets}
use Rattle.sctp_bundling.specs.Replies.{last_of}
use Rattle.sctp_bundling.specs.ChunkRows.{row_of}
use Rattle.sctp_bundling.specs.Ways.{way_of, packet_on}
use Rattle.sctp_bundling.proofs.Rows.{packet-is, packet-text}
use Rattle.sctp_bundling.proofs.Giving.{put-one}
use Rattle.sctp_bundling.proofs.packets.put_packet.Goals as goal

pub returns : goal.returns
returns g c = λ chunks same.
    let w = way_of c.args.way.now in
    let all = chunks ++ last_of c.args.last in
    let written = packet-is (header_octets w.source w.destination w.tag 0) c.args.front.now (row_of (last_of c.args.last)) (take c.begin-at.result c.begin-at.new.out) (take c.write_at-at.result c.write_at-at.new.out) (take c.write_last-end.result c.write_last-end.new.out) chunks (last_of c.args.last) c.begin-at.ensures.text c.write_at-at.ensures.text c.write_last-end.ensures.text same refl in
    let text = c.finish.ensures w.source w.destination w.tag (row_of all) written ∙ packet-text w.source w.destination w.tag all in
    put-one g.W.Watch.has c.args.watch.now c.send.new.self _ (packet_on w all) c.send.ensures text
