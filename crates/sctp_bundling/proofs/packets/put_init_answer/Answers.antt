use Rattle.std.proofs.Common.{◌∷◌, [], ◌++◌, List, ℕ, sym, ap, subst, ◌∙◌}
use Rattle.std.specs.declared.net.ip_addr.IpAddr.{IpAddr}
use Rattle.sctp_codec.specs.Packets.{ChunkValue, InitAckChunk}
use Rattle.sctp_codec.specs.Parameters.{answering}
use Rattle.sctp_codec.specs.Values.{items_of, offer_with}
use Rattle.sctp_codec.specs.Writing.{header_octets, chunk_octets}
use Rattle.sctp_bundling.specs.Watching.{Puts}
use Rattle.sctp_bundling.specs.ChunkRows.{row_of}
use Rattle.sctp_bundling.specs.Ways.{way_of, packet_on}
use Rattle.sctp_bundling.proofs.Rows.{row-one, packet-text}
use Rattle.sctp_bundling.proofs.Giving.{put-one}
use Rattle.sctp_bundling.proofs.packets.put_init_answer.Goals as goal

pub returns : goal.returns
returns g c =
    let w = way_of c.args.way.now in
    let chunk : ChunkValue = InitAckChunk (offer_with c.args.offer.now (answering c.listed.result.now c.args.cookie.now (items_of c.args.parameters))) in
    let header = header_octets w.source w.destination w.tag 0 in
    let text = c.finish.ensures w.source w.destination w.tag (row_of (chunk ∷ []))
    (c.write_init_ack-end.ensures.text ∙ ap (λ (t : List ℕ). t ++ chunk_octets chunk) c.begin-at.ensures.text ∙ ap (λ (t : List ℕ). header ++ t) (sym (row-one chunk)))
    ∙ packet-text w.source w.destination w.tag (chunk ∷ []) in
    subst (λ (addresses : List IpAddr). Puts g.W.Watch.has c.args.watch.now c.send.new.self (packet_on w
    (InitAckChunk (offer_with c.args.offer.now (answering addresses c.args.cookie.now (items_of c.args.parameters))) ∷ []) ∷ []))
    c.listed.ensures.listed
    (put-one g.W.Watch.has c.args.watch.now c.send.new.self _ (packet_on w (chunk ∷ [])) c.send.ensures text)
