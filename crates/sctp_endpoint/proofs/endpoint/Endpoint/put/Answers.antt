use Rattle.std.proofs.Common.{[], ◌∷◌, sym, subst, refl}
use Rattle.sctp_bundling.specs.Replies.{chunk_of}
use Rattle.sctp_bundling.specs.Watching.{Puts}
use Rattle.sctp_bundling.specs.Ways.{Way, packet_on}
use Rattle.sctp_bundling.proofs.Rows.{row-none}
use Rattle.sctp_bundling.proofs.Giving.{given-put}
use Rattle.sctp_endpoint.proofs.endpoint.Endpoint.put.Goals as goal

pub returns : goal.returns
returns g c =
    given-put g.W.Watch.has c.args.watch.now c.put_packet.new.watch _ refl
    (subst (λ (w : Way). Puts g.W.Watch.has c.args.watch.now c.put_packet.new.watch (packet_on w (chunk_of c.args.chunk.now ∷ []) ∷ [])) c.way.ensures (c.put_packet.ensures [] (sym row-none)))
