use Rattle.std.proofs.Common.{List, [], ◌∷◌, ◌++◌, subst, refl}
use Rattle.std.proofs.lemmas.List.{append-nil}
use Rattle.sctp_codec.specs.Packets.{ChunkValue}
use Rattle.sctp_bundling.specs.Watching.{Puts}
use Rattle.sctp_bundling.specs.Ways.{Way, packet_on}
use Rattle.sctp_bundling.proofs.Giving.{given-put}
use Rattle.sctp_endpoint.specs.Flushing.{way_to}
use Rattle.sctp_bundling.specs.Settings.{address_of}
use Rattle.sctp_endpoint.proofs.endpoint.Endpoint.put_all.Goals as goal

pub returns : goal.returns
returns g c =
    let w = way_to c.args.self.now.settings (address_of c.args.to.now) c.args.tag in
    given-put g.W.Watch.has c.args.watch.now c.put_packet.new.watch _ refl
    (subst (λ (xs : List ChunkValue). Puts g.W.Watch.has c.args.watch.now c.put_packet.new.watch (packet_on w xs ∷ [])) (append-nil c.args.chunks.now)
    (subst (λ (x : Way). Puts g.W.Watch.has c.args.watch.now c.put_packet.new.watch (packet_on x (c.args.chunks.now ++ []) ∷ [])) c.way.ensures (c.put_packet.ensures c.args.chunks.now c.octets.ensures.octets)))
