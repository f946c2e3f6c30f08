use Rattle.std.proofs.Common.{ap, length, ◌∙◌, sym, arith}
use Rattle.std.proofs.lemmas.List.{length-take-le}
use Rattle.sctp_bundling.specs.Bundling.{Draft}
use Rattle.sctp_bundling.proofs.Bundling.{room-kept, room-begun}
use Rattle.sctp_bundling.proofs.draft.Draft.make_room.Goals as goal

pub returns-then-self-octets-le-PACKET_OCTETS-clause-made : goal.returns-then-self-octets-le-PACKET_OCTETS-clause-made
returns-then-self-octets-le-PACKET_OCTETS-clause-made g c =
    room-kept g.W.Watch.has c.args.self.now.way c.args.watch.now c.args.self.now.text c.self.inside.end c.args.octets
    (ap (λ (d : Draft). length d.text) (sym c.self.view_is) ∙ length-take-le c.self.inside.end c.self.inside.out (omega (arith, c.self.told, c.self.invariant.room)))
    c.if-self-octets-le-PACKET_OCTETS.true

pub returns-clause-made : goal.returns-clause-made
returns-clause-made g c =
    room-begun g.W.Watch.has c.args.self.now.way c.args.watch.now c.put_full.new.watch c.args.self.now.text c.put_full.new.self.text c.self.inside.end c.args.octets
    (ap (λ (d : Draft). length d.text) (sym c.self.view_is) ∙ length-take-le c.self.inside.end c.self.inside.out (omega (arith, c.self.told, c.self.invariant.room)))
    (omega (arith, c.if-self-octets-le-PACKET_OCTETS.false)) c.requires c.put_full.ensures.put c.put_full.ensures.text
