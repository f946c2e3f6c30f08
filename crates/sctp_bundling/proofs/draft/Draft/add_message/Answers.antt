use Rattle.std.proofs.Common.{refl}
use Rattle.sctp_codec.specs.Packets.{DataChunk}
use Rattle.sctp_sending.specs.Cells.{given_as}
use Rattle.sctp_bundling.specs.Bundling.{carried_as}
use Rattle.sctp_bundling.specs.Drafts.{draft_in}
use Rattle.sctp_bundling.proofs.Bundling.{chunk-added}
use Rattle.sctp_bundling.proofs.draft.Draft.add_message.Goals as goal

pub returns : goal.returns
returns g c =
    let written = c.write_data-self-inside in
    let m = c.args.carried.now in
    chunk-added g.W.Watch.has c.args.watch.now c.make_room.new.watch c.args.self.now c.make_room.new.self (draft_in c.self.inside) (draft_in (record c.self.inside { out = written.new.out; end = written.result })) c.octets_of_data.result
    (DataChunk (carried_as m.tsn m.sequence (given_as m.message))) c.self.view_is c.make_room.ensures.way refl c.make_room.ensures.made c.octets_of_data.ensures.value written.ensures.text
