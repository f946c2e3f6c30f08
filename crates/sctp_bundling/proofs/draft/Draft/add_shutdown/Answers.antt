use Rattle.std.proofs.Common.{refl}
use Rattle.sctp_codec.specs.Packets.{ShutdownChunk}
use Rattle.sctp_bundling.specs.Drafts.{draft_in}
use Rattle.sctp_bundling.proofs.Bundling.{chunk-added}
use Rattle.sctp_bundling.proofs.draft.Draft.add_shutdown.Goals as goal

pub returns : goal.returns
returns g c =
    let written = c.write_shutdown-self-inside in
    chunk-added g.W.Watch.has c.args.watch.now c.make_room.new.watch c.args.self.now c.make_room.new.self (draft_in c.self.inside) (draft_in (record c.self.inside { out = written.new.out; end = written.result })) 8
    (ShutdownChunk c.args.cumulative) c.self.view_is c.make_room.ensures.way refl c.make_room.ensures.made refl written.ensures.text
