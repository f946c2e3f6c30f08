use Rattle.std.proofs.Common.{◌≡◌, ◌+◌, ◌*◌, length, map, refl, sym, ap, subst, ◌∷◌, [], arith}
use Rattle.sctp_codec.specs.Packets.{ChunkValue, SackChunk}
use Rattle.sctp_rules.specs.Data.{block_of}
use Rattle.sctp_bundling.specs.Replies.{size_of}
use Rattle.sctp_bundling.specs.Bundling.{Adds}
use Rattle.sctp_bundling.specs.Drafts.{draft_in}
use Rattle.sctp_bundling.proofs.Bundling.{chunk-added}
use Rattle.sctp_bundling.proofs.Sacks.{sack-size, sack-said, sack_with}
use Rattle.sctp_bundling.proofs.draft.Draft.add_sack_without_gaps.Goals as goal

pub returns : goal.returns
returns g c =
    let written = c.write_sack-self-inside in
    let numbers = c.duplicates-duplicates.result.now in
    let s = sack_with c.cumulative.result c.window_of.result [] numbers in
    let long : 16 + 4 * length numbers ≡ size_of (SackChunk s) = omega (arith, sack-size s) in
    let same = sack-said c.args.receiver.now c.cumulative.result c.window_of.result [] numbers c.cumulative.ensures c.window_of.ensures (sym (ap (map block_of) c.requires)) c.duplicates-duplicates.ensures.numbers in
    let left = draft_in (record c.self.inside { out = written.new.out; end = written.result }) in
    subst (λ (x : ChunkValue). Adds g.W.Watch.has c.args.watch.now c.make_room.new.watch c.args.self.now left (x ∷ [])) same
    (chunk-added g.W.Watch.has c.args.watch.now c.make_room.new.watch c.args.self.now c.make_room.new.self (draft_in c.self.inside) left (16 + 4 * length numbers)
    (SackChunk s) c.self.view_is c.make_room.ensures.way refl c.make_room.ensures.made long written.ensures.text)
