use Rattle.std.proofs.Common.{◌≡◌, ◌+◌, ◌≤◌, List, ◌∷◌, [], ◌++◌, take, sum_by, ap, ◌∙◌, arith}
use Rattle.sctp_codec.specs.Packets.{ChunkValue}
use Rattle.sctp_bundling.proofs.Rows.{are_long, are_more}
use Rattle.sctp_bundling.specs.Replies.{chunk_of, size_of}
use Rattle.sctp_bundling.specs.Written.{chunks_in}
use Rattle.sctp_bundling.proofs.chunks.Chunks.add.Goals as goal

pub write-self-inside-requires : goal.write-self-inside-requires
write-self-inside-requires c =
    let long : c.self.inside.end ≡ sum_by size_of c.args.self.now
    = rw (← c.self.view_is) (are_long c.self.inside.octets c.self.inside.end (chunks_in c.self.inside) (omega (arith, c.self.told, c.self.invariant.fits)) c.self.invariant.text) in
    let room : c.self.inside.end + size_of (chunk_of c.args.chunk.now) ≤ 1188 = rw long c.requires.room in
    omega (arith, room)

pub invariant_of-self : goal.invariant_of-self
invariant_of-self c =
    let more = are_more (take c.self.inside.end c.self.inside.octets) (take c.write-self-inside.result c.write-self-inside.new.out) (chunk_of c.args.chunk.now) c.self.invariant.text c.self.invariant.chunks c.requires.chunk c.write-self-inside.ensures.text in
    let long : c.self.inside.end ≡ sum_by size_of c.args.self.now
    = rw (← c.self.view_is) (are_long c.self.inside.octets c.self.inside.end (chunks_in c.self.inside) (omega (arith, c.self.told, c.self.invariant.fits)) c.self.invariant.text) in
    let room : c.self.inside.end + size_of (chunk_of c.args.chunk.now) ≤ 1188 = rw long c.requires.room in
    record { fits = rw c.write-self-inside.ensures.count room; text = more.text; chunks = more.all }

pub returns : goal.returns
returns c =
    let more = are_more (take c.self.inside.end c.self.inside.octets) (take c.write-self-inside.result c.write-self-inside.new.out) (chunk_of c.args.chunk.now) c.self.invariant.text c.self.invariant.chunks c.requires.chunk c.write-self-inside.ensures.text in
    more.read ∙ ap (λ (chunks : List ChunkValue). chunks ++ chunk_of c.args.chunk.now ∷ []) c.self.view_is
