use Rattle.std.proofs.Common.{◌≡◌, ◌+◌, ◌≤◌, ℕ, List, ◌∷◌, ◌++◌, take, ap, ◌∙◌, arith}
use Rattle.std.proofs.lemmas.List.{length-take-le}
use Rattle.sctp_codec.specs.Packets.{ChunkValue, CookieAckChunk}
use Rattle.sctp_codec.specs.Writing.{chunk_octets}
use Rattle.std.specs.Prelude.{sum_by}
use Rattle.sctp_bundling.proofs.Rows.{are_long, are_first, cookie_ack-said}
use Rattle.sctp_bundling.specs.Replies.{size_of}
use Rattle.sctp_bundling.specs.Written.{chunks_in}
use Rattle.sctp_bundling.proofs.chunks.Chunks.add_cookie_ack_first.Goals as goal

pub invariant_of-self : goal.invariant_of-self
invariant_of-self c =
    let old = take c.self.inside.end c.self.inside.octets in
    let new = take c.write_at-self-inside.result c.write_at-self-inside.new.out in
    let text : new ≡ chunk_octets CookieAckChunk ++ old = c.write_at-self-inside.ensures.text ∙ ap (λ (t : List ℕ). t ++ old) c.write_cookie_ack-at.ensures.text in
    let first = are_first old new CookieAckChunk c.self.invariant.text c.self.invariant.chunks cookie_ack-said text in
    let long : c.self.inside.end ≡ sum_by size_of c.args.self.now
    = rw (← c.self.view_is) (are_long c.self.inside.octets c.self.inside.end (chunks_in c.self.inside) (omega (arith, c.self.told, c.self.invariant.fits)) c.self.invariant.text) in
    let room : c.self.inside.end + 4 ≤ 1188 = rw long c.requires in
    let wide = length-take-le c.self.inside.end c.self.inside.octets (omega (arith, c.self.told, c.self.invariant.fits)) in
    record {
      fits = omega (arith, room, wide, c.write_at-self-inside.ensures.count, c.write_cookie_ack-at.ensures.count);
      text = first.text;
      chunks = first.all;
    }

pub returns : goal.returns
returns c =
    let old = take c.self.inside.end c.self.inside.octets in
    let new = take c.write_at-self-inside.result c.write_at-self-inside.new.out in
    let text : new ≡ chunk_octets CookieAckChunk ++ old = c.write_at-self-inside.ensures.text ∙ ap (λ (t : List ℕ). t ++ old) c.write_cookie_ack-at.ensures.text in
    (are_first old new CookieAckChunk c.self.invariant.text c.self.invariant.chunks cookie_ack-said text).read ∙ ap (λ (chunks : List ChunkValue). CookieAckChunk ∷ chunks) c.self.view_is
