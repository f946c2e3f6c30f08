use Rattle.std.proofs.Common.{◌≡◌, ℕ, ◌+◌, ◌≤◌, List, ◌∷◌, [], ◌++◌, length, take, sum_by, sym, ap, ◌∙◌, arith}
use Rattle.sctp_codec.specs.Packets.{ChunkValue, ErrorChunk}
use Rattle.sctp_codec.specs.Parameters.{unrecognized_parameters, complained_of}
use Rattle.sctp_codec.specs.Values.{items_of}
use Rattle.sctp_codec.specs.Writing.{chunk_octets}
use Rattle.sctp_bundling.specs.Replies.{size_of}
use Rattle.sctp_bundling.specs.Written.{chunks_in}
use Rattle.sctp_bundling.proofs.Rows.{are_long, are_more}
use Rattle.sctp_bundling.proofs.Complaining.{complaint-said, some-complained, fits-packet, fits-behind, at-most, above}
use Rattle.sctp_bundling.proofs.chunks.Chunks.complain.Goals as goal

pub write_at-self-inside-requires : goal.write_at-self-inside-requires
write_at-self-inside-requires c =
    let error : ChunkValue = ErrorChunk (unrecognized_parameters (complained_of (items_of c.args.parameters)) ∷ []) in
    let written = take c.write_unrecognized_parameters-end.result c.write_unrecognized_parameters-end.new.out in
    let text : written ≡ chunk_octets error = c.write_unrecognized_parameters-end.ensures.text in
    let long : c.self.inside.end ≡ sum_by size_of c.args.self.now
    = rw (← c.self.view_is) (are_long c.self.inside.octets c.self.inside.end (chunks_in c.self.inside) (omega (arith, c.self.told, c.self.invariant.fits)) c.self.invariant.text) in
    let room : c.self.inside.end + 520 ≤ 1188 = rw long c.requires in
    fits-packet c.self.inside.end (length written) c.write_unrecognized_parameters-end.result (size_of error) room (ap length text) c.write_unrecognized_parameters-end.ensures.count c.write_unrecognized_parameters-end.ensures.room

pub invariant_of-self : goal.invariant_of-self
invariant_of-self c =
    let error : ChunkValue = ErrorChunk (unrecognized_parameters (complained_of (items_of c.args.parameters)) ∷ []) in
    let old = take c.self.inside.end c.self.inside.octets in
    let new = take c.write_at-self-inside.result c.write_at-self-inside.new.out in
    let written = take c.write_unrecognized_parameters-end.result c.write_unrecognized_parameters-end.new.out in
    let text : written ≡ chunk_octets error = c.write_unrecognized_parameters-end.ensures.text in
    let long : c.self.inside.end ≡ sum_by size_of c.args.self.now
    = rw (← c.self.view_is) (are_long c.self.inside.octets c.self.inside.end (chunks_in c.self.inside) (omega (arith, c.self.told, c.self.invariant.fits)) c.self.invariant.text) in
    let room : c.self.inside.end + 520 ≤ 1188 = rw long c.requires in
    let small = at-most c.write_unrecognized_parameters-end.result (size_of error) c.write_unrecognized_parameters-end.ensures.count c.write_unrecognized_parameters-end.ensures.room in
    let more = are_more old new error c.self.invariant.text c.self.invariant.chunks (complaint-said (complained_of (items_of c.args.parameters)) small) (c.write_at-self-inside.ensures.text ∙ ap (λ (t : List ℕ). old ++ t) text) in
    record {
      fits = rw c.write_at-self-inside.ensures.count (fits-behind c.self.inside.end (length written) c.write_unrecognized_parameters-end.result (size_of error) room (ap length text) c.write_unrecognized_parameters-end.ensures.count c.write_unrecognized_parameters-end.ensures.room);
      text = more.text;
      chunks = more.all;
    }

pub returns-then-end-gt-EMPTY_ERROR_OCTETS : goal.returns-then-end-gt-EMPTY_ERROR_OCTETS
returns-then-end-gt-EMPTY_ERROR_OCTETS c =
    let items = complained_of (items_of c.args.parameters) in
    let error : ChunkValue = ErrorChunk (unrecognized_parameters items ∷ []) in
    let old = take c.self.inside.end c.self.inside.octets in
    let new = take c.write_at-self-inside.result c.write_at-self-inside.new.out in
    let written = take c.write_unrecognized_parameters-end.result c.write_unrecognized_parameters-end.new.out in
    let text : written ≡ chunk_octets error = c.write_unrecognized_parameters-end.ensures.text in
    let small = at-most c.write_unrecognized_parameters-end.result (size_of error) c.write_unrecognized_parameters-end.ensures.count c.write_unrecognized_parameters-end.ensures.room in
    let big = above c.write_unrecognized_parameters-end.result (size_of error) c.write_unrecognized_parameters-end.ensures.count c.if-end-gt-EMPTY_ERROR_OCTETS.true in
    let more = are_more old new error c.self.invariant.text c.self.invariant.chunks (complaint-said items small) (c.write_at-self-inside.ensures.text ∙ ap (λ (t : List ℕ). old ++ t) text) in
    more.read ∙ ap (λ (chunks : List ChunkValue). chunks ++ error ∷ []) c.self.view_is ∙ sym (ap (λ (chunks : List ChunkValue). c.args.self.now ++ chunks) (some-complained items big))
