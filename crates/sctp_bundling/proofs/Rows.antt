-- Chunks one after another, as octets, and read from them.
use Rattle.std.proofs.Common.{◌≡◌, ℕ, ◌+◌, ◌^◌, ◌<◌, ◌≤◌, List, [], ◌∷◌, ◌++◌, length, take, map, Option, refl, sym, ap, ◌∙◌, length-append, arith}
use Rattle.std.specs.Prelude.{All, sum_by, unwrap_or}
use Rattle.std.proofs.lemmas.List.{length-take-le, append_assoc, append-nil, map-append}
use Rattle.std.proofs.lemmas.List.Sums.{sum_by-cons}
use Rattle.std.proofs.lemmas.List.Elements.{All-append, All-cons, All-nil}
use Rattle.sctp_codec.specs.Items.{ItemValue, IsItem, padded_item, padded_items}
use Rattle.sctp_codec.specs.Packets.{ChunkValue, InitChunk, CookieAckChunk}
use Rattle.sctp_codec.specs.Reading.{chunk_in}
use Rattle.sctp_codec.specs.Writing.{IsChunk, chunk_item, chunk_octets, headed}
use Rattle.sctp_codec.proofs.ItemTexts.{read_items-nil, read_items-padded_items}
use Rattle.sctp_codec.proofs.ChunkTexts.{chunks-back, chunk-items}
use Rattle.sctp_bundling.specs.Replies.{size_of}
use Rattle.sctp_bundling.specs.ChunkRows.{row_of, chunks_read, packet_text}

padded_items-append : (xs ys : List ItemValue) → padded_items (xs ++ ys) ≡ padded_items xs ++ padded_items ys
padded_items-append [] ys = refl
padded_items-append (x ∷ xs) ys = ap (λ (t : List ℕ). padded_item x ++ t) (padded_items-append xs ys) ∙ sym (append_assoc (padded_item x) (padded_items xs) (padded_items ys))

-- one chunk more
pub row-more : (chunks : List ChunkValue) (chunk : ChunkValue) → row_of (chunks ++ chunk ∷ []) ≡ row_of chunks ++ chunk_octets chunk
unfolding row_of
row-more chunks chunk =
    ap padded_items (map-append chunk_item chunks (chunk ∷ [])) ∙ padded_items-append (map chunk_item chunks) (chunk_item chunk ∷ [])
    ∙ ap (λ (t : List ℕ). padded_items (map chunk_item chunks) ++ t) (append-nil (chunk_octets chunk))

pub row-one : (chunk : ChunkValue) → row_of (chunk ∷ []) ≡ chunk_octets chunk
unfolding row_of
row-one chunk = append-nil (chunk_octets chunk)

pub row-none : row_of [] ≡ []
unfolding row_of
row-none = refl

pub row-length : (chunks : List ChunkValue) → length (row_of chunks) ≡ sum_by size_of chunks
unfolding row_of
row-length [] = refl
row-length (chunk ∷ chunks) =
    length-append (chunk_octets chunk) (padded_items (map chunk_item chunks)) ∙ ap (λ (n : ℕ). size_of chunk + n) (row-length chunks) ∙ sym (sum_by-cons size_of chunk chunks)

-- chunks that are written read back
pub row-read : (chunks : List ChunkValue) → All IsChunk chunks → chunks_read (row_of chunks) ≡ chunks
unfolding row_of chunks_read
row-read chunks h =
    ap (λ (found : Option (List ItemValue)). map chunk_in (unwrap_or found [])) (read_items-padded_items (map chunk_item chunks) (chunk-items chunks h)) ∙ chunks-back chunks h

pub nothing-read : chunks_read [] ≡ []
unfolding chunks_read
nothing-read = ap (λ (found : Option (List ItemValue)). map chunk_in (unwrap_or found [])) read_items-nil

-- what octets are that are some chunks
pub record Are (octets : List ℕ) (chunks : List ChunkValue) : Type 0 where
  pub read : chunks_read octets ≡ chunks
  pub text : octets ≡ row_of (chunks_read octets)
  pub all : All IsChunk (chunks_read octets)

pub are : (octets : List ℕ) (chunks : List ChunkValue) → octets ≡ row_of chunks → All IsChunk chunks → Are octets chunks
are octets chunks e h =
    let read : chunks_read octets ≡ chunks = ap chunks_read e ∙ row-read chunks h in
    record {
      read = read;
      text = e ∙ ap row_of (sym read);
      all = rw read h;
    }

pub are_none : (octets : List ℕ) → octets ≡ [] → Are octets []
are_none octets e = are octets [] (e ∙ sym row-none) (All-nil IsChunk)

-- one chunk more
pub are_more : (old new : List ℕ) (chunk : ChunkValue) → old ≡ row_of (chunks_read old) → All IsChunk (chunks_read old) → IsChunk chunk → new ≡ old ++ chunk_octets chunk
    → Are new (chunks_read old ++ chunk ∷ [])
are_more old new chunk e h k m =
    are new (chunks_read old ++ chunk ∷ []) (m ∙ ap (λ (t : List ℕ). t ++ chunk_octets chunk) e ∙ sym (row-more (chunks_read old) chunk))
    (All-append IsChunk (chunks_read old) (chunk ∷ []) h (All-cons IsChunk chunk [] k (All-nil IsChunk)))

-- how many octets there are
pub are_long : (octets : List ℕ) (end : ℕ) (chunks : List ChunkValue) → end ≤ length octets → take end octets ≡ row_of chunks → end ≡ sum_by size_of chunks
are_long octets end chunks m e = sym (length-take-le end octets m) ∙ ap length e ∙ row-length chunks

pub row-append : (xs ys : List ChunkValue) → row_of (xs ++ ys) ≡ row_of xs ++ row_of ys
unfolding row_of
row-append xs ys = ap padded_items (map-append chunk_item xs ys) ∙ padded_items-append (map chunk_item xs) (map chunk_item ys)

-- what is written piece by piece is a packet
pub packet-is : (header front last : List ℕ) (t1 t2 t3 : List ℕ) (chunks more : List ChunkValue) → t1 ≡ header → t2 ≡ t1 ++ front → t3 ≡ t2 ++ last → front ≡ row_of chunks → last ≡ row_of more
    → t3 ≡ header ++ row_of (chunks ++ more)
packet-is header front last t1 t2 t3 chunks more a b d f l =
    d ∙ ap (λ (t : List ℕ). t ++ last) (b ∙ ap (λ (t : List ℕ). t ++ front) a) ∙ append_assoc header front last
    ∙ ap (λ (t : List ℕ). header ++ t) (ap (λ (t : List ℕ). t ++ last) f ∙ ap (λ (t : List ℕ). row_of chunks ++ t) l ∙ sym (row-append chunks more))

pub packet-text : (source destination tag : ℕ) (chunks : List ChunkValue) → headed source destination tag (row_of chunks) ≡ packet_text (record { source = source; destination = destination; tag = tag; chunks = chunks })
unfolding row_of packet_text
packet-text source destination tag chunks = refl

-- INIT of this end can be said
pub init-said : (tag first : ℕ) → tag < 2 ^ 32 → first < 2 ^ 32
    → IsChunk (InitChunk (record { tag = tag; window = 65536; outgoing = 2; incoming = 2; first_tsn = first; parameters = [] }))
init-said tag first t f = record {
  fields = record {
    tag = t;
    window = omega arith;
    outgoing = omega arith;
    incoming = omega arith;
    first_tsn = f;
    parameters = All-nil IsItem;
  };
  fits = omega arith;
}

-- one chunk first
row-first : (chunk : ChunkValue) (chunks : List ChunkValue) → row_of (chunk ∷ chunks) ≡ chunk_octets chunk ++ row_of chunks
unfolding row_of
row-first chunk chunks = refl

pub are_first : (old new : List ℕ) (chunk : ChunkValue) → old ≡ row_of (chunks_read old) → All IsChunk (chunks_read old) → IsChunk chunk → new ≡ chunk_octets chunk ++ old
    → Are new (chunk ∷ chunks_read old)
are_first old new chunk e h k m =
    are new (chunk ∷ chunks_read old) (m ∙ ap (λ (t : List ℕ). chunk_octets chunk ++ t) e ∙ sym (row-first chunk (chunks_read old))) (All-cons IsChunk chunk (chunks_read old) k h)

pub cookie_ack-said : IsChunk CookieAckChunk
cookie_ack-said = record { fields = tt; fits = omega arith }
