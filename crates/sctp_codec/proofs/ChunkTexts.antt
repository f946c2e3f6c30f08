-- Chunks and packets that are written read back.
use Rattle.std.proofs.Common.{◌≡◌, ◌≢◌, ℕ, ◌+◌, ◌*◌, ◌/◌, ◌%◌, ◌^◌, ◌<◌, ◌≤◌, Bool, true, false, List, [], ◌∷◌, ◌++◌, length, take, drop, map, Some, refl, sym, ap, ◌∙◌, arith}
use Rattle.std.proofs.lemmas.Bool.{eq-eqb, ne_eqb, le-ltb}
use Rattle.std.proofs.lemmas.List.{length-append, append-nil, take_at, drop_at, drop-drop}
use Rattle.std.proofs.lemmas.List.Elements.{All-nil, All-cons, All-head, All-tail}
use Rattle.std.proofs.lemmas.Nat.{from_be_bytes-to_be_bytes_2, from_be_bytes-to_be_bytes_4, from_le_bytes-to_le_bytes_4}
use Rattle.std.specs.Prelude.{All}
use Rattle.std.specs.Int.{w32, to_be_bytes}
use Rattle.std.specs.List.{flat_map}
use Rattle.crc32c.specs.Division.{crc32c_of}
use Rattle.sctp_codec.specs.Items.{IsItem, number16_at, padded_items, joined_items}
use Rattle.sctp_codec.specs.Packets.{DataValue, InitValue, BlockValue, SackValue, PacketValue, ChunkValue, DataChunk, kind_of}
use Rattle.sctp_codec.specs.Packets.{InitChunk, InitAckChunk, SackChunk, HeartbeatChunk, HeartbeatAckChunk, AbortChunk}
use Rattle.sctp_codec.specs.Packets.{ShutdownChunk, ShutdownAckChunk, ErrorChunk, CookieEchoChunk, CookieAckChunk}
use Rattle.sctp_codec.specs.Packets.{ShutdownCompleteChunk, UnknownChunk, MalformedChunk}
use Rattle.sctp_codec.specs.Reading.{is_set, data_in, init_in, chunk_or_malformed, blocks_in, numbers_in, sack_in, chunk_of, chunk_in, checksum_of, checksum_field, tag_field, read_packet}
use Rattle.sctp_codec.specs.Writing.{bit, data_octets, init_octets, block_octets, sack_octets, flags_in, chunk_item, header_octets, packet_octets, IsData, IsInit, IsBlock, IsSack, IsUnknown, IsChunk, IsPacket}
use Rattle.sctp_codec.proofs.ItemTexts.{read_items-padded_items, read_items-joined_items}

-- ---- flags

record Flags (i u b e : Bool) : Type 0 where
  immediate : is_set (bit e 0 + bit b 1 + bit u 2 + bit i 3) 3 ≡ i
  unordered : is_set (bit e 0 + bit b 1 + bit u 2 + bit i 3) 2 ≡ u
  begins : is_set (bit e 0 + bit b 1 + bit u 2 + bit i 3) 1 ≡ b
  ends : is_set (bit e 0 + bit b 1 + bit u 2 + bit i 3) 0 ≡ e
  small : bit e 0 + bit b 1 + bit u 2 + bit i 3 < 2 ^ 8

data-flags : (i u b e : Bool) → Flags i u b e
data-flags false false false false = record { immediate = refl; unordered = refl; begins = refl; ends = refl; small = omega arith }
data-flags false false false true = record { immediate = refl; unordered = refl; begins = refl; ends = refl; small = omega arith }
data-flags false false true false = record { immediate = refl; unordered = refl; begins = refl; ends = refl; small = omega arith }
data-flags false false true true = record { immediate = refl; unordered = refl; begins = refl; ends = refl; small = omega arith }
data-flags false true false false = record { immediate = refl; unordered = refl; begins = refl; ends = refl; small = omega arith }
data-flags false true false true = record { immediate = refl; unordered = refl; begins = refl; ends = refl; small = omega arith }
data-flags false true true false = record { immediate = refl; unordered = refl; begins = refl; ends = refl; small = omega arith }
data-flags false true true true = record { immediate = refl; unordered = refl; begins = refl; ends = refl; small = omega arith }
data-flags true false false false = record { immediate = refl; unordered = refl; begins = refl; ends = refl; small = omega arith }
data-flags true false false true = record { immediate = refl; unordered = refl; begins = refl; ends = refl; small = omega arith }
data-flags true false true false = record { immediate = refl; unordered = refl; begins = refl; ends = refl; small = omega arith }
data-flags true false true true = record { immediate = refl; unordered = refl; begins = refl; ends = refl; small = omega arith }
data-flags true true false false = record { immediate = refl; unordered = refl; begins = refl; ends = refl; small = omega arith }
data-flags true true false true = record { immediate = refl; unordered = refl; begins = refl; ends = refl; small = omega arith }
data-flags true true true false = record { immediate = refl; unordered = refl; begins = refl; ends = refl; small = omega arith }
data-flags true true true true = record { immediate = refl; unordered = refl; begins = refl; ends = refl; small = omega arith }

reflected : (set : Bool) → is_set (bit set 0) 0 ≡ set
reflected true = refl
reflected false = refl

one_bit : (set : Bool) → bit set 0 < 2 ^ 8
one_bit true = omega arith
one_bit false = omega arith

-- ---- the fields of each chunk

data-back : (d : DataValue) → IsData d → data_in (bit d.ends 0 + bit d.begins 1 + bit d.unordered 2 + bit d.immediate 3) (data_octets d) ≡ DataChunk d
data-back d h =
    let f = data-flags d.immediate d.unordered d.begins d.ends in
    rw (le-ltb (length (data_octets d)) 12 (omega arith), from_be_bytes-to_be_bytes_4 d.tsn h.tsn, from_be_bytes-to_be_bytes_2 d.stream h.stream, from_be_bytes-to_be_bytes_2 d.sequence h.sequence, from_be_bytes-to_be_bytes_4 d.protocol h.protocol, f.immediate, f.unordered, f.begins, f.ends) refl

init-back : (i : InitValue) → IsInit i → init_in (init_octets i) ≡ Some i
init-back i h =
    rw (le-ltb (length (init_octets i)) 16 (omega arith), read_items-joined_items i.parameters h.parameters, from_be_bytes-to_be_bytes_4 i.tag h.tag, from_be_bytes-to_be_bytes_4 i.window h.window, from_be_bytes-to_be_bytes_2 i.outgoing h.outgoing, from_be_bytes-to_be_bytes_2 i.incoming h.incoming, from_be_bytes-to_be_bytes_4 i.first_tsn h.first_tsn) refl

blocks-length : (blocks : List BlockValue) → length (flat_map block_octets blocks) ≡ 4 * length blocks
blocks-length [] = refl
blocks-length (b ∷ blocks) = let e = blocks-length blocks in omega (arith, e)

pub numbers-length : (numbers : List ℕ) → length (flat_map (to_be_bytes w32) numbers) ≡ 4 * length numbers
numbers-length [] = refl
numbers-length (n ∷ numbers) = let e = numbers-length numbers in omega (arith, e)

blocks-back : (blocks : List BlockValue) → All IsBlock blocks → blocks_in (flat_map block_octets blocks) ≡ blocks
blocks-back [] h = refl
blocks-back (b ∷ blocks) h =
    let first = All-head IsBlock b blocks h in
    rw (from_be_bytes-to_be_bytes_2 b.start first.start, from_be_bytes-to_be_bytes_2 b.end first.end, blocks-back blocks (All-tail IsBlock b blocks h)) refl

numbers-back : (numbers : List ℕ) → All (λ n. n < 2 ^ 32) numbers → numbers_in (flat_map (to_be_bytes w32) numbers) ≡ numbers
numbers-back [] h = refl
numbers-back (n ∷ numbers) h =
    rw (from_be_bytes-to_be_bytes_4 n (All-head (λ (n : ℕ). n < 2 ^ 32) n numbers h), numbers-back numbers (All-tail (λ (n : ℕ). n < 2 ^ 32) n numbers h)) refl

-- how many octets the value of a SACK has
pub sack-length : (s : SackValue) → length (sack_octets s) ≡ 12 + 4 * length s.blocks + 4 * length s.duplicates
sack-length s =
    let b = blocks-length s.blocks in
    let d = numbers-length s.duplicates in
    let both = length-append (flat_map block_octets s.blocks) (flat_map (to_be_bytes w32) s.duplicates) in
    omega (arith, b, d, both)

sack-back : (s : SackValue) → IsSack s → 4 + length (sack_octets s) < 2 ^ 16 → sack_in (sack_octets s) ≡ SackChunk s
sack-back s h fits =
    let value = sack_octets s in
    let m : ℕ = length s.blocks in
    let n : ℕ = length s.duplicates in
    let first = flat_map block_octets s.blocks in
    let second = flat_map (to_be_bytes w32) s.duplicates in
    let len = sack-length s in
    let blocks : number16_at value 8 ≡ m = from_be_bytes-to_be_bytes_2 m (omega (arith, len, fits)) in
    let duplicates : number16_at value 10 ≡ n = from_be_bytes-to_be_bytes_2 n (omega (arith, len, fits)) in
    let parted : take (4 * m) (first ++ second) ≡ first = take_at first second (4 * m) (blocks-length s.blocks) in
    let rest : drop (12 + 4 * m) value ≡ second = sym (drop-drop (4 * m) 12 value) ∙ drop_at first second (4 * m) (blocks-length s.blocks) in
    let whole : take (4 * n) second ≡ second = ap (take (4 * n)) (sym (append-nil second)) ∙ take_at second [] (4 * n) (numbers-length s.duplicates) in
    rw (le-ltb (length value) 12 (omega (arith, len)), blocks, duplicates, le-ltb (length value) (12 + 4 * m + 4 * n) (omega (arith, len)), rest, parted, whole, blocks-back s.blocks h.blocks, numbers-back s.duplicates h.duplicates, from_be_bytes-to_be_bytes_4 s.cumulative h.cumulative, from_be_bytes-to_be_bytes_4 s.window h.window) refl

-- ---- chunks

-- a chunk's number is its type and its flags
pub chunk_in-numbered : (kind flags : ℕ) (value : List ℕ) → flags < 2 ^ 8 → chunk_in (record { kind = kind * 2 ^ 8 + flags; value = value }) ≡ chunk_of kind flags value
chunk_in-numbered kind flags value f =
    let k : (kind * 2 ^ 8 + flags) / 2 ^ 8 ≡ kind = omega (arith, f) in
    let g : (kind * 2 ^ 8 + flags) % 2 ^ 8 ≡ flags = omega (arith, f) in
    ap (λ (t : ℕ). chunk_of t ((kind * 2 ^ 8 + flags) % 2 ^ 8) value) k ∙ ap (λ (g : ℕ). chunk_of kind g value) g

unknown-back : (kind flags : ℕ) (value : List ℕ) → IsUnknown kind flags → chunk_of kind flags value ≡ UnknownChunk kind flags value
unfolding chunk_of
unknown-back kind flags value h =
    rw (ne_eqb kind 0 (λ e. omega (arith, e, h.above)), ne_eqb kind 1 (λ e. omega (arith, e, h.above)), ne_eqb kind 2 (λ e. omega (arith, e, h.above)), ne_eqb kind 3 (λ e. omega (arith, e, h.above)), ne_eqb kind 4 (λ e. omega (arith, e, h.above)), ne_eqb kind 5 (λ e. omega (arith, e, h.above)), ne_eqb kind 6 (λ e. omega (arith, e, h.above)), ne_eqb kind 7 (λ e. omega (arith, e, h.above)), ne_eqb kind 8 (λ e. omega (arith, e, h.above)), ne_eqb kind 9 (λ e. omega (arith, e, h.above)), ne_eqb kind 10 (λ e. omega (arith, e, h.above)), ne_eqb kind 11 (λ e. omega (arith, e, h.above)), ne_eqb kind 14 h.other) refl

pub chunk-back : (chunk : ChunkValue) → IsChunk chunk → chunk_in (chunk_item chunk) ≡ chunk
unfolding chunk_of
chunk-back (DataChunk d) h = chunk_in-numbered 0 _ (data_octets d) (data-flags d.immediate d.unordered d.begins d.ends).small ∙ data-back d h.fields
chunk-back (InitChunk i) h = chunk_in-numbered 1 0 (init_octets i) (omega arith) ∙ ap (chunk_or_malformed 1 InitChunk) (init-back i h.fields)
chunk-back (InitAckChunk i) h = chunk_in-numbered 2 0 (init_octets i) (omega arith) ∙ ap (chunk_or_malformed 2 InitAckChunk) (init-back i h.fields)
chunk-back (SackChunk s) h = chunk_in-numbered 3 0 (sack_octets s) (omega arith) ∙ sack-back s h.fields h.fits
chunk-back (HeartbeatChunk information) h = chunk_in-numbered 4 0 information (omega arith)
chunk-back (HeartbeatAckChunk information) h = chunk_in-numbered 5 0 information (omega arith)
chunk-back (AbortChunk set causes) h = chunk_in-numbered 6 (bit set 0) causes (one_bit set) ∙ ap (λ (b : Bool). AbortChunk b causes) (reflected set)
chunk-back (ShutdownChunk cumulative) h = chunk_in-numbered 7 0 (to_be_bytes w32 cumulative) (omega arith) ∙ ap ShutdownChunk (from_be_bytes-to_be_bytes_4 cumulative h.fields)
chunk-back ShutdownAckChunk h = chunk_in-numbered 8 0 [] (omega arith)
chunk-back (ErrorChunk causes) h = chunk_in-numbered 9 0 (joined_items causes) (omega arith) ∙ ap (chunk_or_malformed 9 ErrorChunk) (read_items-joined_items causes h.fields)
chunk-back (CookieEchoChunk cookie) h = chunk_in-numbered 10 0 cookie (omega arith)
chunk-back CookieAckChunk h = chunk_in-numbered 11 0 [] (omega arith)
chunk-back (ShutdownCompleteChunk set) h = chunk_in-numbered 14 (bit set 0) [] (one_bit set) ∙ ap ShutdownCompleteChunk (reflected set)
chunk-back (UnknownChunk kind flags value) h = chunk_in-numbered kind flags value h.fields.flags_fit ∙ unknown-back kind flags value h.fields
chunk-back (MalformedChunk kind) h = absurd h.fields

number-fits : (chunk : ChunkValue) → IsChunk chunk → kind_of chunk * 2 ^ 8 + flags_in chunk < 2 ^ 16
number-fits (DataChunk d) h = let f = (data-flags d.immediate d.unordered d.begins d.ends).small in omega (arith, f)
number-fits (InitChunk i) h = omega arith
number-fits (InitAckChunk i) h = omega arith
number-fits (SackChunk s) h = omega arith
number-fits (HeartbeatChunk information) h = omega arith
number-fits (HeartbeatAckChunk information) h = omega arith
number-fits (AbortChunk set causes) h = let f = one_bit set in omega (arith, f)
number-fits (ShutdownChunk cumulative) h = omega arith
number-fits ShutdownAckChunk h = omega arith
number-fits (ErrorChunk causes) h = omega arith
number-fits (CookieEchoChunk cookie) h = omega arith
number-fits CookieAckChunk h = omega arith
number-fits (ShutdownCompleteChunk set) h = let f = one_bit set in omega (arith, f)
number-fits (UnknownChunk kind flags value) h = let f = h.fields.flags_fit in let k = h.fields.fits in omega (arith, f, k)
number-fits (MalformedChunk kind) h = absurd h.fields

pub chunk-item : (chunk : ChunkValue) → IsChunk chunk → IsItem (chunk_item chunk)
chunk-item chunk h = record { kind = number-fits chunk h; fits = h.fits }

pub chunk-items : (chunks : List ChunkValue) → All IsChunk chunks → All IsItem (map chunk_item chunks)
chunk-items [] h = All-nil IsItem
chunk-items (chunk ∷ chunks) h =
    All-cons IsItem (chunk_item chunk) (map chunk_item chunks) (chunk-item chunk (All-head IsChunk chunk chunks h)) (chunk-items chunks (All-tail IsChunk chunk chunks h))

pub chunks-back : (chunks : List ChunkValue) → All IsChunk chunks → map chunk_in (map chunk_item chunks) ≡ chunks
chunks-back [] h = refl
chunks-back (chunk ∷ chunks) h =
    rw (chunk-back chunk (All-head IsChunk chunk chunks h), chunks-back chunks (All-tail IsChunk chunk chunks h)) refl

-- ---- packets

pub crc-fits : (octets : List ℕ) → crc32c_of octets < 2 ^ 32
crc-fits octets = omega arith

body-long : (chunks : List ChunkValue) → chunks ≢ [] → 4 ≤ length (padded_items (map chunk_item chunks))
body-long [] some = absurd (some refl)
body-long (chunk ∷ chunks) some = omega arith

pub packet-back : (p : PacketValue) → IsPacket p → read_packet (packet_octets p) ≡ Some p
packet-back p h =
    let items = map chunk_item p.chunks in
    let body = padded_items items in
    let text = packet_octets p in
    let crc : ℕ = crc32c_of (header_octets p.source p.destination p.tag 0 ++ body) in
    let long = body-long p.chunks h.some in
    let field : checksum_field text ≡ checksum_of text = from_le_bytes-to_le_bytes_4 crc (crc-fits (header_octets p.source p.destination p.tag 0 ++ body)) in
    let tag : tag_field text ≡ p.tag = from_be_bytes-to_be_bytes_4 p.tag h.tag in
    rw (le-ltb (length text) 16 (omega (arith, long)), eq-eqb (checksum_field text) (checksum_of text) field, read_items-padded_items items (chunk-items p.chunks h.chunks), tag, h.bundled, chunks-back p.chunks h.chunks, from_be_bytes-to_be_bytes_2 p.source h.source, from_be_bytes-to_be_bytes_2 p.destination h.destination) refl
