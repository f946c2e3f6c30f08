-- What a SACK says of a receiver.
use Rattle.std.proofs.Common.{◌≡◌, ℕ, ◌+◌, ◌*◌, ◌^◌, ◌<◌, ◌≤◌, List, [], ◌∷◌, ◌++◌, length, take, map, sym, ap, ◌∙◌, arith}
use Rattle.std.specs.Prelude.{get_or, set}
use Rattle.std.proofs.lemmas.List.{take_more, take_more_set, map-append, length-map, length-take-le}
use Rattle.sctp_codec.specs.Packets.{BlockValue, SackValue, SackChunk}
use Rattle.sctp_codec.specs.Values as value
use Rattle.sctp_codec.specs.Writing.{sack_octets}
use Rattle.sctp_codec.specs.declared.chunk.Block as codec
use Rattle.sctp_codec.proofs.ChunkTexts.{sack-length}
use Rattle.sctp_codec.proofs.WrittenTexts.{padded-count}
use Rattle.sctp_receiving.specs.declared.block.Block as receiving
use Rattle.sctp_receiving.specs.Receiver.{Receiver, window as window_of}
use Rattle.sctp_receiving.specs.Sack.{blocks}
use Rattle.sctp_rules.specs.Data.{block_of, sack_of}
use Rattle.sctp_bundling.specs.Replies.{size_of}

-- a gap block more
pub block-more : (out : List codec.Block) (blocks : List receiving.Block) (i : ℕ) (x : codec.Block) (y d : receiving.Block) → i < length out → i < length blocks → y ≡ get_or blocks i d
    → value.block_of x ≡ block_of y → map value.block_of (take i out) ≡ map block_of (take i blocks) → map value.block_of (take (i + 1) (set out i x)) ≡ map block_of (take (i + 1) blocks)
block-more out blocks i x y d a b is same e =
    ap (map value.block_of) (take_more_set out i x a) ∙ map-append value.block_of (take i out) (x ∷ [])
    ∙ ap (λ t. t ++ value.block_of x ∷ []) e ∙ ap (λ t. map block_of (take i blocks) ++ t ∷ []) (same ∙ ap block_of is)
    ∙ sym (ap (map block_of) (take_more blocks i d b) ∙ map-append block_of (take i blocks) (get_or blocks i d ∷ []))

pub sack-size : (s : SackValue) → size_of (SackChunk s) ≡ 16 + 4 * length s.blocks + 4 * length s.duplicates
sack-size s =
    let whole = padded-count 0 (3 * 2 ^ 8 + 0) (sack_octets s) in
    let long = sack-length s in
    omega (arith, whole, long)

pub block-count : (out : List codec.Block) (count : ℕ) (xs : List BlockValue) → count ≤ length out → map value.block_of (take count out) ≡ xs → count ≡ length xs
block-count out count xs m e = sym (length-take-le count out m) ∙ sym (length-map (take count out) value.block_of) ∙ ap length e

abbrev pub sack_with : (cumulative window : ℕ) → List BlockValue → List ℕ → SackValue
sack_with cumulative window blocks duplicates = record { cumulative = cumulative; window = window; blocks = blocks; duplicates = duplicates }

pub sack-said : (r : Receiver) (cumulative window : ℕ) (bs : List BlockValue) (ds : List ℕ) → cumulative ≡ r.cumulative → window ≡ window_of r → bs ≡ map block_of (blocks r) → ds ≡ r.duplicates
    → SackChunk (sack_with cumulative window bs ds) ≡ sack_of r
sack-said r cumulative window bs ds a b c d =
    ap (λ (n : ℕ). SackChunk (sack_with n window bs ds)) a ∙ ap (λ (n : ℕ). SackChunk (sack_with r.cumulative n bs ds)) b
    ∙ ap (λ (xs : List BlockValue). SackChunk (sack_with r.cumulative (window_of r) xs ds)) c ∙ ap (λ (xs : List ℕ). SackChunk (sack_with r.cumulative (window_of r) (map block_of (blocks r)) xs)) d
