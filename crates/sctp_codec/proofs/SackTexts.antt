-- What a SACK is read as.
use Rattle.std.proofs.Common.{◌≡◌, ℕ, ◌+◌, ◌-◌, ◌*◌, ◌≤◌, List, length, take, drop, refl, ap, ◌∙◌, arith}
use Rattle.std.proofs.lemmas.Bool.{le-ltb}
use Rattle.std.specs.Prelude.{slice_range}
use Rattle.sctp_codec.specs.Items.{ItemValue, number32_at}
use Rattle.sctp_codec.specs.Packets.{SackChunk}
use Rattle.sctp_codec.specs.Reading.{blocks_in, numbers_in, block_count, duplicate_count, sack_in, type_of, chunk_of, chunk_in}

pub sack-read : (value : List ℕ) (m n cumulative window : ℕ) (blocks duplicates : List ℕ) → m ≡ block_count value → n ≡ duplicate_count value → 12 + 4 * m + 4 * n ≤ length value
    → cumulative ≡ number32_at value 0 → window ≡ number32_at value 4 → blocks ≡ slice_range value 12 (12 + 4 * m) → duplicates ≡ slice_range value (12 + 4 * m) (12 + 4 * m + 4 * n)
    → SackChunk (record { cumulative = cumulative; window = window; blocks = blocks_in blocks; duplicates = numbers_in duplicates }) ≡ sack_in value
sack-read value m n cumulative window blocks duplicates bs ds long c w b d =
    let first : 12 + 4 * m - 12 ≡ 4 * m = omega arith in
    let second : 12 + 4 * m + 4 * n - (12 + 4 * m) ≡ 4 * n = omega arith in
    let taken : blocks ≡ take (4 * m) (drop 12 value) = b ∙ ap (λ (k : ℕ). take k (drop 12 value)) first in
    let behind : duplicates ≡ take (4 * n) (drop (12 + 4 * m) value) = d ∙ ap (λ (k : ℕ). take k (drop (12 + 4 * m) value)) second in
    rw (taken, behind, c, w, le-ltb (length value) 12 (omega (arith, long)), ← bs, ← ds, le-ltb (length value) (12 + 4 * m + 4 * n) long) refl

-- a chunk of its type is one
pub of_sack : (item : ItemValue) → type_of item ≡ 3 → chunk_in item ≡ sack_in item.value
unfolding chunk_of
of_sack item e = rw e refl
