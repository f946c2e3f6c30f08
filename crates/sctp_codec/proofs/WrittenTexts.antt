-- What is written piece by piece is a chunk.
use Rattle.std.proofs.Common.{◌≡◌, ℕ, ◌+◌, ◌*◌, ◌^◌, List, ◌∷◌, ◌++◌, length, replicate, map, sym, ap, ◌∙◌, arith}
use Rattle.std.proofs.lemmas.List.{append_assoc, append-nil, length-append, length-replicate, map-id}
use Rattle.std.specs.Int.{w16, w32, to_be_bytes}
use Rattle.std.specs.List.{flat_map}
use Rattle.sctp_codec.specs.Items.{ItemValue, padding_behind, item_octets, padded_item, joined_items}
use Rattle.sctp_codec.specs.Packets.{SackValue, SackChunk}
use Rattle.sctp_codec.specs.Parameters.{following}
use Rattle.sctp_codec.specs.Writing.{block_octets, sack_octets, chunk_octets}
use Rattle.sctp_codec.proofs.ChunkTexts.{sack-length}
use Rattle.sctp_codec.proofs.Joined.{joined6}
use Rattle.sctp_codec.proofs.ReportTexts.{joined-first}

-- ---- SACK

pub sack_text : (t : List ℕ) (s : SackValue) (m n : ℕ) → m ≡ length s.blocks → n ≡ length s.duplicates
    → ((((((t ++ (to_be_bytes w16 (3 * 2 ^ 8 + 0) ++ to_be_bytes w16 (4 + (12 + 4 * m + 4 * n)))) ++ to_be_bytes w32 s.cumulative) ++ to_be_bytes w32 s.window) ++ to_be_bytes w16 m) ++ to_be_bytes w16 n)
    ++ flat_map block_octets s.blocks) ++ flat_map (to_be_bytes w32) s.duplicates ≡ t ++ chunk_octets (SackChunk s)
sack_text t s m n blocks duplicates =
    let value : List ℕ = sack_octets s in
    let b = flat_map block_octets s.blocks in
    let d = flat_map (to_be_bytes w32) s.duplicates in
    let two : List ℕ = to_be_bytes w32 s.cumulative ++ to_be_bytes w32 s.window in
    let number : List ℕ = to_be_bytes w16 (3 * 2 ^ 8 + 0) in
    let len = sack-length s in
    let count : 12 + 4 * m + 4 * n ≡ length value = omega (arith, len, blocks, duplicates) in
    let none : padding_behind (length value) ≡ 0 = omega (arith, len) in
    let front : List ℕ = number ++ to_be_bytes w16 (4 + (12 + 4 * m + 4 * n)) in
    let whole : (((two ++ to_be_bytes w16 m) ++ to_be_bytes w16 n) ++ b) ++ d ≡ value =
    ap (λ (k : ℕ). (((two ++ to_be_bytes w16 k) ++ to_be_bytes w16 n) ++ b) ++ d) blocks
    ∙ ap (λ (k : ℕ). (((two ++ to_be_bytes w16 (length s.blocks)) ++ to_be_bytes w16 k) ++ b) ++ d) duplicates in
    joined6 (t ++ front) (to_be_bytes w32 s.cumulative) (to_be_bytes w32 s.window) (to_be_bytes w16 m) (to_be_bytes w16 n) b d
    ∙ ap (λ (v : List ℕ). (t ++ front) ++ v) whole ∙ append_assoc t front value
    ∙ ap (λ (k : ℕ). t ++ ((number ++ to_be_bytes w16 (4 + k)) ++ value)) count
    ∙ ap (λ (x : List ℕ). t ++ x) (sym (append-nil ((number ++ to_be_bytes w16 (4 + length value)) ++ value)))
    ∙ ap (λ (k : ℕ). t ++ (((number ++ to_be_bytes w16 (4 + length value)) ++ value) ++ replicate k 0)) (sym none)

-- ---- items

pub padded-count : (at kind : ℕ) (value : List ℕ) → at + 4 + length value + padding_behind (length value) ≡ at + length (padded_item (record { kind = kind; value = value }))
padded-count at kind value =
    let zeros = length-replicate {A = ℕ} (padding_behind (length value)) 0 in
    let sum = length-append (item_octets (record { kind = kind; value = value })) (replicate (padding_behind (length value)) 0) in
    omega (arith, zeros, sum)

-- ---- INIT ACK

pub answered : (front cookie : List ℕ) (items : List ItemValue)
    → ((front ++ (to_be_bytes w16 7 ++ to_be_bytes w16 (4 + length cookie))) ++ cookie) ++ following (padding_behind (length cookie)) items
    ≡ front ++ joined_items (record { kind = 7; value = cookie } ∷ items)
answered front cookie items =
    let head : List ℕ = to_be_bytes w16 7 ++ to_be_bytes w16 (4 + length cookie) in
    let rest = following (padding_behind (length cookie)) items in
    ap (λ (x : List ℕ). x ++ rest) (append_assoc front head cookie) ∙ append_assoc front (head ++ cookie) rest
    ∙ ap (λ (x : List ℕ). front ++ x) (sym (joined-first (record { kind = 7; value = cookie }) items))

-- ---- a cause in an ERROR

pub nested : (t value : List ℕ) (n : ℕ) → n ≡ length value
    → (t ++ (to_be_bytes w16 (9 * 2 ^ 8 + 0) ++ to_be_bytes w16 (4 + (4 + n)))) ++ padded_item (record { kind = 8; value = value })
    ≡ t ++ padded_item (record { kind = 9 * 2 ^ 8 + 0; value = item_octets (record { kind = 8; value = value }) })
nested t value n len =
    let inner : List ℕ = item_octets (record { kind = 8; value = value }) in
    let number : List ℕ = to_be_bytes w16 (9 * 2 ^ 8 + 0) in
    let front : List ℕ = number ++ to_be_bytes w16 (4 + (4 + n)) in
    let zeros : List ℕ = replicate (padding_behind (length value)) 0 in
    let count : 4 + n ≡ length inner = omega (arith, len) in
    let same : padding_behind (length value) ≡ padding_behind (length inner) = omega arith in
    append_assoc t front (inner ++ zeros) ∙ ap (λ (x : List ℕ). t ++ x) (sym (append_assoc front inner zeros))
    ∙ ap (λ (k : ℕ). t ++ (((number ++ to_be_bytes w16 (4 + k)) ++ inner) ++ zeros)) count
    ∙ ap (λ (k : ℕ). t ++ (((number ++ to_be_bytes w16 (4 + length inner)) ++ inner) ++ replicate k 0)) same

pub nested-count : (at : ℕ) (value : List ℕ) → at + 4 + 4 + length value + padding_behind (length value)
    ≡ at + length (padded_item (record { kind = 9 * 2 ^ 8 + 0; value = item_octets (record { kind = 8; value = value }) }))
nested-count at value =
    let inner : List ℕ = item_octets (record { kind = 8; value = value }) in
    let outer = padded-count at (9 * 2 ^ 8 + 0) inner in
    let sum : at + 4 + 4 + length value + padding_behind (length value) ≡ at + 4 + length inner + padding_behind (length inner) = omega arith in
    sum ∙ outer

pub same_items : (items : List ItemValue) → map (λ (item : ItemValue). item) items ≡ items
same_items items = map-id items
