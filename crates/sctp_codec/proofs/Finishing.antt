-- A packet whose checksum is put into its header.
use Rattle.std.proofs.Common.{◌≡◌, ℕ, ◌+◌, ◌-◌, ◌≤◌, List, ◌++◌, length, take, drop, refl, sym, ap, ◌∙◌, arith}
use Rattle.std.proofs.lemmas.List.{take_at, drop_at, take-take, drop-take, drop-drop, length-take-le}
use Rattle.std.specs.Int.{w32, to_le_bytes}
use borrow.Rule.Slice.PartMut.{put_mid, post_of}
use lib.Seq.{take-add}
use Rattle.crc32c.specs.Division.{crc32c_of}
use Rattle.sctp_codec.specs.Writing.{header_octets, headed}

pub finished : (out : List ℕ) (end source destination tag : ℕ) (chunks bytes : List ℕ) (checksum : ℕ) → 12 ≤ end → end ≤ length out
    → checksum ≡ crc32c_of (take end out) → bytes ≡ to_le_bytes w32 checksum → take end out ≡ header_octets source destination tag 0 ++ chunks
    → take end (put_mid 8 4 out bytes) ≡ headed source destination tag chunks
finished out end source destination tag chunks bytes checksum front room crc four text =
    let k : ℕ = end - 12 in
    let parts : end ≡ 8 + (4 + k) = omega (arith, front) in
    let twelve : end ≡ 12 + k = omega (arith, front) in
    let before : take 8 out ≡ take 8 (header_octets source destination tag 0 ++ chunks) = sym (take-take 8 end out (omega (arith, front))) ∙ ap (take 8) text in
    let behind : take k (drop 12 out) ≡ chunks = sym (drop-take 12 k out) ∙ ap (λ (n : ℕ). drop 12 (take n out)) (sym twelve) ∙ ap (drop 12) text in
    let eight : length (take 8 out) ≡ 8 = length-take-le 8 out (omega (arith, front, room)) in
    let rest = bytes ++ post_of 8 4 out in
    let bytes-long : length bytes ≡ 4 = ap length four in
    let last : post_of 8 4 out ≡ drop 12 out = drop-drop 4 8 out in
    ap (λ (n : ℕ). take n (take 8 out ++ rest)) parts ∙ take-add 8 (4 + k) (take 8 out ++ rest)
    ∙ rw (take_at (take 8 out) rest 8 eight, drop_at (take 8 out) rest 8 eight, take-add 4 k rest, take_at bytes (post_of 8 4 out) 4 bytes-long, drop_at bytes (post_of 8 4 out) 4 bytes-long, last, behind, before, four, crc, text) refl
