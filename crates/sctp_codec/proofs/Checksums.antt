-- The checksum of a packet, piece by piece.
use Rattle.std.proofs.Common.{◌≡◌, ℕ, ◌-◌, List, [], ◌∷◌, ◌++◌, length, take, drop, refl, sym, ap, ◌∙◌}
use Rattle.std.proofs.lemmas.List.{take_rest}
use Rattle.std.specs.Int.{w64, to_le_bytes}
use Rattle.crc32c.specs.Division.{ones, after_octets, crc32c_of}
use Rattle.crc32c.proofs.Linear.{after_octets-append}
use Rattle.sctp_codec.specs.Headers.{remainder_behind}
use Rattle.sctp_codec.specs.Reading.{checksum_of}
use Rattle.sctp_codec.specs.Writing.{header_octets}

-- ---- the header

pub behind_front : (front word all : ℕ) (octets : List ℕ) → octets ≡ to_le_bytes w64 front → word ≡ after_octets ones octets → all ≡ after_octets word (0 ∷ 0 ∷ 0 ∷ 0 ∷ [])
    → all ≡ remainder_behind front
behind_front front word all octets o w a = rw (a, w, o) (sym (after_octets-append ones (to_le_bytes w64 front) (0 ∷ 0 ∷ 0 ∷ 0 ∷ [])))

pub in_pieces : (octets : List ℕ) (front header all : ℕ) → to_le_bytes w64 front ≡ take 8 octets → header ≡ remainder_behind front
    → all ≡ after_octets header (take (length octets - 12) (drop 12 octets)) → ones - all ≡ checksum_of octets
in_pieces octets front header all f h a =
    let eight : header ≡ after_octets ones (take 8 octets ++ (0 ∷ 0 ∷ 0 ∷ 0 ∷ [])) = h ∙ ap (λ (front : List ℕ). after_octets ones (front ++ (0 ∷ 0 ∷ 0 ∷ 0 ∷ []))) f in
    let rest : all ≡ after_octets header (drop 12 octets) = a ∙ ap (after_octets header) (take_rest octets 12) in
    let second = after_octets-append ones (take 8 octets ++ (0 ∷ 0 ∷ 0 ∷ 0 ∷ [])) (drop 12 octets) in
    ap (λ (n : ℕ). ones - n) (rest ∙ ap (λ (n : ℕ). after_octets n (drop 12 octets)) eight ∙ sym second)

-- ---- a packet whose checksum isn't written yet has zeros there

pub same_sum : (text : List ℕ) (source destination tag : ℕ) (chunks : List ℕ) → text ≡ header_octets source destination tag 0 ++ chunks → checksum_of text ≡ crc32c_of text
same_sum text source destination tag chunks e = rw e refl
