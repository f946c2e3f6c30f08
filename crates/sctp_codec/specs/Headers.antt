-- The header of a packet in its checksum.
use Rattle.std.specs.Prelude.{ℕ, [], ◌∷◌, ◌++◌}
use Rattle.std.specs.Int.{w64, to_le_bytes}
use Rattle.crc32c.specs.Division.{ones, after_octets}

-- the remainder after the twelve octets of a header: the first eight, which are read as one number, and zeros in the
-- checksum's place (RFC 9260 §6.8)
abbrev pub remainder_behind : ℕ → ℕ
remainder_behind front = after_octets ones (to_le_bytes w64 front ++ (0 ∷ 0 ∷ 0 ∷ 0 ∷ []))
