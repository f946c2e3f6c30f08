-- CRC32c: octets as a polynomial over bits, divided by the polynomial 1EDC6F41 (RFC 9260 appendix A). Numbers stand for
-- polynomials with the highest power in their lowest bit, and the lowest bit of an octet comes first.
use Rattle.std.specs.Prelude.{ℕ, zero, suc, ◌-◌, ◌/◌, ◌%◌, ◌^◌, ◌==◌, if◌then◌else◌, bit_xor, List, [], ◌∷◌}
use Rattle.std.specs.List.{flat_map}

-- the polynomial of degree 32, without its highest power
abbrev pub polynomial : ℕ
polynomial = 0x82F63B78

-- one step of the division: the remainder times the variable, less the polynomial if the highest power is reached
abbrev pub divided : ℕ → ℕ
divided remainder = if remainder % 2 == 1 then bit_xor (remainder / 2) polynomial else remainder / 2

-- the remainder after these bits, from one before them
abbrev pub after_bits : ℕ → List ℕ → ℕ
after_bits remainder [] = remainder
after_bits remainder (bit ∷ bits) = after_bits (divided (bit_xor remainder bit)) bits

-- this many bits of a number, the lowest first
unfoldable pub lowest_bits : ℕ → ℕ → List ℕ
lowest_bits zero number = []
lowest_bits (suc count) number = number % 2 ∷ lowest_bits count (number / 2)

-- the remainder after these octets
abbrev pub after_octets : ℕ → List ℕ → ℕ
after_octets remainder octets = after_bits remainder (flat_map (lowest_bits 8) octets)

-- 32 bits that are set: what the division begins with
abbrev pub ones : ℕ
ones = 2 ^ 32 - 1

-- the checksum: the remainder, each bit inverted
abbrev pub crc32c_of : List ℕ → ℕ
crc32c_of octets = ones - after_octets ones octets

-- ---- what tables hold

-- this many steps of the division
unfoldable pub divided_by : ℕ → ℕ → ℕ
divided_by zero remainder = remainder
divided_by (suc steps) remainder = divided_by steps (divided remainder)
