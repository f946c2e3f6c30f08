-- What the gap blocks of a SACK name (RFC 9260 §3.3.4).
use Rattle.std.specs.Prelude.{ℕ, Bool, false, ◌&&◌, List, nat_le, slice_index_or}
use Rattle.std.specs.List.{list_any}
use Rattle.sctp_codec.specs.Packets.{BlockValue}

-- a block counts if it lies within what isn't confirmed, and the message after the cumulative TSN isn't in it
abbrev pub is_block : (many : ℕ) → BlockValue → Bool
is_block many b = nat_le 2 b.start && nat_le b.start b.end && nat_le b.end many

abbrev pub is_between : (start end ahead : ℕ) → Bool
is_between start end ahead = nat_le start ahead && nat_le ahead end

-- whether a block names the message that is this far ahead of the cumulative TSN
abbrev pub block_names : (many ahead : ℕ) → BlockValue → Bool
block_names many ahead b = is_block many b && is_between b.start b.end ahead

-- whether one of them does
abbrev pub names_in : List BlockValue → (many ahead : ℕ) → Bool
names_in blocks many ahead = list_any (block_names many ahead) blocks

-- whether a row of marks names it
abbrev pub marked : List Bool → (ahead : ℕ) → Bool
marked marks ahead = slice_index_or marks ahead false
