-- The SACK that goes out: what was consumed, what is held after it, and what came again (RFC 9260 §3.3.4).
use Rattle.std.specs.Prelude.{ℕ, zero, suc, Bool, false, not, ◌+◌, ◌-◌, ◌%◌, ◌&&◌, List, [], ◌∷◌, ◌++◌, take, is_some}
use Rattle.std.specs.Prelude.{if◌then◌else◌}
use Rattle.sctp_receiving.specs.Tsn.{modulus}
use Rattle.sctp_receiving.specs.Receiver.{Receiver, piece_at}
use Rattle.sctp_receiving.specs.declared.limits.TheConstants.{CHUNKS, BLOCKS}
use Rattle.sctp_receiving.specs.declared.block.Block.{Block}

-- whether the chunk that is this far ahead of the cumulative TSN is held
abbrev pub is_held_ahead : Receiver → ℕ → Bool
is_held_ahead r distance = is_some (piece_at r ((r.cumulative + distance) % modulus))

-- how many in a row are held from a distance on, among this many
unfoldable pub run_from : Receiver → (distance many : ℕ) → ℕ
run_from r distance zero = 0
run_from r distance (suc many) = if is_held_ahead r distance then 1 + run_from r (distance + 1) many else 0

-- the block that begins at a distance: its first and its last
abbrev pub block_from : Receiver → (distance many : ℕ) → Block
block_from r distance many = record { start = distance; end = distance + run_from r (distance + 1) many }

-- the blocks that begin at this many distances: if a chunk is held, and the one before it isn't
unfoldable pub blocks_from : Receiver → (is_before_held : Bool) → (distance many : ℕ) → List Block
blocks_from r is_before_held distance zero = []
blocks_from r is_before_held distance (suc many) =
    (if is_held_ahead r distance && not is_before_held then block_from r distance many ∷ [] else [])
    ++ blocks_from r (is_held_ahead r distance) (distance + 1) many

-- the chunk after the cumulative TSN isn't held: the first block begins at a distance of 2, or later
abbrev pub blocks : Receiver → List Block
blocks r = take BLOCKS (blocks_from r false 2 (CHUNKS - 1))

-- once it has gone out, what came again is reported
abbrev pub reported : Receiver → Receiver
reported r = record r { duplicates = [] }
