-- The receiving half of an association: which chunks came, and what becomes of the next one (RFC 9260 §6.2, §6.7).
use Rattle.std.specs.Prelude.{ℕ, zero, suc, Bool, true, false, ◌-◌, ◌%◌, ◌&&◌, ◌||◌, List, [], ◌∷◌, ◌++◌}
use Rattle.std.specs.Prelude.{Option, Some, None}
use Rattle.std.specs.Prelude.{length, replicate, is_some, nat_eq, nat_lt, nat_le, slice_index_or, slice_set}
use Rattle.std.specs.Prelude.{sum_by, if◌then◌else◌}
use Rattle.sctp_receiving.specs.Tsn.{half, next_tsn, previous_tsn, steps_between}
use Rattle.sctp_receiving.specs.Pieces.{Piece, Partial}
use Rattle.sctp_receiving.specs.Consuming.{Told, Nothing, Tells, NoStream, Violates, consume}
use Rattle.sctp_receiving.specs.declared.limits.TheConstants.{CHUNKS, CHUNK_OCTETS, WINDOW, DUPLICATES}
use Rattle.sctp_receiving.specs.declared.standing.Standing.{Standing}
use Rattle.sctp_receiving.specs.declared.standing.Standing.TheVariants.{Next, Early, Again, Beyond}

pub record Receiver : Type 0 where
  -- how many streams there are
  pub streams : ℕ
  -- the cumulative TSN: that of the last chunk that was consumed
  pub cumulative : ℕ
  -- what is held, as it came out of turn: of each TSN within the window, at the place that the TSN has modulo CHUNKS
  pub held : List (Option Piece)
  -- TSNs that came again, and weren't reported yet
  pub duplicates : List ℕ
  -- what has come of a message that hasn't ended
  pub partial : Option Partial

-- the receiver of a new association, whose peer begins with this TSN
abbrev pub first_receiver : (streams first : ℕ) → Receiver
first_receiver streams first = record {
  streams = streams;
  cumulative = previous_tsn first;
  held = replicate CHUNKS None;
  duplicates = [];
  partial = None;
}

-- ---- what is held

abbrev pub piece_at : Receiver → ℕ → Option Piece
piece_at r tsn = slice_index_or r.held (tsn % CHUNKS) None

abbrev pub with_piece : Receiver → ℕ → Option Piece → Receiver
with_piece r tsn piece = record r { held = slice_set r.held (tsn % CHUNKS) piece }

-- how far a TSN is ahead of the cumulative one
abbrev pub ahead : Receiver → ℕ → ℕ
ahead r tsn = steps_between r.cumulative tsn

-- whether the chunk of this TSN, which is ahead, is held
abbrev pub is_held : Receiver → ℕ → Bool
is_held r tsn = nat_le (ahead r tsn) CHUNKS && is_some (piece_at r tsn)

abbrev pub held_octets : Option Piece → ℕ
held_octets None = 0
held_octets (Some p) = length p.octets

abbrev pub partial_octets : Option Partial → ℕ
partial_octets None = 0
partial_octets (Some m) = length m.octets

-- the window that the peer is told: what is held, or waits for the rest of its message, has taken its part of it
abbrev pub window : Receiver → ℕ
window r = WINDOW - sum_by held_octets r.held - partial_octets r.partial

-- ---- a chunk that comes

-- a chunk fits if it has no more octets than a place for it, and than the window
abbrev pub fits : Receiver → Piece → Bool
fits r p = nat_le (length p.octets) CHUNK_OCTETS && nat_le (length p.octets) (window r)

-- by how far its TSN is ahead of the cumulative one: one of the past comes again, and so does one that is held. The
-- next one is always taken, whatever the window; one after it if it fits
abbrev pub standing : Receiver → ℕ → Piece → Standing
standing r tsn p =
    if nat_eq (ahead r tsn) 0 || nat_le half (ahead r tsn) || is_held r tsn
    then Again
    else (if nat_eq (ahead r tsn) 1
    then Next
    else (if nat_le (ahead r tsn) CHUNKS && fits r p
    then Early
    else Beyond))

-- what is left, and what is told
pub record Step : Type 0 where
  pub left : Receiver
  pub told : Told

-- the next chunk is consumed
abbrev pub taken : Receiver → Piece → Step
taken r p =
    let c = consume r.streams p r.partial in
    record { left = record r { cumulative = next_tsn r.cumulative; partial = c.left }; told = c.told }

-- a TSN that came again is reported, if there is a place
abbrev pub repeated : Receiver → ℕ → Receiver
repeated r tsn =
    if nat_lt (length r.duplicates) DUPLICATES
    then record r { duplicates = r.duplicates ++ tsn ∷ [] }
    else r

abbrev pub heard_as : Standing → Receiver → ℕ → Piece → Step
heard_as Next r tsn p = taken r p
heard_as Early r tsn p = record { left = with_piece r tsn (Some p); told = Nothing }
heard_as Again r tsn p = record { left = repeated r tsn; told = Nothing }
heard_as Beyond r tsn p = record { left = r; told = Nothing }

-- a chunk comes
abbrev pub hear : Receiver → ℕ → Piece → Step
hear r tsn p = heard_as (standing r tsn p) r tsn p

-- ---- what is held after a chunk that was consumed

-- the next chunk, if it is held
abbrev pub next_held : Receiver → Option Piece
next_held r = piece_at r (next_tsn r.cumulative)

abbrev pub taken_next : Option Piece → Receiver → Step
taken_next None r = record { left = r; told = Nothing }
taken_next (Some p) r = taken (with_piece r (next_tsn r.cumulative) None) p

-- it is consumed
abbrev pub take_next : Receiver → Step
take_next r = taken_next (next_held r) r

-- what is left after several, and what was told of each
pub record Steps : Type 0 where
  pub left : Receiver
  pub told : List Told

abbrev pub followed_by : Told → Steps → Steps
followed_by told s = record s { told = told ∷ s.told }

-- a violation is the last
abbrev pub is_violation : Told → Bool
is_violation Nothing = false
is_violation (Tells message) = false
is_violation (NoStream stream) = false
is_violation (Violates violation) = true

abbrev pub and_then : (Receiver → Steps) → Step → Steps
and_then rest s =
    if is_violation s.told
    then record { left = s.left; told = s.told ∷ [] }
    else followed_by s.told (rest s.left)

-- what is held after the cumulative TSN is consumed, up to a hole
unfoldable pub drained : ℕ → Receiver → Steps
drained zero r = record { left = r; told = [] }
drained (suc many) r =
    if is_some (next_held r)
    then and_then (λ left. drained many left) (take_next r)
    else record { left = r; told = [] }

-- a chunk comes, and what is held after it is consumed
abbrev pub received : Receiver → ℕ → Piece → Steps
received r tsn p = and_then (λ left. drained CHUNKS left) (hear r tsn p)
