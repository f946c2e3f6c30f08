-- A receiver under any list of calls, with any peer.
use Rattle.std.specs.Prelude.{◌≡◌, ℕ, zero, suc, ◌+◌, ◌%◌, ◌<◌, ◌≤◌, List, [], ◌∷◌, ◌++◌, Option, Some, None}
use Rattle.std.specs.Prelude.{All, length, map}
use Rattle.std.specs.List.{Contains}
use Rattle.sctp_receiving.specs.Tsn.{modulus, next_tsn}
use Rattle.sctp_receiving.specs.declared.limits.TheConstants.{CHUNKS}
use Rattle.sctp_receiving.specs.Pieces.{Piece, Partial}
use Rattle.sctp_receiving.specs.Consuming.{Told, consume}
use Rattle.sctp_receiving.specs.Receiver.{Receiver, Step, first_receiver, piece_at, ahead, standing, heard_as}
use Rattle.sctp_receiving.specs.Receiver.{next_held, taken_next}
use Rattle.sctp_receiving.specs.Sack.{reported}
use Rattle.sctp_receiving.specs.declared.standing.Standing.{Standing}
use Rattle.sctp_receiving.specs.declared.standing.Standing.TheVariants.{Next, Early, Again, Beyond}

-- a chunk, with its TSN
pub record Chunk : Type 0 where
  pub tsn : ℕ
  pub piece : Piece

pub data Call : Type 0 where
  -- a chunk comes
  Hears : (chunk : Chunk) → Call
  -- the next one is consumed, if it is held
  TakesNext : Call
  -- what came again is reported
  Reports : Call

-- a TSN has 32 bits
abbrev pub IsCall : Call → Type 0
IsCall (Hears chunk) = chunk.tsn < modulus
IsCall TakesNext = Unit {0}
IsCall Reports = Unit {0}

abbrev pub AreCalls : List Call → Type 0
AreCalls [] = Unit {0}
AreCalls (call ∷ calls) = IsCall call × AreCalls calls

-- a receiver, and all that came, all that was consumed and all that was told, in order
pub record Course : Type 0 where
  pub receiver : Receiver
  pub came : List Chunk
  pub consumed : List Chunk
  pub told : List Told

abbrev pub first_course : (streams first : ℕ) → Course
first_course streams first = record {
  receiver = first_receiver streams first;
  came = [];
  consumed = [];
  told = [];
}

abbrev pub consuming : Chunk → Step → Course → Course
consuming chunk step c = record c {
  receiver = step.left;
  consumed = c.consumed ++ chunk ∷ [];
  told = c.told ++ step.told ∷ [];
}

abbrev pub arrived : Chunk → Course → Course
arrived chunk c = record c { came = c.came ++ chunk ∷ [] }

-- a chunk that is the next one is consumed
abbrev pub counting : Standing → Chunk → Step → Course → Course
counting Next chunk step c = consuming chunk step c
counting Early chunk step c = record c { receiver = step.left }
counting Again chunk step c = record c { receiver = step.left }
counting Beyond chunk step c = record c { receiver = step.left }

abbrev pub after_hearing : Standing → Chunk → Course → Course
after_hearing stands chunk c =
    counting stands chunk (heard_as stands c.receiver chunk.tsn chunk.piece) (arrived chunk c)

abbrev pub after_taking : Option Piece → Course → Course
after_taking None c = c
after_taking (Some p) c =
    consuming (record { tsn = next_tsn c.receiver.cumulative; piece = p }) (taken_next (Some p) c.receiver) c

abbrev pub after_call : Call → Course → Course
after_call (Hears chunk) c = after_hearing (standing c.receiver chunk.tsn chunk.piece) chunk c
after_call TakesNext c = after_taking (next_held c.receiver) c
after_call Reports c = record c { receiver = reported c.receiver }

abbrev pub after_calls : List Call → Course → Course
after_calls [] c = c
after_calls (call ∷ calls) c = after_calls calls (after_call call c)

-- ---- the chunks that were consumed

-- TSNs one after another, this many
abbrev pub tsns_from : (first many : ℕ) → List ℕ
tsns_from first zero = []
tsns_from first (suc many) = tsns_from first many ++ (first + many) % modulus ∷ []

abbrev pub tsn_of : Chunk → ℕ
tsn_of chunk = chunk.tsn

-- what chunks tell that are put together in their order, and what there is of a message then
abbrev pub told_of : (streams : ℕ) → Option Partial → List Chunk → List Told
told_of streams partial [] = []
told_of streams partial (chunk ∷ chunks) =
    (consume streams chunk.piece partial).told
    ∷ told_of streams (consume streams chunk.piece partial).left chunks

abbrev pub partial_of : (streams : ℕ) → Option Partial → List Chunk → Option Partial
partial_of streams partial [] = partial
partial_of streams partial (chunk ∷ chunks) = partial_of streams (consume streams chunk.piece partial).left chunks

-- they have TSNs one after another from the peer's first TSN on, each once; each of them came; and what is told is
-- those chunks put together
pub record IsInOrder (streams first : ℕ) (c : Course) : Type 0 where
  pub numbered : map tsn_of c.consumed ≡ tsns_from first (length c.consumed)
  pub came : All (λ chunk. Contains c.came chunk) c.consumed
  pub told : c.told ≡ told_of streams None c.consumed

abbrev pub consumed_in_order : Type 0
consumed_in_order =
    (streams first : ℕ) (calls : List Call) → first < modulus → AreCalls calls →
    IsInOrder streams first (after_calls calls (first_course streams first))

-- ---- what is held

-- a chunk is held: its TSN is ahead, within the window, and it is in its place
pub record IsHeld (r : Receiver) (chunk : Chunk) : Type 0 where
  pub above : 1 ≤ ahead r chunk.tsn
  pub within : ahead r chunk.tsn ≤ CHUNKS
  pub there : piece_at r chunk.tsn ≡ Some chunk.piece

-- a chunk that is held stays so until it is consumed
pub data IsKept (c : Course) (chunk : Chunk) : Type 0 where
  held : IsHeld c.receiver chunk → IsKept c chunk
  consumed : Contains c.consumed chunk → IsKept c chunk

abbrev pub nothing_held_is_dropped : Type 0
nothing_held_is_dropped =
    (streams first : ℕ) (calls more : List Call) (chunk : Chunk) → first < modulus →
    AreCalls calls → AreCalls more → chunk.tsn < modulus →
    IsKept (after_calls calls (first_course streams first)) chunk →
    IsKept (after_calls more (after_calls calls (first_course streams first))) chunk

-- ---- the next chunk

-- it is always taken, whatever the window; unless it is held already
abbrev pub next_is_taken : Type 0
next_is_taken =
    (r : Receiver) (tsn : ℕ) (p : Piece) → ahead r tsn ≡ 1 → piece_at r tsn ≡ None → standing r tsn p ≡ Next
