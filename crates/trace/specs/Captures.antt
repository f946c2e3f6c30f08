-- What a capture has of the frames and packets that passed: one packet for each, one after the other.
use Rattle.std.specs.Prelude.{◌≡◌, ℕ, ◌+◌, ◌%◌, ◌^◌, ◌<◌, ◌==◌, ◌&&◌, min, Bool, true, false, Option}
use Rattle.std.specs.Prelude.{List, [], ◌∷◌, ◌++◌, length, take, slice_index, count_by}
use Rattle.std.specs.Duration.{as_nanos, max_nanos}
use Rattle.std.specs.declared.time.Duration.{Duration}
use Rattle.std.specs.Io.KnownBytes.{Appends}
use Rattle.trace.specs.declared.direction.Direction.{Direction}
use Rattle.trace.specs.declared.direction.Direction.TheVariants.{In, Out}
use Rattle.trace.specs.declared.packet_numbers.PacketNumbers.{PacketNumbers}
use Rattle.trace.specs.Packets.{file_header, packet_octets, record_header}

-- a frame that passed on a link, this long after the node's start
pub record Seen : Type 0 where
  pub time : Duration
  pub link : ℕ
  pub direction : Direction
  pub frame : List ℕ

abbrev pub is_same : Direction → Direction → Bool
is_same In In = true
is_same In Out = false
is_same Out In = false
is_same Out Out = true

pub data Passed : Type 0 where
  -- a frame, for which a packet is made
  FramePassed : (seen : Seen) → Passed
  -- a packet of SCTP, as it was on the wire, this long after the node's start
  PacketPassed : (time : Duration) (octets : List ℕ) → Passed

-- whether it is a frame that passed on this link in this direction
abbrev pub passed_on : (link : ℕ) → Direction → Passed → Bool
passed_on link direction (FramePassed seen) = (seen.link == link) && is_same seen.direction direction
passed_on link direction (PacketPassed time octets) = false

-- the number of the next packet of a link and a direction after these: how many frames passed there, modulo 2^32
abbrev pub next_number : (link : ℕ) → Direction → (before : List Passed) → ℕ
next_number link direction before = count_by (passed_on link direction) before % 2 ^ 32

-- how many nanoseconds after 1970 a frame passed, if the node started this long after 1970; at most the longest time
abbrev pub since_1970 : (started time : Duration) → ℕ
since_1970 started time = min (as_nanos started + as_nanos time) max_nanos

-- the packet of a frame after these
abbrev pub packet_behind : (started : Duration) (before : List Passed) → Seen → List ℕ
packet_behind started before seen =
    packet_octets (since_1970 started seen.time) seen.link seen.direction
    (next_number seen.link seen.direction before) seen.frame

-- a packet that was on the wire, after its header
abbrev pub wire_packet : (started time : Duration) (octets : List ℕ) → List ℕ
wire_packet started time octets = record_header (since_1970 started time) (length octets) ++ octets

-- what a capture has of either
abbrev pub entry_behind : (started : Duration) (before : List Passed) → Passed → List ℕ
entry_behind started before (FramePassed seen) = packet_behind started before seen
entry_behind started before (PacketPassed time octets) = wire_packet started time octets

-- the packets of what passed, each after those before it, and all after these
abbrev pub packets_behind : (started : Duration) (before : List Passed) → List Passed → List ℕ
packets_behind started before [] = []
packets_behind started before (passed ∷ rest) =
    entry_behind started before passed ++ packets_behind started (before ++ passed ∷ []) rest

-- the octets of a capture of these: the header of the file, and their packets
abbrev pub captured : (started : Duration) → List Passed → List ℕ
captured started passed = file_header ++ packets_behind started [] passed

-- the known octets grew by the first of these, however many, but not by all
abbrev pub AppendsPart : Option (List ℕ) → Option (List ℕ) → List ℕ → Type 0
AppendsPart old new octets = (count : ℕ) × (count < length octets) × Appends old new (take count octets)

-- a capture: what it writes to, how long after 1970 the node started, and the numbers of its next packets
pub record CaptureOf (O : Type 0) : Type 0 where
  pub output : O
  pub started : Duration
  pub numbers : PacketNumbers

-- the number of the next packet of a link and a direction
abbrev pub number_at : (link : ℕ) → Direction → PacketNumbers → ℕ
number_at link In numbers = slice_index numbers.incoming link
number_at link Out numbers = slice_index numbers.outgoing link

-- these are the numbers of the next packets after these
pub record IsBehind (numbers : PacketNumbers) (passed : List Passed) : Type 0 where
  pub each : (link : ℕ) (direction : Direction) → link < 2 ^ 8 →
      number_at link direction numbers ≡ next_number link direction passed

-- after what its output had before, a capture wrote that of these, and its next packets go on after them
pub record Captures {O : Type 0} (written : O → Option (List ℕ)) (before : Option (List ℕ)) (capture : CaptureOf O)
    (passed : List Passed) : Type 0 where
  pub octets : Appends before (written capture.output) (captured capture.started passed)
  pub numbers : IsBehind capture.numbers passed
