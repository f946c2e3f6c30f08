-- Packets of SCTP: what they say (RFC 9260 §3).
use Rattle.std.specs.Prelude.{ℕ, Bool, List, [], ◌∷◌, Option, Some, None}
use Rattle.sctp_codec.specs.Items.{ItemValue}

-- a DATA chunk (RFC 9260 §3.3.1)
pub record DataValue : Type 0 where
  -- the I, U, B and E bits: an acknowledgement is wanted at once; the message is unordered; it begins here; it ends
  -- here
  pub immediate : Bool
  pub unordered : Bool
  pub begins : Bool
  pub ends : Bool
  -- its number; the stream and the number in the stream; the payload protocol identifier
  pub tsn : ℕ
  pub stream : ℕ
  pub sequence : ℕ
  pub protocol : ℕ
  -- the user data
  pub octets : List ℕ

-- an INIT or an INIT ACK chunk (RFC 9260 §3.3.2, §3.3.3)
pub record InitValue : Type 0 where
  -- the tag that its sender wants in each packet to it, and its advertised window
  pub tag : ℕ
  pub window : ℕ
  -- how many streams it wants to send on, and how many it takes at most
  pub outgoing : ℕ
  pub incoming : ℕ
  -- the number of the first DATA chunk that it will send
  pub first_tsn : ℕ
  pub parameters : List ItemValue

-- a block of DATA chunks that came out of turn: the first and the last, counted from the cumulative TSN
pub record BlockValue : Type 0 where
  pub start : ℕ
  pub end : ℕ

-- a SACK chunk (RFC 9260 §3.3.4)
pub record SackValue : Type 0 where
  -- the last number before the first gap, and the advertised window
  pub cumulative : ℕ
  pub window : ℕ
  pub blocks : List BlockValue
  -- the numbers that came more than once
  pub duplicates : List ℕ

-- a chunk
pub data ChunkValue : Type 0 where
  DataChunk : (carried : DataValue) → ChunkValue
  InitChunk : (init : InitValue) → ChunkValue
  InitAckChunk : (init : InitValue) → ChunkValue
  SackChunk : (sack : SackValue) → ChunkValue
  -- HEARTBEAT and HEARTBEAT ACK: the heartbeat information as it came
  HeartbeatChunk : (information : List ℕ) → ChunkValue
  HeartbeatAckChunk : (information : List ℕ) → ChunkValue
  -- ABORT: whether the tag is reflected, which is the T bit, and the causes, whatever they are
  AbortChunk : (is_reflected : Bool) (causes : List ℕ) → ChunkValue
  -- SHUTDOWN: the cumulative TSN
  ShutdownChunk : (cumulative : ℕ) → ChunkValue
  ShutdownAckChunk : ChunkValue
  -- ERROR: its causes
  ErrorChunk : (causes : List ItemValue) → ChunkValue
  CookieEchoChunk : (cookie : List ℕ) → ChunkValue
  CookieAckChunk : ChunkValue
  -- SHUTDOWN COMPLETE: whether the tag is reflected
  ShutdownCompleteChunk : (is_reflected : Bool) → ChunkValue
  -- a chunk of another type
  UnknownChunk : (kind flags : ℕ) (value : List ℕ) → ChunkValue
  -- a chunk of one of the types above whose value is too short for its fields, or whose parameters or causes aren't
  -- whole
  MalformedChunk : (kind : ℕ) → ChunkValue

-- a packet
pub record PacketValue : Type 0 where
  -- the port that it comes from, and the port that it goes to
  pub source : ℕ
  pub destination : ℕ
  -- the verification tag
  pub tag : ℕ
  -- at least one
  pub chunks : List ChunkValue

-- the type of a chunk (RFC 9260 §3.2)
abbrev pub kind_of : ChunkValue → ℕ
kind_of (DataChunk carried) = 0
kind_of (InitChunk init) = 1
kind_of (InitAckChunk init) = 2
kind_of (SackChunk sack) = 3
kind_of (HeartbeatChunk information) = 4
kind_of (HeartbeatAckChunk information) = 5
kind_of (AbortChunk is_reflected causes) = 6
kind_of (ShutdownChunk cumulative) = 7
kind_of ShutdownAckChunk = 8
kind_of (ErrorChunk causes) = 9
kind_of (CookieEchoChunk cookie) = 10
kind_of CookieAckChunk = 11
kind_of (ShutdownCompleteChunk is_reflected) = 14
kind_of (UnknownChunk kind flags value) = kind
kind_of (MalformedChunk kind) = kind

-- the only one, if there is one alone
abbrev pub lone : {A : Type 0} → List A → Option A
lone (one ∷ []) = Some one
lone others = None

-- a chunk as DATA, and as SACK, if it is one
abbrev pub data_alone : Option ChunkValue → Option DataValue
data_alone (Some (DataChunk carried)) = Some carried
data_alone other = None

abbrev pub sack_alone : Option ChunkValue → Option SackValue
sack_alone (Some (SackChunk sack)) = Some sack
sack_alone other = None
