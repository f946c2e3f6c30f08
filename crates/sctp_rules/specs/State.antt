-- The state of an endpoint, and what a rule does.
use Rattle.std.specs.Prelude.{ℕ, Bool, false, List, [], ◌∷◌, ◌++◌, Option, None}
use Rattle.sctp_receiving.specs.Pieces.{Message}
use Rattle.sctp_receiving.specs.Receiver.{Receiver, first_receiver}
use Rattle.sctp_codec.specs.Packets.{ChunkValue, PacketValue}
use Rattle.sctp_rules.specs.declared.phase.Phase.{Phase}
use Rattle.sctp_rules.specs.declared.phase.Phase.TheVariants.{Closed}
use Rattle.sctp_rules.specs.declared.loss.Loss.{Loss}
use Rattle.sctp_rules.specs.Settings.{Settings, Address}
use Rattle.sctp_sending.specs.Sending.{Sending, first_sending}

-- what is said of the peer in its INIT or INIT ACK, or in a cookie
pub record Peer : Type 0 where
  pub first : ℕ
  pub window : ℕ

-- a try to open: what goes out until it is answered, and how often that was not (RFC 9260 §5.1)
pub record Try : Type 0 where
  pub chunks : List ChunkValue
  pub failures : ℕ
  -- T1-init or T1-cookie: when it runs out
  pub t1 : ℕ

-- a heartbeat that isn't answered: its number, and when it went out
pub record Beat : Type 0 where
  pub nonce : ℕ
  pub sent : ℕ

-- an association, or the try of one (RFC 9260 §13)
pub record Association : Type 0 where
  pub phase : Phase
  -- whether Up was told
  pub is_up : Bool
  -- the tag of this end, and that of the peer; 0 if there is none
  pub own_tag : ℕ
  pub far_tag : ℕ
  -- the TSN that this end begins with, and what the peer said of itself
  pub own_first : ℕ
  pub peer : Peer
  -- where the peer is
  pub address : Address
  -- answers that wait for the next packet
  pub control : List ChunkValue
  pub sender : Sending
  pub receiver : Receiver
  pub is_sack_due : Bool
  pub trying : Option Try
  -- T2-shutdown, T5-shutdown-guard, and the next heartbeat: when they run out
  pub t2 : Option ℕ
  pub t5 : Option ℕ
  pub beat_due : Option ℕ
  pub beat : Option Beat
  -- how often in a row the peer didn't answer
  pub failures : ℕ

pub record State : Type 0 where
  -- whether the user wants an association
  pub is_wanted : Bool
  -- how often an association opened or ended, and a try of one restarted or ended
  pub generation : ℕ
  -- how many beginnings were drawn, for tries and associations, and how many heartbeat numbers
  pub beginnings : ℕ
  pub nonces : ℕ
  pub association : Association

-- a packet, and where it goes
pub record Datagram : Type 0 where
  pub packet : PacketValue
  pub to : Address

-- what the user is told
pub data Told : Type 0 where
  Up : Told
  Heard : (message : Message) → Told
  Down : (why : Loss) → Told
  Failed : (why : Loss) → Told

-- what a rule does: what goes out, what is told, and the state that it leaves
pub record Done : Type 0 where
  pub sent : List Datagram
  pub told : List Told
  pub left : State

abbrev pub silent : State → Done
silent s = record { sent = []; told = []; left = s }

-- a rule, and then another
abbrev pub behind : Done → Done → Done
behind first second = record {
  sent = first.sent ++ second.sent;
  told = first.told ++ second.told;
  left = second.left;
}

abbrev pub followed_by : Done → (State → Done) → Done
followed_by d rule = behind d (rule d.left)

-- ---- there is no association

abbrev pub no_streams : ℕ
no_streams = 0

abbrev pub no_association : Settings → Association
no_association c = record {
  phase = Closed;
  is_up = false;
  own_tag = 0;
  far_tag = 0;
  own_first = 0;
  peer = record { first = 0; window = 0 };
  address = c.address;
  control = [];
  sender = first_sending c.bounds 0 0;
  receiver = first_receiver no_streams 0;
  is_sack_due = false;
  trying = None;
  t2 = None;
  t5 = None;
  beat_due = None;
  beat = None;
  failures = 0;
}

-- a new endpoint
abbrev pub first_state : Settings → State
first_state c = record {
  is_wanted = false;
  generation = 0;
  beginnings = 0;
  nonces = 0;
  association = no_association c;
}

abbrev pub with_association : State → Association → State
with_association s a = record s { association = a }

-- ---- packets that go out

abbrev pub packet_to : Settings → (tag : ℕ) → List ChunkValue → PacketValue
packet_to c tag chunks = record { source = c.own_port; destination = c.far_port; tag = tag; chunks = chunks }

abbrev pub datagram_to : Settings → Address → (tag : ℕ) → List ChunkValue → Datagram
datagram_to c address tag chunks = record { packet = packet_to c tag chunks; to = address }

-- a packet goes out at once
abbrev pub put : Settings → Address → (tag : ℕ) → List ChunkValue → State → Done
put c address tag chunks s = record { sent = datagram_to c address tag chunks ∷ []; told = []; left = s }
