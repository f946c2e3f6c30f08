-- What an endpoint tells its user came in that association, with any peer.
use Rattle.std.specs.Prelude.{◌≡◌, ℕ, ◌<◌, ◌^◌, true, All, List, [], ◌∷◌, ◌++◌, nat_eq, if◌then◌else◌}
use Rattle.std.specs.List.{Contains}
use Rattle.sctp_receiving.specs.Pieces as pieces
use Rattle.sctp_receiving.specs.Consuming as consuming
use Rattle.sctp_receiving.specs.Courses.{Chunk, Call, AreCalls, first_course, after_calls}
use Rattle.sctp_codec.specs.Packets.{ChunkValue, DataChunk}
use Rattle.sctp_rules.specs.declared.limits.TheConstants.{STREAMS}
use Rattle.sctp_rules.specs.Settings.{Settings, Secrets}
use Rattle.sctp_rules.specs.State.{Association, State, Told, Up, Heard, Down, Failed, first_state}
use Rattle.sctp_rules.specs.Data.{takes_data, piece_of}
use Rattle.sctp_rules.specs.Endpoint.{Happening, Came, after, after_all}

-- ---- the DATA that came

abbrev pub chunks_in : List ChunkValue → List Chunk
chunks_in [] = []
chunks_in (DataChunk d ∷ chunks) = record { tsn = d.tsn; piece = piece_of d } ∷ chunks_in chunks
chunks_in (chunk ∷ chunks) = chunks_in chunks

abbrev pub came_by : Happening → List Chunk
came_by (Came now source packet) = chunks_in packet.chunks
came_by what = []

-- in a packet with this tag
abbrev pub came_with : (tag : ℕ) → Happening → List Chunk
came_with tag (Came now source packet) = if nat_eq packet.tag tag then chunks_in packet.chunks else []
came_with tag what = []

-- TSNs have 32 bits
abbrev pub Fits : Chunk → Type 0
Fits chunk = chunk.tsn < 2 ^ 32

abbrev pub HaveTsns : Happening → Type 0
HaveTsns what = All Fits (came_by what)

-- ---- associations

-- an association: the tag of the packet that opened it; the DATA that came with that tag since, in that packet, too;
-- and the messages that the user was told in it
pub record Epoch : Type 0 where
  pub tag : ℕ
  pub came : List Chunk
  pub heard : List pieces.Message

abbrev pub tag_of : Happening → ℕ
tag_of (Came now source packet) = packet.tag
tag_of what = 0

abbrev pub new_epoch : Happening → Epoch
new_epoch what = record { tag = tag_of what; came = came_with (tag_of what) what; heard = [] }

-- the latest one, with what comes and what is told
abbrev pub with_come : Happening → List Epoch → List Epoch
with_come what [] = []
with_come what (latest ∷ past) = record latest { came = latest.came ++ came_with latest.tag what } ∷ past

abbrev pub with_heard : pieces.Message → List Epoch → List Epoch
with_heard message [] = []
with_heard message (latest ∷ past) = record latest { heard = latest.heard ++ message ∷ [] } ∷ past

-- what is told by what happens: Up begins one
abbrev pub with_told : Happening → List Told → List Epoch → List Epoch
with_told what [] epochs = epochs
with_told what (Up ∷ more) epochs = with_told what more (new_epoch what ∷ epochs)
with_told what (Heard message ∷ more) epochs = with_told what more (with_heard message epochs)
with_told what (Down why ∷ more) epochs = with_told what more epochs
with_told what (Failed why ∷ more) epochs = with_told what more epochs

-- all of an endpoint, the latest first
abbrev pub epochs_after : Settings → Secrets → List Happening → State → List Epoch → List Epoch
epochs_after c k [] s epochs = epochs
epochs_after c k (what ∷ more) s epochs =
    epochs_after c k more (after c k what s).left (with_told what (after c k what s).told (with_come what epochs))

-- ---- the law

-- the messages that a receiver tells
abbrev pub messages_in : List consuming.Told → List pieces.Message
messages_in [] = []
messages_in (consuming.Nothing ∷ more) = messages_in more
messages_in (consuming.Tells message ∷ more) = message ∷ messages_in more
messages_in (consuming.NoStream stream ∷ more) = messages_in more
messages_in (consuming.Violates violation ∷ more) = messages_in more

-- a receiver that chunks of an association came to, counted from a TSN on: all that such a receiver does holds for it.
-- What was told in the association, up to its end, is what it told
pub record IsCourse (epoch : Epoch) (first : ℕ) (calls : List Call) : Type 0 where
  pub are : AreCalls calls
  pub chunks : All (λ chunk. Contains epoch.came chunk) (after_calls calls (first_course STREAMS first)).came
  pub heard_is : epoch.heard ≡ messages_in (after_calls calls (first_course STREAMS first)).told

-- from which TSN on is left open once the association is over
pub record IsReceived (epoch : Epoch) : Type 0 where
  pub first : ℕ
  pub calls : List Call
  pub course : IsCourse epoch first calls

-- and while DATA counts, that receiver is the endpoint's, from the peer's first TSN on; and the tag is the endpoint's
pub record IsPresent (epoch : Epoch) (a : Association) : Type 0 where
  pub calls : List Call
  pub course : IsCourse epoch a.peer.first calls
  pub tag_is : a.own_tag ≡ epoch.tag
  pub receiver_is : a.receiver ≡ (after_calls calls (first_course STREAMS a.peer.first)).receiver

abbrev pub Presents : List Epoch → Association → Type 0
Presents [] a = ⊥
Presents (latest ∷ past) a = IsPresent latest a

pub record AreReceived (epochs : List Epoch) (a : Association) : Type 0 where
  pub each : All IsReceived epochs
  pub present : takes_data a.phase ≡ true → Presents epochs a

abbrev pub messages_are_received : Type 0
messages_are_received =
    (c : Settings) (k : Secrets) (happenings : List Happening) → All HaveTsns happenings →
    AreReceived (epochs_after c k happenings (first_state c) [])
    (after_all c k happenings (first_state c)).left.association
