-- The user gave what an endpoint puts out in that association, with any peer.
use Rattle.std.specs.Prelude.{◌≡◌, ◌≤◌, ◌<◌, ◌⊎◌, ℕ, ◌%◌, ◌^◌, true, false, All, List, [], ◌∷◌, ◌++◌}
use Rattle.std.specs.Prelude.{length, take, drop, sum_by, nat_eq, slice_index_or, if◌then◌else◌}
use Rattle.std.specs.List.{Contains}
use Rattle.sctp_sending.specs.Outgoing.{Message, no_message, tsn_at}
use Rattle.sctp_sending.specs.Sending.{messages_of}
use Rattle.sctp_codec.specs.Packets.{ChunkValue, DataValue, DataChunk, SackChunk, ShutdownChunk}
use Rattle.sctp_rules.specs.Settings.{Settings, Secrets}
use Rattle.sctp_rules.specs.State.{Association, State, Datagram, Done, first_state}
use Rattle.sctp_rules.specs.Opening.{is_there}
use Rattle.sctp_rules.specs.Sending.{may_send}
use Rattle.sctp_rules.specs.Endpoint.{Happening, Came, Sends, after, after_all}
use Rattle.sctp_rules.specs.Openings.{openings}

-- ---- what the peer acknowledges

-- the cumulative TSNs of SACK and SHUTDOWN
abbrev pub cumulative_in : List ChunkValue → List ℕ
cumulative_in [] = []
cumulative_in (SackChunk sack ∷ chunks) = sack.cumulative ∷ cumulative_in chunks
cumulative_in (ShutdownChunk cumulative ∷ chunks) = cumulative ∷ cumulative_in chunks
cumulative_in (chunk ∷ chunks) = cumulative_in chunks

abbrev pub acknowledged_by : Happening → List ℕ
acknowledged_by (Came now source packet) = cumulative_in packet.chunks
acknowledged_by what = []

-- in a packet with this tag
abbrev pub acknowledged_with : (tag : ℕ) → Happening → List ℕ
acknowledged_with tag (Came now source packet) = if nat_eq packet.tag tag then cumulative_in packet.chunks else []
acknowledged_with tag what = []

-- ---- the latest association

-- both tags and the TSN that this end begins with, as it opened; what the user gave in it; and the cumulative TSNs of
-- the packet that opened it, whatever its tag, and of those that came with its tag since
pub record Latest : Type 0 where
  pub own_tag : ℕ
  pub far_tag : ℕ
  pub first : ℕ
  pub given : List Message
  pub acknowledged : List ℕ

-- there was none yet
abbrev pub no_latest : Latest
no_latest = record { own_tag = 0; far_tag = 0; first = 0; given = []; acknowledged = [] }

abbrev pub opened_by : Happening → Association → Latest
opened_by what a = record {
  own_tag = a.own_tag;
  far_tag = a.far_tag;
  first = a.own_first;
  given = [];
  acknowledged = acknowledged_by what;
}

-- a message counts as given if it is taken
abbrev pub given_by : Happening → State → List Message → List Message
given_by (Sends message) s given = if may_send message s then given ++ message ∷ [] else given
given_by what s given = given

-- Up begins one
abbrev pub latest_by : Happening → State → Done → Latest → Latest
latest_by what s d latest =
    if nat_eq (openings d.told) 0
    then record latest {
      given = given_by what s latest.given;
      acknowledged = latest.acknowledged ++ acknowledged_with latest.own_tag what;
    }
    else opened_by what d.left.association

abbrev pub latest_after : Settings → Secrets → List Happening → State → Latest → Latest
latest_after c k [] s latest = latest
latest_after c k (what ∷ more) s latest =
    latest_after c k more (after c k what s).left (latest_by what s (after c k what s) latest)

-- ---- what goes out

-- how many of these are on a stream
abbrev pub count_on : (stream : ℕ) → List Message → ℕ
count_on stream messages = sum_by (λ m. if nat_eq m.stream stream then 1 else 0) messages

-- the chunk of the message at an index: whole, under the TSN of that index, and on its stream under the number of those
-- before it (RFC 9260 §3.3.1)
abbrev pub chunk_at : (first : ℕ) → (given : List Message) → (place : ℕ) → DataValue
chunk_at first given place =
    let message = slice_index_or given place no_message in
    record {
      immediate = false;
      unordered = false;
      begins = true;
      ends = true;
      tsn = tsn_at first place;
      stream = message.stream;
      sequence = count_on message.stream (take place given) % 2 ^ 16;
      protocol = message.protocol;
      octets = message.octets;
    }

-- a chunk is that of a message that was given, and goes to the peer of an association that is there
pub record IsOneOf (latest : Latest) (a : Association) (tag : ℕ) (chunk : DataValue) : Type 0 where
  pub there : is_there a.phase ≡ true
  pub to_peer : tag ≡ latest.far_tag
  pub place : ℕ
  pub within : place < length latest.given
  pub is : chunk ≡ chunk_at latest.first latest.given place

abbrev pub IsGiven : Latest → Association → (tag : ℕ) → ChunkValue → Type 0
IsGiven latest a tag (DataChunk chunk) = IsOneOf latest a tag chunk
IsGiven latest a tag chunk = Unit {0}

-- each DATA chunk of a packet is
abbrev pub AreGiven : Latest → Association → Datagram → Type 0
AreGiven latest a d = All (IsGiven latest a d.packet.tag) d.packet.chunks

-- ---- what is kept

-- a cumulative TSN that came is that of the last one of this many messages
pub record IsSaid (acknowledged : List ℕ) (first confirmed : ℕ) : Type 0 where
  pub cumulative : ℕ
  pub came : Contains acknowledged cumulative
  pub is : tsn_at cumulative 1 ≡ tsn_at first confirmed

-- what isn't confirmed is what was given, without its beginning, and the peer said how much that is. While the user has
-- the association that is all of it; once the peer shuts it down, it is what went out
pub record IsRest (latest : Latest) (a : Association) : Type 0 where
  pub confirmed : ℕ
  pub within : confirmed ≤ length latest.given
  pub said : (confirmed ≡ 0) ⊎ IsSaid latest.acknowledged latest.first confirmed
  pub rest : messages_of a.sender ≡ take (length a.sender.out) (drop confirmed latest.given)
  pub all : a.is_up ≡ true → messages_of a.sender ≡ drop confirmed latest.given

-- ---- the laws

-- after whatever happened, whatever happens next
abbrev pub given_messages_are_sent : Type 0
given_messages_are_sent =
    (c : Settings) (k : Secrets) (happenings : List Happening) (what : Happening) →
    let s = (after_all c k happenings (first_state c)).left in
    let latest = latest_after c k happenings (first_state c) no_latest in
    All (AreGiven latest s.association) (after c k what s).sent

-- while there is an association, if its first TSN has 32 bits
abbrev pub given_messages_are_kept : Type 0
given_messages_are_kept =
    (c : Settings) (k : Secrets) (happenings : List Happening) →
    let s = (after_all c k happenings (first_state c)).left in
    let latest = latest_after c k happenings (first_state c) no_latest in
    is_there s.association.phase ≡ true → latest.first < 2 ^ 32 → IsRest latest s.association
