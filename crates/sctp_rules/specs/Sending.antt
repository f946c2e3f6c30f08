-- Messages that are taken, and packets that go out (RFC 9260 §6.1, §6.10).
use Rattle.std.specs.Prelude.{ℕ, Bool, true, false, ◌+◌, ◌&&◌, List, [], ◌∷◌, ◌++◌, Option, Some, map, nat_lt}
use Rattle.std.specs.Prelude.{if◌then◌else◌}
use Rattle.sctp_sending.specs.Outgoing.{Message}
use Rattle.sctp_sending.specs.Sending.{given}
use Rattle.sctp_sending.specs.Sending as half
use Rattle.sctp_codec.specs.Packets.{ChunkValue, DataChunk}
use Rattle.sctp_rules.specs.declared.limits.TheConstants.{PACKET_OCTETS, HEADER_OCTETS}
use Rattle.sctp_rules.specs.declared.phase.Phase.{Phase}
use Rattle.sctp_rules.specs.declared.phase.Phase.TheVariants.{Closed, CookieWait, CookieEchoed, Established}
use Rattle.sctp_rules.specs.declared.phase.Phase.TheVariants.{ShutdownPending, ShutdownSent, ShutdownReceived}
use Rattle.sctp_rules.specs.declared.phase.Phase.TheVariants.{ShutdownAckSent}
use Rattle.sctp_rules.specs.Settings.{Settings}
use Rattle.sctp_rules.specs.Confirming.{can_take, all_gone}
use Rattle.sctp_rules.specs.State.{Association, State, Datagram, Done, with_association, datagram_to}
use Rattle.sctp_rules.specs.Ending.{chunk_size}
use Rattle.sctp_rules.specs.Data.{takes_data, takes_sack, sack_of, sacked}
use Rattle.sctp_rules.specs.Shutdown.{shutdown_of}

-- ---- the user sends

abbrev pub is_established : Phase → Bool
is_established Closed = false
is_established CookieWait = false
is_established CookieEchoed = false
is_established Established = true
is_established ShutdownPending = false
is_established ShutdownSent = false
is_established ShutdownReceived = false
is_established ShutdownAckSent = false

-- a message that is sent now goes out now
abbrev pub has_room : State → Bool
has_room s = is_established s.association.phase && half.has_room s.association.sender

-- a message is taken if there is an association, and a place
abbrev pub may_send : Message → State → Bool
may_send m s = is_established s.association.phase && can_take s.association.sender m

abbrev pub send : Message → State → State
send m s =
    if may_send m s
    then with_association s (record s.association { sender = given s.association.sender m })
    else s

-- ---- what goes out

-- DATA goes out in the states in which SACK counts
abbrev pub data_of : (now : ℕ) → Association → List ChunkValue
data_of now a = if takes_sack a.phase then map DataChunk (all_gone now a.sender).chunks else []

abbrev pub with_data_sent : (now : ℕ) → Association → Association
with_data_sent now a = if takes_sack a.phase then record a { sender = (all_gone now a.sender).left } else a

-- SACK, if DATA came; in SHUTDOWN-SENT after a SHUTDOWN (§9.2)
abbrev pub is_acknowledging : Association → Bool
is_acknowledging a = a.is_sack_due && takes_data a.phase

abbrev pub acknowledgement_in : Phase → Association → List ChunkValue
acknowledgement_in ShutdownSent a = shutdown_of a ∷ sack_of a.receiver ∷ []
acknowledgement_in phase a = sack_of a.receiver ∷ []

abbrev pub acknowledgement : Association → List ChunkValue
acknowledgement a = if is_acknowledging a then acknowledgement_in a.phase a else []

-- a SHUTDOWN that goes out so starts T2-shutdown again
abbrev pub t2_in : Phase → (now : ℕ) → Association → Option ℕ
t2_in ShutdownSent now a = Some (now + a.sender.round_trips.timeout)
t2_in phase now a = a.t2

abbrev pub with_acknowledged : (now : ℕ) → Association → Association
with_acknowledged now a = if is_acknowledging a then record (sacked a) { t2 = t2_in a.phase now a } else a

-- answers come before SACK, and SACK before DATA (§6.1)
abbrev pub due_chunks : (now : ℕ) → Association → List ChunkValue
due_chunks now a = a.control ++ acknowledgement a ++ data_of now a

-- chunks are bundled, as many as fit into a packet (§6.10). `waiting` are those of the packet that isn't full
abbrev pub closed : List ChunkValue → List (List ChunkValue)
closed [] = []
closed (chunk ∷ chunks) = (chunk ∷ chunks) ∷ []

abbrev pub is_some : List ChunkValue → Bool
is_some [] = false
is_some (chunk ∷ chunks) = true

abbrev pub bundled : (waiting : List ChunkValue) → (octets : ℕ) → List ChunkValue → List (List ChunkValue)
bundled waiting octets [] = closed waiting
bundled waiting octets (chunk ∷ chunks) =
    if is_some waiting && nat_lt PACKET_OCTETS (octets + chunk_size chunk)
    then waiting ∷ bundled (chunk ∷ []) (HEADER_OCTETS + chunk_size chunk) chunks
    else bundled (waiting ++ chunk ∷ []) (octets + chunk_size chunk) chunks

abbrev pub packets_of : List ChunkValue → List (List ChunkValue)
packets_of chunks = bundled [] HEADER_OCTETS chunks

-- all that is due goes out
abbrev pub datagrams : Settings → (now : ℕ) → Association → List Datagram
datagrams c now a =
    map (λ chunks. datagram_to c a.address a.far_tag chunks) (packets_of (due_chunks now a))

abbrev pub flushed : (now : ℕ) → Association → Association
flushed now a = record (with_data_sent now (with_acknowledged now a)) { control = [] }

abbrev pub flush : Settings → (now : ℕ) → State → Done
flush c now s = record {
  sent = datagrams c now s.association;
  told = [];
  left = with_association s (flushed now s.association);
}
