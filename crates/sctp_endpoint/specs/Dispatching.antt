-- How a packet that comes is handed on, step by step.
use Rattle.std.specs.Prelude.{ℕ, Bool, false, not, ◌&&◌, List, Option, Some, None, nat_eq}
use Rattle.sctp_codec.specs.Packets.{ChunkValue, PacketValue, AbortChunk, UnknownChunk}
use Rattle.sctp_rules.specs.Settings.{Settings, Secrets, Address}
use Rattle.sctp_rules.specs.State.{Association, State, Done, silent}
use Rattle.sctp_rules.specs.Sending.{is_established}
use Rattle.sctp_rules.specs.Opening.{is_closed, heard_cookie_echo}
use Rattle.sctp_rules.specs.Packets.{is_skipped, after_echo, heard}

-- the packet that a datagram is, if it is one
abbrev pub heard_datagram : Option PacketValue → Settings → Secrets → (now : ℕ) → Address → State → Done
heard_datagram None c k now source s = silent s
heard_datagram (Some packet) c k now source s = heard c k now source packet s

-- a packet that begins with this cookie
abbrev pub heard_echo :
    Settings → Secrets → (now : ℕ) → Address → (tag : ℕ) → List ℕ → List ChunkValue → State → Done
heard_echo c k now source tag cookie more s =
    after_echo c k now source tag more (heard_cookie_echo c k now tag source cookie s)

-- whether the chunks after this one count, by what it left
abbrev pub counts_behind : ChunkValue → (tag : ℕ) → State → Bool
counts_behind (AbortChunk is_reflected causes) tag left = false
counts_behind (UnknownChunk kind flags value) tag left = is_skipped kind
counts_behind chunk tag left = not (is_closed left.association.phase) && nat_eq left.association.own_tag tag

-- an association is there that takes packets by this tag, and neither end shuts it down
abbrev pub is_established_by : (tag : ℕ) → Association → Bool
is_established_by tag a = is_established a.phase && nat_eq tag a.own_tag
