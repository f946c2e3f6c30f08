-- A packet comes (RFC 9260 §8.4, §8.5).
use Rattle.std.specs.Prelude.{ℕ, Bool, true, false, not, ◌/◌, ◌%◌, ◌^◌, ◌&&◌, ◌||◌, List, [], ◌∷◌}
use Rattle.std.specs.Prelude.{nat_eq, if◌then◌else◌}
use Rattle.std.specs.List.{list_any}
use Rattle.sctp_codec.specs.Packets.{ChunkValue, PacketValue, DataChunk, InitChunk, InitAckChunk, SackChunk}
use Rattle.sctp_codec.specs.Packets.{HeartbeatChunk, HeartbeatAckChunk, AbortChunk, ShutdownChunk, ShutdownAckChunk}
use Rattle.sctp_codec.specs.Packets.{ErrorChunk}
use Rattle.sctp_codec.specs.Packets.{CookieEchoChunk, CookieAckChunk, ShutdownCompleteChunk, UnknownChunk}
use Rattle.sctp_codec.specs.Packets.{MalformedChunk}
use Rattle.sctp_codec.specs.Parameters.{UnrecognizedChunk, cause_item}
use Rattle.sctp_rules.specs.declared.phase.Phase.{Phase}
use Rattle.sctp_rules.specs.declared.loss.Loss.{Loss}
use Rattle.sctp_rules.specs.declared.loss.Loss.TheVariants.{Aborted, Refused}
use Rattle.sctp_rules.specs.Settings.{Settings, Address, Secrets}
use Rattle.sctp_rules.specs.State.{Association, State, Done, silent, followed_by, with_association, put}
use Rattle.sctp_rules.specs.Ending.{answered, ended_alone}
use Rattle.sctp_rules.specs.Opening.{Echo, is_closed, is_waiting, is_echoed, heard_init, heard_init_ack}
use Rattle.sctp_rules.specs.Opening.{heard_cookie_ack, heard_cookie_echo, heard_error}
use Rattle.sctp_rules.specs.Data.{heard_data, heard_sack_chunk, heard_heartbeat, heard_heartbeat_ack}
use Rattle.sctp_rules.specs.Shutdown.{heard_shutdown, heard_shutdown_ack, heard_shutdown_complete}

-- ---- tags (§8.5, §8.5.1)

-- ABORT and SHUTDOWN COMPLETE whose tag is reflected have the tag that the peer takes packets by
abbrev pub has_peer_tag : ChunkValue → Bool
has_peer_tag (AbortChunk is_reflected causes) = is_reflected
has_peer_tag (ShutdownCompleteChunk is_reflected) = is_reflected
has_peer_tag chunk = false

abbrev pub has_tag : Association → (tag : ℕ) → ChunkValue → Bool
has_tag a tag chunk =
    if has_peer_tag chunk
    then not (nat_eq a.far_tag 0) && nat_eq tag a.far_tag
    else nat_eq tag a.own_tag

-- ---- one chunk, and whether those after it in the packet are looked at

pub record Handled : Type 0 where
  pub does : Done
  pub goes_on : Bool

-- those after it count unless it ended the association, or its try restarted: they have the tag of the former one
abbrev pub while_there : (tag : ℕ) → Done → Handled
while_there tag d = record {
  does = d;
  goes_on = not (is_closed d.left.association.phase) && nat_eq d.left.association.own_tag tag;
}

-- ABORT comes (§9.1): a try that was not answered before is refused by it
abbrev pub loss_by_abort : Phase → Loss
loss_by_abort phase = if is_waiting phase then Refused else Aborted

abbrev pub heard_abort : Settings → (tag : ℕ) → ChunkValue → State → Handled
heard_abort c tag chunk s = record {
  does = if has_tag s.association tag chunk
      then ended_alone c (loss_by_abort s.association.phase) [] s
      else silent s;
  goes_on = false;
}

-- a chunk that isn't known, by the upper two bits of its type: whether it is reported, and whether the next ones count
-- (§3.2)
abbrev pub is_reported : ℕ → Bool
is_reported kind = nat_eq (kind / 2 ^ 6 % 2) 1

abbrev pub is_skipped : ℕ → Bool
is_skipped kind = nat_eq (kind / 2 ^ 7 % 2) 1

abbrev pub heard_unknown : (kind flags : ℕ) → List ℕ → State → Handled
heard_unknown kind flags value s = record {
  does = if is_reported kind
      then silent (answered (ErrorChunk (cause_item (UnrecognizedChunk kind flags value) ∷ [])) s)
      else silent s;
  goes_on = is_skipped kind;
}

-- each chunk by its type; one that is too short for its fields is skipped, and so is a COOKIE ECHO that isn't the first
abbrev pub heard_chunk : Settings → Secrets → (now tag : ℕ) → ChunkValue → State → Handled
heard_chunk c k now tag (DataChunk carried) s = while_there tag (heard_data c carried s)
heard_chunk c k now tag (InitChunk init) s = while_there tag (silent s)
heard_chunk c k now tag (InitAckChunk init) s = while_there tag (heard_init_ack c now init s)
heard_chunk c k now tag (SackChunk sack) s = while_there tag (heard_sack_chunk c now sack s)
heard_chunk c k now tag (HeartbeatChunk information) s = while_there tag (heard_heartbeat information s)
heard_chunk c k now tag (HeartbeatAckChunk information) s = while_there tag (heard_heartbeat_ack c now information s)
heard_chunk c k now tag (AbortChunk is_reflected causes) s = heard_abort c tag (AbortChunk is_reflected causes) s
heard_chunk c k now tag (ShutdownChunk cumulative) s = while_there tag (heard_shutdown c now cumulative s)
heard_chunk c k now tag ShutdownAckChunk s = while_there tag (heard_shutdown_ack c s)
heard_chunk c k now tag (ErrorChunk causes) s = while_there tag (heard_error c k now causes s)
heard_chunk c k now tag (CookieEchoChunk cookie) s = while_there tag (silent s)
heard_chunk c k now tag CookieAckChunk s = while_there tag (heard_cookie_ack c now s)
heard_chunk c k now tag (ShutdownCompleteChunk is_reflected) s =
    if has_tag s.association tag (ShutdownCompleteChunk is_reflected)
    then while_there tag (heard_shutdown_complete c s)
    else while_there tag (silent s)
heard_chunk c k now tag (UnknownChunk kind flags value) s = heard_unknown kind flags value s
heard_chunk c k now tag (MalformedChunk kind) s = while_there tag (silent s)

-- one after another
abbrev pub heard_chunks : Settings → Secrets → (now tag : ℕ) → List ChunkValue → State → Done
heard_chunks c k now tag [] s = silent s
heard_chunks c k now tag (chunk ∷ chunks) s =
    let handled = heard_chunk c k now tag chunk s in
    if handled.goes_on
    then followed_by handled.does (λ left. heard_chunks c k now tag chunks left)
    else handled.does

-- ---- a packet for the association, or for a try of one

-- after a right tag, the next answer goes to the packet's source (RFC 6951 §5.4); in COOKIE-WAIT that stays
abbrev pub from_source : Address → State → State
from_source source s =
    if is_waiting s.association.phase
    then s
    else with_association s (record s.association { address = source })

abbrev pub heard_by_tag : Settings → Secrets → (now : ℕ) → Address → (tag : ℕ) → List ChunkValue → State → Done
heard_by_tag c k now source tag chunks s =
    heard_chunks c k now tag chunks (from_source source s)

-- ---- out of the blue (§8.4)

-- these aren't answered if there is no association, wherever they are in the packet
abbrev pub is_quiet : ChunkValue → Bool
is_quiet (AbortChunk is_reflected causes) = true
is_quiet (InitAckChunk init) = true
is_quiet (ErrorChunk causes) = true
is_quiet (MalformedChunk kind) = nat_eq kind 1 || nat_eq kind 2 || nat_eq kind 9
is_quiet chunk = false

abbrev pub is_quiet_first : ChunkValue → Bool
is_quiet_first CookieAckChunk = true
is_quiet_first (ShutdownCompleteChunk is_reflected) = true
is_quiet_first chunk = false

-- SHUTDOWN ACK is answered by SHUTDOWN COMPLETE, any other by ABORT, both with the tag that came
abbrev pub answer_to : ChunkValue → ChunkValue
answer_to ShutdownAckChunk = ShutdownCompleteChunk true
answer_to chunk = AbortChunk true []

abbrev pub out_of_the_blue : Settings → Address → (tag : ℕ) → ChunkValue → List ChunkValue → State → Done
out_of_the_blue c source tag first more s =
    if is_quiet_first first || list_any is_quiet (first ∷ more)
    then silent s
    else put c source tag (answer_to first ∷ []) s

-- ---- a packet

-- the chunks after COOKIE ECHO are those of the association that it opened (§5.1.5)
abbrev pub after_echo : Settings → Secrets → (now : ℕ) → Address → (tag : ℕ) → List ChunkValue → Echo → Done
after_echo c k now source tag more echo =
    if echo.goes_on
    then followed_by echo.does (λ left. heard_by_tag c k now source tag more left)
    else echo.does

-- SHUTDOWN ACK in COOKIE-WAIT and COOKIE-ECHOED is answered whatever its tag (§8.5.1 E)
abbrev pub is_late_shutdown : Phase → ChunkValue → Bool
is_late_shutdown phase ShutdownAckChunk = is_waiting phase || is_echoed phase
is_late_shutdown phase chunk = false

-- after a chunk with the peer's tag none is looked at: the packet isn't one with this end's tag
abbrev pub looked_at : ChunkValue → List ChunkValue → List ChunkValue
looked_at first more = first ∷ (if has_peer_tag first then [] else more)

abbrev pub heard_otherwise :
    Settings → Secrets → (now : ℕ) → Address → (tag : ℕ) → ChunkValue → List ChunkValue → State → Done
heard_otherwise c k now source tag first more s =
    if is_closed s.association.phase
    then out_of_the_blue c source tag first more s
    else (if is_late_shutdown s.association.phase first
    then put c source tag (ShutdownCompleteChunk true ∷ []) s
    else (if has_tag s.association tag first
    then heard_by_tag c k now source tag (looked_at first more) s
    else silent s))

-- by the first chunk; INIT stands alone, and an INIT that is too short is dropped
abbrev pub heard_first :
    Settings → Secrets → (now : ℕ) → Address → (tag : ℕ) → ChunkValue → List ChunkValue → State → Done
heard_first c k now source tag (InitChunk init) more s = heard_init c k now source init s
heard_first c k now source tag (CookieEchoChunk cookie) more s =
    after_echo c k now source tag more (heard_cookie_echo c k now tag source cookie s)
heard_first c k now source tag (MalformedChunk kind) more s =
    if nat_eq kind 1 then silent s else heard_otherwise c k now source tag (MalformedChunk kind) more s
heard_first c k now source tag first more s = heard_otherwise c k now source tag first more s

abbrev pub heard_all : Settings → Secrets → (now : ℕ) → Address → (tag : ℕ) → List ChunkValue → State → Done
heard_all c k now source tag [] s = silent s
heard_all c k now source tag (first ∷ more) s = heard_first c k now source tag first more s

-- a packet is for this endpoint if its ports are
abbrev pub heard : Settings → Secrets → (now : ℕ) → Address → PacketValue → State → Done
heard c k now source p s =
    if nat_eq p.destination c.own_port && nat_eq p.source c.far_port
    then heard_all c k now source p.tag p.chunks s
    else silent s
