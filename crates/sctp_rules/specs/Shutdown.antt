-- How an association is shut down (RFC 9260 §9.2).
use Rattle.std.specs.Prelude.{ℕ, Bool, true, false, ◌+◌, ◌*◌, ◌&&◌, [], ◌∷◌, Some, nat_eq, length}
use Rattle.std.specs.Prelude.{if◌then◌else◌}
use Rattle.sctp_codec.specs.Packets.{ChunkValue, ShutdownChunk, ShutdownAckChunk, ShutdownCompleteChunk}
use Rattle.sctp_rules.specs.declared.phase.Phase.{Phase}
use Rattle.sctp_rules.specs.declared.phase.Phase.TheVariants.{Closed, CookieWait, CookieEchoed, Established}
use Rattle.sctp_rules.specs.declared.phase.Phase.TheVariants.{ShutdownPending, ShutdownSent, ShutdownReceived}
use Rattle.sctp_rules.specs.declared.phase.Phase.TheVariants.{ShutdownAckSent}
use Rattle.sctp_rules.specs.declared.loss.Loss.TheVariants.{Shutdown, Protocol}
use Rattle.sctp_rules.specs.Settings.{Settings}
use Rattle.sctp_sending.specs.Sending.{confirmation, after_cumulative, stopped}
use Rattle.sctp_rules.specs.Confirming.{confirms_beyond}
use Rattle.sctp_rules.specs.State.{Association, State, Down, Done, silent, with_association}
use Rattle.sctp_rules.specs.Ending.{with_answer, ended_alone, aborted, abort, violation}

-- SHUTDOWN, with the cumulative TSN of now; or SHUTDOWN ACK
abbrev pub shutdown_of : Association → ChunkValue
shutdown_of a = ShutdownChunk a.receiver.cumulative

-- it goes out with the next packet, and T2-shutdown is started
abbrev pub awaiting : (now : ℕ) → Phase → ChunkValue → State → State
awaiting now phase chunk s =
    let a = s.association in
    with_association s (with_answer chunk (record a { phase = phase; t2 = Some (now + a.sender.round_trips.timeout) }))

-- SHUTDOWN goes out, and T5-shutdown-guard is started
abbrev pub shutdown_sent : Settings → (now : ℕ) → State → State
shutdown_sent c now s =
    awaiting now ShutdownSent (shutdown_of s.association)
    (with_association s (record s.association { t5 = Some (now + 5 * c.bounds.most) }))

abbrev pub shutdown_answered : (now : ℕ) → State → State
shutdown_answered now s = awaiting now ShutdownAckSent ShutdownAckChunk s

-- if all that was sent is confirmed, SHUTDOWN or SHUTDOWN ACK goes out
abbrev pub going_on_in : Phase → Settings → (now : ℕ) → State → State
going_on_in ShutdownPending c now s = shutdown_sent c now s
going_on_in ShutdownReceived c now s = shutdown_answered now s
going_on_in phase c now s = s

abbrev pub going_on : Settings → (now : ℕ) → State → State
going_on c now s =
    if nat_eq (length s.association.sender.out) 0 then going_on_in s.association.phase c now s else s

-- the user wants it shut down: what was taken goes out before that. A try is aborted
abbrev pub shutdown_in : Phase → Settings → (now : ℕ) → State → Done
shutdown_in Closed c now s = abort c s
shutdown_in CookieWait c now s = abort c s
shutdown_in CookieEchoed c now s = abort c s
shutdown_in Established c now s =
    silent (going_on c now (with_association s (record s.association { phase = ShutdownPending })))
shutdown_in phase c now s = silent s

abbrev pub shutdown : Settings → (now : ℕ) → State → Done
shutdown c now s = shutdown_in s.association.phase c now s

-- ---- SHUTDOWN comes

-- what it confirms leaves; an old one confirms nothing
abbrev pub with_confirmed : (now cumulative : ℕ) → State → State
with_confirmed now cumulative s =
    let sender = s.association.sender in
    with_association s (record s.association {
      sender = after_cumulative sender now (confirmation sender cumulative);
    })

-- what didn't go out is dropped: to the user the association is over
abbrev pub shutdown_received : State → Done
shutdown_received s = record {
  sent = [];
  told = if s.association.is_up then Down Shutdown ∷ [] else [];
  left = record s {
    is_wanted = if s.association.is_up then false else s.is_wanted;
    association = record s.association {
      phase = ShutdownReceived;
      is_up = false;
      sender = stopped s.association.sender;
    };
  };
}

abbrev pub then_going_on : Settings → (now : ℕ) → Done → Done
then_going_on c now d = record d { left = going_on c now d.left }

abbrev pub heard_shutdown_in : Phase → Settings → (now cumulative : ℕ) → State → Done
heard_shutdown_in Established c now cumulative s =
    then_going_on c now (shutdown_received (with_confirmed now cumulative s))
heard_shutdown_in ShutdownPending c now cumulative s =
    then_going_on c now (shutdown_received (with_confirmed now cumulative s))
heard_shutdown_in ShutdownReceived c now cumulative s = silent (going_on c now (with_confirmed now cumulative s))
heard_shutdown_in ShutdownSent c now cumulative s = silent (shutdown_answered now s)
heard_shutdown_in phase c now cumulative s = silent s

abbrev pub confirms : Phase → Bool
confirms Closed = false
confirms CookieWait = false
confirms CookieEchoed = false
confirms Established = true
confirms ShutdownPending = true
confirms ShutdownSent = false
confirms ShutdownReceived = true
confirms ShutdownAckSent = false

abbrev pub heard_shutdown : Settings → (now cumulative : ℕ) → State → Done
heard_shutdown c now cumulative s =
    if confirms s.association.phase && confirms_beyond s.association.sender cumulative
    then aborted c Protocol violation s
    else heard_shutdown_in s.association.phase c now cumulative s

-- SHUTDOWN ACK comes: SHUTDOWN COMPLETE
abbrev pub heard_shutdown_ack_in : Phase → Settings → State → Done
heard_shutdown_ack_in ShutdownSent c s = ended_alone c Shutdown (ShutdownCompleteChunk false ∷ []) s
heard_shutdown_ack_in ShutdownAckSent c s = ended_alone c Shutdown (ShutdownCompleteChunk false ∷ []) s
heard_shutdown_ack_in phase c s = silent s

abbrev pub heard_shutdown_ack : Settings → State → Done
heard_shutdown_ack c s = heard_shutdown_ack_in s.association.phase c s

-- SHUTDOWN COMPLETE comes: only in SHUTDOWN-ACK-SENT
abbrev pub heard_shutdown_complete_in : Phase → Settings → State → Done
heard_shutdown_complete_in ShutdownAckSent c s = ended_alone c Shutdown [] s
heard_shutdown_complete_in phase c s = silent s

abbrev pub heard_shutdown_complete : Settings → State → Done
heard_shutdown_complete c s = heard_shutdown_complete_in s.association.phase c s
