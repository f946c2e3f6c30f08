-- What holds of an abstract gate, with any exchange.
use Rattle.std.specs.Prelude.{◌≡◌, ◌⊎◌, ◌<◌, ◌≤◌, ℕ, ◌+◌, ◌-◌, ◌*◌, ◌^◌, true, List, [], ◌∷◌, ◌++◌, length, min}
use Rattle.m2pa_codec.specs.Frames.{FrameValue, EmptyFrame, MessageFrame, StatusFrame, spelled}
use Rattle.sctp_sending.specs.Sending.{messages_of, most_octets}
use Rattle.sctp_rules.specs.Waiting.{has_room_behind}
use Rattle.exchange_rules.specs.State.{QueueKind, State}
use Rattle.exchange_rules.specs.Exchange.{wants_of}
use Rattle.exchange_rules.specs.declared.wants.Wants.TheVariants.{Nothing, Open}
use Rattle.sctp_rules.specs.declared.loss.Loss.{Loss}
use Rattle.sctp_rules.specs.State.{Up, Failed}
use Rattle.sctp_gate.specs.declared.standing.Standing.{Standing}
use Rattle.sctp_gate.specs.Standing.{stands_by}
use Rattle.sctp_gate.specs.Gates.{Gate, is_lasting, settled, filled, with_given, message_of, stream_of}

-- ---- the endpoint does what the link wants

-- if an association is up the link asks for nothing, and one is wanted only if the link wants to open
pub record Agrees {Q : Type 0} (g : Gate) (s : State Q) : Type 0 where
  pub up : g.standing.is_up ≡ true → wants_of s g.link ≡ Nothing
  pub seeking : g.standing.is_seeking ≡ true → wants_of s g.link ≡ Open

-- this holds after each settling, and each datagram and each tick ends with one
abbrev pub settling_agrees : {Q : Type 0} → QueueKind Q → Type 0
settling_agrees {Q = Q} q =
    (now : ℕ) (g : Gate) (s : State Q) → is_lasting now g.endpoint ≡ true →
    Agrees (settled q now g s).gate (settled q now g s).exchange

-- ---- frames that are taken go out

-- all that was given went out
abbrev pub IsAllOut : Gate → Type 0
IsAllOut g = g.endpoint.state.association.sender.went ≡ length g.endpoint.state.association.sender.out

-- if a fill took a frame, or saw anything else, all that was ever given and isn't confirmed went out after it
abbrev pub taken_frames_go_out : {Q : Type 0} → QueueKind Q → Type 0
taken_frames_go_out {Q = Q} q =
    (now : ℕ) (g : Gate) (s : State Q) → ((filled q now g s).seen ≡ []) ⊎ IsAllOut (filled q now g s).gate

-- a frame that finds room is given, after all others
abbrev pub taken_frames_are_given : Type 0
taken_frames_are_given =
    (frame : List ℕ) (octets : ℕ) (g : Gate) → has_room_behind g.endpoint.state octets ≡ true →
    0 < length frame → length frame ≤ most_octets →
    messages_of (with_given frame g).endpoint.state.association.sender
    ≡ messages_of g.endpoint.state.association.sender ++ message_of frame ∷ []

-- ---- streams

abbrev pub stream_for : FrameValue → ℕ
stream_for (EmptyFrame bsn fsn) = 1
stream_for (MessageFrame bsn fsn sio sif) = 1
stream_for (StatusFrame bsn fsn status) = 0

abbrev pub frames_have_their_streams : Type 0
frames_have_their_streams = (frame : FrameValue) → stream_of (spelled frame) ≡ stream_for frame

-- ---- the waits between tries

-- a try that failed, and when that was told
pub record Failure : Type 0 where
  pub moment : ℕ
  pub why : Loss

-- tries that failed one after another
abbrev pub after_failures : List Failure → Standing → Standing
after_failures [] p = p
after_failures (f ∷ more) p = after_failures more (stands_by f.moment (Failed f.why) p)

-- after the first try that fails the next one may begin 1 second later, and after each further one twice as late, but
-- after 30 seconds. So it is from the start, and again once an association was up
abbrev pub WaitsDouble : Standing → Type 0
WaitsDouble p =
    (failures : List Failure) (last : Failure) →
    (stands_by last.moment (Failed last.why) (after_failures failures p)).due
    ≡ min (2 ^ 64 - 1) (last.moment + min 30000 (1000 * 2 ^ length failures))

abbrev pub waits_double_from_up : Type 0
waits_double_from_up = (moment : ℕ) (p : Standing) → WaitsDouble (stands_by moment Up p)
