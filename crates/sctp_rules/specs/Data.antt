-- DATA and SACK that come, and HEARTBEAT (RFC 9260 §6, §8.3).
use Rattle.std.specs.Prelude.{ℕ, Bool, true, false, ◌+◌, ◌-◌, ◌||◌, List, [], ◌∷◌, Option, Some, None, map}
use Rattle.std.specs.Prelude.{length, nat_eq, nat_lt, if◌then◌else◌}
use Rattle.std.specs.Str.{bytes_eq}
use Rattle.sctp_receiving.specs.Pieces.{Piece}
use Rattle.sctp_receiving.specs.Consuming as consuming
use Rattle.sctp_receiving.specs.declared.violation.Violation.{Violation}
use Rattle.sctp_receiving.specs.declared.violation.Violation.TheVariants as violations
use Rattle.sctp_receiving.specs.declared.block.Block.{Block}
use Rattle.sctp_receiving.specs.Receiver.{Receiver, Steps, received, window}
use Rattle.sctp_receiving.specs.Sack.{blocks, reported}
use Rattle.sctp_codec.specs.Packets.{ChunkValue, DataValue, BlockValue, SackValue, SackChunk, ErrorChunk}
use Rattle.sctp_codec.specs.Packets.{HeartbeatAckChunk}
use Rattle.sctp_codec.specs.Parameters.{NoStream, NoUserData, cause_item, information_of}
use Rattle.sctp_rules.specs.declared.limits.TheConstants.{SHUT_WINDOW}
use Rattle.sctp_rules.specs.declared.phase.Phase.{Phase}
use Rattle.sctp_rules.specs.declared.phase.Phase.TheVariants.{Closed, CookieWait, CookieEchoed, Established}
use Rattle.sctp_rules.specs.declared.phase.Phase.TheVariants.{ShutdownPending, ShutdownSent, ShutdownReceived}
use Rattle.sctp_rules.specs.declared.phase.Phase.TheVariants.{ShutdownAckSent}
use Rattle.sctp_rules.specs.declared.loss.Loss.TheVariants.{Protocol}
use Rattle.sctp_rules.specs.Settings.{Settings}
use Rattle.sctp_sending.specs.RoundTrips.{after_measured}
use Rattle.sctp_sending.specs.Sending.{Sending, confirmation}
use Rattle.sctp_rules.specs.Confirming.{confirms_beyond, is_old, with_sack, confirms_some}
use Rattle.sctp_rules.specs.State.{Beat, Association, State, Heard, Done, silent, followed_by, with_association}
use Rattle.sctp_rules.specs.Ending.{answered, aborted, violation}
use Rattle.sctp_rules.specs.Opening.{is_there}
use Rattle.sctp_rules.specs.Shutdown.{going_on}

-- ---- DATA comes (§6.2)

-- the states in which DATA counts, and is acknowledged
abbrev pub takes_data : Phase → Bool
takes_data Closed = false
takes_data CookieWait = false
takes_data CookieEchoed = false
takes_data Established = true
takes_data ShutdownPending = true
takes_data ShutdownSent = true
takes_data ShutdownReceived = false
takes_data ShutdownAckSent = false

abbrev pub piece_of : DataValue → Piece
piece_of d = record {
  stream = d.stream;
  sequence = d.sequence;
  protocol = d.protocol;
  begins = d.begins;
  ends = d.ends;
  unordered = d.unordered;
  octets = d.octets;
}

-- a stream that doesn't exist (§6.5)
abbrev pub no_stream : ℕ → ChunkValue
no_stream stream = ErrorChunk (cause_item (NoStream stream) ∷ [])

-- a violation ends the association; the peer is also told the stream if a chunk is of none
abbrev pub violated : Settings → Violation → State → Done
violated c (violations.FragmentOfNoStream stream) s = aborted c Protocol violation (answered (no_stream stream) s)
violated c violations.Misplaced s = aborted c Protocol violation s
violated c violations.Differs s = aborted c Protocol violation s
violated c violations.TooLong s = aborted c Protocol violation s

-- what the receiver tells: a message goes to the user
abbrev pub told_one : Settings → consuming.Told → State → Done
told_one c consuming.Nothing s = silent s
told_one c (consuming.Tells message) s = record { sent = []; told = Heard message ∷ []; left = s }
told_one c (consuming.NoStream stream) s = silent (answered (no_stream stream) s)
told_one c (consuming.Violates violation) s = violated c violation s

abbrev pub told_each : Settings → List consuming.Told → State → Done
told_each c [] s = silent s
told_each c (told ∷ more) s = followed_by (told_one c told s) (λ left. told_each c more left)

-- each chunk is acknowledged in this round
abbrev pub after_data : Settings → Steps → State → Done
after_data c steps s =
    told_each c steps.told
    (with_association s (record s.association { receiver = steps.left; is_sack_due = true }))

-- DATA without data is a violation of its own kind (§6.2)
abbrev pub heard_data : Settings → DataValue → State → Done
heard_data c d s =
    if takes_data s.association.phase
    then (if nat_eq (length d.octets) 0
    then aborted c Protocol (NoUserData d.tsn) s
    else after_data c (received s.association.receiver d.tsn (piece_of d)) s)
    else silent s

-- ---- the SACK that goes out

abbrev pub block_of : Block → BlockValue
block_of b = record { start = b.start; end = b.end }

abbrev pub sack_of : Receiver → ChunkValue
sack_of r = SackChunk (record {
  cumulative = r.cumulative;
  window = window r;
  blocks = map block_of (blocks r);
  duplicates = r.duplicates;
})

abbrev pub sacked : Association → Association
sacked a = record a { receiver = reported a.receiver; is_sack_due = false }

-- ---- SACK comes (§6.2.1)

abbrev pub takes_sack : Phase → Bool
takes_sack Closed = false
takes_sack CookieWait = false
takes_sack CookieEchoed = false
takes_sack Established = true
takes_sack ShutdownPending = true
takes_sack ShutdownSent = false
takes_sack ShutdownReceived = true
takes_sack ShutdownAckSent = false

-- a SACK that confirms something counts as an answer, and so does one from a peer whose window is shut
abbrev pub answers : (now : ℕ) → SackValue → Sending → Bool
answers now sack s = confirms_some now sack s || nat_lt sack.window SHUT_WINDOW

abbrev pub after_sack : (now : ℕ) → SackValue → State → State
after_sack now sack s =
    let a = s.association in
    with_association s (record a {
      sender = with_sack now sack a.sender;
      failures = if answers now sack a.sender then 0 else a.failures;
    })

-- an old one is dropped; one that confirms what wasn't sent is a violation
abbrev pub heard_sack_of : Settings → (now : ℕ) → SackValue → State → Done
heard_sack_of c now sack s =
    if is_old (confirmation s.association.sender sack.cumulative)
    then silent s
    else (if confirms_beyond s.association.sender sack.cumulative
    then aborted c Protocol violation s
    else silent (going_on c now (after_sack now sack s)))

abbrev pub heard_sack_chunk : Settings → (now : ℕ) → SackValue → State → Done
heard_sack_chunk c now sack s =
    if takes_sack s.association.phase then heard_sack_of c now sack s else silent s

-- ---- HEARTBEAT and HEARTBEAT ACK come (§8.3)

abbrev pub heard_heartbeat : List ℕ → State → Done
heard_heartbeat information s =
    if is_there s.association.phase then silent (answered (HeartbeatAckChunk information) s) else silent s

-- the right answer: a round trip is measured, and the next heartbeat waits for its interval
abbrev pub beat_answered : Settings → (now : ℕ) → Beat → State → State
beat_answered c now beat s =
    let a = s.association in
    let trips = after_measured a.sender.round_trips (now - beat.sent) in
    with_association s (record a {
      sender = record a.sender { round_trips = trips };
      failures = 0;
      beat = None;
      beat_due = Some (now + c.heartbeat + trips.timeout);
    })

abbrev pub heard_answer_to : Option Beat → Settings → (now : ℕ) → List ℕ → State → Done
heard_answer_to None c now information s = silent s
heard_answer_to (Some beat) c now information s =
    if bytes_eq information (information_of beat.nonce) then silent (beat_answered c now beat s) else silent s

abbrev pub heard_heartbeat_ack : Settings → (now : ℕ) → List ℕ → State → Done
heard_heartbeat_ack c now information s = heard_answer_to s.association.beat c now information s
