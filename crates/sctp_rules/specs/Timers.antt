-- The timers of an endpoint (RFC 9260 §5.1, §6.3, §8.1, §8.3, §9.2).
use Rattle.std.specs.Prelude.{ℕ, Bool, false, ◌+◌, Option, Some, None, min, nat_lt, nat_le}
use Rattle.std.specs.Prelude.{if◌then◌else◌}
use Rattle.sctp_codec.specs.Packets.{ChunkValue, HeartbeatChunk, ShutdownAckChunk}
use Rattle.sctp_codec.specs.Parameters.{EndedByUser, information_of}
use Rattle.sctp_rules.specs.declared.phase.Phase.{Phase}
use Rattle.sctp_rules.specs.declared.phase.Phase.TheVariants.{Established}
use Rattle.sctp_rules.specs.declared.phase.Phase.TheVariants.{ShutdownSent}
use Rattle.sctp_rules.specs.declared.loss.Loss.TheVariants.{NoAnswer}
use Rattle.sctp_rules.specs.Settings.{Settings, Secrets}
use Rattle.sctp_sending.specs.RoundTrips.{backed_off}
use Rattle.sctp_sending.specs.Sending.{after_t3}
use Rattle.sctp_rules.specs.State.{Try, Beat, Association, State, Done, silent, followed_by, with_association}
use Rattle.sctp_rules.specs.Ending.{answered, aborted, violation}
use Rattle.sctp_rules.specs.Opening.{tried_again}
use Rattle.sctp_rules.specs.Shutdown.{shutdown_of, awaiting}

-- a timer has run out
abbrev pub is_due : (now : ℕ) → Option ℕ → Bool
is_due now None = false
is_due now (Some moment) = nat_le moment now

-- the peer didn't answer once more; after too many times in a row the association ends (§8.1)
abbrev pub unanswered : Settings → (State → Done) → State → Done
unanswered c rule s =
    if nat_lt c.retransmissions (s.association.failures + 1)
    then aborted c NoAnswer violation s
    else rule (with_association s (record s.association { failures = s.association.failures + 1 }))

abbrev pub with_back_off : Association → Association
with_back_off a = record a { sender = record a.sender { round_trips = backed_off a.sender.round_trips } }

-- T1-init and T1-cookie
abbrev pub t1_of : Option Try → Option ℕ
t1_of None = None
t1_of (Some t) = Some t.t1

abbrev pub retry : Option Try → Settings → (now : ℕ) → State → Done
retry None c now s = silent s
retry (Some t) c now s = if nat_le t.t1 now then tried_again c now t s else silent s

abbrev pub tick_t1 : Settings → (now : ℕ) → State → Done
tick_t1 c now s = retry s.association.trying c now s

-- T5-shutdown-guard (§9.2)
abbrev pub tick_t5 : Settings → (now : ℕ) → State → Done
tick_t5 c now s = if is_due now s.association.t5 then aborted c NoAnswer EndedByUser s else silent s

-- T2-shutdown: SHUTDOWN, or SHUTDOWN ACK, goes out again
abbrev pub shutdown_again : Phase → Association → ChunkValue
shutdown_again ShutdownSent a = shutdown_of a
shutdown_again phase a = ShutdownAckChunk

abbrev pub t2_out : Settings → (now : ℕ) → State → Done
t2_out c now s =
    let a = s.association in
    silent (awaiting now a.phase (shutdown_again a.phase a) (with_association s (with_back_off a)))

abbrev pub tick_t2 : Settings → (now : ℕ) → State → Done
tick_t2 c now s =
    if is_due now s.association.t2 then unanswered c (λ left. t2_out c now left) s else silent s

-- T3-rtx
abbrev pub t3_out : Settings → (now : ℕ) → State → Done
t3_out c now s =
    silent (with_association s (record s.association { sender = after_t3 s.association.sender now }))

abbrev pub tick_t3 : Settings → (now : ℕ) → State → Done
tick_t3 c now s =
    if is_due now s.association.sender.t3 then unanswered c (λ left. t3_out c now left) s else silent s

-- a heartbeat, with a number of its own; it is answered within RTO, or else
abbrev pub beating : Secrets → (now : ℕ) → State → State
beating k now s =
    let a = s.association in
    answered (HeartbeatChunk (information_of (k.nonce s.nonces)))
    (record s {
      nonces = s.nonces + 1;
      association = record a {
        beat = Some (record { nonce = k.nonce s.nonces; sent = now });
        beat_due = Some (now + a.sender.round_trips.timeout);
      };
    })

abbrev pub beat_again : Option Beat → Settings → Secrets → (now : ℕ) → State → Done
beat_again None c k now s = silent (beating k now s)
beat_again (Some beat) c k now s =
    unanswered c
    (λ left. silent (beating k now (with_association left (with_back_off left.association)))) s

-- only in ESTABLISHED
abbrev pub beat_in : Phase → Settings → Secrets → (now : ℕ) → State → Done
beat_in Established c k now s = beat_again s.association.beat c k now s
beat_in phase c k now s = silent (with_association s (record s.association { beat_due = None }))

abbrev pub tick_beat : Settings → Secrets → (now : ℕ) → State → Done
tick_beat c k now s =
    if is_due now s.association.beat_due then beat_in s.association.phase c k now s else silent s

-- those that are due run out, one after another; an end stops the others
abbrev pub ticked : Settings → Secrets → (now : ℕ) → State → Done
ticked c k now s =
    followed_by
    (followed_by
    (followed_by (followed_by (tick_t1 c now s) (λ left. tick_t5 c now left)) (λ left. tick_t2 c now left))
    (λ left. tick_t3 c now left))
    (λ left. tick_beat c k now left)

-- ---- when the next one is due

abbrev pub earlier : Option ℕ → Option ℕ → Option ℕ
earlier None other = other
earlier (Some moment) None = Some moment
earlier (Some moment) (Some other) = Some (min moment other)

abbrev pub deadline : State → Option ℕ
deadline s =
    let a = s.association in
    earlier (t1_of a.trying) (earlier a.t2 (earlier a.sender.t3 (earlier a.t5 a.beat_due)))
