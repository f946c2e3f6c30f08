-- A chunk makes the generation grow by one at most.
use Rattle.std.proofs.Common.{◌≡◌, ◌≤◌, ℕ, zero, suc, ◌+◌, Bool, true, false, List, [], ◌∷◌, Option, Some, None, refl, arith, nat_eq, nat_lt}
use Rattle.std.specs.Prelude.{◌&&◌, not, if◌then◌else◌, length}
use Rattle.sctp_receiving.specs.Consuming as consuming
use Rattle.sctp_receiving.specs.Receiver.{Step, received, is_violation, hear, take_next, next_held}
use Rattle.sctp_receiving.specs.declared.violation.Violation.{Violation}
use Rattle.sctp_receiving.specs.declared.violation.Violation.TheVariants as violations
use Rattle.sctp_codec.specs.Packets.{ChunkValue, DataValue, SackValue, InitValue}
use Rattle.sctp_codec.specs.Packets as packets
use Rattle.sctp_codec.specs.Items.{ItemValue}
use Rattle.sctp_codec.specs.Parameters as parameters
use Rattle.sctp_sending.specs.Sending.{confirmation}
use Rattle.sctp_rules.specs.declared.phase.Phase.{Phase}
use Rattle.sctp_rules.specs.declared.phase.Phase.TheVariants as phases
use Rattle.sctp_rules.specs.declared.loss.Loss.TheVariants as losses
use Rattle.sctp_rules.specs.Settings.{Settings, Secrets, Address, Beginning}
use Rattle.sctp_rules.specs.State as state
use Rattle.sctp_rules.specs.State.{State, Try, Beat, Done, silent, followed_by}
use Rattle.sctp_rules.specs.Confirming as confirming
use Rattle.sctp_rules.specs.Ending as ending
use Rattle.sctp_rules.specs.Opening as opening
use Rattle.sctp_rules.specs.Shutdown as shutting
use Rattle.sctp_rules.specs.Data as data_rules
use Rattle.sctp_rules.specs.Packets as arriving
use Rattle.std.specs.Prelude.{is_some}
use Rattle.std.specs.Str.{bytes_eq}
use Rattle.sctp_receiving.specs.Pieces.{Piece}
use Rattle.sctp_receiving.specs.declared.limits.TheConstants.{CHUNKS}
use Rattle.sctp_rules.specs.Packets.{Handled}
use Rattle.sctp_endpoint.specs.Draining.{told_step, heard_piece, told_next, and_on, told_held}
use Rattle.sctp_endpoint.proofs.Draining.{sack_due, data-told}

abbrev pub Grows : State → Done → Type 0
Grows s d = d.left.generation ≤ s.generation + 1

abbrev Stays : State → Done → Type 0
Stays s d = d.left.generation ≡ s.generation

stays : (s : State) (d : Done) → Stays s d → Grows s d
stays s d e = omega (arith, e)

either : (s : State) (b : Bool) (d e : Done) → Grows s d → Grows s e → Grows s (if b then d else e)
either s true d e g h = g
either s false d e g h = h

quiet : (s : State) → Grows s (silent s)
quiet s = omega arith

-- ---- DATA

violated-grows : (c : Settings) (v : Violation) (s : State) → Grows s (data_rules.violated c v s)
violated-grows c (violations.FragmentOfNoStream stream) s = omega arith
violated-grows c violations.Misplaced s = omega arith
violated-grows c violations.Differs s = omega arith
violated-grows c violations.TooLong s = omega arith

one-grows : (c : Settings) (told : consuming.Told) (s : State) → Grows s (data_rules.told_one c told s)
one-grows c consuming.Nothing s = omega arith
one-grows c (consuming.Tells m) s = omega arith
one-grows c (consuming.NoStream stream) s = omega arith
one-grows c (consuming.Violates v) s = violated-grows c v s

pub one-stays : (c : Settings) (told : consuming.Told) (s : State) → is_violation told ≡ false → (data_rules.told_one c told s).left.generation ≡ s.generation
one-stays c consuming.Nothing s e = refl
one-stays c (consuming.Tells m) s e = refl
one-stays c (consuming.NoStream stream) s e = refl
one-stays c (consuming.Violates v) s e = absurd (cc)

of-not : (b : Bool) → not b ≡ true → b ≡ false
of-not true e = absurd (cc)
of-not false e = refl

step-grows : (c : Settings) (step : Step) (s : State) → Grows s (told_step c step s).does
step-grows c step s = one-grows c step.told (state.with_association s (record s.association { receiver = step.left }))

step-stays : (c : Settings) (step : Step) (s : State) → (told_step c step s).goes_on ≡ true → Stays s (told_step c step s).does
step-stays c step s e = one-stays c step.told (state.with_association s (record s.association { receiver = step.left })) (of-not (is_violation step.told) e)

next-case : (b : Bool) (handled : Handled) (s : State) → (handled.goes_on ≡ true → Stays s handled.does)
    → (if b then handled else record { does = silent s; goes_on = false }).goes_on ≡ true
    → Stays s (if b then handled else record { does = silent s; goes_on = false }).does
next-case true handled s h e = h e
next-case false handled s h e = absurd (cc)

pub next-stays : (c : Settings) (s : State) → (told_next c s).goes_on ≡ true → Stays s (told_next c s).does
next-stays c s e = next-case (is_some (next_held s.association.receiver)) (told_step c (take_next s.association.receiver) s) s (step-stays c (take_next s.association.receiver) s) e

next-grows : (b : Bool) (handled : Handled) (s : State) → Grows s handled.does
    → Grows s (if b then handled else record { does = silent s; goes_on = false }).does
next-grows true handled s h = h
next-grows false handled s h = quiet s

on-grows : (s : State) (goes_on : Bool) (d : Done) (rest : State → Done) → Grows s d → (goes_on ≡ true → Stays s d) → Grows d.left (rest d.left)
    → Grows s (and_on (record { does = d; goes_on = goes_on }) rest)
on-grows s true d rest g h r = omega (arith, h refl, r)
on-grows s false d rest g h r = g

held-grows : (c : Settings) (many : ℕ) (s : State) → Grows s (told_held c many s)
unfolding told_held
held-grows c zero s = quiet s
held-grows c (suc many) s =
    let handled : Handled = told_next c s in
    on-grows s handled.goes_on handled.does (λ left. told_held c many left)
    (next-grows (is_some (next_held s.association.receiver)) (told_step c (take_next s.association.receiver) s) s (step-grows c (take_next s.association.receiver) s))
    (next-stays c s) (held-grows c many handled.does.left)

taken-grows : (c : Settings) (tsn : ℕ) (p : Piece) (s : State) → Grows s (data_rules.after_data c (received s.association.receiver tsn p) s)
taken-grows c tsn p s =
    let step : Step = hear s.association.receiver tsn p in
    let handled : Handled = heard_piece c tsn p (sack_due s) in
    rw (data-told c tsn p s) (on-grows s handled.goes_on handled.does (λ left. told_held c CHUNKS left) (step-grows c step (sack_due s)) (step-stays c step (sack_due s))
    (held-grows c CHUNKS handled.does.left))

data-grows : (c : Settings) (d : DataValue) (s : State) → Grows s (data_rules.heard_data c d s)
data-grows c d s =
    either s (data_rules.takes_data s.association.phase)
    (if nat_eq (length d.octets) 0 then ending.aborted c losses.Protocol (parameters.NoUserData d.tsn) s
    else data_rules.after_data c (received s.association.receiver d.tsn (data_rules.piece_of d)) s)
    (silent s)
    (either s (nat_eq (length d.octets) 0) (ending.aborted c losses.Protocol (parameters.NoUserData d.tsn) s)
    (data_rules.after_data c (received s.association.receiver d.tsn (data_rules.piece_of d)) s) (omega arith) (taken-grows c d.tsn (data_rules.piece_of d) s))
    (quiet s)

-- ---- SACK and SHUTDOWN

on-in-stays : (phase : Phase) (c : Settings) (now : ℕ) (s : State) → (shutting.going_on_in phase c now s).generation ≡ s.generation
on-in-stays phases.Closed c now s = refl
on-in-stays phases.CookieWait c now s = refl
on-in-stays phases.CookieEchoed c now s = refl
on-in-stays phases.Established c now s = refl
on-in-stays phases.ShutdownPending c now s = refl
on-in-stays phases.ShutdownSent c now s = refl
on-in-stays phases.ShutdownReceived c now s = refl
on-in-stays phases.ShutdownAckSent c now s = refl

if-stays : (b : Bool) (t s : State) (n : ℕ) → t.generation ≡ n → s.generation ≡ n → (if b then t else s).generation ≡ n
if-stays true t s n e f = e
if-stays false t s n e f = f

on-stays : (c : Settings) (now : ℕ) (s : State) → (shutting.going_on c now s).generation ≡ s.generation
on-stays c now s =
    if-stays (nat_eq (length s.association.sender.out) 0) (shutting.going_on_in s.association.phase c now s) s s.generation (on-in-stays s.association.phase c now s) refl

sack-grows : (c : Settings) (now : ℕ) (sack : SackValue) (s : State) → Grows s (data_rules.heard_sack_chunk c now sack s)
sack-grows c now sack s =
    let goes : Done = silent (shutting.going_on c now (data_rules.after_sack now sack s)) in
    let beyond : Done = if confirming.confirms_beyond s.association.sender sack.cumulative then ending.aborted c losses.Protocol ending.violation s else goes in
    let taken : Done = if confirming.is_old (confirmation s.association.sender sack.cumulative) then silent s else beyond in
    let g : Grows s goes = stays s goes (on-stays c now (data_rules.after_sack now sack s)) in
    either s (data_rules.takes_sack s.association.phase) taken (silent s)
    (either s (confirming.is_old (confirmation s.association.sender sack.cumulative)) (silent s) beyond (quiet s)
    (either s (confirming.confirms_beyond s.association.sender sack.cumulative) (ending.aborted c losses.Protocol ending.violation s) goes (omega arith) g))
    (quiet s)

received-grows : (c : Settings) (now cumulative : ℕ) (s : State) → Grows s (shutting.then_going_on c now (shutting.shutdown_received (shutting.with_confirmed now cumulative s)))
received-grows c now cumulative s =
    let d : Done = shutting.shutdown_received (shutting.with_confirmed now cumulative s) in
    stays s (shutting.then_going_on c now d) (on-stays c now d.left)

shutdown-in-grows : (phase : Phase) (c : Settings) (now cumulative : ℕ) (s : State) → Grows s (shutting.heard_shutdown_in phase c now cumulative s)
shutdown-in-grows phases.Closed c now cumulative s = quiet s
shutdown-in-grows phases.CookieWait c now cumulative s = quiet s
shutdown-in-grows phases.CookieEchoed c now cumulative s = quiet s
shutdown-in-grows phases.Established c now cumulative s = received-grows c now cumulative s
shutdown-in-grows phases.ShutdownPending c now cumulative s = received-grows c now cumulative s
shutdown-in-grows phases.ShutdownSent c now cumulative s = omega arith
shutdown-in-grows phases.ShutdownReceived c now cumulative s =
    stays s (silent (shutting.going_on c now (shutting.with_confirmed now cumulative s))) (on-stays c now (shutting.with_confirmed now cumulative s))
shutdown-in-grows phases.ShutdownAckSent c now cumulative s = quiet s

shutdown-grows : (c : Settings) (now cumulative : ℕ) (s : State) → Grows s (shutting.heard_shutdown c now cumulative s)
shutdown-grows c now cumulative s =
    either s (shutting.confirms s.association.phase && confirming.confirms_beyond s.association.sender cumulative) (ending.aborted c losses.Protocol ending.violation s)
    (shutting.heard_shutdown_in s.association.phase c now cumulative s) (omega arith) (shutdown-in-grows s.association.phase c now cumulative s)

shutdown-ack-grows : (phase : Phase) (c : Settings) (s : State) → Grows s (shutting.heard_shutdown_ack_in phase c s)
shutdown-ack-grows phases.Closed c s = quiet s
shutdown-ack-grows phases.CookieWait c s = quiet s
shutdown-ack-grows phases.CookieEchoed c s = quiet s
shutdown-ack-grows phases.Established c s = quiet s
shutdown-ack-grows phases.ShutdownPending c s = quiet s
shutdown-ack-grows phases.ShutdownSent c s = omega arith
shutdown-ack-grows phases.ShutdownReceived c s = quiet s
shutdown-ack-grows phases.ShutdownAckSent c s = omega arith

complete-grows : (phase : Phase) (c : Settings) (s : State) → Grows s (shutting.heard_shutdown_complete_in phase c s)
complete-grows phases.Closed c s = quiet s
complete-grows phases.CookieWait c s = quiet s
complete-grows phases.CookieEchoed c s = quiet s
complete-grows phases.Established c s = quiet s
complete-grows phases.ShutdownPending c s = quiet s
complete-grows phases.ShutdownSent c s = quiet s
complete-grows phases.ShutdownReceived c s = quiet s
complete-grows phases.ShutdownAckSent c s = omega arith

-- ---- the handshake

refused-grows : (c : Settings) (init : InitValue) (s : State) → Grows s (opening.refused c init s)
refused-grows c init s =
    let told : Done = followed_by (state.put c s.association.address init.tag (ending.abort_for parameters.InvalidParameter ∷ []) s) (λ left. ending.ended c losses.BadInitAck left) in
    either s (nat_eq init.tag 0) (ending.ended c losses.BadInitAck s) told (omega arith) (omega arith)

echoed-if-grows : (c : Settings) (now : ℕ) (init : InitValue) (t : Option Try) (cookie : Option (List ℕ)) (s : State) → Grows s (opening.echoed_if c now init t cookie s)
echoed-if-grows c now init None cookie s = quiet s
echoed-if-grows c now init (Some t) None s = refused-grows c init s
echoed-if-grows c now init (Some t) (Some cookie) s =
    either s (opening.is_usable init && opening.fits_echo cookie) (opening.echoed c now t.failures init cookie s) (opening.refused c init s) (omega arith) (refused-grows c init s)

init-ack-grows : (c : Settings) (now : ℕ) (init : InitValue) (s : State) → Grows s (opening.heard_init_ack c now init s)
init-ack-grows c now init s =
    let taken : Done = opening.echoed_if c now init s.association.trying (parameters.cookie_in init.parameters) s in
    either s (opening.is_waiting s.association.phase) taken (silent s) (echoed-if-grows c now init s.association.trying (parameters.cookie_in init.parameters) s) (quiet s)

anew-grows : (c : Settings) (now failures : ℕ) (to : Address) (b : Option Beginning) (s : State) → Grows s (opening.begun_anew_with c now failures to b s)
anew-grows c now failures to None s = omega arith
anew-grows c now failures to (Some b) s = omega arith

stale-grows : (c : Settings) (k : Secrets) (now : ℕ) (t : Option Try) (s : State) → Grows s (opening.begun_after_stale c k now t s)
stale-grows c k now None s = quiet s
stale-grows c k now (Some t) s =
    either s (nat_lt c.init_retransmissions (t.failures + 1)) (ending.ended c losses.StaleCookie s) (opening.begun_anew c k now (t.failures + 1) c.address s) (omega arith)
    (anew-grows c now (t.failures + 1) c.address (k.beginning s.beginnings) s)

error-grows : (c : Settings) (k : Secrets) (now : ℕ) (causes : List ItemValue) (s : State) → Grows s (opening.heard_error c k now causes s)
error-grows c k now causes s =
    either s (opening.is_echoed s.association.phase && parameters.has_stale_cookie causes) (opening.begun_after_stale c k now s.association.trying s) (silent s) (stale-grows c k now s.association.trying s) (quiet s)

cookie-ack-grows : (c : Settings) (now : ℕ) (s : State) → Grows s (opening.heard_cookie_ack c now s)
cookie-ack-grows c now s =
    let a = s.association in
    either s (opening.is_echoed a.phase) (opening.opened c now a.own_tag a.far_tag a.own_first a.peer a.address s) (silent s) (omega arith) (quiet s)

-- ---- any chunk

answer-grows : (beat : Option Beat) (c : Settings) (now : ℕ) (information : List ℕ) (s : State) → Grows s (data_rules.heard_answer_to beat c now information s)
answer-grows None c now information s = quiet s
answer-grows (Some beat) c now information s =
    either s (bytes_eq information (parameters.information_of beat.nonce)) (silent (data_rules.beat_answered c now beat s)) (silent s) (omega arith) (quiet s)

either-handled : (s : State) (b : Bool) (x y : Handled) → Grows s x.does → Grows s y.does → Grows s (if b then x else y).does
either-handled s true x y g h = g
either-handled s false x y g h = h

pub chunk-grows : (c : Settings) (k : Secrets) (now tag : ℕ) (chunk : ChunkValue) (s : State) → Grows s (arriving.heard_chunk c k now tag chunk s).does
chunk-grows c k now tag (packets.DataChunk d) s = data-grows c d s
chunk-grows c k now tag (packets.InitChunk init) s = quiet s
chunk-grows c k now tag (packets.InitAckChunk init) s = init-ack-grows c now init s
chunk-grows c k now tag (packets.SackChunk sack) s = sack-grows c now sack s
chunk-grows c k now tag (packets.HeartbeatChunk information) s =
    either s (opening.is_there s.association.phase) (silent (ending.answered (packets.HeartbeatAckChunk information) s)) (silent s) (omega arith) (quiet s)
chunk-grows c k now tag (packets.HeartbeatAckChunk information) s = answer-grows s.association.beat c now information s
chunk-grows c k now tag (packets.AbortChunk is_reflected causes) s =
    either s (arriving.has_tag s.association tag (packets.AbortChunk is_reflected causes)) (ending.ended_alone c (arriving.loss_by_abort s.association.phase) [] s) (silent s) (omega arith) (quiet s)
chunk-grows c k now tag (packets.ShutdownChunk cumulative) s = shutdown-grows c now cumulative s
chunk-grows c k now tag packets.ShutdownAckChunk s = shutdown-ack-grows s.association.phase c s
chunk-grows c k now tag (packets.ErrorChunk causes) s = error-grows c k now causes s
chunk-grows c k now tag (packets.CookieEchoChunk cookie) s = quiet s
chunk-grows c k now tag packets.CookieAckChunk s = cookie-ack-grows c now s
chunk-grows c k now tag (packets.ShutdownCompleteChunk is_reflected) s =
    either-handled s (arriving.has_tag s.association tag (packets.ShutdownCompleteChunk is_reflected)) (arriving.while_there tag (shutting.heard_shutdown_complete c s)) (arriving.while_there tag (silent s))
    (complete-grows s.association.phase c s) (quiet s)
chunk-grows c k now tag (packets.UnknownChunk kind flags value) s =
    either s (arriving.is_reported kind) (silent (ending.answered (packets.ErrorChunk (parameters.cause_item (parameters.UnrecognizedChunk kind flags value) ∷ [])) s)) (silent s) (omega arith) (quiet s)
chunk-grows c k now tag (packets.MalformedChunk kind) s = quiet s
