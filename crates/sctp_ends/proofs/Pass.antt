-- Each rule of the endpoint is a list of moves.
use Rattle.std.proofs.Common.{◌≡◌, ◌<◌, ◌⊎◌, inl, inr, ℕ, ◌+◌, ◌-◌, ◌*◌, arith, Bool, true, false, List, [], ◌∷◌, ◌++◌, Option, Some, None, refl, ap, sym, ◌∙◌, subst, length}
use Rattle.std.proofs.Common.{nat_eq, nat_lt, nat_le}
use Rattle.std.specs.Prelude.{◌&&◌, ◌||◌, not, if◌then◌else◌, map}
use Rattle.std.specs.Str.{bytes_eq}
use Rattle.std.specs.List.{list_any, Contains}
use Rattle.std.proofs.lemmas.Bool.Decides.{nat_tests}
use Rattle.sctp_receiving.specs.Consuming as consuming
use Rattle.sctp_receiving.specs.declared.violation.Violation.TheVariants as violations
use Rattle.sctp_receiving.specs.Receiver.{received}
use Rattle.sctp_receiving.specs.Receiver as receiving
use Rattle.sctp_codec.specs.Items.{ItemValue}
use Rattle.sctp_codec.specs.Packets as packets
use Rattle.sctp_codec.specs.Packets.{ChunkValue, InitValue, SackValue, DataValue, PacketValue}
use Rattle.sctp_codec.specs.Parameters.{CauseValue, InvalidParameter, EndedByUser, NoUserData, StaleCookie}
use Rattle.sctp_codec.specs.Parameters.{CookieInShutdown}
use Rattle.sctp_codec.specs.Parameters.{UnrecognizedChunk, cause_item, cookie_in, host_name_in, has_stale_cookie}
use Rattle.sctp_codec.specs.Parameters.{information_of}
use Rattle.sctp_sending.specs.Outgoing.{Message}
use Rattle.sctp_sending.specs.declared.confirmation.Confirmation.{Confirmation}
use Rattle.sctp_sending.specs.declared.confirmation.Confirmation.TheVariants.{Old, Beyond, Of}
use Rattle.sctp_sending.specs.Sending.{Sending, confirmation, given, after_cumulative}
use Rattle.sctp_sending.specs.RoundTrips.{backed_off}
use Rattle.sctp_rules.specs.declared.phase.Phase.{Phase}
use Rattle.sctp_rules.specs.declared.phase.Phase.TheVariants.{Closed, CookieWait, CookieEchoed, Established}
use Rattle.sctp_rules.specs.declared.phase.Phase.TheVariants.{ShutdownPending, ShutdownSent, ShutdownReceived}
use Rattle.sctp_rules.specs.declared.phase.Phase.TheVariants.{ShutdownAckSent}
use Rattle.sctp_rules.specs.declared.loss.Loss.{Loss}
use Rattle.sctp_rules.specs.declared.loss.Loss.TheVariants as losses
use Rattle.sctp_cookie.specs.declared.cookie.Cookie.{Cookie}
use Rattle.sctp_rules.specs.Settings.{Settings, Secrets, Beginning, Address}
use Rattle.sctp_rules.specs.State as state
use Rattle.sctp_rules.specs.State.{Association, State, Told, Up, Heard, Down, Failed, Done, Try, Beat, silent, followed_by}
use Rattle.sctp_rules.specs.State.{no_association, first_state, Datagram}
use Rattle.sctp_rules.specs.Ending as ending
use Rattle.sctp_rules.specs.Opening as opening
use Rattle.sctp_rules.specs.Confirming as confirming
use Rattle.sctp_rules.specs.Shutdown as shutdown
use Rattle.sctp_rules.specs.Data as data_rules
use Rattle.sctp_rules.specs.Packets as arriving
use Rattle.sctp_rules.specs.Timers as timers
use Rattle.sctp_rules.specs.Sending as sending
use Rattle.sctp_rules.specs.Sending.{is_established}
use Rattle.sctp_rules.specs.Endpoint.{Happening, Opens, Came, Ticked, Sends, Aborts, ShutsDown, Flushes, after}
use Rattle.sctp_moves.specs.Numbers.{modulus}
use Rattle.sctp_moves.specs.Ends as ends
use Rattle.sctp_moves.proofs.Keeping.{IsSound}
use Rattle.sctp_moves.specs.Ends.{End}
use Rattle.sctp_moves.specs.Moves.{IsTrying, MayOpen}
use Rattle.sctp_ends.specs.Told.{with_last, text_given, told_by, opened_by, given_by}
use Rattle.sctp_ends.specs.Theorems.{begins, Heeds}
use Rattle.sctp_ends.specs.Said.{Each, since, young, never, cookie_of, IsAnswer, IsEcho, IsData, IsAck, Bundles, Begins, IsSaid, AreSaid}
use Rattle.sctp_ends.specs.Shown.{Stage, Off, Waiting, Echoing, There, stage_of, IsIn, IsOff, IsWaiting, IsEchoing, IsPresent}
use Rattle.sctp_ends.specs.Shown.{AreGood, IsPlain, Waits, Shows, IsDrawn, AreDrawn, own_of, own_name, far_name}
use Rattle.sctp_ends.proofs.Said.{each-append, each-weaker, more-same}
use Rattle.sctp_ends.proofs.Said.{waits-bundled, said-bundled, never-any}
use Rattle.sctp_ends.proofs.Sent.{sack-confirms, shutdown-confirms, gone-only, going-same, going-said, timed-same}
use Rattle.sctp_ends.proofs.Messages.{data-does, confirmed-goes, given-goes}
use Rattle.sctp_ends.proofs.Alike.{receipts, gifts, Outcome, Starts, loosely, out-same, in-same, ack-said, Does, Goes, Alike, Stands, itself, alike-behind, plain-stands, alike-shows, alike-goes, also-does, also, hears, IsTagged}
use Rattle.sctp_ends.proofs.Steps.{offered-on, all-drawn-on, MayOpenBy, puts, ended-goes, given-up-goes, wants-goes, begun-goes, renewed-goes, answered-anew-goes, answered-alike-goes}
use Rattle.sctp_ends.proofs.Steps.{echoed-goes, opened-by-ack-goes, opened-by-cookie-does}

-- ---- tests

pub eq-from : (x y : ℕ) → nat_eq x y ≡ true → x ≡ y
eq-from x y e = grind (arith, nat_tests, e)

both-true : (x y : Bool) → (x && y) ≡ true → (x ≡ true) × (y ≡ true)
both-true true y e = (refl, e)
both-true false y e = absurd (cc)

closed-off : (phase : Phase) → opening.is_closed phase ≡ true → stage_of phase ≡ Off
closed-off Closed e = refl
closed-off CookieWait e = absurd (cc)
closed-off CookieEchoed e = absurd (cc)
closed-off Established e = absurd (cc)
closed-off ShutdownPending e = absurd (cc)
closed-off ShutdownSent e = absurd (cc)
closed-off ShutdownReceived e = absurd (cc)
closed-off ShutdownAckSent e = absurd (cc)

waiting-stage : (phase : Phase) → opening.is_waiting phase ≡ true → stage_of phase ≡ Waiting
waiting-stage Closed e = absurd (cc)
waiting-stage CookieWait e = refl
waiting-stage CookieEchoed e = absurd (cc)
waiting-stage Established e = absurd (cc)
waiting-stage ShutdownPending e = absurd (cc)
waiting-stage ShutdownSent e = absurd (cc)
waiting-stage ShutdownReceived e = absurd (cc)
waiting-stage ShutdownAckSent e = absurd (cc)

echoed-stage : (phase : Phase) → opening.is_echoed phase ≡ true → stage_of phase ≡ Echoing
echoed-stage Closed e = absurd (cc)
echoed-stage CookieWait e = absurd (cc)
echoed-stage CookieEchoed e = refl
echoed-stage Established e = absurd (cc)
echoed-stage ShutdownPending e = absurd (cc)
echoed-stage ShutdownSent e = absurd (cc)
echoed-stage ShutdownReceived e = absurd (cc)
echoed-stage ShutdownAckSent e = absurd (cc)

there-stage : (phase : Phase) → opening.is_there phase ≡ true → stage_of phase ≡ There
there-stage Closed e = absurd (cc)
there-stage CookieWait e = absurd (cc)
there-stage CookieEchoed e = absurd (cc)
there-stage Established e = refl
there-stage ShutdownPending e = refl
there-stage ShutdownSent e = refl
there-stage ShutdownReceived e = refl
there-stage ShutdownAckSent e = refl

control-tagged : (b : Bool) (tag : ℕ) (s : State) (control : List ChunkValue) → IsTagged tag s →
    IsTagged tag (state.with_association s (if b then record s.association { control = control } else s.association))
control-tagged true tag s control t = t
control-tagged false tag s control t = t

answered-tagged : (tag : ℕ) (chunk : ChunkValue) (s : State) → IsTagged tag s → IsTagged tag (ending.answered chunk s)
answered-tagged tag chunk s t = control-tagged (ending.has_place s.association.control chunk) tag s (s.association.control ++ chunk ∷ []) t

-- what is told of DATA leaves the tag, or ends the association
told-tagged : (tag : ℕ) (c : Settings) (tolds : List consuming.Told) (s : State) → IsTagged tag s → IsTagged tag (data_rules.told_each c tolds s).left
told-tagged tag c [] s t = t
told-tagged tag c (consuming.Nothing ∷ more) s t = told-tagged tag c more s t
told-tagged tag c (consuming.Tells message ∷ more) s t = told-tagged tag c more s t
told-tagged tag c (consuming.NoStream stream ∷ more) s t =
    told-tagged tag c more (ending.answered (data_rules.no_stream stream) s) (answered-tagged tag (data_rules.no_stream stream) s t)
told-tagged tag c (consuming.Violates (violations.FragmentOfNoStream stream) ∷ more) s t =
    told-tagged tag c more (data_rules.violated c (violations.FragmentOfNoStream stream) s).left (λ on. absurd (cc))
told-tagged tag c (consuming.Violates violations.Misplaced ∷ more) s t =
    told-tagged tag c more (data_rules.violated c violations.Misplaced s).left (λ on. absurd (cc))
told-tagged tag c (consuming.Violates violations.Differs ∷ more) s t =
    told-tagged tag c more (data_rules.violated c violations.Differs s).left (λ on. absurd (cc))
told-tagged tag c (consuming.Violates violations.TooLong ∷ more) s t =
    told-tagged tag c more (data_rules.violated c violations.TooLong s).left (λ on. absurd (cc))

try-tag : (b : Bool) (x : ℕ) → nat_eq x 0 ≡ b → (if b then 0 else x) ≡ x
try-tag true x e = sym (eq-from x 0 e)
try-tag false x e = refl

some-try : (x u : Try) → Some x ≡ Some u → x ≡ u
some-try x u q = cc

again-chunks : (t x u : Try) → Some x ≡ Some u → x.chunks ≡ t.chunks → t.chunks ≡ u.chunks
again-chunks t x u q e = sym e ∙ ap (λ (y : Try). y.chunks) (some-try x u q)

with-tag : (b : Bool) (a : Association) (control : List ChunkValue) →
    (if b then record a { control = control } else a).own_tag ≡ a.own_tag
with-tag true a control = refl
with-tag false a control = refl

answers-plain : (chunk : ChunkValue) → IsPlain (arriving.answer_to chunk)
answers-plain (packets.InitChunk init) = tt
answers-plain (packets.InitAckChunk init) = tt
answers-plain (packets.CookieEchoChunk octets) = tt
answers-plain packets.CookieAckChunk = tt
answers-plain (packets.DataChunk carried) = tt
answers-plain (packets.SackChunk sack) = tt
answers-plain (packets.HeartbeatChunk information) = tt
answers-plain (packets.HeartbeatAckChunk information) = tt
answers-plain (packets.AbortChunk is_reflected causes) = tt
answers-plain (packets.ShutdownChunk cumulative) = tt
answers-plain packets.ShutdownAckChunk = tt
answers-plain (packets.ErrorChunk causes) = tt
answers-plain (packets.ShutdownCompleteChunk is_reflected) = tt
answers-plain (packets.UnknownChunk kind flags value) = tt
answers-plain (packets.MalformedChunk kind) = tt

-- ---- answers that wait

choice : (b : Bool) (s : State) (a : Association) (control : List ChunkValue) → Alike s (state.with_association s a) →
    Alike s (state.with_association s (record a { control = control })) →
    Alike s (state.with_association s (if b then record a { control = control } else a))
choice true s a control l m = m
choice false s a control l m = l

-- one more, where all else is alike
with-answer : (chunk : ChunkValue) (s : State) (a : Association) → Stands (stage_of s.association.phase) s.association.receiver.cumulative chunk →
    Alike s (state.with_association s a) → Alike s (state.with_association s (ending.with_answer chunk a))
with-answer chunk s a stands l =
    choice (ending.has_place a.control chunk) s a (a.control ++ chunk ∷ []) l
    (record {
      generation = l.generation;
      beginnings = l.beginnings;
      wanted = l.wanted;
      stage = l.stage;
      established = l.established;
      sender = l.sender;
      receiver = l.receiver;
      own_tag = l.own_tag;
      own_first = l.own_first;
      far_tag = l.far_tag;
      peer = l.peer;
      control = λ P h g. each-append P a.control (chunk ∷ []) (l.control P h g) (h chunk stands, tt);
      trying = l.trying;
    })

answer-alike : (chunk : ChunkValue) (s : State) → Stands (stage_of s.association.phase) s.association.receiver.cumulative chunk → Alike s (ending.answered chunk s)
answer-alike chunk s stands = with-answer chunk s s.association stands (itself s)

first-alike : (chunk : ChunkValue) (s : State) → Stands (stage_of s.association.phase) s.association.receiver.cumulative chunk →
    Alike s (state.with_association s (ending.with_answer_first chunk s.association))
first-alike chunk s stands =
    choice (ending.has_place s.association.control chunk) s s.association (chunk ∷ s.association.control) (itself s)
    (record {
      generation = refl;
      beginnings = refl;
      wanted = refl;
      stage = refl;
      established = λ e. e;
      own_tag = refl;
      own_first = refl;
      far_tag = refl;
      peer = refl;
      sender = out-same s.association.sender;
      receiver = in-same s.association.receiver;
      control = λ P h g. (h chunk stands, g);
      trying = λ P h. h;
    })

alike-either : (b : Bool) (s x y : State) → Alike s x → Alike s y → Alike s (if b then x else y)
alike-either true s x y f g = f
alike-either false s x y f g = g

-- ---- shutting down

again-stands : (phase : Phase) (a : Association) → Stands (stage_of phase) a.receiver.cumulative (timers.shutdown_again phase a)
again-stands Closed a = tt
again-stands CookieWait a = tt
again-stands CookieEchoed a = tt
again-stands Established a = tt
again-stands ShutdownPending a = tt
again-stands ShutdownSent a = refl
again-stands ShutdownReceived a = tt
again-stands ShutdownAckSent a = tt

going-on-in : (phase : Phase) (c : Settings) (now : ℕ) (s : State) → s.association.phase ≡ phase →
    Alike s (shutdown.going_on_in phase c now s)
going-on-in ShutdownPending c now s e =
    let a : Association = s.association in
    with-answer (shutdown.shutdown_of a) s
    (record a { t5 = Some (now + 5 * c.bounds.most); phase = ShutdownSent; t2 = Some (now + a.sender.round_trips.timeout) })
    (subst (λ (phase : Phase). Stands (stage_of phase) a.receiver.cumulative (shutdown.shutdown_of a)) (sym e) refl)
    (record { generation = refl; beginnings = refl; wanted = refl; stage = ap stage_of e; established = λ q. absurd (cc); own_tag = refl; own_first = refl; far_tag = refl; peer = refl; sender = record { out = refl; first = refl; went = λ l. l }; receiver = record { streams = refl; partial = refl; cumulative = refl; held = refl }; control = λ P h g. g; trying = λ P h. h })
going-on-in ShutdownReceived c now s e =
    let a : Association = s.association in
    with-answer packets.ShutdownAckChunk s
    (record a { phase = ShutdownAckSent; t2 = Some (now + a.sender.round_trips.timeout) })
    (plain-stands (stage_of a.phase) a.receiver.cumulative packets.ShutdownAckChunk tt)
    (record { generation = refl; beginnings = refl; wanted = refl; stage = ap stage_of e; established = λ q. absurd (cc); own_tag = refl; own_first = refl; far_tag = refl; peer = refl; sender = record { out = refl; first = refl; went = λ l. l }; receiver = record { streams = refl; partial = refl; cumulative = refl; held = refl }; control = λ P h g. g; trying = λ P h. h })
going-on-in Closed c now s e = itself s
going-on-in CookieWait c now s e = itself s
going-on-in CookieEchoed c now s e = itself s
going-on-in Established c now s e = itself s
going-on-in ShutdownSent c now s e = itself s
going-on-in ShutdownAckSent c now s e = itself s

going-on : (c : Settings) (now : ℕ) (s : State) → Alike s (shutdown.going_on c now s)
going-on c now s =
    alike-either (nat_eq (length s.association.sender.out) 0) s (shutdown.going_on_in s.association.phase c now s) s
    (going-on-in s.association.phase c now s refl) (itself s)

from-source : (b : Bool) (s : State) (source : Address) →
    Alike s (if b then s else state.with_association s (record s.association { address = source }))
from-source true s source = itself s
from-source false s source = record { generation = refl; beginnings = refl; wanted = refl; stage = refl; established = λ e. e; own_tag = refl; own_first = refl; far_tag = refl; peer = refl; sender = record { out = refl; first = refl; went = λ l. l }; receiver = record { streams = refl; partial = refl; cumulative = refl; held = refl }; control = λ P h g. g; trying = λ P h. h }

-- ---- heartbeats, and DATA that goes out

beating : (k : Secrets) (now : ℕ) (s : State) → Alike s (timers.beating k now s)
beating k now s =
    let counted : State = record s {
      nonces = s.nonces + 1;
      association = record s.association {
        beat = Some (record { nonce = k.nonce s.nonces; sent = now });
        beat_due = Some (now + s.association.sender.round_trips.timeout);
      };
    } in
    let chunk : ChunkValue = packets.HeartbeatChunk (information_of (k.nonce s.nonces)) in
    let f : Alike s counted = record { generation = refl; beginnings = refl; wanted = refl; stage = refl; established = λ e. e; own_tag = refl; own_first = refl; far_tag = refl; peer = refl; sender = record { out = refl; first = refl; went = λ l. l }; receiver = record { streams = refl; partial = refl; cumulative = refl; held = refl }; control = λ P h g. g; trying = λ P h. h } in
    alike-behind s counted (timers.beating k now s) f (answer-alike chunk counted (plain-stands (stage_of s.association.phase) s.association.receiver.cumulative chunk tt))

emptied : (b : Bool) (now : ℕ) (s : State) →
    Alike s (state.with_association s (record (if b then record s.association { sender = (confirming.all_gone now s.association.sender).left } else s.association) { control = [] }))
emptied true now s = record { generation = refl; beginnings = refl; wanted = refl; stage = refl; established = λ e. e; own_tag = refl; own_first = refl; far_tag = refl; peer = refl; sender = going-same 257 now s.association.sender; receiver = record { streams = refl; partial = refl; cumulative = refl; held = refl }; control = λ P h g. tt; trying = λ P h. h }
emptied false now s = record { generation = refl; beginnings = refl; wanted = refl; stage = refl; established = λ e. e; own_tag = refl; own_first = refl; far_tag = refl; peer = refl; sender = record { out = refl; first = refl; went = λ l. l }; receiver = record { streams = refl; partial = refl; cumulative = refl; held = refl }; control = λ P h g. tt; trying = λ P h. h }

acknowledges : (b : Bool) (t2 : Option ℕ) (s : State) →
    Alike s (state.with_association s (if b then record (data_rules.sacked s.association) { t2 = t2 } else s.association))
acknowledges true t2 s = record { generation = refl; beginnings = refl; wanted = refl; stage = refl; established = λ e. e; own_tag = refl; own_first = refl; far_tag = refl; peer = refl; sender = record { out = refl; first = refl; went = λ l. l }; receiver = record { streams = refl; partial = refl; cumulative = refl; held = refl }; control = λ P h g. g; trying = λ P h. h }
acknowledges false t2 s = itself s

-- ---- packets that go out

bundled-either : (b : Bool) (P : List ChunkValue → Type 0) (xs ys : List (List ChunkValue)) → Each P xs → Each P ys →
    Each P (if b then xs else ys)
bundled-either true P xs ys h g = h
bundled-either false P xs ys h g = g

closed-each : (P : ChunkValue → Type 0) (waiting : List ChunkValue) → Each P waiting → Each (λ (p : List ChunkValue). Each P p) (sending.closed waiting)
closed-each P [] h = tt
closed-each P (chunk ∷ chunks) h = (h, tt)

bundled-each : (P : ChunkValue → Type 0) (chunks waiting : List ChunkValue) (octets : ℕ) → Each P waiting → Each P chunks →
    Each (λ (p : List ChunkValue). Each P p) (sending.bundled waiting octets chunks)
bundled-each P [] waiting octets h g = closed-each P waiting h
bundled-each P (chunk ∷ chunks) waiting octets h g =
    bundled-either (sending.is_some waiting && nat_lt _ (octets + ending.chunk_size chunk)) (λ (p : List ChunkValue). Each P p)
    (waiting ∷ sending.bundled (chunk ∷ []) (_ + ending.chunk_size chunk) chunks)
    (sending.bundled (waiting ++ chunk ∷ []) (octets + ending.chunk_size chunk) chunks)
    (h, bundled-each P chunks (chunk ∷ []) (_ + ending.chunk_size chunk) (g.0, tt) g.1)
    (bundled-each P chunks (waiting ++ chunk ∷ []) (octets + ending.chunk_size chunk) (each-append P waiting (chunk ∷ []) h (g.0, tt)) g.1)

data-each : (mark : ℕ) (e : End) (tag : ℕ) (chunks : List DataValue) → Each (IsData (since mark e) e tag) chunks →
    Each (Bundles (since mark e) e tag) (map packets.DataChunk chunks)
data-each mark e tag [] h = tt
data-each mark e tag (chunk ∷ chunks) h = (h.0, data-each mark e tag chunks h.1)

data-if : (b : Bool) (mark : ℕ) (e : End) (tag : ℕ) (chunks : List DataValue) → (b ≡ true → Each (IsData (since mark e) e tag) chunks) →
    Each (Bundles (since mark e) e tag) (if b then map packets.DataChunk chunks else [])
data-if true mark e tag chunks h = data-each mark e tag chunks (h refl)
data-if false mark e tag chunks h = tt

acks-in : (phase : Phase) (mark : ℕ) (e : End) (tag : ℕ) (a : Association) → IsAck (since mark e) e tag a.receiver.cumulative →
    Each (Bundles (since mark e) e tag) (sending.acknowledgement_in phase a)
acks-in Closed mark e tag a h = (h, tt)
acks-in CookieWait mark e tag a h = (h, tt)
acks-in CookieEchoed mark e tag a h = (h, tt)
acks-in Established mark e tag a h = (h, tt)
acks-in ShutdownPending mark e tag a h = (h, tt)
acks-in ShutdownSent mark e tag a h = (h, (h, tt))
acks-in ShutdownReceived mark e tag a h = (h, tt)
acks-in ShutdownAckSent mark e tag a h = (h, tt)

acks-if : (b : Bool) (mark : ℕ) (e : End) (tag : ℕ) (a : Association) → (b ≡ true → IsAck (since mark e) e tag a.receiver.cumulative) →
    Each (Bundles (since mark e) e tag) (if b then sending.acknowledgement_in a.phase a else [])
acks-if true mark e tag a h = acks-in a.phase mark e tag a (h refl)
acks-if false mark e tag a h = tt

takes-data-there : (phase : Phase) → data_rules.takes_data phase ≡ true → stage_of phase ≡ There
takes-data-there Closed e = absurd (cc)
takes-data-there CookieWait e = absurd (cc)
takes-data-there CookieEchoed e = absurd (cc)
takes-data-there Established e = refl
takes-data-there ShutdownPending e = refl
takes-data-there ShutdownSent e = refl
takes-data-there ShutdownReceived e = absurd (cc)
takes-data-there ShutdownAckSent e = absurd (cc)

takes-sack-there : (phase : Phase) → data_rules.takes_sack phase ≡ true → stage_of phase ≡ There
takes-sack-there Closed e = absurd (cc)
takes-sack-there CookieWait e = absurd (cc)
takes-sack-there CookieEchoed e = absurd (cc)
takes-sack-there Established e = refl
takes-sack-there ShutdownPending e = refl
takes-sack-there ShutdownSent e = absurd (cc)
takes-sack-there ShutdownReceived e = refl
takes-sack-there ShutdownAckSent e = absurd (cc)

-- the next tag is this one
record IsNext (own : Secrets) (many tag : ℕ) : Type 0 where
  beginning : Beginning
  drawn : own.beginning many ≡ Some beginning
  same : beginning.tag ≡ tag

next-is : (own : Secrets) (many tag : ℕ) (b : Option Beginning) → own.beginning many ≡ b → opening.is_next b tag ≡ true → IsNext own many tag
next-is own many tag None e h = absurd (cc)
next-is own many tag (Some b) e h = record { beginning = b; drawn = e; same = sym (eq-from tag b.tag h) }

-- ---- the pass

module _ (own far : Secrets) (mark : ℕ) (other : End) (good : AreGood own) where
  abbrev Can : State → Done → Type 0
  Can s d = Goes own far mark other s d

  -- a rule, and then another
  next : (s : State) (d : Done) (rule : State → Done) → Can s d → Can d.left (rule d.left) → Can s (followed_by d rule)
  next s d rule t h = also own far mark other s d rule t h

  -- a test
  either : (b : Bool) (s : State) (d e : Done) → Can s d → Can s e → Can s (if b then d else e)
  either true s d e t u = t
  either false s d e t u = u

  either-so : (b : Bool) (s : State) (d e : Done) → (b ≡ true → Can s d) → (b ≡ false → Can s e) → Can s (if b then d else e)
  either-so true s d e t u = t refl
  either-so false s d e t u = u refl

  plainly : (s left : State) → Alike s left → Can s (silent left)
  plainly s left a = alike-goes own far mark other s left [] a (λ e sound h. tt)

  stays : (s : State) → Can s (silent s)
  stays s = plainly s s (itself s)

  -- a rule at a state that is as this one
  moved : (s left : State) (d : Done) → Alike s left → Can left d → Can s d
  moved s left d a t = next s (silent left) (λ x. d) (plainly s left a) t

  ended : (c : Settings) (why : Loss) (chunks : List ChunkValue) (s : State) → Each IsPlain chunks → Can s (ending.ended_with c why chunks s)
  ended c why chunks s p = ended-goes own far mark other c why chunks s p

  ended-alone : (c : Settings) (why : Loss) (chunks : List ChunkValue) (s : State) → Each IsPlain chunks → Can s (ending.ended_alone c why chunks s)
  ended-alone c why chunks s p =
      moved s (ending.without_answers s) (ending.ended_alone c why chunks s)
      (record { generation = refl; beginnings = refl; wanted = refl; stage = refl; established = λ q. q; own_tag = refl; own_first = refl; far_tag = refl; peer = refl; sender = record { out = refl; first = refl; went = λ l. l }; receiver = record { streams = refl; partial = refl; cumulative = refl; held = refl }; control = λ P h g. tt; trying = λ P h. h })
      (ended c why chunks (ending.without_answers s) p)

  putting : (c : Settings) (source : Address) (tag : ℕ) (chunks : List ChunkValue) (s : State) → Each IsPlain chunks →
      Can s (state.put c source tag chunks s)
  putting c source tag chunks s p = puts own far mark other c source tag chunks s p

  -- ---- opening

  begun : (b : Option Beginning) (c : Settings) (now failures : ℕ) (address : Address) (s : State) → own.beginning s.beginnings ≡ b →
      stage_of s.association.phase ≡ Off → Starts own far mark other s (opening.begun_with c now failures address b s)
  begun None c now failures address s is off = loosely own far mark other s (ending.ended c losses.NoTag s) (ended c losses.NoTag [] s tt).result
  begun (Some b) c now failures address s is off = begun-goes own far mark other good c now failures address b s is off

  begun-anew : (b : Option Beginning) (c : Settings) (now failures : ℕ) (address : Address) (s : State) → own.beginning s.beginnings ≡ b →
      stage_of s.association.phase ≡ Echoing → Can s (opening.begun_anew_with c now failures address b s)
  begun-anew None c now failures address s is echoing = ended c losses.NoTag [] s tt
  begun-anew (Some b) c now failures address s is echoing = renewed-goes own far mark other good c now failures address b s is echoing

  asked : (b : Bool) (s : State) (d e : Done) → (b ≡ true → Starts own far mark other s d) → (b ≡ false → Starts own far mark other s e) →
      Starts own far mark other s (if b then d else e)
  asked true s d e t u = t refl
  asked false s d e t u = u refl

  opened-by-user : (c : Settings) (now : ℕ) (is_active : Bool) (s : State) → Starts own far mark other s (opening.opening c own now is_active s)
  opened-by-user c now is_active s =
      let try : Done = opening.begun c own now 0 c.address s in
      let wait : Done = silent (record s { is_wanted = true }) in
      asked (opening.may_open is_active s) s (if is_active then try else wait) (silent s)
      (λ e.
      let off : stage_of s.association.phase ≡ Off =
      closed-off s.association.phase (both-true (opening.is_closed s.association.phase) (is_active || not s.is_wanted) e).0 in
      asked is_active s try wait (λ f. begun (own.beginning s.beginnings) c now 0 c.address s refl off)
      (λ f. loosely own far mark other s wait (wants-goes own far mark other s off).result))
      (λ e. loosely own far mark other s (silent s) (stays s).result)

  tried : (c : Settings) (now : ℕ) (t : Try) (s : State) → s.association.trying ≡ Some t → Can s (opening.tried_again c now t s)
  tried c now t s e =
      let a : Association = s.association in
      let waited : State = state.with_association s (record a { sender = record a.sender { round_trips = backed_off a.sender.round_trips } }) in
      let again : Done = opening.trying_with c now (t.failures + 1) t.chunks waited in
      either (nat_lt c.init_retransmissions (t.failures + 1)) s (ending.ended c losses.NoAnswer s) again
      (ended c losses.NoAnswer [] s tt)
      (alike-goes own far mark other s again.left again.sent
      (record { generation = refl; beginnings = refl; wanted = refl; stage = refl; established = λ e. e; own_tag = refl; own_first = refl; far_tag = refl; peer = refl; sender = record { out = refl; first = refl; went = λ l. l }; receiver = record { streams = refl; partial = refl; cumulative = refl; held = refl }; control = λ P h g. g; trying = λ P h u q. subst P (again-chunks t _ u q refl) (h t e) })
      (λ f sound h. (never-any own far (since mark f) f _ t.chunks (subst (λ (tag : ℕ). IsSaid own far never f tag t.chunks) (sym (try-tag (nat_eq a.far_tag 0) a.far_tag refl)) (h.trying t e)), tt)))

  -- ---- INIT comes

  answered-anew : (b : Option Beginning) (c : Settings) (now : ℕ) (source : Address) (tag : ℕ) (init : InitValue) (s : State) →
      own.beginning s.beginnings ≡ b → Begins far own (young other) other tag (packets.InitChunk init) →
      Can s (opening.answered_anew_with c own now source init b s)
  answered-anew None c now source tag init s is came = stays s
  answered-anew (Some b) c now source tag init s is came = answered-anew-goes own far mark other good c now source tag init b s is came

  answered-alike : (c : Settings) (now : ℕ) (source : Address) (tag : ℕ) (init : InitValue) (s : State) →
      (stage_of s.association.phase ≡ Waiting) ⊎ (stage_of s.association.phase ≡ Echoing) →
      Begins far own (young other) other tag (packets.InitChunk init) → Can s (opening.answered_alike c own now source init s)
  answered-alike c now source tag init s q came = answered-alike-goes own far mark other c now source tag init s q came

  answered-echoed : (c : Settings) (now : ℕ) (source : Address) (tag : ℕ) (init : InitValue) (s : State) →
      stage_of s.association.phase ≡ Echoing → Begins far own (young other) other tag (packets.InitChunk init) →
      Can s (opening.answered_echoed c own now source init s)
  answered-echoed c now source tag init s echoing came =
      either (nat_eq init.tag s.association.far_tag) s (opening.answered_alike c own now source init s)
      (opening.answered_anew c own now source init s)
      (answered-alike c now source tag init s (inr echoing) came)
      (answered-anew (own.beginning s.beginnings) c now source tag init s refl came)

  init-in : (phase : Phase) (c : Settings) (now : ℕ) (source : Address) (tag : ℕ) (init : InitValue) (s : State) →
      s.association.phase ≡ phase → Begins far own (young other) other tag (packets.InitChunk init) →
      Can s (opening.init_in phase c own now source init s)
  init-in Closed c now source tag init s e came =
      either s.is_wanted s (opening.answered_anew c own now source init s) (silent s)
      (answered-anew (own.beginning s.beginnings) c now source tag init s refl came) (stays s)
  init-in CookieWait c now source tag init s e came = answered-alike c now source tag init s (inl (ap stage_of e)) came
  init-in CookieEchoed c now source tag init s e came = answered-echoed c now source tag init s (ap stage_of e) came
  init-in Established c now source tag init s e came = answered-anew (own.beginning s.beginnings) c now source tag init s refl came
  init-in ShutdownPending c now source tag init s e came = answered-anew (own.beginning s.beginnings) c now source tag init s refl came
  init-in ShutdownSent c now source tag init s e came = answered-anew (own.beginning s.beginnings) c now source tag init s refl came
  init-in ShutdownReceived c now source tag init s e came = answered-anew (own.beginning s.beginnings) c now source tag init s refl came
  init-in ShutdownAckSent c now source tag init s e came =
      putting c s.association.address s.association.far_tag (packets.ShutdownAckChunk ∷ []) s (tt, tt)

  judged-init : (name : Option (List ℕ)) (c : Settings) (now : ℕ) (source : Address) (tag : ℕ) (init : InitValue) (s : State) →
      Begins far own (young other) other tag (packets.InitChunk init) → Can s (opening.judged_init name c own now source init s)
  judged-init (Some name) c now source tag init s came =
      putting c source init.tag (ending.abort_for (opening.no_address name) ∷ []) s (tt, tt)
  judged-init None c now source tag init s came =
      let invalid : Done = state.put c source init.tag (ending.abort_for InvalidParameter ∷ []) s in
      let taken : Done = opening.init_in s.association.phase c own now source init s in
      either (opening.has_few_streams init) s invalid taken
      (putting c source init.tag (ending.abort_for InvalidParameter ∷ []) s (tt, tt))
      (init-in s.association.phase c now source tag init s refl came)

  heard-init : (c : Settings) (now : ℕ) (source : Address) (tag : ℕ) (init : InitValue) (s : State) →
      Begins far own (young other) other tag (packets.InitChunk init) → Can s (opening.heard_init c own now source init s)
  heard-init c now source tag init s came =
      either (nat_eq init.tag 0) s (silent s) (opening.judged_init (host_name_in init.parameters) c own now source init s)
      (stays s) (judged-init (host_name_in init.parameters) c now source tag init s came)

  -- ---- INIT ACK comes

  -- a rule at a chunk of a packet, whose tag is this one
  record Hears (tag : ℕ) (s : State) (d : Done) : Type 0 where
    result : Does own far mark other s d
    tagged : IsTagged tag d.left

  hearing : (tag : ℕ) (s : State) (d : Done) → IsTagged tag s → Can s d → Hears tag s d
  hearing tag s d t g = record { result = g.result; tagged = g.tagged tag t }

  hears-either : (b : Bool) (tag : ℕ) (s : State) (d e : Done) → Hears tag s d → Hears tag s e → Hears tag s (if b then d else e)
  hears-either true tag s d e t u = t
  hears-either false tag s d e t u = u

  hears-either-so : (b : Bool) (tag : ℕ) (s : State) (d e : Done) → (b ≡ true → Hears tag s d) → (b ≡ false → Hears tag s e) →
      Hears tag s (if b then d else e)
  hears-either-so true tag s d e t u = t refl
  hears-either-so false tag s d e t u = u refl

  refused : (c : Settings) (init : InitValue) (s : State) → Can s (opening.refused c init s)
  refused c init s =
      let told : Done = state.put c s.association.address init.tag (ending.abort_for InvalidParameter ∷ []) s in
      let rule : State → Done = λ left. ending.ended c losses.BadInitAck left in
      either (nat_eq init.tag 0) s (ending.ended c losses.BadInitAck s) (followed_by told rule) (ended c losses.BadInitAck [] s tt)
      (next s told rule (putting c s.association.address init.tag (ending.abort_for InvalidParameter ∷ []) s (tt, tt))
      (ended c losses.BadInitAck [] told.left tt))

  echoed-if : (c : Settings) (now tag : ℕ) (init : InitValue) (t : Option Try) (octets : Option (List ℕ)) (s : State) →
      stage_of s.association.phase ≡ Waiting → cookie_in init.parameters ≡ octets → s.association.own_tag ≡ tag → IsTagged tag s →
      Begins far own (young other) other tag (packets.InitAckChunk init) → Hears tag s (opening.echoed_if c now init t octets s)
  echoed-if c now tag init (Some t) (Some octets) s waiting inside same tagged came =
      hears-either (opening.is_usable init && opening.fits_echo octets) tag s (opening.echoed c now t.failures init octets s) (opening.refused c init s)
      (record { result = echoed-goes own far mark other c now t.failures init octets s waiting inside tag same came; tagged = λ on. same })
      (hearing tag s (opening.refused c init s) tagged (refused c init s))
  echoed-if c now tag init None (Some octets) s waiting inside same tagged came = hearing tag s (silent s) tagged (stays s)
  echoed-if c now tag init None None s waiting inside same tagged came = hearing tag s (silent s) tagged (stays s)
  echoed-if c now tag init (Some t) None s waiting inside same tagged came = hearing tag s (opening.refused c init s) tagged (refused c init s)

  init-ack-if : (b : Bool) (c : Settings) (now tag : ℕ) (init : InitValue) (s : State) →
      opening.is_waiting s.association.phase ≡ b → s.association.own_tag ≡ tag → IsTagged tag s →
      Begins far own (young other) other tag (packets.InitAckChunk init) →
      Hears tag s (if b then opening.echoed_if c now init s.association.trying (cookie_in init.parameters) s else silent s)
  init-ack-if true c now tag init s e same tagged came =
      echoed-if c now tag init s.association.trying (cookie_in init.parameters) s (waiting-stage s.association.phase e) refl same tagged came
  init-ack-if false c now tag init s e same tagged came = hearing tag s (silent s) tagged (stays s)

  -- ---- COOKIE ACK comes

  heard-cookie-ack : (c : Settings) (now tag : ℕ) (s : State) → IsTagged tag s → Contains other.cookie_acks tag →
      Can s (opening.heard_cookie_ack c now s)
  heard-cookie-ack c now tag s tagged came =
      let a : Association = s.association in
      let up : Done = opening.opened c now a.own_tag a.far_tag a.own_first a.peer a.address s in
      either-so (opening.is_echoed a.phase) s up (silent s)
      (λ e.
      let echoing : stage_of a.phase ≡ Echoing = echoed-stage a.phase e in
      opened-by-ack-goes own far mark other c now s echoing tag (tagged (ap hears echoing)) came)
      (λ e. stays s)

  -- ---- COOKIE ECHO comes

  answered : (chunk : ChunkValue) (s : State) → IsPlain chunk → Can s (silent (ending.answered chunk s))
  answered chunk s p = plainly s (ending.answered chunk s) (answer-alike chunk s (plain-stands (stage_of s.association.phase) s.association.receiver.cumulative chunk p))

  -- what a cookie does, and that the chunks after it have the association's tag
  record Echoes (tag : ℕ) (s : State) (x : opening.Echo) : Type 0 where
    result : Does own far mark other s x.does
    tag_is : x.goes_on ≡ true → x.does.left.association.own_tag ≡ tag

  echo-stops : (tag : ℕ) (s : State) (d : Done) → Can s d → Echoes tag s (opening.stops d)
  echo-stops tag s d g = record { result = g.result; tag_is = λ e. absurd (cc) }

  echo-either-so : (b : Bool) (tag : ℕ) (s : State) (x y : opening.Echo) → (b ≡ true → Echoes tag s x) → (b ≡ false → Echoes tag s y) →
      Echoes tag s (if b then x else y)
  echo-either-so true tag s x y t u = t refl
  echo-either-so false tag s x y t u = u refl

  opened-by : (c : Settings) (now tag : ℕ) (source : Address) (cookie : Cookie) (s : State) → cookie.own_first_tsn < modulus → cookie.own_tag ≡ tag →
      cookie.generation ≡ s.generation → Contains other.echoes (cookie_of cookie) →
      ((e : End) → Shows own far mark e s → MayOpenBy own s.beginnings e cookie) →
      Echoes tag s (opening.opened_by c now source cookie s)
  opened-by c now tag source cookie s fits same present came may =
      let peer : state.Peer = record { first = cookie.peer_first_tsn; window = cookie.peer_window } in
      let up : Done = opening.opened c now cookie.own_tag cookie.peer_tag cookie.own_first_tsn peer source s in
      let rule : State → Done = λ left. silent (ending.answered packets.CookieAckChunk left) in
      record {
        result = also-does own far mark other s up rule (opened-by-cookie-does own far mark other c now source cookie s present fits came may)
            (plainly up.left (ending.answered packets.CookieAckChunk up.left) (answer-alike packets.CookieAckChunk up.left tt)).result;
        tag_is = λ e. with-tag (ending.has_place [] packets.CookieAckChunk) up.left.association (packets.CookieAckChunk ∷ []) ∙ same;
      }

  -- the next tag is drawn
  counted : (e : End) (s : State) → Shows own far mark e s → Shows own far mark e (record s { beginnings = s.beginnings + 1 })
  counted e s h = record {
    generation = h.generation;
    stage = h.stage;
    offered = λ n i. offered-on own s.beginnings (s.beginnings + 1) n (omega arith) (h.offered n i);
    drawn = all-drawn-on own s.beginnings (s.beginnings + 1) e.phase e.echoes (map own_of e.epochs) (omega arith) h.drawn;
    control = h.control;
    trying = h.trying;
    later = h.later;
  }

  echo-without-try : (c : Settings) (now tag : ℕ) (source : Address) (cookie : Cookie) (s : State) →
      s.association.phase ≡ Closed → cookie.own_first_tsn < modulus → cookie.own_tag ≡ tag → cookie.generation ≡ s.generation →
      Contains other.echoes (cookie_of cookie) → Echoes tag s (opening.echo_without_try c own now source cookie s)
  echo-without-try c now tag source cookie s p fits same present came =
      let drawn : State = opening.drawn_next s in
      let opens : opening.Echo = opening.opened_by c now source cookie drawn in
      let next-one : Option Beginning = own.beginning s.beginnings in
      echo-either-so (s.is_wanted && opening.is_next next-one cookie.own_tag) tag s opens (opening.stops (silent s))
      (λ w.
      let parts = both-true s.is_wanted (opening.is_next next-one cookie.own_tag) w in
      let n : IsNext own s.beginnings cookie.own_tag = next-is own s.beginnings cookie.own_tag next-one refl parts.1 in
      let g : Echoes tag drawn opens =
      opened-by c now tag source cookie drawn fits same present came
      (λ e h.
      let was : IsOff e s.is_wanted = subst (λ (phase : Phase). IsIn (stage_of phase) e s.is_wanted s.association) p h.stage in
      record {
        wanted = was.wants ∙ parts.0;
        may = subst (λ (phase : ends.Phase). MayOpen phase (cookie_of cookie)) (sym was.phase) tt;
        drawn = record { place = s.beginnings; before = omega arith; beginning = n.beginning; drawn = n.drawn; same = n.same };
      }) in
      record { result = λ e sound h. g.result e sound (counted e s h); tag_is = g.tag_is })
      (λ w. echo-stops tag s (silent s) (stays s))

  acknowledged-again : (tag : ℕ) (s : State) → stage_of s.association.phase ≡ There → s.association.own_tag ≡ tag →
      Echoes tag s (opening.acknowledged_again s)
  acknowledged-again tag s there same =
      let stands : Stands (stage_of s.association.phase) s.association.receiver.cumulative packets.CookieAckChunk =
      subst (λ (stage : Stage). Stands stage s.association.receiver.cumulative packets.CookieAckChunk) (sym there) tt in
      record {
        result = (plainly s (state.with_association s (ending.with_answer_first packets.CookieAckChunk s.association))
            (first-alike packets.CookieAckChunk s stands)).result;
        tag_is = λ e. with-tag (ending.has_place s.association.control packets.CookieAckChunk) s.association (packets.CookieAckChunk ∷ s.association.control) ∙ same;
      }

  stale : (c : Settings) (source : Address) (microseconds : ℕ) (cookie : Cookie) (s : State) →
      Can s (opening.stale c source microseconds cookie s)
  stale c source microseconds cookie s =
      putting c source cookie.peer_tag (packets.ErrorChunk (cause_item (StaleCookie microseconds) ∷ []) ∷ []) s (tt, tt)

  restart : (c : Settings) (source : Address) (cookie : Cookie) (s : State) →
      Can s (followed_by (ending.ended c losses.Restart s) (λ left. opening.stale c source 1 cookie left))
  restart c source cookie s =
      next s (ending.ended c losses.Restart s) (λ left. opening.stale c source 1 cookie left) (ended c losses.Restart [] s tt)
      (stale c source 1 cookie (ending.ended c losses.Restart s).left)

  restarted : (phase : Phase) (c : Settings) (source : Address) (cookie : Cookie) (s : State) →
      Can s (opening.restarted phase c source cookie s)
  restarted ShutdownAckSent c source cookie s =
      let again : Done = state.put c s.association.address s.association.far_tag (packets.ShutdownAckChunk ∷ []) s in
      let error : List ChunkValue = packets.ErrorChunk (cause_item CookieInShutdown ∷ []) ∷ [] in
      next s again (λ left. state.put c source cookie.peer_tag error left)
      (putting c s.association.address s.association.far_tag (packets.ShutdownAckChunk ∷ []) s (tt, tt))
      (putting c source cookie.peer_tag error s (tt, tt))
  restarted Closed c source cookie s = restart c source cookie s
  restarted CookieWait c source cookie s = restart c source cookie s
  restarted CookieEchoed c source cookie s = restart c source cookie s
  restarted Established c source cookie s = restart c source cookie s
  restarted ShutdownPending c source cookie s = restart c source cookie s
  restarted ShutdownSent c source cookie s = restart c source cookie s
  restarted ShutdownReceived c source cookie s = restart c source cookie s

  abbrev nothing : State → opening.Echo
  nothing s = opening.stops (silent s)

  echo-in : (phase : Phase) (c : Settings) (tag : ℕ) (source : Address) (cookie : Cookie) (s : State) →
      Echoes tag s (opening.echo_in_association phase c source cookie s)
  echo-in phase c tag source cookie s =
      let a : Association = s.association in
      echo-either-so (not (opening.is_own cookie a) && not (opening.is_far cookie a) && opening.is_tied cookie a) tag s
      (opening.stops (opening.restarted phase c source cookie s)) (nothing s)
      (λ e. echo-stops tag s (opening.restarted phase c source cookie s) (restarted phase c source cookie s))
      (λ e. echo-stops tag s (silent s) (stays s))

  given-up : (c : Settings) (source : Address) (cookie : Cookie) (s : State) → stage_of s.association.phase ≡ Echoing →
      Can s (opening.given_up c source cookie s)
  given-up c source cookie s echoing =
      let left : State = record s { generation = s.generation + 1; association = no_association c } in
      next s (silent left) (λ x. opening.stale c source 1 cookie x) (given-up-goes own far mark other c s echoing)
      (stale c source 1 cookie left)

  try-drawn : (phase : ends.Phase) (e : End) (a : Association) (many : ℕ) → e.phase ≡ phase → IsTrying phase (own_name a) →
      AreDrawn own many e.phase e.echoes (map own_of e.epochs) → IsDrawn own many a.own_tag
  try-drawn phase e a many is t d = d.tried (own_name a) (subst (λ (p : ends.Phase). IsTrying p (own_name a)) (sym is) t)

  echo-in-try : (c : Settings) (now tag : ℕ) (source : Address) (cookie : Cookie) (s : State) →
      s.association.phase ≡ CookieEchoed → cookie.own_first_tsn < modulus → cookie.own_tag ≡ tag → cookie.generation ≡ s.generation →
      Contains other.echoes (cookie_of cookie) → Echoes tag s (opening.echo_in_try c now source cookie s)
  echo-in-try c now tag source cookie s p fits same present came =
      let a : Association = s.association in
      let gives-up : opening.Echo = opening.stops (opening.given_up c source cookie s) in
      echo-either-so (opening.is_own cookie a && opening.is_far cookie a) tag s (opening.opened_by c now source cookie s) gives-up
      (λ w. opened-by c now tag source cookie s fits same present came
      (λ e h.
      let was : IsEchoing e s.is_wanted a = subst (λ (phase : Phase). IsIn (stage_of phase) e s.is_wanted a) p h.stage in
      let parts = both-true (opening.is_own cookie a) (opening.is_far cookie a) w in
      let own-is : cookie.own_tag ≡ a.own_tag = eq-from cookie.own_tag a.own_tag parts.0 in
      record {
        wanted = was.wants;
        may = subst (λ (phase : ends.Phase). MayOpen phase (cookie_of cookie)) (sym was.phase) (own-is, eq-from cookie.peer_tag a.far_tag parts.1);
        drawn = subst (IsDrawn own s.beginnings) (sym own-is) (try-drawn (ends.CookieEchoed (own_name a) (far_name a)) e a s.beginnings was.phase refl h.drawn);
      }))
      (λ w. echo-stops tag s (opening.given_up c source cookie s) (given-up c source cookie s (ap stage_of p)))

  good-echo : (phase : Phase) (c : Settings) (now tag : ℕ) (source : Address) (cookie : Cookie) (s : State) →
      s.association.phase ≡ phase → cookie.own_first_tsn < modulus → cookie.own_tag ≡ tag → cookie.generation ≡ s.generation →
      Contains other.echoes (cookie_of cookie) → Echoes tag s (opening.good_echo_in phase c own now source cookie s)
  good-echo Closed c now tag source cookie s p fits same present came =
      echo-without-try c now tag source cookie s p fits same present came
  good-echo CookieWait c now tag source cookie s p fits same present came =
      let a : Association = s.association in
      echo-either-so (opening.is_own cookie a) tag s (opening.opened_by c now source cookie s) (nothing s)
      (λ w. opened-by c now tag source cookie s fits same present came
      (λ e h.
      let was : IsWaiting e s.is_wanted a = subst (λ (phase : Phase). IsIn (stage_of phase) e s.is_wanted a) p h.stage in
      let own-is : cookie.own_tag ≡ a.own_tag = eq-from cookie.own_tag a.own_tag w in
      record {
        wanted = was.wants;
        may = subst (λ (phase : ends.Phase). MayOpen phase (cookie_of cookie)) (sym was.phase) own-is;
        drawn = subst (IsDrawn own s.beginnings) (sym own-is) (try-drawn (ends.CookieWait (own_name a)) e a s.beginnings was.phase refl h.drawn);
      }))
      (λ w. echo-stops tag s (silent s) (stays s))
  good-echo CookieEchoed c now tag source cookie s p fits same present came = echo-in-try c now tag source cookie s p fits same present came
  good-echo Established c now tag source cookie s p fits same present came = echo-in Established c tag source cookie s
  good-echo ShutdownPending c now tag source cookie s p fits same present came = echo-in ShutdownPending c tag source cookie s
  good-echo ShutdownSent c now tag source cookie s p fits same present came = echo-in ShutdownSent c tag source cookie s
  good-echo ShutdownReceived c now tag source cookie s p fits same present came = echo-in ShutdownReceived c tag source cookie s
  good-echo ShutdownAckSent c now tag source cookie s p fits same present came = echo-in ShutdownAckSent c tag source cookie s

  heard-cookie : (c : Settings) (now tag : ℕ) (source : Address) (cookie : Cookie) (s : State) → cookie.own_first_tsn < modulus → cookie.own_tag ≡ tag →
      Contains other.echoes (cookie_of cookie) → Echoes tag s (opening.heard_cookie c own now source cookie s)
  heard-cookie c now tag source cookie s fits same came =
      let a : Association = s.association in
      let good-one : opening.Echo = opening.good_echo_in a.phase c own now source cookie s in
      let old : opening.Echo = opening.stops (opening.stale c source 1 cookie s) in
      let late : opening.Echo = opening.stops (opening.stale c source (opening.staleness now cookie) cookie s) in
      let fresh : opening.Echo = if nat_eq cookie.generation s.generation then good-one else old in
      echo-either-so (opening.is_there a.phase && opening.is_own cookie a && opening.is_far cookie a) tag s
      (opening.acknowledged_again s) (if nat_lt cookie.life (now - cookie.made) then late else fresh)
      (λ e.
      let outer = both-true (opening.is_there a.phase && opening.is_own cookie a) (opening.is_far cookie a) e in
      let parts = both-true (opening.is_there a.phase) (opening.is_own cookie a) outer.0 in
      acknowledged-again tag s (there-stage a.phase parts.0) (sym (eq-from cookie.own_tag a.own_tag parts.1) ∙ same))
      (λ e. echo-either-so (nat_lt cookie.life (now - cookie.made)) tag s late fresh
      (λ f. echo-stops tag s (opening.stale c source (opening.staleness now cookie) cookie s) (stale c source (opening.staleness now cookie) cookie s))
      (λ f. echo-either-so (nat_eq cookie.generation s.generation) tag s good-one old
      (λ g. good-echo a.phase c now tag source cookie s refl fits same (eq-from cookie.generation s.generation g) came)
      (λ g. echo-stops tag s (opening.stale c source 1 cookie s) (stale c source 1 cookie s))))

  -- what was signed opens as itself
  is-signed : (octets : List ℕ) (cookie : Cookie) → own.cookie_in octets ≡ Some cookie → IsEcho own other octets →
      Contains other.echoes (cookie_of cookie)
  is-signed octets cookie e i =
      let same : cookie ≡ i.cookie =
      good.opens i.cookie cookie (subst (λ (x : List ℕ). own.cookie_in x ≡ Some cookie) i.signed e) in
      subst (λ (x : Cookie). Contains other.echoes (cookie_of x)) (sym same) i.there

  heard-echo : (found : Option Cookie) (c : Settings) (now tag : ℕ) (source : Address) (octets : List ℕ) (s : State) →
      own.cookie_in octets ≡ found → IsEcho own other octets → Echoes tag s (opening.heard_echo_of found c own now tag source s)
  heard-echo None c now tag source octets s e came = echo-stops tag s (silent s) (stays s)
  heard-echo (Some cookie) c now tag source octets s e came =
      echo-either-so (nat_eq cookie.own_tag tag && nat_eq cookie.peer_port c.far_port) tag s
      (opening.heard_cookie c own now source cookie s) (nothing s)
      (λ w. heard-cookie c now tag source cookie s (good.cookies_fit octets cookie e)
      (eq-from cookie.own_tag tag (both-true (nat_eq cookie.own_tag tag) (nat_eq cookie.peer_port c.far_port) w).0) (is-signed octets cookie e came))
      (λ w. echo-stops tag s (silent s) (stays s))

  -- ---- ERROR comes

  begun-after-stale : (c : Settings) (now : ℕ) (t : Option Try) (s : State) → stage_of s.association.phase ≡ Echoing →
      Can s (opening.begun_after_stale c own now t s)
  begun-after-stale c now None s echoing = stays s
  begun-after-stale c now (Some t) s echoing =
      either (nat_lt c.init_retransmissions (t.failures + 1)) s (ending.ended c losses.StaleCookie s)
      (opening.begun_anew c own now (t.failures + 1) c.address s)
      (ended c losses.StaleCookie [] s tt)
      (begun-anew (own.beginning s.beginnings) c now (t.failures + 1) c.address s refl echoing)

  heard-error : (c : Settings) (now : ℕ) (causes : List ItemValue) (s : State) → Can s (opening.heard_error c own now causes s)
  heard-error c now causes s =
      let anew : Done = opening.begun_after_stale c own now s.association.trying s in
      either-so (opening.is_echoed s.association.phase && has_stale_cookie causes) s anew (silent s)
      (λ e. begun-after-stale c now s.association.trying s
      (echoed-stage s.association.phase (both-true (opening.is_echoed s.association.phase) (has_stale_cookie causes) e).0))
      (λ e. stays s)

  -- ---- shutting down

  abort-tells : (c : Settings) (s : State) → Can s (ending.abort c s)
  abort-tells c s = ended c losses.Local (ending.abort_for EndedByUser ∷ []) s (tt, tt)

  aborted : (c : Settings) (why : Loss) (cause : CauseValue) (s : State) → Can s (ending.aborted c why cause s)
  aborted c why cause s = ended c why (ending.abort_for cause ∷ []) s (tt, tt)

  shutdown-in : (phase : Phase) (c : Settings) (now : ℕ) (s : State) → s.association.phase ≡ phase →
      Can s (shutdown.shutdown_in phase c now s)
  shutdown-in Closed c now s e = abort-tells c s
  shutdown-in CookieWait c now s e = abort-tells c s
  shutdown-in CookieEchoed c now s e = abort-tells c s
  shutdown-in Established c now s e =
      let pending : State = state.with_association s (record s.association { phase = ShutdownPending }) in
      let f : Alike s pending = record { generation = refl; beginnings = refl; wanted = refl; stage = ap stage_of e; established = λ q. absurd (cc); own_tag = refl; own_first = refl; far_tag = refl; peer = refl; sender = record { out = refl; first = refl; went = λ l. l }; receiver = record { streams = refl; partial = refl; cumulative = refl; held = refl }; control = λ P h g. g; trying = λ P h. h } in
      plainly s (shutdown.going_on c now pending) (alike-behind s pending (shutdown.going_on c now pending) f (going-on c now pending))
  shutdown-in ShutdownPending c now s e = stays s
  shutdown-in ShutdownSent c now s e = stays s
  shutdown-in ShutdownReceived c now s e = stays s
  shutdown-in ShutdownAckSent c now s e = stays s

  -- the peer shuts down: the association is there until it ends, but the user was told that it is over
  told-none : (lists : List (List ends.Message)) (up : Bool) → told_by lists (if up then Down losses.Shutdown ∷ [] else []) ≡ lists
  told-none lists true = refl
  told-none lists false = refl

  given-none : (lists : List (List ends.Message)) (up : Bool) → opened_by lists (if up then Down losses.Shutdown ∷ [] else []) ≡ lists
  given-none lists true = refl
  given-none lists false = refl

  shutdown-does : (c : Settings) (now : ℕ) (s : State) → stage_of s.association.phase ≡ There →
      Does own far mark other s (shutdown.then_going_on c now (shutdown.shutdown_received s))
  shutdown-does c now s there e sound h =
      let left : State = (shutdown.shutdown_received s).left in
      let was : IsPresent e s.association = subst (λ (stage : Stage). IsIn stage e s.is_wanted s.association) there h.stage in
      let waits : Each (Waits There mark e s.association.far_tag) s.association.control =
      subst (λ (stage : Stage). Each (Waits stage mark e s.association.far_tag) s.association.control) there h.control in
      let shown : Shows own far mark e left = record {
        generation = h.generation;
        stage = record {
          up = was.up;
          epoch = was.epoch;
          past = was.past;
          now = was.now;
          own = was.own;
          far = was.far;
          confirmed = was.confirmed;
          takes = was.takes;
          sends = gone-only e was.epoch (is_established s.association.phase) s.association.sender was.sends;
        };
        offered = h.offered;
        drawn = h.drawn;
        control = waits;
        trying = h.trying;
        later = h.later;
      } in
      record {
        list = [];
        moves = tt;
        shows = alike-shows own far mark other e left (shutdown.going_on c now left) sound (going-on c now left) shown;
        more = more-same e;
        sent = tt;
        told = sym (told-none (receipts e) s.association.is_up);
        given = sym (given-none (gifts e) s.association.is_up);
        quiet = λ b. tt;
      }

  shutdown-received : (c : Settings) (now : ℕ) (s : State) → stage_of s.association.phase ≡ There →
      Can s (shutdown.then_going_on c now (shutdown.shutdown_received s))
  shutdown-received c now s there = record {
    result = shutdown-does c now s there;
    tagged = λ tag t on. sym (going-on c now (shutdown.shutdown_received s).left).own_tag ∙ t (ap hears there);
  }

  -- a SHUTDOWN confirms
  shutdown-confirmed : (answer : Confirmation) (now tag cumulative : ℕ) (s : State) → confirmation s.association.sender cumulative ≡ answer →
      stage_of s.association.phase ≡ There → s.association.own_tag ≡ tag → IsAck (young other) other tag cumulative →
      Can s (silent (state.with_association s (record s.association { sender = after_cumulative s.association.sender now answer })))
  shutdown-confirmed Old now tag cumulative s e there t came = stays s
  shutdown-confirmed Beyond now tag cumulative s e there t came = stays s
  shutdown-confirmed (Of count) now tag cumulative s e there t came =
      confirmed-goes own far mark other tag cumulative count s.association.failures s (after_cumulative s.association.sender now (Of count)) there t came e
      (λ x f epoch b h same. shutdown-confirms x f epoch b s.association.sender now cumulative count e h same)

  heard-shutdown-in : (phase : Phase) (c : Settings) (now tag cumulative : ℕ) (s : State) → s.association.phase ≡ phase → IsTagged tag s →
      IsAck (young other) other tag cumulative → Can s (shutdown.heard_shutdown_in phase c now cumulative s)
  heard-shutdown-in Established c now tag cumulative s e t came =
      let confirmed : State = shutdown.with_confirmed now cumulative s in
      let there : stage_of s.association.phase ≡ There = ap stage_of e in
      next s (silent confirmed) (λ left. shutdown.then_going_on c now (shutdown.shutdown_received left))
      (shutdown-confirmed (confirmation s.association.sender cumulative) now tag cumulative s refl there (t (ap hears there)) came)
      (shutdown-received c now confirmed there)
  heard-shutdown-in ShutdownPending c now tag cumulative s e t came =
      let confirmed : State = shutdown.with_confirmed now cumulative s in
      let there : stage_of s.association.phase ≡ There = ap stage_of e in
      next s (silent confirmed) (λ left. shutdown.then_going_on c now (shutdown.shutdown_received left))
      (shutdown-confirmed (confirmation s.association.sender cumulative) now tag cumulative s refl there (t (ap hears there)) came)
      (shutdown-received c now confirmed there)
  heard-shutdown-in ShutdownReceived c now tag cumulative s e t came =
      let confirmed : State = shutdown.with_confirmed now cumulative s in
      let there : stage_of s.association.phase ≡ There = ap stage_of e in
      next s (silent confirmed) (λ left. silent (shutdown.going_on c now left))
      (shutdown-confirmed (confirmation s.association.sender cumulative) now tag cumulative s refl there (t (ap hears there)) came)
      (plainly confirmed (shutdown.going_on c now confirmed) (going-on c now confirmed))
  heard-shutdown-in ShutdownSent c now tag cumulative s e t came =
      let a : Association = s.association in
      plainly s (shutdown.shutdown_answered now s)
      (with-answer packets.ShutdownAckChunk s
      (record a { phase = ShutdownAckSent; t2 = Some (now + a.sender.round_trips.timeout) })
      (plain-stands (stage_of a.phase) a.receiver.cumulative packets.ShutdownAckChunk tt)
      (record { generation = refl; beginnings = refl; wanted = refl; stage = ap stage_of e; established = λ q. absurd (cc); own_tag = refl; own_first = refl; far_tag = refl; peer = refl; sender = record { out = refl; first = refl; went = λ l. l }; receiver = record { streams = refl; partial = refl; cumulative = refl; held = refl }; control = λ P h g. g; trying = λ P h. h }))
  heard-shutdown-in Closed c now tag cumulative s e t came = stays s
  heard-shutdown-in CookieWait c now tag cumulative s e t came = stays s
  heard-shutdown-in CookieEchoed c now tag cumulative s e t came = stays s
  heard-shutdown-in ShutdownAckSent c now tag cumulative s e t came = stays s

  heard-shutdown : (c : Settings) (now tag cumulative : ℕ) (s : State) → IsTagged tag s → IsAck (young other) other tag cumulative →
      Can s (shutdown.heard_shutdown c now cumulative s)
  heard-shutdown c now tag cumulative s t came =
      either (shutdown.confirms s.association.phase && confirming.confirms_beyond s.association.sender cumulative) s
      (ending.aborted c losses.Protocol ending.violation s)
      (shutdown.heard_shutdown_in s.association.phase c now cumulative s)
      (aborted c losses.Protocol ending.violation s) (heard-shutdown-in s.association.phase c now tag cumulative s refl t came)

  completed : (c : Settings) (s : State) → Can s (ending.ended_alone c losses.Shutdown (packets.ShutdownCompleteChunk false ∷ []) s)
  completed c s = ended-alone c losses.Shutdown (packets.ShutdownCompleteChunk false ∷ []) s (tt, tt)

  shutdown-ack-in : (phase : Phase) (c : Settings) (s : State) → Can s (shutdown.heard_shutdown_ack_in phase c s)
  shutdown-ack-in Closed c s = stays s
  shutdown-ack-in CookieWait c s = stays s
  shutdown-ack-in CookieEchoed c s = stays s
  shutdown-ack-in Established c s = stays s
  shutdown-ack-in ShutdownPending c s = stays s
  shutdown-ack-in ShutdownSent c s = completed c s
  shutdown-ack-in ShutdownReceived c s = stays s
  shutdown-ack-in ShutdownAckSent c s = completed c s

  shutdown-complete-in : (phase : Phase) (c : Settings) (s : State) → Can s (shutdown.heard_shutdown_complete_in phase c s)
  shutdown-complete-in Closed c s = stays s
  shutdown-complete-in CookieWait c s = stays s
  shutdown-complete-in CookieEchoed c s = stays s
  shutdown-complete-in Established c s = stays s
  shutdown-complete-in ShutdownPending c s = stays s
  shutdown-complete-in ShutdownSent c s = stays s
  shutdown-complete-in ShutdownReceived c s = stays s
  shutdown-complete-in ShutdownAckSent c s = ended-alone c losses.Shutdown [] s tt

  -- ---- DATA, SACK and HEARTBEAT

  heard-data : (c : Settings) (tag : ℕ) (d : DataValue) (s : State) → IsTagged tag s → IsData (young other) other tag d →
      Hears tag s (data_rules.heard_data c d s)
  heard-data c tag d s t came =
      let steps-of : receiving.Steps = received s.association.receiver d.tsn (data_rules.piece_of d) in
      let empty : Done = ending.aborted c losses.Protocol (NoUserData d.tsn) s in
      let told : Done = data_rules.after_data c steps-of s in
      hears-either-so (data_rules.takes_data s.association.phase) tag s (if nat_eq (length d.octets) 0 then empty else told) (silent s)
      (λ e. hears-either (nat_eq (length d.octets) 0) tag s empty told
      (hearing tag s empty t (aborted c losses.Protocol (NoUserData d.tsn) s))
      (let there : stage_of s.association.phase ≡ There = takes-data-there s.association.phase e in
      record {
        result = data-does own far mark other c tag d s there (t (ap hears there)) came;
        tagged = told-tagged tag c steps-of.told _ t;
      }))
      (λ e. hearing tag s (silent s) t (stays s))

  -- an old one is dropped; one of too much ends it; any other confirms
  sack-answered : (answer : Confirmation) (c : Settings) (now tag : ℕ) (sack : SackValue) (s : State) →
      confirmation s.association.sender sack.cumulative ≡ answer → stage_of s.association.phase ≡ There → s.association.own_tag ≡ tag →
      IsAck (young other) other tag sack.cumulative →
      Can s
      (if confirming.is_old answer
      then silent s
      else (if confirming.is_beyond answer
      then ending.aborted c losses.Protocol ending.violation s
      else silent (shutdown.going_on c now (state.with_association s (record s.association {
        sender = confirming.with_sack_of answer now sack s.association.sender;
        failures = if data_rules.answers now sack s.association.sender then 0 else s.association.failures;
      })))))
  sack-answered Old c now tag sack s e there t came = stays s
  sack-answered Beyond c now tag sack s e there t came = aborted c losses.Protocol ending.violation s
  sack-answered (Of count) c now tag sack s e there t came =
      let failures : ℕ = if data_rules.answers now sack s.association.sender then 0 else s.association.failures in
      let sender : Sending = confirming.with_sack_of (Of count) now sack s.association.sender in
      let later : State = state.with_association s (record s.association { sender = sender; failures = failures }) in
      next s (silent later) (λ left. silent (shutdown.going_on c now left))
      (confirmed-goes own far mark other tag sack.cumulative count failures s sender there t came e
      (λ x f epoch b h same. sack-confirms x f epoch b s.association.sender now sack.window sack.cumulative count _ e h same))
      (plainly later (shutdown.going_on c now later) (going-on c now later))

  heard-sack : (c : Settings) (now tag : ℕ) (sack : SackValue) (s : State) → IsTagged tag s → IsAck (young other) other tag sack.cumulative →
      Can s (data_rules.heard_sack_chunk c now sack s)
  heard-sack c now tag sack s t came =
      either-so (data_rules.takes_sack s.association.phase) s (data_rules.heard_sack_of c now sack s) (silent s)
      (λ e.
      let there : stage_of s.association.phase ≡ There = takes-sack-there s.association.phase e in
      sack-answered (confirmation s.association.sender sack.cumulative) c now tag sack s refl there (t (ap hears there)) came)
      (λ e. stays s)

  heard-heartbeat : (information : List ℕ) (s : State) → Can s (data_rules.heard_heartbeat information s)
  heard-heartbeat information s =
      let chunk : ChunkValue = packets.HeartbeatAckChunk information in
      either (opening.is_there s.association.phase) s (silent (ending.answered chunk s)) (silent s) (answered chunk s tt) (stays s)

  heard-answer : (beat : Option Beat) (c : Settings) (now : ℕ) (information : List ℕ) (s : State) →
      Can s (data_rules.heard_answer_to beat c now information s)
  heard-answer None c now information s = stays s
  heard-answer (Some beat) c now information s =
      let heard : State = data_rules.beat_answered c now beat s in
      either (bytes_eq information (information_of beat.nonce)) s (silent heard) (silent s) (plainly s heard (record { generation = refl; beginnings = refl; wanted = refl; stage = refl; established = λ e. e; own_tag = refl; own_first = refl; far_tag = refl; peer = refl; sender = record { out = refl; first = refl; went = λ l. l }; receiver = record { streams = refl; partial = refl; cumulative = refl; held = refl }; control = λ P h g. g; trying = λ P h. h })) (stays s)

  -- ---- chunks

  heard-unknown : (kind flags : ℕ) (value : List ℕ) (s : State) → Can s (arriving.heard_unknown kind flags value s).does
  heard-unknown kind flags value s =
      let report : ChunkValue = packets.ErrorChunk (cause_item (UnrecognizedChunk kind flags value) ∷ []) in
      either (arriving.is_reported kind) s (silent (ending.answered report s)) (silent s) (answered report s tt) (stays s)

  heard-abort : (c : Settings) (tag : ℕ) (chunk : ChunkValue) (s : State) → Can s (arriving.heard_abort c tag chunk s).does
  heard-abort c tag chunk s =
      let why : Loss = arriving.loss_by_abort s.association.phase in
      either (arriving.has_tag s.association tag chunk) s (ending.ended_alone c why [] s) (silent s) (ended-alone c why [] s tt) (stays s)

  handled-either : (b : Bool) (s : State) (x y : arriving.Handled) → Can s x.does → Can s y.does → Can s (if b then x else y).does
  handled-either true s x y t u = t
  handled-either false s x y t u = u

  -- a chunk comes with this tag. INIT ACK is looked at in COOKIE-WAIT, too
  abbrev Comes : ℕ → State → ChunkValue → Type 0
  Comes tag s (packets.InitAckChunk init) = (s.association.own_tag ≡ tag) × IsAnswer far other tag init
  Comes tag s packets.CookieAckChunk = Contains other.cookie_acks tag
  Comes tag s (packets.DataChunk carried) = IsData (young other) other tag carried
  Comes tag s (packets.SackChunk sack) = IsAck (young other) other tag sack.cumulative
  Comes tag s (packets.ShutdownChunk cumulative) = IsAck (young other) other tag cumulative
  Comes tag s chunk = Unit {0}

  heard-chunk : (c : Settings) (now wire tag : ℕ) (chunk : ChunkValue) (s : State) → Comes tag s chunk → IsTagged tag s →
      Hears tag s (arriving.heard_chunk c own now wire chunk s).does
  heard-chunk c now wire tag (packets.DataChunk carried) s h t = heard-data c tag carried s t h
  heard-chunk c now wire tag (packets.InitChunk init) s h t = hearing tag s _ t (stays s)
  heard-chunk c now wire tag (packets.InitAckChunk init) s h t =
      init-ack-if (opening.is_waiting s.association.phase) c now tag init s refl h.0 t h.1
  heard-chunk c now wire tag (packets.SackChunk sack) s h t = hearing tag s _ t (heard-sack c now tag sack s t h)
  heard-chunk c now wire tag (packets.HeartbeatChunk information) s h t = hearing tag s _ t (heard-heartbeat information s)
  heard-chunk c now wire tag (packets.HeartbeatAckChunk information) s h t =
      hearing tag s _ t (heard-answer s.association.beat c now information s)
  heard-chunk c now wire tag (packets.AbortChunk is_reflected causes) s h t =
      hearing tag s _ t (heard-abort c wire (packets.AbortChunk is_reflected causes) s)
  heard-chunk c now wire tag (packets.ShutdownChunk cumulative) s h t = hearing tag s _ t (heard-shutdown c now tag cumulative s t h)
  heard-chunk c now wire tag packets.ShutdownAckChunk s h t = hearing tag s _ t (shutdown-ack-in s.association.phase c s)
  heard-chunk c now wire tag (packets.ErrorChunk causes) s h t = hearing tag s _ t (heard-error c now causes s)
  heard-chunk c now wire tag (packets.CookieEchoChunk octets) s h t = hearing tag s _ t (stays s)
  heard-chunk c now wire tag packets.CookieAckChunk s h t = hearing tag s _ t (heard-cookie-ack c now tag s t h)
  heard-chunk c now wire tag (packets.ShutdownCompleteChunk is_reflected) s h t =
      hearing tag s _ t
      (handled-either (arriving.has_tag s.association wire (packets.ShutdownCompleteChunk is_reflected)) s
      (arriving.while_there wire (shutdown.heard_shutdown_complete c s)) (arriving.while_there wire (silent s))
      (shutdown-complete-in s.association.phase c s) (stays s))
  heard-chunk c now wire tag (packets.UnknownChunk kind flags value) s h t = hearing tag s _ t (heard-unknown kind flags value s)
  heard-chunk c now wire tag (packets.MalformedChunk kind) s h t = hearing tag s _ t (stays s)

  -- a chunk that comes after another
  comes-bundled : (tag : ℕ) (s : State) (chunk : ChunkValue) → Bundles (young other) other tag chunk → Comes tag s chunk
  comes-bundled tag s (packets.InitChunk init) b = absurd b
  comes-bundled tag s (packets.InitAckChunk init) b = absurd b
  comes-bundled tag s (packets.CookieEchoChunk octets) b = absurd b
  comes-bundled tag s packets.CookieAckChunk b = b
  comes-bundled tag s (packets.DataChunk carried) b = b
  comes-bundled tag s (packets.SackChunk sack) b = b
  comes-bundled tag s (packets.HeartbeatChunk information) b = tt
  comes-bundled tag s (packets.HeartbeatAckChunk information) b = tt
  comes-bundled tag s (packets.AbortChunk is_reflected causes) b = tt
  comes-bundled tag s (packets.ShutdownChunk cumulative) b = b
  comes-bundled tag s packets.ShutdownAckChunk b = tt
  comes-bundled tag s (packets.ErrorChunk causes) b = tt
  comes-bundled tag s (packets.ShutdownCompleteChunk is_reflected) b = tt
  comes-bundled tag s (packets.UnknownChunk kind flags value) b = tt
  comes-bundled tag s (packets.MalformedChunk kind) b = tt

  comes-first : (tag : ℕ) (s : State) (chunk : ChunkValue) → s.association.own_tag ≡ tag → Begins far own (young other) other tag chunk → Comes tag s chunk
  comes-first tag s (packets.InitChunk init) e b = tt
  comes-first tag s (packets.InitAckChunk init) e b = (e, b)
  comes-first tag s (packets.CookieEchoChunk octets) e b = tt
  comes-first tag s packets.CookieAckChunk e b = b
  comes-first tag s (packets.DataChunk carried) e b = b
  comes-first tag s (packets.SackChunk sack) e b = b
  comes-first tag s (packets.HeartbeatChunk information) e b = tt
  comes-first tag s (packets.HeartbeatAckChunk information) e b = tt
  comes-first tag s (packets.AbortChunk is_reflected causes) e b = tt
  comes-first tag s (packets.ShutdownChunk cumulative) e b = b
  comes-first tag s packets.ShutdownAckChunk e b = tt
  comes-first tag s (packets.ErrorChunk causes) e b = tt
  comes-first tag s (packets.ShutdownCompleteChunk is_reflected) e b = tt
  comes-first tag s (packets.UnknownChunk kind flags value) e b = tt
  comes-first tag s (packets.MalformedChunk kind) e b = tt

  does-either : (b : Bool) (s : State) (d e : Done) → Does own far mark other s d → Does own far mark other s e → Does own far mark other s (if b then d else e)
  does-either true s d e t u = t
  does-either false s d e t u = u

  does-either-so : (b : Bool) (s : State) (d e : Done) → (b ≡ true → Does own far mark other s d) → (b ≡ false → Does own far mark other s e) →
      Does own far mark other s (if b then d else e)
  does-either-so true s d e t u = t refl
  does-either-so false s d e t u = u refl

  heard-more : (c : Settings) (now wire tag : ℕ) (chunks : List ChunkValue) (s : State) → Each (Bundles (young other) other tag) chunks → IsTagged tag s →
      Does own far mark other s (arriving.heard_chunks c own now wire chunks s)
  heard-more c now wire tag [] s h t = (stays s).result
  heard-more c now wire tag (chunk ∷ chunks) s h t =
      let handled : arriving.Handled = arriving.heard_chunk c own now wire chunk s in
      let first : Hears tag s handled.does = heard-chunk c now wire tag chunk s (comes-bundled tag s chunk h.0) t in
      let rule : State → Done = λ left. arriving.heard_chunks c own now wire chunks left in
      does-either handled.goes_on s (followed_by handled.does rule) handled.does
      (also-does own far mark other s handled.does rule first.result (heard-more c now wire tag chunks handled.does.left h.1 first.tagged))
      first.result

  -- a packet with this end's tag
  heard-chunks : (c : Settings) (now wire tag : ℕ) (first : ChunkValue) (more : List ChunkValue) (s : State) →
      s.association.own_tag ≡ tag → Begins far own (young other) other tag first → Each (Bundles (young other) other tag) more →
      Does own far mark other s (arriving.heard_chunks c own now wire (first ∷ more) s)
  heard-chunks c now wire tag first more s e b h =
      let handled : arriving.Handled = arriving.heard_chunk c own now wire first s in
      let one : Hears tag s handled.does = heard-chunk c now wire tag first s (comes-first tag s first e b) (λ on. e) in
      let rule : State → Done = λ left. arriving.heard_chunks c own now wire more left in
      does-either handled.goes_on s (followed_by handled.does rule) handled.does
      (also-does own far mark other s handled.does rule one.result (heard-more c now wire tag more handled.does.left h one.tagged))
      one.result

  from-there : (s : State) (source : Address) → Alike s (arriving.from_source source s)
  from-there s source = from-source (opening.is_waiting s.association.phase) s source

  moved-does : (s left : State) (d : Done) → Alike s left → Does own far mark other left d → Does own far mark other s d
  moved-does s left d a t = also-does own far mark other s (silent left) (λ x. d) (plainly s left a).result t

  by-tag : (c : Settings) (now : ℕ) (source : Address) (wire tag : ℕ) (first : ChunkValue) (more : List ChunkValue) (s : State) →
      s.association.own_tag ≡ tag → Begins far own (young other) other tag first → Each (Bundles (young other) other tag) more →
      Does own far mark other s (arriving.heard_by_tag c own now source wire (first ∷ more) s)
  by-tag c now source wire tag first more s e b h =
      let there-now : State = arriving.from_source source s in
      let f : Alike s there-now = from-there s source in
      moved-does s there-now (arriving.heard_by_tag c own now source wire (first ∷ more) s) f
      (heard-chunks c now wire tag first more there-now (sym f.own_tag ∙ e) b h)

  more-by-tag : (c : Settings) (now : ℕ) (source : Address) (tag : ℕ) (more : List ChunkValue) (s : State) →
      s.association.own_tag ≡ tag → Each (Bundles (young other) other tag) more →
      Does own far mark other s (arriving.heard_by_tag c own now source tag more s)
  more-by-tag c now source tag more s e h =
      let there-now : State = arriving.from_source source s in
      let f : Alike s there-now = from-there s source in
      moved-does s there-now (arriving.heard_by_tag c own now source tag more s) f
      (heard-more c now tag tag more there-now h (λ on. sym f.own_tag ∙ e))

  -- a packet that says that its tag is the peer's: its first chunk says nothing of the association
  reflected : (chunk : ChunkValue) (tag wire : ℕ) → arriving.has_peer_tag chunk ≡ true → Begins far own (young other) other tag chunk
  reflected (packets.AbortChunk is_reflected causes) tag wire e = tt
  reflected (packets.ShutdownCompleteChunk is_reflected) tag wire e = tt
  reflected (packets.InitChunk init) tag wire e = absurd (cc)
  reflected (packets.InitAckChunk init) tag wire e = absurd (cc)
  reflected (packets.CookieEchoChunk octets) tag wire e = absurd (cc)
  reflected packets.CookieAckChunk tag wire e = absurd (cc)
  reflected (packets.DataChunk carried) tag wire e = absurd (cc)
  reflected (packets.SackChunk sack) tag wire e = absurd (cc)
  reflected (packets.HeartbeatChunk information) tag wire e = absurd (cc)
  reflected (packets.HeartbeatAckChunk information) tag wire e = absurd (cc)
  reflected (packets.ShutdownChunk cumulative) tag wire e = absurd (cc)
  reflected packets.ShutdownAckChunk tag wire e = absurd (cc)
  reflected (packets.ErrorChunk causes) tag wire e = absurd (cc)
  reflected (packets.UnknownChunk kind flags value) tag wire e = absurd (cc)
  reflected (packets.MalformedChunk kind) tag wire e = absurd (cc)

  by-own-tag : (b : Bool) (c : Settings) (now : ℕ) (source : Address) (tag : ℕ) (first : ChunkValue) (more : List ChunkValue) (s : State) →
      arriving.has_peer_tag first ≡ b → Begins far own (young other) other tag first → Each (Bundles (young other) other tag) more →
      (if b then not (nat_eq s.association.far_tag 0) && nat_eq tag s.association.far_tag else nat_eq tag s.association.own_tag) ≡ true →
      Does own far mark other s (arriving.heard_by_tag c own now source tag (first ∷ (if b then [] else more)) s)
  by-own-tag true c now source tag first more s e came h is =
      by-tag c now source tag s.association.own_tag first [] s refl (reflected first s.association.own_tag tag e) tt
  by-own-tag false c now source tag first more s e came h is =
      by-tag c now source tag tag first more s (sym (eq-from tag s.association.own_tag is)) came h

  blue : (c : Settings) (source : Address) (tag : ℕ) (first : ChunkValue) (more : List ChunkValue) (s : State) →
      Can s (arriving.out_of_the_blue c source tag first more s)
  blue c source tag first more s =
      either (arriving.is_quiet_first first || list_any arriving.is_quiet (first ∷ more)) s (silent s)
      (state.put c source tag (arriving.answer_to first ∷ []) s) (stays s)
      (putting c source tag (arriving.answer_to first ∷ []) s (answers-plain first, tt))

  otherwise : (c : Settings) (now : ℕ) (source : Address) (tag : ℕ) (first : ChunkValue) (more : List ChunkValue) (s : State) →
      Begins far own (young other) other tag first → Each (Bundles (young other) other tag) more →
      Does own far mark other s (arriving.heard_otherwise c own now source tag first more s)
  otherwise c now source tag first more s came h =
      let complete : List ChunkValue = packets.ShutdownCompleteChunk true ∷ [] in
      let taken : Done = arriving.heard_by_tag c own now source tag (arriving.looked_at first more) s in
      let late : Bool = arriving.is_late_shutdown s.association.phase first in
      let right-tag : Bool = arriving.has_tag s.association tag first in
      does-either (opening.is_closed s.association.phase) s (arriving.out_of_the_blue c source tag first more s)
      (if late then state.put c source tag complete s else (if right-tag then taken else silent s))
      (blue c source tag first more s).result
      (does-either late s (state.put c source tag complete s) (if right-tag then taken else silent s)
      (putting c source tag complete s (tt, tt)).result
      (does-either-so right-tag s taken (silent s)
      (λ e. by-own-tag (arriving.has_peer_tag first) c now source tag first more s refl came h e) (λ e. (stays s).result)))

  after-echo : (b : Bool) (c : Settings) (now : ℕ) (source : Address) (tag : ℕ) (more : List ChunkValue) (s : State) (echo : opening.Echo) →
      echo.goes_on ≡ b → Each (Bundles (young other) other tag) more → Echoes tag s echo →
      Does own far mark other s
      (if b then followed_by echo.does (λ left. arriving.heard_by_tag c own now source tag more left) else echo.does)
  after-echo true c now source tag more s echo e h x =
      also-does own far mark other s echo.does (λ left. arriving.heard_by_tag c own now source tag more left) x.result
      (more-by-tag c now source tag more echo.does.left (x.tag_is e) h)
  after-echo false c now source tag more s echo e h x = x.result

  heard-first : (c : Settings) (now : ℕ) (source : Address) (tag : ℕ) (first : ChunkValue) (more : List ChunkValue) (s : State) →
      Begins far own (young other) other tag first → Each (Bundles (young other) other tag) more →
      Does own far mark other s (arriving.heard_first c own now source tag first more s)
  heard-first c now source tag (packets.InitChunk init) more s came h = (heard-init c now source tag init s came).result
  heard-first c now source tag (packets.CookieEchoChunk octets) more s came h =
      let echo : opening.Echo = opening.heard_cookie_echo c own now tag source octets s in
      after-echo echo.goes_on c now source tag more s echo refl h (heard-echo (own.cookie_in octets) c now tag source octets s refl came)
  heard-first c now source tag (packets.MalformedChunk kind) more s came h =
      does-either (nat_eq kind 1) s (silent s) (arriving.heard_otherwise c own now source tag (packets.MalformedChunk kind) more s)
      (stays s).result (otherwise c now source tag (packets.MalformedChunk kind) more s came h)
  heard-first c now source tag (packets.InitAckChunk init) more s came h = otherwise c now source tag (packets.InitAckChunk init) more s came h
  heard-first c now source tag packets.CookieAckChunk more s came h = otherwise c now source tag packets.CookieAckChunk more s came h
  heard-first c now source tag (packets.DataChunk carried) more s came h = otherwise c now source tag (packets.DataChunk carried) more s came h
  heard-first c now source tag (packets.SackChunk sack) more s came h = otherwise c now source tag (packets.SackChunk sack) more s came h
  heard-first c now source tag (packets.HeartbeatChunk information) more s came h = otherwise c now source tag (packets.HeartbeatChunk information) more s came h
  heard-first c now source tag (packets.HeartbeatAckChunk information) more s came h = otherwise c now source tag (packets.HeartbeatAckChunk information) more s came h
  heard-first c now source tag (packets.AbortChunk is_reflected causes) more s came h = otherwise c now source tag (packets.AbortChunk is_reflected causes) more s came h
  heard-first c now source tag (packets.ShutdownChunk cumulative) more s came h = otherwise c now source tag (packets.ShutdownChunk cumulative) more s came h
  heard-first c now source tag packets.ShutdownAckChunk more s came h = otherwise c now source tag packets.ShutdownAckChunk more s came h
  heard-first c now source tag (packets.ErrorChunk causes) more s came h = otherwise c now source tag (packets.ErrorChunk causes) more s came h
  heard-first c now source tag (packets.ShutdownCompleteChunk is_reflected) more s came h = otherwise c now source tag (packets.ShutdownCompleteChunk is_reflected) more s came h
  heard-first c now source tag (packets.UnknownChunk kind flags value) more s came h = otherwise c now source tag (packets.UnknownChunk kind flags value) more s came h

  heard-all : (c : Settings) (now : ℕ) (source : Address) (tag : ℕ) (chunks : List ChunkValue) (s : State) →
      IsSaid far own (young other) other tag chunks → Does own far mark other s (arriving.heard_all c own now source tag chunks s)
  heard-all c now source tag [] s h = (stays s).result
  heard-all c now source tag (first ∷ more) s h = heard-first c now source tag first more s h.0 h.1

  heard : (c : Settings) (now : ℕ) (source : Address) (p : PacketValue) (s : State) → IsSaid far own (young other) other p.tag p.chunks →
      Does own far mark other s (arriving.heard c own now source p s)
  heard c now source p s h =
      does-either (nat_eq p.destination c.own_port && nat_eq p.source c.far_port) s
      (arriving.heard_all c own now source p.tag p.chunks s) (silent s)
      (heard-all c now source p.tag p.chunks s h) (stays s).result

  -- ---- timers

  unanswered : (c : Settings) (rule : State → Done) (s : State) → ((left : State) → Can left (rule left)) → Can s (timers.unanswered c rule s)
  unanswered c rule s h =
      let failed : State = state.with_association s (record s.association { failures = s.association.failures + 1 }) in
      either (nat_lt c.retransmissions (s.association.failures + 1)) s (ending.aborted c losses.NoAnswer ending.violation s) (rule failed)
      (aborted c losses.NoAnswer ending.violation s) (moved s failed (rule failed) (record { generation = refl; beginnings = refl; wanted = refl; stage = refl; established = λ e. e; own_tag = refl; own_first = refl; far_tag = refl; peer = refl; sender = record { out = refl; first = refl; went = λ l. l }; receiver = record { streams = refl; partial = refl; cumulative = refl; held = refl }; control = λ P h g. g; trying = λ P h. h }) (h failed))

  retry : (t : Option Try) (c : Settings) (now : ℕ) (s : State) → s.association.trying ≡ t → Can s (timers.retry t c now s)
  retry None c now s e = stays s
  retry (Some t) c now s e = either (nat_le t.t1 now) s (opening.tried_again c now t s) (silent s) (tried c now t s e) (stays s)

  tick-t5 : (c : Settings) (now : ℕ) (s : State) → Can s (timers.tick_t5 c now s)
  tick-t5 c now s =
      either (timers.is_due now s.association.t5) s (ending.aborted c losses.NoAnswer EndedByUser s) (silent s)
      (aborted c losses.NoAnswer EndedByUser s) (stays s)

  t2-out : (c : Settings) (now : ℕ) (s : State) → Can s (timers.t2_out c now s)
  t2-out c now s =
      let waited : Association = timers.with_back_off s.association in
      let again : ChunkValue = timers.shutdown_again s.association.phase s.association in
      plainly s (shutdown.awaiting now s.association.phase again (state.with_association s waited))
      (with-answer again s (record waited { phase = s.association.phase; t2 = Some (now + waited.sender.round_trips.timeout) })
      (again-stands s.association.phase s.association)
      (record { generation = refl; beginnings = refl; wanted = refl; stage = refl; established = λ e. e; own_tag = refl; own_first = refl; far_tag = refl; peer = refl; sender = record { out = refl; first = refl; went = λ l. l }; receiver = record { streams = refl; partial = refl; cumulative = refl; held = refl }; control = λ P h g. g; trying = λ P h. h }))

  tick-t2 : (c : Settings) (now : ℕ) (s : State) → Can s (timers.tick_t2 c now s)
  tick-t2 c now s =
      let rule : State → Done = λ left. timers.t2_out c now left in
      either (timers.is_due now s.association.t2) s (timers.unanswered c rule s) (silent s)
      (unanswered c rule s (λ left. t2-out c now left)) (stays s)

  t3-out : (c : Settings) (now : ℕ) (s : State) → Can s (timers.t3_out c now s)
  t3-out c now s = plainly s (timers.t3_out c now s).left (record { generation = refl; beginnings = refl; wanted = refl; stage = refl; established = λ e. e; own_tag = refl; own_first = refl; far_tag = refl; peer = refl; sender = timed-same s.association.sender now; receiver = record { streams = refl; partial = refl; cumulative = refl; held = refl }; control = λ P h g. g; trying = λ P h. h })

  tick-t3 : (c : Settings) (now : ℕ) (s : State) → Can s (timers.tick_t3 c now s)
  tick-t3 c now s =
      let rule : State → Done = λ left. timers.t3_out c now left in
      either (timers.is_due now s.association.sender.t3) s (timers.unanswered c rule s) (silent s)
      (unanswered c rule s (λ left. t3-out c now left)) (stays s)

  beat-again : (beat : Option Beat) (c : Settings) (now : ℕ) (s : State) → Can s (timers.beat_again beat c own now s)
  beat-again None c now s = plainly s (timers.beating own now s) (beating own now s)
  beat-again (Some beat) c now s =
      unanswered c
      (λ left. silent (timers.beating own now (state.with_association left (timers.with_back_off left.association)))) s
      (λ left.
      let waited : State = state.with_association left (timers.with_back_off left.association) in
      let f : Alike left waited = record { generation = refl; beginnings = refl; wanted = refl; stage = refl; established = λ e. e; own_tag = refl; own_first = refl; far_tag = refl; peer = refl; sender = record { out = refl; first = refl; went = λ l. l }; receiver = record { streams = refl; partial = refl; cumulative = refl; held = refl }; control = λ P h g. g; trying = λ P h. h } in
      plainly left (timers.beating own now waited) (alike-behind left waited (timers.beating own now waited) f (beating own now waited)))

  not-due : (s : State) → Can s (silent (state.with_association s (record s.association { beat_due = None })))
  not-due s = plainly s (state.with_association s (record s.association { beat_due = None })) (record { generation = refl; beginnings = refl; wanted = refl; stage = refl; established = λ e. e; own_tag = refl; own_first = refl; far_tag = refl; peer = refl; sender = record { out = refl; first = refl; went = λ l. l }; receiver = record { streams = refl; partial = refl; cumulative = refl; held = refl }; control = λ P h g. g; trying = λ P h. h })

  beat-in : (phase : Phase) (c : Settings) (now : ℕ) (s : State) → Can s (timers.beat_in phase c own now s)
  beat-in Established c now s = beat-again s.association.beat c now s
  beat-in Closed c now s = not-due s
  beat-in CookieWait c now s = not-due s
  beat-in CookieEchoed c now s = not-due s
  beat-in ShutdownPending c now s = not-due s
  beat-in ShutdownSent c now s = not-due s
  beat-in ShutdownReceived c now s = not-due s
  beat-in ShutdownAckSent c now s = not-due s

  tick-beat : (c : Settings) (now : ℕ) (s : State) → Can s (timers.tick_beat c own now s)
  tick-beat c now s =
      either (timers.is_due now s.association.beat_due) s (timers.beat_in s.association.phase c own now s) (silent s)
      (beat-in s.association.phase c now s) (stays s)

  ticked : (c : Settings) (now : ℕ) (s : State) → Can s (timers.ticked c own now s)
  ticked c now s =
      let first : Done = timers.tick_t1 c now s in
      let second : Done = followed_by first (λ left. timers.tick_t5 c now left) in
      let third : Done = followed_by second (λ left. timers.tick_t2 c now left) in
      let fourth : Done = followed_by third (λ left. timers.tick_t3 c now left) in
      next s fourth (λ left. timers.tick_beat c own now left)
      (next s third (λ left. timers.tick_t3 c now left)
      (next s second (λ left. timers.tick_t2 c now left)
      (next s first (λ left. timers.tick_t5 c now left) (retry s.association.trying c now s refl) (tick-t5 c now first.left))
      (tick-t2 c now second.left))
      (tick-t3 c now third.left))
      (tick-beat c now fourth.left)

  -- ---- sending

  packets-said : (e : End) (c : Settings) (a : Association) (list : List (List ChunkValue)) →
      Each (λ (p : List ChunkValue). Each (Bundles (since mark e) e a.far_tag) p) list →
      AreSaid own far mark e (map (λ chunks. state.datagram_to c a.address a.far_tag chunks) list)
  packets-said e c a [] h = tt
  packets-said e c a (p ∷ list) h = (said-bundled own far (since mark e) e a.far_tag p h.0, packets-said e c a list h.1)

  there-is : (e : End) (s : State) → Shows own far mark e s → stage_of s.association.phase ≡ There → IsPresent e s.association
  there-is e s h there = subst (λ (stage : Stage). IsIn stage e s.is_wanted s.association) there h.stage

  -- all that is due may stand together
  due-said : (e : End) (now : ℕ) (s : State) → IsSound e other → Shows own far mark e s →
      Each (Bundles (since mark e) e s.association.far_tag) (sending.due_chunks now s.association)
  due-said e now s sound h =
      let a : Association = s.association in
      each-append (Bundles (since mark e) e a.far_tag) (a.control ++ sending.acknowledgement a) (sending.data_of now a)
      (each-append (Bundles (since mark e) e a.far_tag) a.control (sending.acknowledgement a)
      (each-weaker (Waits (stage_of a.phase) mark e a.far_tag) (Bundles (since mark e) e a.far_tag)
      (λ chunk w. waits-bundled (stage_of a.phase) mark e a.far_tag chunk w) a.control h.control)
      (acks-if (sending.is_acknowledging a) mark e a.far_tag a
      (λ q. ack-said mark e other a sound h.later (there-is e s h (takes-data-there a.phase (both-true a.is_sack_due (data_rules.takes_data a.phase) q).1)))))
      (data-if (data_rules.takes_sack a.phase) mark e a.far_tag (confirming.all_gone now a.sender).chunks
      (λ q.
      let was : IsPresent e a = there-is e s h (takes-sack-there a.phase q) in
      going-said mark e other sound h.later was.epoch was.past was.now a.far_tag (ap (λ (n : ends.Name). n.tag) was.far) 257 now
      (is_established a.phase) a.sender was.sends))

  flushed : (c : Settings) (now : ℕ) (s : State) → Can s (sending.flush c now s)
  flushed c now s =
      let a : Association = s.association in
      let acked : State = state.with_association s (sending.with_acknowledged now a) in
      let f : Alike s acked = acknowledges (sending.is_acknowledging a) (sending.t2_in a.phase now a) s in
      let g : Alike acked (sending.flush c now s).left = emptied (data_rules.takes_sack acked.association.phase) now acked in
      alike-goes own far mark other s (sending.flush c now s).left (sending.flush c now s).sent
      (alike-behind s acked (sending.flush c now s).left f g)
      (λ e sound h. packets-said e c a (sending.packets_of (sending.due_chunks now a))
      (bundled-each (Bundles (since mark e) e a.far_tag) (sending.due_chunks now a) [] _ tt (due-said e now s sound h)))

  -- ---- all that can happen

  sends : (b : Bool) (m : Message) (s : State) → (is_established s.association.phase && confirming.can_take s.association.sender m) ≡ b →
      (e : End) → IsSound e other → Shows own far mark e s →
      Outcome own far mark other e false (if b then with_last (text_given m) (gifts e) else gifts e)
      (silent (if b then state.with_association s (record s.association { sender = given s.association.sender m }) else s))
  sends true m s q e sound h =
      let parts = both-true (is_established s.association.phase) (confirming.can_take s.association.sender m) q in
      given-goes own far mark other m s parts.0 parts.1 e sound h
  sends false m s q e sound h = (stays s).result e sound h

  pub happens : (c : Settings) (what : Happening) (s : State) → Heeds own far other what → (e : End) → IsSound e other → Shows own far mark e s →
      Outcome own far mark other e (begins what) (given_by what s (gifts e)) (after c own what s)
  unfolding after
  happens c (Opens now is_active) s h e sound x = opened-by-user c now is_active s e sound x
  happens c (Came now source packet) s h e sound x = heard c now source packet s h e sound x
  happens c (Ticked now) s h e sound x = (ticked c now s).result e sound x
  happens c (Sends message) s h e sound x = sends (sending.may_send message s) message s refl e sound x
  happens c Aborts s h e sound x = (abort-tells c s).result e sound x
  happens c (ShutsDown now) s h e sound x = (shutdown-in s.association.phase c now s refl).result e sound x
  happens c (Flushes now) s h e sound x = (flushed c now s).result e sound x
