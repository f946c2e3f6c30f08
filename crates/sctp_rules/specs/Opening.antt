-- How an association begins: the handshake of four ways (RFC 9260 §5).
use Rattle.std.specs.Prelude.{ℕ, Bool, true, false, not, ◌+◌, ◌-◌, ◌*◌, ◌^◌, ◌&&◌, ◌||◌, List, [], ◌∷◌, Option}
use Rattle.std.specs.Prelude.{Some, None, is_none, length, min, nat_eq, nat_lt, nat_le, if◌then◌else◌}
use Rattle.sctp_receiving.specs.Receiver.{first_receiver}
use Rattle.sctp_codec.specs.Items.{ItemValue}
use Rattle.sctp_codec.specs.Packets.{ChunkValue, InitValue, InitChunk, InitAckChunk, ErrorChunk, CookieEchoChunk}
use Rattle.sctp_codec.specs.Packets.{CookieAckChunk, ShutdownAckChunk}
use Rattle.sctp_codec.specs.Parameters.{CauseValue, StaleCookie, UnresolvableAddress, InvalidParameter}
use Rattle.sctp_codec.specs.Parameters.{CookieInShutdown}
use Rattle.sctp_codec.specs.Parameters.{cause_item, unrecognized_parameters, cookie_in, host_name_in, has_stale_cookie}
use Rattle.sctp_codec.specs.Parameters.{listing, answering, complained_of}
use Rattle.sctp_rules.specs.declared.limits.TheConstants.{STREAMS, COOKIE_OCTETS, SHORT_COOKIE_OCTETS}
use Rattle.sctp_rules.specs.declared.limits.TheConstants.{HOST_NAME_OCTETS}
use Rattle.sctp_receiving.specs.declared.limits.TheConstants.{WINDOW}
use Rattle.sctp_rules.specs.declared.phase.Phase.{Phase}
use Rattle.sctp_rules.specs.declared.phase.Phase.TheVariants.{Closed, CookieWait, CookieEchoed, Established}
use Rattle.sctp_rules.specs.declared.phase.Phase.TheVariants.{ShutdownPending, ShutdownSent, ShutdownReceived}
use Rattle.sctp_rules.specs.declared.phase.Phase.TheVariants.{ShutdownAckSent}
use Rattle.sctp_rules.specs.declared.loss.Loss.TheVariants.{NoAnswer, Restart, BadInitAck, NoTag}
use Rattle.sctp_rules.specs.declared.loss.Loss.TheVariants.{StaleCookie as StaleTooOften}
use Rattle.sctp_cookie.specs.declared.cookie.Cookie.{Cookie}
use Rattle.sctp_rules.specs.Settings.{Settings, Address, Beginning, Secrets}
use Rattle.sctp_sending.specs.RoundTrips.{first_round_trips, backed_off}
use Rattle.sctp_sending.specs.Sending.{first_sending}
use Rattle.sctp_rules.specs.State.{Peer, Try, Association, State, Up, Done, silent, followed_by, no_association}
use Rattle.sctp_rules.specs.State.{with_association, put}
use Rattle.sctp_rules.specs.Ending.{with_answer_first, answered, ended, abort_for}

-- ---- the states before there is an association

abbrev pub is_closed : Phase → Bool
is_closed Closed = true
is_closed CookieWait = false
is_closed CookieEchoed = false
is_closed Established = false
is_closed ShutdownPending = false
is_closed ShutdownSent = false
is_closed ShutdownReceived = false
is_closed ShutdownAckSent = false

abbrev pub is_waiting : Phase → Bool
is_waiting Closed = false
is_waiting CookieWait = true
is_waiting CookieEchoed = false
is_waiting Established = false
is_waiting ShutdownPending = false
is_waiting ShutdownSent = false
is_waiting ShutdownReceived = false
is_waiting ShutdownAckSent = false

abbrev pub is_echoed : Phase → Bool
is_echoed Closed = false
is_echoed CookieWait = false
is_echoed CookieEchoed = true
is_echoed Established = false
is_echoed ShutdownPending = false
is_echoed ShutdownSent = false
is_echoed ShutdownReceived = false
is_echoed ShutdownAckSent = false

-- ---- what an end says of itself

abbrev pub init_of : Beginning → List ItemValue → InitValue
init_of b parameters = record {
  tag = b.tag;
  window = WINDOW;
  outgoing = STREAMS;
  incoming = STREAMS;
  first_tsn = b.first;
  parameters = parameters;
}

abbrev pub peer_of : InitValue → Peer
peer_of init = record { first = init.first_tsn; window = init.window }

-- it wants, or takes, fewer streams than there are to be
abbrev pub has_few_streams : InitValue → Bool
has_few_streams init = nat_lt (min init.outgoing init.incoming) STREAMS

-- ---- a try (§5.1)

-- INIT or COOKIE ECHO goes out, and T1 is started; INIT has the tag 0 (§8.5.1)
abbrev pub tag_of_try : Association → ℕ
tag_of_try a = if nat_eq a.far_tag 0 then 0 else a.far_tag

abbrev pub trying_with : Settings → (now failures : ℕ) → List ChunkValue → State → Done
trying_with c now failures chunks s =
    let a = s.association in
    put c a.address (tag_of_try a) chunks
    (with_association s (record a {
      trying = Some (record { chunks = chunks; failures = failures; t1 = now + a.sender.round_trips.timeout });
    }))

-- a try begins, with a tag and a first TSN of its own: INIT with the addresses of this end, and COOKIE-WAIT (§5.1 A,
-- §5.1.2)
abbrev pub begun_with : Settings → (now failures : ℕ) → Address → Option Beginning → State → Done
begun_with c now failures address None s = ended c NoTag s
begun_with c now failures address (Some b) s =
    trying_with c now failures (InitChunk (init_of b (listing c.addresses)) ∷ [])
    (record s {
      is_wanted = true;
      beginnings = s.beginnings + 1;
      association = record (no_association c) {
        phase = CookieWait;
        own_tag = b.tag;
        own_first = b.first;
        address = address;
      };
    })

abbrev pub begun : Settings → Secrets → (now failures : ℕ) → Address → State → Done
begun c k now failures address s = begun_with c now failures address (k.beginning s.beginnings) s

-- a try restarts: the generation grows
abbrev pub begun_anew_with : Settings → (now failures : ℕ) → Address → Option Beginning → State → Done
begun_anew_with c now failures address None s = ended c NoTag s
begun_anew_with c now failures address (Some b) s =
    begun_with c now failures address (Some b) (record s { generation = s.generation + 1 })

abbrev pub begun_anew : Settings → Secrets → (now failures : ℕ) → Address → State → Done
begun_anew c k now failures address s = begun_anew_with c now failures address (k.beginning s.beginnings) s

-- the user wants an association from now on, and this end tries to open one, or waits for its peer to do so. That is
-- refused if there is one, or a try of one; an end that waits may begin to try
abbrev pub may_open : (is_active : Bool) → State → Bool
may_open is_active s = is_closed s.association.phase && (is_active || not s.is_wanted)

abbrev pub opening : Settings → Secrets → (now : ℕ) → (is_active : Bool) → State → Done
opening c k now is_active s =
    if may_open is_active s
    then (if is_active then begun c k now 0 c.address s else silent (record s { is_wanted = true }))
    else silent s

-- T1-init or T1-cookie runs out: the same goes out again, RTO doubled, up to Max.Init.Retransmits times (§5.1.6)
abbrev pub tried_again : Settings → (now : ℕ) → Try → State → Done
tried_again c now t s =
    if nat_lt c.init_retransmissions (t.failures + 1)
    then ended c NoAnswer s
    else (let a = s.association in
    trying_with c now (t.failures + 1) t.chunks
    (with_association s (record a { sender = record a.sender { round_trips = backed_off a.sender.round_trips } })))

-- ---- INIT comes (§5.1, §5.2.1, §5.2.2)

-- the cookie that an INIT is answered with: it says all that this end needs to open (§5.1.3)
abbrev pub cookie_for : Settings → (now : ℕ) → State → Beginning → InitValue → Cookie
cookie_for c now s b init = record {
  made = now;
  generation = s.generation;
  life = c.cookie_life;
  own_tag = b.tag;
  peer_tag = init.tag;
  own_first_tsn = b.first;
  peer_first_tsn = init.first_tsn;
  peer_window = init.window;
  peer_outgoing_streams = init.outgoing;
  peer_incoming_streams = init.incoming;
  tie_own_tag = s.association.own_tag;
  tie_peer_tag = s.association.far_tag;
  peer_port = c.far_port;
}

-- INIT ACK, with this tag and first TSN: the addresses of this end, the cookie, and what INIT had that isn't known
abbrev pub answered_with : Settings → Secrets → (now : ℕ) → Address → InitValue → Beginning → State → Done
answered_with c k now source init b s =
    put c source init.tag
    (InitAckChunk (init_of b (answering c.addresses (k.signed (cookie_for c now s b init)) init.parameters)) ∷ []) s

-- the same with the next tag and first TSN. Nothing is kept: both stay the next until a cookie with them opens, or a try
-- takes them. So however many INITs come, no tag is used up. If none is left there is no answer
abbrev pub answered_anew_with : Settings → Secrets → (now : ℕ) → Address → InitValue → Option Beginning → State → Done
answered_anew_with c k now source init None s = silent s
answered_anew_with c k now source init (Some b) s = answered_with c k now source init b s

abbrev pub answered_anew : Settings → Secrets → (now : ℕ) → Address → InitValue → State → Done
answered_anew c k now source init s = answered_anew_with c k now source init (k.beginning s.beginnings) s

-- both ends began: the tag and the first TSN of its own INIT (§5.2.1)
abbrev pub own_beginning : Association → Beginning
own_beginning a = record { tag = a.own_tag; first = a.own_first }

abbrev pub answered_alike : Settings → Secrets → (now : ℕ) → Address → InitValue → State → Done
answered_alike c k now source init s = answered_with c k now source init (own_beginning s.association) s

-- an INIT of the peer whose cookie this end has echoed; or of one that has begun anew since, and may have had an
-- association with this end's tag: that one gets another tag. Anybody may send an INIT, so it doesn't end the try
abbrev pub answered_echoed : Settings → Secrets → (now : ℕ) → Address → InitValue → State → Done
answered_echoed c k now source init s =
    if nat_eq init.tag s.association.far_tag
    then answered_alike c k now source init s
    else answered_anew c k now source init s

-- by the state
abbrev pub init_in : Phase → Settings → Secrets → (now : ℕ) → Address → InitValue → State → Done
init_in Closed c k now source init s = if s.is_wanted then answered_anew c k now source init s else silent s
init_in CookieWait c k now source init s = answered_alike c k now source init s
init_in CookieEchoed c k now source init s = answered_echoed c k now source init s
init_in Established c k now source init s = answered_anew c k now source init s
init_in ShutdownPending c k now source init s = answered_anew c k now source init s
init_in ShutdownSent c k now source init s = answered_anew c k now source init s
init_in ShutdownReceived c k now source init s = answered_anew c k now source init s
init_in ShutdownAckSent c k now source init s =
    put c s.association.address s.association.far_tag (ShutdownAckChunk ∷ []) s

-- a host name gives no address; one that is too long isn't sent back
abbrev pub no_address : List ℕ → CauseValue
no_address name = if nat_le (length name) HOST_NAME_OCTETS then UnresolvableAddress name else InvalidParameter

-- one with a host name, or with too few streams, is refused
abbrev pub judged_init : Option (List ℕ) → Settings → Secrets → (now : ℕ) → Address → InitValue → State → Done
judged_init (Some name) c k now source init s = put c source init.tag (abort_for (no_address name) ∷ []) s
judged_init None c k now source init s =
    if has_few_streams init
    then put c source init.tag (abort_for InvalidParameter ∷ []) s
    else init_in s.association.phase c k now source init s

-- an INIT without a tag is dropped (§3.3.2)
abbrev pub heard_init : Settings → Secrets → (now : ℕ) → Address → InitValue → State → Done
heard_init c k now source init s =
    if nat_eq init.tag 0
    then silent s
    else judged_init (host_name_in init.parameters) c k now source init s

-- ---- INIT ACK comes (§5.1 C)

-- ERROR, if INIT ACK had what isn't known
abbrev pub reports_of : List ItemValue → List ChunkValue
reports_of [] = []
reports_of (item ∷ items) = ErrorChunk (unrecognized_parameters (item ∷ items) ∷ []) ∷ []

-- COOKIE ECHO, with that after it; after a long cookie there may be no room for it, and nothing is reported
abbrev pub echo_of : List ℕ → List ItemValue → List ChunkValue
echo_of cookie items =
    CookieEchoChunk cookie ∷ (if nat_le (length cookie) SHORT_COOKIE_OCTETS then reports_of items else [])

-- COOKIE-ECHOED; T1-cookie counts on
abbrev pub echoed : Settings → (now failures : ℕ) → InitValue → List ℕ → State → Done
echoed c now failures init cookie s =
    let a = s.association in
    trying_with c now failures (echo_of cookie (complained_of init.parameters))
    (with_association s (record a {
      phase = CookieEchoed;
      far_tag = init.tag;
      peer = peer_of init;
      sender = record a.sender { round_trips = first_round_trips c.bounds };
    }))

-- one that can't be used: the try ends, and the peer is told
abbrev pub refused : Settings → InitValue → State → Done
refused c init s =
    if nat_eq init.tag 0
    then ended c BadInitAck s
    else followed_by (put c s.association.address init.tag (abort_for InvalidParameter ∷ []) s)
    (λ left. ended c BadInitAck left)

abbrev pub is_usable : InitValue → Bool
is_usable init = not (nat_eq init.tag 0) && not (has_few_streams init) && is_none (host_name_in init.parameters)

-- there is a packet for the cookie
abbrev pub fits_echo : List ℕ → Bool
fits_echo cookie = nat_le (length cookie) COOKIE_OCTETS

abbrev pub echoed_if : Settings → (now : ℕ) → InitValue → Option Try → Option (List ℕ) → State → Done
echoed_if c now init (Some t) (Some cookie) s =
    if is_usable init && fits_echo cookie then echoed c now t.failures init cookie s else refused c init s
echoed_if c now init None cookie s = silent s
echoed_if c now init (Some t) None s = refused c init s

-- only in COOKIE-WAIT: otherwise it is dropped (§5.2.3)
abbrev pub heard_init_ack : Settings → (now : ℕ) → InitValue → State → Done
heard_init_ack c now init s =
    if is_waiting s.association.phase
    then echoed_if c now init s.association.trying (cookie_in init.parameters) s
    else silent s

-- ---- the association is there

-- everything but the tags is new; heartbeats begin; Up is told
abbrev pub opened : Settings → (now : ℕ) → (own_tag far_tag own_first : ℕ) → Peer → Address → State → Done
opened c now own_tag far_tag own_first peer address s = record {
  sent = [];
  told = Up ∷ [];
  left = record s {
    generation = s.generation + 1;
    association = record (no_association c) {
      phase = Established;
      is_up = true;
      own_tag = own_tag;
      far_tag = far_tag;
      own_first = own_first;
      peer = peer;
      address = address;
      sender = first_sending c.bounds own_first peer.window;
      receiver = first_receiver STREAMS peer.first;
      beat_due = Some (now + c.heartbeat + c.bounds.initial);
    };
  };
}

-- COOKIE ACK comes (§5.1 E)
abbrev pub heard_cookie_ack : Settings → (now : ℕ) → State → Done
heard_cookie_ack c now s =
    let a = s.association in
    if is_echoed a.phase
    then opened c now a.own_tag a.far_tag a.own_first a.peer a.address s
    else silent s

-- ---- COOKIE ECHO comes (§5.1 D, §5.1.5, §5.2.4)

abbrev pub is_own : Cookie → Association → Bool
is_own cookie a = nat_eq cookie.own_tag a.own_tag

abbrev pub is_far : Cookie → Association → Bool
is_far cookie a = nat_eq cookie.peer_tag a.far_tag

abbrev pub is_tied : Cookie → Association → Bool
is_tied cookie a = nat_eq cookie.tie_own_tag a.own_tag && nat_eq cookie.tie_peer_tag a.far_tag

-- the outcome of a packet that begins with COOKIE ECHO: what the cookie does, and whether the chunks after it belong to
-- the association
pub record Echo : Type 0 where
  pub does : Done
  pub goes_on : Bool

abbrev pub stops : Done → Echo
stops d = record { does = d; goes_on = false }

-- it opens: COOKIE ACK, and Up
abbrev pub opened_by : Settings → (now : ℕ) → Address → Cookie → State → Echo
opened_by c now source cookie s = record {
  does = followed_by
      (opened c now cookie.own_tag cookie.peer_tag cookie.own_first_tsn
      (record { first = cookie.peer_first_tsn; window = cookie.peer_window }) source s)
      (λ left. silent (answered CookieAckChunk left));
  goes_on = true;
}

-- both tags are those of the association: the COOKIE ACK was lost (case D)
abbrev pub acknowledged_again : State → Echo
acknowledged_again s = record {
  does = silent (with_association s (with_answer_first CookieAckChunk s.association));
  goes_on = true;
}

-- ERROR: the cookie no longer opens anything, and the peer is to send a new INIT (§5.2.6)
abbrev pub stale : Settings → Address → (microseconds : ℕ) → Cookie → State → Done
stale c source microseconds cookie s =
    put c source cookie.peer_tag (ErrorChunk (cause_item (StaleCookie microseconds) ∷ []) ∷ []) s

-- SHUTDOWN ACK goes out again, as before; and ERROR, to where the cookie came from (case A)
abbrev pub refused_in_shutdown : Settings → Address → Cookie → State → Done
refused_in_shutdown c source cookie s =
    followed_by (put c s.association.address s.association.far_tag (ShutdownAckChunk ∷ []) s)
    (λ left. put c source cookie.peer_tag (ErrorChunk (cause_item CookieInShutdown ∷ []) ∷ []) left)

-- the peer has restarted: the association is lost, and the user must want the next one first (case A)
abbrev pub restarted : Phase → Settings → Address → Cookie → State → Done
restarted ShutdownAckSent c source cookie s = refused_in_shutdown c source cookie s
restarted phase c source cookie s = followed_by (ended c Restart s) (stale c source 1 cookie)

-- if there is an association
abbrev pub echo_in_association : Phase → Settings → Address → Cookie → State → Echo
echo_in_association phase c source cookie s =
    if not (is_own cookie s.association) && not (is_far cookie s.association) && is_tied cookie s.association
    then stops (restarted phase c source cookie s)
    else stops (silent s)

-- the peer has begun anew, so nobody acknowledges the cookie that this end echoed: the try ends, the generation grows,
-- and this end waits for the new INIT that ERROR asks the peer for. The user isn't told, and goes on to want one
abbrev pub given_up : Settings → Address → Cookie → State → Done
given_up c source cookie s =
    followed_by (silent (record s { generation = s.generation + 1; association = no_association c }))
    (stale c source 1 cookie)

-- without a try, a cookie has the next tag; as it opens, that is drawn
abbrev pub is_next : Option Beginning → (tag : ℕ) → Bool
is_next None tag = false
is_next (Some b) tag = nat_eq tag b.tag

abbrev pub drawn_next : State → State
drawn_next s = record s { beginnings = s.beginnings + 1 }

abbrev pub echo_without_try : Settings → Secrets → (now : ℕ) → Address → Cookie → State → Echo
echo_without_try c k now source cookie s =
    if s.is_wanted && is_next (k.beginning s.beginnings) cookie.own_tag
    then opened_by c now source cookie (drawn_next s)
    else stops (silent s)

-- in COOKIE-ECHOED: a cookie with the peer's tag opens. Any other is one that this end made for another INIT. Who echoes
-- it has heard this end, so that was no INIT in the peer's name
abbrev pub echo_in_try : Settings → (now : ℕ) → Address → Cookie → State → Echo
echo_in_try c now source cookie s =
    if is_own cookie s.association && is_far cookie s.association
    then opened_by c now source cookie s
    else stops (given_up c source cookie s)

-- a good cookie, by the state (§5.2.4). In COOKIE-WAIT its own tag must be that of the try; any other is of a try that
-- the peer gave up
abbrev pub good_echo_in : Phase → Settings → Secrets → (now : ℕ) → Address → Cookie → State → Echo
good_echo_in Closed c k now source cookie s = echo_without_try c k now source cookie s
good_echo_in CookieWait c k now source cookie s =
    if is_own cookie s.association then opened_by c now source cookie s else stops (silent s)
good_echo_in CookieEchoed c k now source cookie s = echo_in_try c now source cookie s
good_echo_in phase c k now source cookie s = echo_in_association phase c source cookie s

abbrev pub is_there : Phase → Bool
is_there phase = not (is_closed phase || is_waiting phase || is_echoed phase)

-- how long a cookie was too old, in microseconds, as far as there is a number for it
abbrev pub staleness : (now : ℕ) → Cookie → ℕ
staleness now cookie = min (1000 * (now - cookie.made - cookie.life)) (2 ^ 32 - 1)

-- a cookie is good within its life and its generation: it opens one association at most
abbrev pub heard_cookie : Settings → Secrets → (now : ℕ) → Address → Cookie → State → Echo
heard_cookie c k now source cookie s =
    if is_there s.association.phase && is_own cookie s.association && is_far cookie s.association
    then acknowledged_again s
    else (if nat_lt cookie.life (now - cookie.made)
    then stops (stale c source (staleness now cookie) cookie s)
    else (if nat_eq cookie.generation s.generation
    then good_echo_in s.association.phase c k now source cookie s
    else stops (stale c source 1 cookie s)))

-- its signature must be right, and its own tag and port must be the packet's
abbrev pub heard_echo_of : Option Cookie → Settings → Secrets → (now tag : ℕ) → Address → State → Echo
heard_echo_of None c k now tag source s = stops (silent s)
heard_echo_of (Some cookie) c k now tag source s =
    if nat_eq cookie.own_tag tag && nat_eq cookie.peer_port c.far_port
    then heard_cookie c k now source cookie s
    else stops (silent s)

abbrev pub heard_cookie_echo : Settings → Secrets → (now tag : ℕ) → Address → List ℕ → State → Echo
heard_cookie_echo c k now tag source cookie s = heard_echo_of (k.cookie_in cookie) c k now tag source s

-- ---- ERROR comes (§5.2.6, §8.4)

abbrev pub begun_after_stale : Settings → Secrets → (now : ℕ) → Option Try → State → Done
begun_after_stale c k now None s = silent s
begun_after_stale c k now (Some t) s =
    if nat_lt c.init_retransmissions (t.failures + 1)
    then ended c StaleTooOften s
    else begun_anew c k now (t.failures + 1) c.address s

-- in COOKIE-ECHOED: that the cookie was stale. The try restarts, and its failures count on. Other causes say nothing
-- here
abbrev pub heard_error : Settings → Secrets → (now : ℕ) → List ItemValue → State → Done
heard_error c k now causes s =
    if is_echoed s.association.phase && has_stale_cookie causes
    then begun_after_stale c k now s.association.trying s
    else silent s
