-- Rows of the state table, at two endpoints that face each other.
use Rattle.std.specs.Prelude.{◌≡◌, ℕ, true, false, ◌+◌, List, [], ◌∷◌, ◌++◌, Option, Some, None, map, length, replicate}
use Rattle.std.specs.declared.net.ip_addr.IpAddr.TheVariants.{V4, V6}
use Rattle.sctp_receiving.specs.Pieces as pieces
use Rattle.sctp_sending.specs.Outgoing.{Message}
use Rattle.sctp_cookie.specs.declared.cookie.Cookie.{Cookie}
use Rattle.sctp_codec.specs.Packets.{ChunkValue, PacketValue, kind_of, SackChunk, HeartbeatChunk, CookieAckChunk}
use Rattle.sctp_codec.specs.Packets.{AbortChunk, ShutdownAckChunk, InitChunk, InitAckChunk, HeartbeatAckChunk}
use Rattle.sctp_codec.specs.Packets.{InitValue, CookieEchoChunk}
use Rattle.sctp_codec.specs.Packets.{UnknownChunk, DataChunk, ErrorChunk, ShutdownChunk, ShutdownCompleteChunk}
use Rattle.sctp_codec.specs.Items.{ItemValue}
use Rattle.sctp_codec.specs.Parameters.{information_of, state_cookie}
use Rattle.sctp_rules.specs.declared.phase.Phase.TheVariants.{Closed, CookieWait, CookieEchoed, Established}
use Rattle.sctp_rules.specs.declared.phase.Phase.TheVariants.{ShutdownPending, ShutdownSent, ShutdownReceived}
use Rattle.sctp_rules.specs.declared.phase.Phase.TheVariants.{ShutdownAckSent}
use Rattle.sctp_rules.specs.declared.phase.Phase.{Phase}
use Rattle.sctp_rules.specs.declared.loss.Loss.TheVariants.{Local, Aborted, Shutdown, Restart, NoAnswer, Refused}
use Rattle.sctp_rules.specs.declared.loss.Loss.TheVariants.{Protocol}
use Rattle.sctp_rules.specs.declared.loss.Loss.TheVariants.{BadInitAck, StaleCookie}
use Rattle.sctp_rules.specs.Settings.{Settings, Secrets, Address}
use Rattle.sctp_rules.specs.State.{State, Datagram, Told, Up, Heard, Down, Failed, Done, first_state}
use Rattle.sctp_rules.specs.Opening.{init_of}
use Rattle.sctp_rules.specs.Endpoint.{Happening, Opens, Came, Ticked, Sends, Aborts, ShutsDown, Flushes, after}

-- ---- two endpoints

abbrev pub address : Address
address = record { host = 1 ∷ []; port = 9899 }

abbrev pub settings : Settings
settings = record {
  own_port = 3565;
  far_port = 3565;
  address = address;
  addresses = [];
  bounds = record { initial = 300; least = 100; most = 1000 };
  init_retransmissions = 1;
  retransmissions = 2;
  heartbeat = 5000;
  cookie_life = 60000;
}

-- cookies are their fields: nobody signs
abbrev pub fields : Cookie → List ℕ
fields c =
    c.made ∷ c.generation ∷ c.own_tag ∷ c.peer_tag ∷ c.own_first_tsn ∷ c.peer_first_tsn ∷ c.peer_window
    ∷ c.peer_outgoing_streams ∷ c.peer_incoming_streams ∷ c.tie_own_tag ∷ c.tie_peer_tag ∷ c.life ∷ c.peer_port ∷ []

abbrev pub cookie_of : List ℕ → Option Cookie
cookie_of (a ∷ b ∷ c ∷ d ∷ e ∷ f ∷ g ∷ h ∷ i ∷ j ∷ k ∷ l ∷ m ∷ []) = Some (record {
  made = a;
  generation = b;
  own_tag = c;
  peer_tag = d;
  own_first_tsn = e;
  peer_first_tsn = f;
  peer_window = g;
  peer_outgoing_streams = h;
  peer_incoming_streams = i;
  tie_own_tag = j;
  tie_peer_tag = k;
  life = l;
  peer_port = m;
})
cookie_of octets = None

-- tags from a number on
abbrev pub secrets_from : ℕ → Secrets
secrets_from number = record {
  beginning = λ n. Some (record { tag = number + n; first = 100 });
  nonce = λ n. n;
  signed = fields;
  cookie_in = cookie_of;
}

abbrev pub near : Happening → State → Done
near what s = after settings (secrets_from 10) what s

abbrev pub far : Happening → State → Done
far what s = after settings (secrets_from 20) what s

abbrev pub new : State
new = first_state settings

-- ---- what to look at

abbrev pub phase_of : Done → Phase
phase_of d = d.left.association.phase

abbrev pub kinds_of : Datagram → List ℕ
kinds_of d = map kind_of d.packet.chunks

-- the types of the chunks of each packet that goes out
abbrev pub kinds : Done → List (List ℕ)
kinds d = map kinds_of d.sent

abbrev pub none : PacketValue
none = record { source = 0; destination = 0; tag = 0; chunks = [] }

abbrev pub first_of : List Datagram → PacketValue
first_of [] = none
first_of (d ∷ ds) = d.packet

-- the first packet that goes out
abbrev pub packet : Done → PacketValue
packet d = first_of d.sent

abbrev pub comes : ℕ → PacketValue → Happening
comes now p = Came now address p

abbrev pub of_chunk : ℕ → ChunkValue → PacketValue
of_chunk tag chunk = record { source = 3565; destination = 3565; tag = tag; chunks = chunk ∷ [] }

-- ---- the handshake (RFC 9260 §5.1)

abbrev pub waits : Done
waits = far (Opens 0 false) new

abbrev pub tries : Done
tries = near (Opens 0 true) new

abbrev pub answers : Done
answers = far (comes 1 (packet tries)) waits.left

abbrev pub echoes : Done
echoes = near (comes 2 (packet answers)) tries.left

abbrev pub opens_first : Done
opens_first = far (comes 3 (packet echoes)) answers.left

abbrev pub acknowledges : Done
acknowledges = far (Flushes 3) opens_first.left

abbrev pub opens_second : Done
opens_second = near (comes 4 (packet acknowledges)) echoes.left

-- what a step does: the state after it, what goes out, and what is told
pub record Does (d : Done) (phase : Phase) (sent : List (List ℕ)) (told : List Told) : Type 0 where
  pub phase_is : phase_of d ≡ phase
  pub sent_is : kinds d ≡ sent
  pub told_is : d.told ≡ told

abbrev pub try_begins : Type 0
try_begins = Does tries CookieWait ((1 ∷ []) ∷ []) []

abbrev pub init_is_answered : Type 0
init_is_answered = Does answers Closed ((2 ∷ []) ∷ []) []

abbrev pub cookie_is_echoed : Type 0
cookie_is_echoed = Does echoes CookieEchoed ((10 ∷ []) ∷ []) []

abbrev pub cookie_opens : Type 0
cookie_opens = Does opens_first Established [] (Up ∷ [])

abbrev pub cookie_is_acknowledged : Type 0
cookie_is_acknowledged = Does acknowledges Established ((11 ∷ []) ∷ []) []

abbrev pub acknowledgement_opens : Type 0
acknowledgement_opens = Does opens_second Established [] (Up ∷ [])

-- the peer answers from another address than the one that INIT went to, here one with another port (RFC 6951 §5.4):
-- COOKIE ECHO goes to where INIT went, and with the COOKIE ACK the association goes on there
abbrev pub elsewhere : Address
elsewhere = record { host = 1 ∷ []; port = 40000 }

abbrev pub echoes_elsewhere : Done
echoes_elsewhere = near (Came 2 elsewhere (packet answers)) tries.left

abbrev pub answer_from_elsewhere_is_echoed : Type 0
answer_from_elsewhere_is_echoed = Does echoes_elsewhere CookieEchoed ((10 ∷ []) ∷ []) []

abbrev pub address_to : Datagram → Address
address_to d = d.to

abbrev pub echo_goes_where_init_went : Type 0
echo_goes_where_init_went = map address_to echoes_elsewhere.sent ≡ address ∷ []

abbrev pub opens_elsewhere : Done
opens_elsewhere = near (Came 4 elsewhere (packet acknowledges)) echoes_elsewhere.left

abbrev pub acknowledgement_from_elsewhere_opens : Type 0
acknowledgement_from_elsewhere_opens = Does opens_elsewhere Established [] (Up ∷ [])

abbrev pub association_goes_on_elsewhere : Type 0
association_goes_on_elsewhere = opens_elsewhere.left.association.address ≡ elsewhere

-- in a packet with another tag than its own a cookie opens nothing (§5.1.5)
abbrev pub cookie_with_another_tag_is_dropped : Type 0
cookie_with_another_tag_is_dropped =
    Does (far (comes 3 (record (packet echoes) { tag = 21 })) answers.left) Closed [] []

-- ---- no association is wanted, or there is none (§8.4)

abbrev pub unwanted_init_is_dropped : Type 0
unwanted_init_is_dropped = Does (far (comes 1 (packet tries)) new) Closed [] []

abbrev pub unwanted_cookie_is_dropped : Type 0
unwanted_cookie_is_dropped = Does (far (comes 3 (packet echoes)) new) Closed [] []

abbrev pub heartbeat_out_of_the_blue : Type 0
heartbeat_out_of_the_blue = Does (near (comes 0 (of_chunk 7 (HeartbeatChunk []))) new) Closed ((6 ∷ []) ∷ []) []

abbrev pub cookie_ack_out_of_the_blue : Type 0
cookie_ack_out_of_the_blue = Does (near (comes 0 (of_chunk 7 CookieAckChunk)) new) Closed [] []

abbrev pub shutdown_ack_out_of_the_blue : Type 0
shutdown_ack_out_of_the_blue = Does (near (comes 0 (of_chunk 7 ShutdownAckChunk)) new) Closed ((14 ∷ []) ∷ []) []

-- an INIT without a tag is dropped (§3.3.2)
abbrev pub init_without_tag_is_dropped : Type 0
init_without_tag_is_dropped =
    Does (far (comes 1 (of_chunk 0 (InitChunk (init_of (record { tag = 0; first = 5 }) [])))) waits.left) Closed [] []

-- ---- T1 (§5.1.6)

abbrev pub tries_again : Done
tries_again = near (Ticked 300) tries.left

abbrev pub init_goes_out_again : Type 0
init_goes_out_again = Does tries_again CookieWait ((1 ∷ []) ∷ []) []

abbrev pub try_fails : Type 0
try_fails = Does (near (Ticked 900) tries_again.left) Closed [] (Failed NoAnswer ∷ [])

abbrev pub try_is_refused : Type 0
try_is_refused = Does (near (comes 1 (of_chunk 10 (AbortChunk false []))) tries.left) Closed [] (Failed Refused ∷ [])

-- the user gives up: in COOKIE-WAIT there is no tag yet by which the peer takes an ABORT
abbrev pub giving_up_in_cookie_wait : Type 0
giving_up_in_cookie_wait = Does (near Aborts tries.left) Closed [] (Failed Local ∷ [])

abbrev pub giving_up_in_cookie_echoed : Type 0
giving_up_in_cookie_echoed = Does (near Aborts echoes.left) Closed ((6 ∷ []) ∷ []) (Failed Local ∷ [])

-- ---- INIT and COOKIE ECHO that come again (§5.2)

-- anybody may send an INIT in the peer's name: it is answered, and the try goes on. In COOKIE-WAIT the answer has the tag
-- of the try
abbrev pub init_of_a_stranger : PacketValue
init_of_a_stranger = of_chunk 0 (InitChunk (init_of (record { tag = 77; first = 5 }) []))

-- the tag that an INIT ACK offers
abbrev pub offer_in : List ChunkValue → ℕ
offer_in (InitAckChunk init ∷ []) = init.tag
offer_in chunks = 0

abbrev pub offer : Done → ℕ
offer d = offer_in (packet d).chunks

abbrev pub answers_in_cookie_wait : Done
answers_in_cookie_wait = near (comes 1 init_of_a_stranger) tries.left

abbrev pub init_in_cookie_wait_is_answered : Type 0
init_in_cookie_wait_is_answered = Does answers_in_cookie_wait CookieWait ((2 ∷ []) ∷ []) []

abbrev pub with_the_tag_of_the_try : Type 0
with_the_tag_of_the_try = offer answers_in_cookie_wait ≡ 10

abbrev pub cookie_is_echoed_all_the_same : Type 0
cookie_is_echoed_all_the_same =
    Does (near (comes 2 (packet answers)) answers_in_cookie_wait.left) CookieEchoed ((10 ∷ []) ∷ []) []

-- in COOKIE-ECHOED it has another
abbrev pub answers_in_cookie_echoed : Done
answers_in_cookie_echoed = near (comes 3 init_of_a_stranger) echoes.left

abbrev pub init_in_cookie_echoed_is_answered : Type 0
init_in_cookie_echoed_is_answered = Does answers_in_cookie_echoed CookieEchoed ((2 ∷ []) ∷ []) []

abbrev pub with_another_tag : Type 0
with_another_tag = offer answers_in_cookie_echoed ≡ 11

abbrev pub try_goes_on : Type 0
try_goes_on = answers_in_cookie_echoed.left.association ≡ echoes.left.association

abbrev pub acknowledgement_opens_all_the_same : Type 0
acknowledgement_opens_all_the_same =
    Does (near (comes 4 (packet acknowledges)) answers_in_cookie_echoed.left) Established [] (Up ∷ [])

-- a peer that has begun anew hears the answer, and echoes its cookie: that ends the try, and the peer is asked for
-- another INIT, which opens an association
abbrev pub other : Happening → State → Done
other what s = after settings (secrets_from 30) what s

abbrev pub other_tries : Done
other_tries = other (Opens 5 true) new

abbrev pub answers_new_try : Done
answers_new_try = near (comes 5 (packet other_tries)) echoes.left

abbrev pub new_try_echoes : Done
new_try_echoes = other (comes 6 (packet answers_new_try)) other_tries.left

abbrev pub gives_up : Done
gives_up = near (comes 7 (packet new_try_echoes)) answers_new_try.left

abbrev pub cookie_of_a_new_try_ends_the_try : Type 0
cookie_of_a_new_try_ends_the_try = Does gives_up Closed ((9 ∷ []) ∷ []) []

abbrev pub association_is_wanted_still : Type 0
association_is_wanted_still = gives_up.left.is_wanted ≡ true

abbrev pub tries_once_more : Done
tries_once_more = other (comes 8 (packet gives_up)) new_try_echoes.left

abbrev pub answers_once_more : Done
answers_once_more = near (comes 9 (packet tries_once_more)) gives_up.left

abbrev pub peer_that_began_anew_gets_in : Type 0
peer_that_began_anew_gets_in =
    let echo = other (comes 10 (packet answers_once_more)) tries_once_more.left in
    Does (near (comes 11 (packet echo)) answers_once_more.left) Established [] (Up ∷ [])

-- once the try is over, the cookie ends none
abbrev pub cookie_of_a_former_try_is_stale : Type 0
cookie_of_a_former_try_is_stale =
    let tries_later = near (Opens 6 true) (near Aborts answers_new_try.left).left in
    Does (near (comes 7 (packet new_try_echoes)) tries_later.left) CookieWait ((9 ∷ []) ∷ []) []

-- ---- no INIT uses up a tag: the next one is offered until a cookie opens with it, or a try takes it

abbrev pub answers_a_stranger : Done
answers_a_stranger = far (comes 1 init_of_a_stranger) waits.left

abbrev pub answers_after_a_stranger : Done
answers_after_a_stranger = far (comes 2 (packet tries)) answers_a_stranger.left

abbrev pub stranger_is_offered_a_tag : Type 0
stranger_is_offered_a_tag = offer answers_a_stranger ≡ 20

abbrev pub peer_is_offered_the_same : Type 0
peer_is_offered_the_same = offer answers_after_a_stranger ≡ 20

abbrev pub no_tag_is_drawn : Type 0
no_tag_is_drawn = answers_after_a_stranger.left.beginnings ≡ 0

abbrev pub tag_is_drawn_as_the_cookie_opens : Type 0
tag_is_drawn_as_the_cookie_opens = opens_first.left.beginnings ≡ 1

-- which is what the next INIT is told
abbrev pub next_tag_is_offered : Type 0
next_tag_is_offered = offer (far (comes 4 init_of_a_stranger) opens_first.left) ≡ 21

-- a cookie with another tag than the next one opens nothing
abbrev pub cookie_of_another_offer : Cookie
cookie_of_another_offer = record {
  made = 1;
  generation = 0;
  own_tag = 21;
  peer_tag = 10;
  own_first_tsn = 100;
  peer_first_tsn = 100;
  peer_window = 65536;
  peer_outgoing_streams = 2;
  peer_incoming_streams = 2;
  tie_own_tag = 0;
  tie_peer_tag = 0;
  life = 60000;
  peer_port = 3565;
}

abbrev pub echo_with : (tag : ℕ) → PacketValue
echo_with tag = of_chunk tag (CookieEchoChunk (fields (record cookie_of_another_offer { own_tag = tag })))

abbrev pub cookie_of_the_offer_opens : Type 0
cookie_of_the_offer_opens = Does (far (comes 3 (echo_with 20)) waits.left) Established [] (Up ∷ [])

abbrev pub cookie_of_another_offer_is_dropped : Type 0
cookie_of_another_offer_is_dropped = Does (far (comes 3 (echo_with 21)) waits.left) Closed [] []

-- an end that waits, and then tries, takes what it has offered; and a cookie of that offer opens the try
abbrev pub waits_before_it_tries : Done
waits_before_it_tries = near (comes 5 (packet other_tries)) (near (Opens 0 false) new).left

abbrev pub tries_by_the_offer : Done
tries_by_the_offer = near (Opens 6 true) waits_before_it_tries.left

abbrev pub try_takes_the_offer : Type 0
try_takes_the_offer = tries_by_the_offer.left.association.own_tag ≡ offer waits_before_it_tries

abbrev pub cookie_made_before_opens_the_try : Type 0
cookie_made_before_opens_the_try =
    let echo = other (comes 6 (packet waits_before_it_tries)) other_tries.left in
    Does (near (comes 7 (packet echo)) tries_by_the_offer.left) Established [] (Up ∷ [])

-- the COOKIE ACK was lost
abbrev pub cookie_is_acknowledged_again : Type 0
cookie_is_acknowledged_again =
    Does (far (Flushes 5) (far (comes 5 (packet echoes)) acknowledges.left).left) Established ((11 ∷ []) ∷ []) []

-- a cookie opens once: its generation is over, and the peer is told that it is stale
abbrev pub wants_again : Done
wants_again = far (Opens 6 false) (far Aborts acknowledges.left).left

abbrev pub cookie_opens_once : Type 0
cookie_opens_once = Does (far (comes 7 (packet echoes)) wants_again.left) Closed ((9 ∷ []) ∷ []) []

-- the peer has restarted: the association is lost, and the cookie refused
abbrev pub answers_other : Done
answers_other = far (comes 5 (packet other_tries)) acknowledges.left

abbrev pub other_echoes : Done
other_echoes = other (comes 5 (packet answers_other)) other_tries.left

abbrev pub restart_is_a_loss : Type 0
restart_is_a_loss =
    Does (far (comes 6 (packet other_echoes)) answers_other.left) Closed ((9 ∷ []) ∷ []) (Down Restart ∷ [])

-- in SHUTDOWN-ACK-SENT it isn't: SHUTDOWN ACK goes out again, and ERROR by itself
abbrev pub restarts_late : Done
restarts_late = far (Flushes 11) (far (comes 11 (of_chunk 20 (ShutdownChunk 99))) answers_other.left).left

abbrev pub refuses_restart : Done
refuses_restart = far (comes 12 (packet other_echoes)) restarts_late.left

abbrev pub restart_is_refused_in_shutdown : Type 0
restart_is_refused_in_shutdown = Does refuses_restart ShutdownAckSent ((8 ∷ []) ∷ (9 ∷ []) ∷ []) []

-- by the answer to SHUTDOWN ACK the association ends
abbrev pub answers_late_shutdown : Done
answers_late_shutdown = other (comes 13 (packet refuses_restart)) other_echoes.left

abbrev pub restarted_peer_completes : Type 0
restarted_peer_completes = Does (far (comes 14 (packet answers_late_shutdown)) refuses_restart.left) Closed [] []

-- ---- DATA and SACK (§6)

abbrev pub given : Message
given = record { stream = 1; protocol = 5; octets = 1 ∷ 2 ∷ 3 ∷ [] }

abbrev pub message : pieces.Message
message = record { stream = 1; protocol = 5; octets = 1 ∷ 2 ∷ 3 ∷ [] }

abbrev pub sends : Done
sends = near (Flushes 5) (near (Sends given) opens_second.left).left

abbrev pub data_goes_out : Type 0
data_goes_out = Does sends Established ((0 ∷ []) ∷ []) []

abbrev pub hears : Done
hears = far (comes 6 (packet sends)) acknowledges.left

abbrev pub data_is_told : Type 0
data_is_told = Does hears Established [] (Heard message ∷ [])

abbrev pub reports : Done
reports = far (Flushes 6) hears.left

abbrev pub data_is_confirmed : Type 0
data_is_confirmed = Does reports Established ((3 ∷ []) ∷ []) []

abbrev pub confirmed : Done
confirmed = near (comes 7 (packet reports)) sends.left

abbrev pub confirmation_frees : Type 0
confirmation_frees = length confirmed.left.association.sender.out ≡ 0

-- the same DATA again tells nothing, and is confirmed again
abbrev pub hears_again : Done
hears_again = far (comes 8 (packet sends)) reports.left

abbrev pub data_is_told_once : Type 0
data_is_told_once = Does hears_again Established [] []

abbrev pub repeated_data_is_confirmed : Type 0
repeated_data_is_confirmed = Does (far (Flushes 8) hears_again.left) Established ((3 ∷ []) ∷ []) []

-- T3: what isn't confirmed goes out again
abbrev pub data_goes_out_again : Type 0
data_goes_out_again =
    Does (near (Flushes 400) (near (Ticked 400) sends.left).left) Established ((0 ∷ []) ∷ []) []

-- for one time too many: the association ends
abbrev pub goes_out_thrice : Done
goes_out_thrice = near (Flushes 1000) (near (Ticked 1000) (near (Flushes 400) (near (Ticked 400) sends.left).left).left).left

abbrev pub unconfirmed_data_is_a_loss : Type 0
unconfirmed_data_is_a_loss = Does (near (Ticked 2000) goes_out_thrice.left) Closed ((6 ∷ []) ∷ []) (Down NoAnswer ∷ [])

-- a SACK of what wasn't sent is a violation
abbrev pub too_much : ChunkValue
too_much = SackChunk (record { cumulative = 100; window = 1000; blocks = []; duplicates = [] })

abbrev pub confirming_too_much_is_a_violation : Type 0
confirming_too_much_is_a_violation =
    Does (near (comes 8 (of_chunk 10 too_much)) opens_second.left) Closed ((6 ∷ []) ∷ []) (Down Protocol ∷ [])

-- a wrong tag
abbrev pub wrong_tag_is_dropped : Type 0
wrong_tag_is_dropped =
    Does (near (comes 8 (of_chunk 11 too_much)) opens_second.left) Established [] []

-- after a SHUTDOWN COMPLETE with the peer's tag, DATA isn't looked at
abbrev pub data_with_the_peers_tag : PacketValue
data_with_the_peers_tag =
    record (packet sends) { tag = 10; chunks = ShutdownCompleteChunk true ∷ (packet sends).chunks }

abbrev pub data_with_the_peers_tag_is_dropped : Type 0
data_with_the_peers_tag_is_dropped = Does (far (comes 6 data_with_the_peers_tag) acknowledges.left) Established [] []

-- ---- the end (§9)

abbrev pub aborts : Done
aborts = near Aborts opens_second.left

abbrev pub abort_is_sent : Type 0
abort_is_sent = Does aborts Closed ((6 ∷ []) ∷ []) (Down Local ∷ [])

abbrev pub abort_is_a_loss : Type 0
abort_is_a_loss = Does (far (comes 9 (packet aborts)) acknowledges.left) Closed [] (Down Aborted ∷ [])

-- and isn't answered, nor is what comes before it
abbrev pub behind_heartbeat : PacketValue → PacketValue
behind_heartbeat p = record p { chunks = HeartbeatChunk (1 ∷ []) ∷ p.chunks }

abbrev pub abort_is_not_answered : Type 0
abort_is_not_answered =
    Does (far (comes 9 (behind_heartbeat (packet aborts))) acknowledges.left) Closed [] (Down Aborted ∷ [])

abbrev pub shuts_down : Done
shuts_down = near (ShutsDown 10) opens_second.left

abbrev pub shutdown_goes_out : Done
shutdown_goes_out = near (Flushes 10) shuts_down.left

abbrev pub shutdown_is_sent : Type 0
shutdown_is_sent = Does shutdown_goes_out ShutdownSent ((7 ∷ []) ∷ []) []

abbrev pub is_shut_down : Done
is_shut_down = far (comes 11 (packet shutdown_goes_out)) acknowledges.left

abbrev pub shutdown_is_a_loss : Type 0
shutdown_is_a_loss = Does is_shut_down ShutdownAckSent [] (Down Shutdown ∷ [])

abbrev pub shutdown_answered : Done
shutdown_answered = far (Flushes 11) is_shut_down.left

abbrev pub shutdown_is_answered : Type 0
shutdown_is_answered = Does shutdown_answered ShutdownAckSent ((8 ∷ []) ∷ []) []

abbrev pub shutdown_completes : Done
shutdown_completes = near (comes 12 (packet shutdown_answered)) shutdown_goes_out.left

abbrev pub shutdown_is_complete : Type 0
shutdown_is_complete = Does shutdown_completes Closed ((14 ∷ []) ∷ []) (Down Shutdown ∷ [])

abbrev pub completion_ends : Type 0
completion_ends = Does (far (comes 13 (packet shutdown_completes)) shutdown_answered.left) Closed [] []

-- it stands alone, and isn't answered
abbrev pub completion_stands_alone : Type 0
completion_stands_alone =
    Does (near (comes 12 (behind_heartbeat (packet shutdown_answered))) shutdown_goes_out.left) Closed ((14 ∷ []) ∷ [])
    (Down Shutdown ∷ [])

abbrev pub completion_is_not_answered : Type 0
completion_is_not_answered =
    Does (far (comes 13 (behind_heartbeat (packet shutdown_completes))) shutdown_answered.left) Closed [] []

-- ---- both ends begin at once (§5.2.1)

abbrev pub far_tries : Done
far_tries = far (Opens 0 true) new

abbrev pub answers_alike : Done
answers_alike = far (comes 1 (packet tries)) far_tries.left

-- the INIT ACK has the tag of its own INIT
abbrev pub both_begin : Type 0
both_begin = Does answers_alike CookieWait ((2 ∷ []) ∷ []) []

abbrev pub near_echoes : Done
near_echoes = near (comes 2 (packet answers_alike)) tries.left

abbrev pub cookie_opens_a_try : Type 0
cookie_opens_a_try = Does (far (comes 3 (packet near_echoes)) answers_alike.left) Established [] (Up ∷ [])

-- in COOKIE-ECHOED an INIT of the known peer is answered alike, and its cookie opens
abbrev pub known_init_is_answered : Type 0
known_init_is_answered = Does (near (comes 3 (packet far_tries)) near_echoes.left) CookieEchoed ((2 ∷ []) ∷ []) []

abbrev pub near_answers : Done
near_answers = near (comes 1 (packet far_tries)) tries.left

abbrev pub both_answer : Done
both_answer = near (comes 2 (packet answers_alike)) near_answers.left

abbrev pub far_echoes : Done
far_echoes = far (comes 2 (packet near_answers)) answers_alike.left

abbrev pub cookie_of_both_tags_opens : Type 0
cookie_of_both_tags_opens = Does (near (comes 3 (packet far_echoes)) both_answer.left) Established [] (Up ∷ [])

-- but that of another peer tag doesn't: it opens only in COOKIE-WAIT, and ends a try in COOKIE-ECHOED
abbrev pub answers_another : Done
answers_another = near (comes 1 (packet other_tries)) tries.left

abbrev pub another_echoes : Done
another_echoes = other (comes 2 (packet answers_another)) other_tries.left

abbrev pub cookie_of_another_peer_opens_a_try : Type 0
cookie_of_another_peer_opens_a_try =
    Does (near (comes 3 (packet another_echoes)) answers_another.left) Established [] (Up ∷ [])

abbrev pub echoes_of_another : Done
echoes_of_another = near (comes 2 (packet answers)) answers_another.left

abbrev pub cookie_of_another_peer_ends_the_try : Type 0
cookie_of_another_peer_ends_the_try =
    Does (near (comes 3 (packet another_echoes)) echoes_of_another.left) Closed ((9 ∷ []) ∷ []) []

-- ---- T1 in COOKIE-ECHOED, and a stale cookie (§5.2.6)

abbrev pub echoes_again : Done
echoes_again = near (Ticked 302) echoes.left

abbrev pub cookie_goes_out_again : Type 0
cookie_goes_out_again = Does echoes_again CookieEchoed ((10 ∷ []) ∷ []) []

abbrev pub cookie_is_too_old : Type 0
cookie_is_too_old = Does (far (comes 60002 (packet echoes)) answers.left) Closed ((9 ∷ []) ∷ []) []

abbrev pub refuses_old_cookie : Done
refuses_old_cookie = far (comes 60002 (packet echoes)) answers.left

-- cause 3 says by how much, in microseconds (§3.3.10.3): made at 1 ms, it was good until 60,001 ms. A second later that
-- is 1,000,000, or F4240 in hexadecimal
abbrev pub stale_by : (octets : List ℕ) → List ChunkValue
stale_by octets = ErrorChunk (record { kind = 3; value = octets } ∷ []) ∷ []

abbrev pub cookie_is_stale_by_a_second : Type 0
cookie_is_stale_by_a_second =
    (packet (far (comes 61001 (packet echoes)) answers.left)).chunks ≡ stale_by (0 ∷ 15 ∷ 66 ∷ 64 ∷ [])

abbrev pub cookie_is_stale_by_a_millisecond : Type 0
cookie_is_stale_by_a_millisecond = (packet refuses_old_cookie).chunks ≡ stale_by (0 ∷ 0 ∷ 3 ∷ 232 ∷ [])

-- at 60,001 ms it is still good
abbrev pub cookie_lives_to_the_last : Type 0
cookie_lives_to_the_last = Does (far (comes 60001 (packet echoes)) answers.left) Established [] (Up ∷ [])

abbrev pub begins_after_stale : Done
begins_after_stale = near (comes 60003 (packet refuses_old_cookie)) echoes.left

abbrev pub stale_cookie_begins_anew : Type 0
stale_cookie_begins_anew = Does begins_after_stale CookieWait ((1 ∷ []) ∷ []) []

-- it is a failure of the try, as T1 is; here the second one ends it, whichever comes first
abbrev pub stale_cookie_ends_the_try : Type 0
stale_cookie_ends_the_try =
    Does (near (comes 60003 (packet refuses_old_cookie)) echoes_again.left) Closed [] (Failed StaleCookie ∷ [])

abbrev pub failures_count_on : Type 0
failures_count_on = Does (near (Ticked 60303) begins_after_stale.left) Closed [] (Failed NoAnswer ∷ [])

abbrev pub init_with_cookie : List ℕ → InitValue
init_with_cookie cookie =
    init_of (record { tag = 20; first = 5 }) (record { kind = state_cookie; value = cookie } ∷ [])

-- chunks after that ERROR are of the try that is over
abbrev pub opening_behind : PacketValue → PacketValue
opening_behind p = record p { chunks = p.chunks ++ InitAckChunk (init_with_cookie (1 ∷ [])) ∷ CookieAckChunk ∷ [] }

abbrev pub former_try_opens_nothing : Type 0
former_try_opens_nothing =
    Does (near (comes 60003 (opening_behind (packet refuses_old_cookie))) echoes.left) CookieWait ((1 ∷ []) ∷ []) []

-- INIT ACK with only one stream, without a cookie, or without a tag; no ABORT can be sent to the last one
abbrev pub init_ack_comes : InitValue → Done
init_ack_comes init = near (comes 1 (of_chunk 10 (InitAckChunk init))) tries.left

abbrev pub usable_init_ack_is_echoed : Type 0
usable_init_ack_is_echoed = Does (init_ack_comes (init_with_cookie (1 ∷ []))) CookieEchoed ((10 ∷ []) ∷ []) []

-- a cookie of 1,184 octets fills a packet; a longer one can't be echoed
abbrev pub longest_cookie_is_echoed : Type 0
longest_cookie_is_echoed = Does (init_ack_comes (init_with_cookie (replicate 1184 1))) CookieEchoed ((10 ∷ []) ∷ []) []

abbrev pub longer_cookie_ends_the_try : Type 0
longer_cookie_ends_the_try =
    Does (init_ack_comes (init_with_cookie (replicate 1185 1))) Closed ((6 ∷ []) ∷ []) (Failed BadInitAck ∷ [])

-- a parameter that is to be reported is, if there is room for 512 octets of such
abbrev pub with_unknown_parameter : InitValue → InitValue
with_unknown_parameter init = record init { parameters = init.parameters ++ record { kind = 49152; value = [] } ∷ [] }

abbrev pub unknown_parameter_is_reported : Type 0
unknown_parameter_is_reported =
    Does (init_ack_comes (with_unknown_parameter (init_with_cookie (replicate 660 1)))) CookieEchoed ((10 ∷ 9 ∷ []) ∷ []) []

abbrev pub long_cookie_leaves_no_room : Type 0
long_cookie_leaves_no_room =
    Does (init_ack_comes (with_unknown_parameter (init_with_cookie (replicate 661 1)))) CookieEchoed ((10 ∷ []) ∷ []) []

abbrev pub too_few_streams : InitValue
too_few_streams = record (init_with_cookie (1 ∷ [])) { incoming = 1 }

abbrev pub unusable_init_ack_ends_the_try : Type 0
unusable_init_ack_ends_the_try =
    Does (init_ack_comes too_few_streams) Closed ((6 ∷ []) ∷ []) (Failed BadInitAck ∷ [])

abbrev pub init_ack_without_cookie_ends_the_try : Type 0
init_ack_without_cookie_ends_the_try =
    Does (init_ack_comes (init_of (record { tag = 20; first = 5 }) [])) Closed ((6 ∷ []) ∷ []) (Failed BadInitAck ∷ [])

abbrev pub init_ack_without_tag_ends_the_try : Type 0
init_ack_without_tag_ends_the_try =
    Does (init_ack_comes (record (init_with_cookie (1 ∷ [])) { tag = 0 })) Closed [] (Failed BadInitAck ∷ [])

abbrev pub giving_up_is_told : Type 0
giving_up_is_told = Does (far Aborts waits.left) Closed [] (Failed Local ∷ [])

-- ---- an end with two addresses, 192.0.2.1 and 2001:db8::1 (§5.1.2)

abbrev pub on_two_paths : Settings
on_two_paths = record settings {
  addresses =
      V4 (record { octets = 192 ∷ 0 ∷ 2 ∷ 1 ∷ [] })
      ∷ V6 (record { segments = 0x2001 ∷ 0x0db8 ∷ 0 ∷ 0 ∷ 0 ∷ 0 ∷ 0 ∷ 1 ∷ [] }) ∷ [];
}

abbrev pub two_addresses : List ItemValue
two_addresses =
    record { kind = 5; value = 192 ∷ 0 ∷ 2 ∷ 1 ∷ [] }
    ∷ record { kind = 6; value = 0x20 ∷ 1 ∷ 0x0d ∷ 0xb8 ∷ 0 ∷ 0 ∷ 0 ∷ 0 ∷ 0 ∷ 0 ∷ 0 ∷ 0 ∷ 0 ∷ 0 ∷ 0 ∷ 1 ∷ [] } ∷ []

-- its INIT lists both, and so does its INIT ACK, which has a cookie too
abbrev pub init_lists_addresses : Type 0
init_lists_addresses =
    (packet (after on_two_paths (secrets_from 10) (Opens 0 true) (first_state on_two_paths))).chunks
    ≡ InitChunk (init_of (record { tag = 10; first = 100 }) two_addresses) ∷ []

abbrev pub answers_on_two_paths : Done
answers_on_two_paths =
    after on_two_paths (secrets_from 20) (comes 1 (packet tries))
    (after on_two_paths (secrets_from 20) (Opens 0 false) (first_state on_two_paths)).left

abbrev pub init_ack_lists_addresses : Type 0
init_ack_lists_addresses =
    (packet answers_on_two_paths).chunks
    ≡ InitAckChunk (init_of (record { tag = 20; first = 100 })
    (two_addresses ++ record { kind = state_cookie; value = 1 ∷ 0 ∷ 20 ∷ 10 ∷ 100 ∷ 100 ∷ 65536 ∷ 2 ∷ 2 ∷ 0 ∷ 0 ∷ 60000 ∷ 3565 ∷ [] } ∷ []))
    ∷ []

-- the other end echoes that cookie, whatever is listed before it
abbrev pub cookie_behind_addresses_is_echoed : Type 0
cookie_behind_addresses_is_echoed =
    Does (near (comes 2 (packet answers_on_two_paths)) tries.left) CookieEchoed ((10 ∷ []) ∷ []) []

-- ---- in an association

-- an INIT is answered with a new tag, and changes nothing else
abbrev pub init_is_answered_anew : Type 0
init_is_answered_anew = Does answers_other Established ((2 ∷ []) ∷ []) []

abbrev pub heartbeat_is_answered : Type 0
heartbeat_is_answered =
    Does (near (Flushes 5) (near (comes 5 (of_chunk 10 (HeartbeatChunk (1 ∷ [])))) opens_second.left).left) Established
    ((5 ∷ []) ∷ []) []

abbrev pub beats : Done
beats = near (Ticked 5304) opens_second.left

abbrev pub heartbeat_goes_out : Type 0
heartbeat_goes_out = Does (near (Flushes 5304) beats.left) Established ((4 ∷ []) ∷ []) []

abbrev pub beats_again : Done
beats_again = near (Ticked 5604) beats.left

abbrev pub beats_thrice : Done
beats_thrice = near (Ticked 6204) beats_again.left

-- without an answer for one time too many, the association ends
abbrev pub silence_is_a_loss : Type 0
silence_is_a_loss =
    Does (near (Ticked 8000) beats_thrice.left) Closed ((4 ∷ 4 ∷ 4 ∷ 6 ∷ []) ∷ []) (Down NoAnswer ∷ [])

-- after an answer to the heartbeat the count begins again
abbrev pub heartbeat_of_near : ChunkValue
heartbeat_of_near = HeartbeatAckChunk (information_of 0)

abbrev pub answer_ends_the_beat : Type 0
answer_ends_the_beat =
    (near (comes 5350 (of_chunk 10 heartbeat_of_near)) beats.left).left.association.beat_due ≡ Some 10488

-- but only to the last one (§8.3)
abbrev pub late_answer_ends_no_beat : Type 0
late_answer_ends_no_beat =
    (near (comes 5650 (of_chunk 10 heartbeat_of_near)) beats_again.left).left.association.beat_due ≡ Some 6204

abbrev pub unknown_chunk_is_reported : Type 0
unknown_chunk_is_reported =
    Does (near (Flushes 5) (near (comes 5 (of_chunk 10 (UnknownChunk 192 0 []))) opens_second.left).left) Established
    ((9 ∷ []) ∷ []) []

abbrev pub unknown_chunk_is_passed_over : Type 0
unknown_chunk_is_passed_over =
    Does (near (Flushes 5) (near (comes 5 (of_chunk 10 (UnknownChunk 128 0 []))) opens_second.left).left) Established
    [] []

-- the chunks after an unknown one count or don't, by the upper two bits of its type (§3.2)
abbrev pub before_heartbeat : ChunkValue → Done
before_heartbeat chunk =
    let p = record (of_chunk 10 chunk) { chunks = chunk ∷ HeartbeatChunk (1 ∷ []) ∷ [] } in
    near (Flushes 5) (near (comes 5 p) opens_second.left).left

abbrev pub unknown_chunk_ends_its_packet : Type 0
unknown_chunk_ends_its_packet = Does (before_heartbeat (UnknownChunk 63 0 [])) Established [] []

abbrev pub reported_chunk_ends_its_packet : Type 0
reported_chunk_ends_its_packet = Does (before_heartbeat (UnknownChunk 127 0 [])) Established ((9 ∷ []) ∷ []) []

abbrev pub chunks_behind_one_passed_over_count : Type 0
chunks_behind_one_passed_over_count =
    Does (before_heartbeat (UnknownChunk 128 0 [])) Established ((5 ∷ []) ∷ []) []

abbrev pub chunks_behind_one_reported_count : Type 0
chunks_behind_one_reported_count =
    Does (before_heartbeat (UnknownChunk 192 0 [])) Established ((9 ∷ 5 ∷ []) ∷ []) []

-- DATA without data
abbrev pub empty_data : ChunkValue
empty_data = DataChunk (record {
  immediate = false;
  unordered = false;
  begins = true;
  ends = true;
  tsn = 100;
  stream = 0;
  sequence = 0;
  protocol = 5;
  octets = [];
})

abbrev pub data_without_data_is_a_violation : Type 0
data_without_data_is_a_violation =
    Does (near (comes 5 (of_chunk 10 empty_data)) opens_second.left) Closed ((6 ∷ []) ∷ []) (Down Protocol ∷ [])

-- ---- shutting down

-- SHUTDOWN waits until all that was sent is confirmed
abbrev pub shutdown_waits : Done
shutdown_waits = near (ShutsDown 6) sends.left

abbrev pub shutdown_is_pending : Type 0
shutdown_is_pending = Does shutdown_waits ShutdownPending [] []

-- and no message is taken meanwhile
abbrev pub shutdown_takes_no_message : Type 0
shutdown_takes_no_message = length (near (Sends given) shutdown_waits.left).left.association.sender.out ≡ 1

abbrev pub shutdown_follows_confirmation : Type 0
shutdown_follows_confirmation =
    Does (near (Flushes 7) (near (comes 7 (packet reports)) shutdown_waits.left).left) ShutdownSent ((7 ∷ []) ∷ []) []

-- T2
abbrev pub shutdown_goes_out_again : Type 0
shutdown_goes_out_again =
    Does (near (Flushes 310) (near (Ticked 310) shutdown_goes_out.left).left) ShutdownSent ((7 ∷ []) ∷ []) []

-- for one time too many: the association ends
abbrev pub shutdown_again : Done
shutdown_again = near (Ticked 910) (near (Flushes 310) (near (Ticked 310) shutdown_goes_out.left).left).left

abbrev pub unanswered_shutdown_is_a_loss : Type 0
unanswered_shutdown_is_a_loss =
    Does (near (Ticked 1910) (near (Flushes 910) shutdown_again.left).left) Closed ((6 ∷ []) ∷ []) (Down NoAnswer ∷ [])

-- DATA that comes meanwhile is answered by SHUTDOWN and SACK, and T2 restarts
abbrev pub far_sends : Done
far_sends = far (Flushes 5) (far (Sends given) acknowledges.left).left

abbrev pub acknowledges_data : Done
acknowledges_data = near (Flushes 50) (near (comes 50 (packet far_sends)) shutdown_goes_out.left).left

abbrev pub data_meets_shutdown : Type 0
data_meets_shutdown = Does acknowledges_data ShutdownSent ((7 ∷ 3 ∷ []) ∷ []) []

abbrev pub t2_begins_anew : Type 0
t2_begins_anew = acknowledges_data.left.association.t2 ≡ Some 350

-- T5
abbrev pub shutdown_guard_ends_it : Type 0
shutdown_guard_ends_it = Does (near (Ticked 5010) shutdown_goes_out.left) Closed ((6 ∷ []) ∷ []) (Down NoAnswer ∷ [])

-- in SHUTDOWN-ACK-SENT an INIT is answered by SHUTDOWN ACK
abbrev pub init_is_answered_by_shutdown_ack : Type 0
init_is_answered_by_shutdown_ack =
    Does (far (comes 12 (packet other_tries)) shutdown_answered.left) ShutdownAckSent ((8 ∷ []) ∷ []) []

-- both ends shut down at once
abbrev pub far_shuts_down : Done
far_shuts_down = far (Flushes 10) (far (ShutsDown 10) acknowledges.left).left

abbrev pub both_shut_down : Done
both_shut_down = near (Flushes 11) (near (comes 11 (packet far_shuts_down)) shutdown_goes_out.left).left

abbrev pub shutdown_meets_shutdown : Type 0
shutdown_meets_shutdown = Does both_shut_down ShutdownAckSent ((8 ∷ []) ∷ []) []

abbrev pub shutdown_ack_meets_shutdown_ack : Type 0
shutdown_ack_meets_shutdown_ack =
    Does (near (comes 12 (of_chunk 10 ShutdownAckChunk)) both_shut_down.left) Closed ((14 ∷ []) ∷ []) (Down Shutdown ∷ [])

-- T2 in SHUTDOWN-ACK-SENT; the user isn't told of its end again
abbrev pub ack_goes_out_again : Done
ack_goes_out_again = far (Flushes 311) (far (Ticked 311) shutdown_answered.left).left

abbrev pub shutdown_ack_goes_out_again : Type 0
shutdown_ack_goes_out_again = Does ack_goes_out_again ShutdownAckSent ((8 ∷ []) ∷ []) []

abbrev pub ack_goes_out_thrice : Done
ack_goes_out_thrice = far (Flushes 911) (far (Ticked 911) ack_goes_out_again.left).left

abbrev pub unanswered_shutdown_ack_ends_it : Type 0
unanswered_shutdown_ack_ends_it = Does (far (Ticked 1911) ack_goes_out_thrice.left) Closed ((6 ∷ []) ∷ []) []

-- ---- SHUTDOWN-RECEIVED: what went out isn't confirmed yet

abbrev pub is_shut_down_early : Done
is_shut_down_early = far (comes 11 (of_chunk 20 (ShutdownChunk 99))) far_sends.left

abbrev pub shutdown_waits_for_confirmation : Type 0
shutdown_waits_for_confirmation = Does is_shut_down_early ShutdownReceived [] (Down Shutdown ∷ [])

-- what comes, and then packets are asked for
abbrev pub then_comes : ChunkValue → Done
then_comes chunk = far (Flushes 12) (far (comes 12 (of_chunk 20 chunk)) is_shut_down_early.left).left

-- by a SACK, or by SHUTDOWN once more
abbrev pub all_of_it : ChunkValue
all_of_it = SackChunk (record { cumulative = 100; window = 1000; blocks = []; duplicates = [] })

abbrev pub last_sack_is_followed_by_shutdown_ack : Type 0
last_sack_is_followed_by_shutdown_ack = Does (then_comes all_of_it) ShutdownAckSent ((8 ∷ []) ∷ []) []

abbrev pub shutdown_confirms : Type 0
shutdown_confirms = Does (then_comes (ShutdownChunk 100)) ShutdownAckSent ((8 ∷ []) ∷ []) []

-- DATA doesn't count, and a heartbeat is answered
abbrev pub data_behind_shutdown_is_dropped : Type 0
data_behind_shutdown_is_dropped =
    Does (far (Flushes 12) (far (comes 12 (packet sends)) is_shut_down_early.left).left) ShutdownReceived [] []

abbrev pub heartbeat_behind_shutdown_is_answered : Type 0
heartbeat_behind_shutdown_is_answered =
    Does (then_comes (HeartbeatChunk (1 ∷ []))) ShutdownReceived ((5 ∷ []) ∷ []) []

-- T3
abbrev pub data_goes_out_again_behind_shutdown : Type 0
data_goes_out_again_behind_shutdown =
    Does (far (Flushes 305) (far (Ticked 305) is_shut_down_early.left).left) ShutdownReceived ((0 ∷ []) ∷ []) []

-- an INIT is answered with a new tag, and by its cookie the association ends
abbrev pub answers_init_behind_shutdown : Done
answers_init_behind_shutdown = far (comes 12 (packet other_tries)) is_shut_down_early.left

abbrev pub init_behind_shutdown_is_answered : Type 0
init_behind_shutdown_is_answered = Does answers_init_behind_shutdown ShutdownReceived ((2 ∷ []) ∷ []) []

abbrev pub restart_behind_shutdown : Done
restart_behind_shutdown =
    let echo = other (comes 13 (packet answers_init_behind_shutdown)) other_tries.left in
    far (comes 14 (packet echo)) answers_init_behind_shutdown.left

abbrev pub restart_behind_shutdown_ends_it : Type 0
restart_behind_shutdown_ends_it = Does restart_behind_shutdown Closed ((9 ∷ []) ∷ []) []

-- ABORT
abbrev pub abort_behind_shutdown_ends_it : Type 0
abort_behind_shutdown_ends_it = Does (then_comes (AbortChunk false [])) Closed [] []
