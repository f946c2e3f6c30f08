-- What passes the gate of a link, and what is refused or left out before it, counted.
use Rattle.std.specs.Prelude.{ℕ, ◌-◌, ◌||◌, List, [], ◌∷◌, map, Option, Some, None, if◌then◌else◌}
use Rattle.std.specs.Option.{option_map}
use Rattle.std.specs.declared.net.socket_addr.SocketAddr.{SocketAddr}
use Rattle.sctp_codec.specs.Reading.{read_packet}
use Rattle.sctp_bundling.specs.Watching.{Sent, sent_as}
use Rattle.sctp_endpoint.specs.Endpoints.{secrets_of}
use Rattle.sctp_endpoint.specs.Refusing.{refusal}
use Rattle.exchange_rules.specs.State.{QueueKind, State}
use Rattle.sctp_gate.specs.Gates.{Gate, Did}
use Rattle.sctp_gate.specs.Watching.{Sight, Rose, CameIn, Dropped, Fell, Failed, WentOut}
use Rattle.served_link.specs.Counting.{NodeCounters, DatagramWent, WasSetBack, WentAgain, counted_at, counted_datagram}
use Rattle.served_link.specs.Counting.{frame_came, frame_went}
use Rattle.served_link.specs.declared.setback.Setback.{Setback}
use Rattle.served_link.specs.declared.setback.Setback.TheVariants as setback
use Rattle.sctp_links.specs.declared.screening.Screened.{Screened}
use Rattle.sctp_links.specs.declared.screening.Screened.TheVariants.{Heard, OtherPort, TooMany}
use Rattle.sctp_links.specs.Links.{Link}
use Rattle.sctp_links.specs.Screening.{did_at, is_init, is_init_ack, screened}
use Rattle.sctp_links.specs.Setbacks.{failed_by, setback_by}

-- what kept an association from opening is counted for the link, if anything did
abbrev pub counted_setback : (link : ℕ) → Option Setback → NodeCounters → NodeCounters
counted_setback link None c = c
counted_setback link (Some setback) c = counted_at link (WasSetBack setback) c

-- a try that failed is counted, and so are frames that came in and went out, as over TCP
abbrev pub counted_sight : (link : ℕ) → Sight → NodeCounters → NodeCounters
counted_sight link Rose c = c
counted_sight link (CameIn frame outcome) c = frame_came link frame outcome c
counted_sight link (Dropped message) c = c
counted_sight link (Fell why) c = c
counted_sight link (Failed why) c = counted_setback link (failed_by why) c
counted_sight link (WentOut frame) c = frame_went link frame c

abbrev pub counted_sights : (link : ℕ) → List Sight → NodeCounters → NodeCounters
counted_sights link [] c = c
counted_sights link (sight ∷ more) c = counted_sights link more (counted_sight link sight c)

-- and each datagram that went out
abbrev pub counted_sent : List Sent → NodeCounters → NodeCounters
counted_sent [] c = c
counted_sent (one ∷ more) c = counted_sent more (counted_datagram DatagramWent c)

-- what a call of a gate gives, counted: both lists, since neither changes what the other counts
abbrev pub counted_by : (link : ℕ) → List Sent → List Sight → NodeCounters → NodeCounters
counted_by link sent seen c = record {
  links = (counted_sights link seen c).links;
  datagrams = (counted_sent sent c).datagrams;
  messages = (counted_sights link seen c).messages;
}

abbrev pub counted_did : {Q : Type 0} → (link : ℕ) → Did Q → NodeCounters → NodeCounters
counted_did link did c = counted_by link (map sent_as did.sent) did.seen c

-- how many chunks the association of a gate sent again since it began; 0 while there is none
abbrev pub retransmissions_of : Gate → ℕ
retransmissions_of g = g.endpoint.state.association.sender.retransmissions

-- what a call gives, and how many chunks went out again by it: none by one that ends the association
abbrev pub counted_call : {Q : Type 0} → Gate → Did Q → NodeCounters → NodeCounters
counted_call g did c =
    counted_at g.link (WentAgain (retransmissions_of did.gate - retransmissions_of g)) (counted_did g.link did c)

-- ---- a datagram of a link

-- why its endpoint refuses it, as things stand before it is heard. None if it doesn't, or if it is no INIT or INIT ACK
abbrev pub refused_at : List ℕ → Gate → Option Setback
refused_at octets g =
    if is_init octets || is_init_ack octets
    then option_map setback_by
    (refusal (read_packet octets) g.endpoint.settings (secrets_of g.endpoint) g.endpoint.state)
    else None

-- why it is left out; or, of one that is heard, why it is refused
abbrev pub setback_of : Screened → List ℕ → Gate → Option Setback
setback_of Heard octets g = refused_at octets g
setback_of OtherPort octets g = Some setback.OtherPort
setback_of TooMany octets g = Some setback.TooMany

-- that is counted, and then what passes the gate
abbrev pub counted_hearing :
    {Q : Type 0} → QueueKind Q → (now : ℕ) → List ℕ → (source : SocketAddr) → Link → State Q → NodeCounters
    → NodeCounters
counted_hearing q now octets source l s c =
    counted_did l.gate.link (did_at q now octets source l s)
    (counted_setback l.gate.link (setback_of (screened now octets source l) octets l.gate) c)
