-- Why an INIT isn't answered by INIT ACK, and why an INIT ACK ends its try.
use Rattle.std.specs.Prelude.{◌≡◌, ℕ, ◌+◌, Bool, true, false, ◌&&◌, List, [], ◌∷◌, Option, Some, None, is_none, is_some}
use Rattle.std.specs.Prelude.{nat_eq, if◌then◌else◌}
use Rattle.std.specs.List.{list_any}
use Rattle.sctp_codec.specs.Packets.{ChunkValue, InitValue, PacketValue, InitChunk, InitAckChunk}
use Rattle.sctp_codec.specs.Parameters.{cookie_in, host_name_in}
use Rattle.sctp_rules.specs.declared.phase.Phase.{Phase}
use Rattle.sctp_rules.specs.declared.phase.Phase.TheVariants.{Closed, CookieWait, CookieEchoed, Established}
use Rattle.sctp_rules.specs.declared.phase.Phase.TheVariants.{ShutdownPending, ShutdownSent, ShutdownReceived}
use Rattle.sctp_rules.specs.declared.phase.Phase.TheVariants.{ShutdownAckSent}
use Rattle.sctp_rules.specs.Settings.{Settings, Address, Beginning, Secrets}
use Rattle.sctp_rules.specs.State.{State, Try, Datagram}
use Rattle.sctp_rules.specs.Opening.{is_waiting, has_few_streams, fits_echo, heard_init, heard_init_ack}
use Rattle.sctp_endpoint.specs.declared.refusal.Refusal.{Refusal}
use Rattle.sctp_endpoint.specs.declared.refusal.Refusal.TheVariants.{WithoutTag, HostName, FewStreams, Unwanted}
use Rattle.sctp_endpoint.specs.declared.refusal.Refusal.TheVariants.{NoTagLeft, ShuttingDown, WithoutCookie, LongCookie}

-- ---- INIT (RFC 9260 §5.1, §5.2.1, §5.2.2)

-- an answer needs a tag
abbrev pub refused_by_tag : Option Beginning → Option Refusal
refused_by_tag None = Some NoTagLeft
refused_by_tag (Some b) = None

-- by the state; a try has a tag for its answers
abbrev pub refused_in : Phase → Secrets → InitValue → State → Option Refusal
refused_in Closed k init s = if s.is_wanted then refused_by_tag (k.beginning s.beginnings) else Some Unwanted
refused_in CookieWait k init s = None
refused_in CookieEchoed k init s =
    if nat_eq init.tag s.association.far_tag then None else refused_by_tag (k.beginning s.beginnings)
refused_in Established k init s = refused_by_tag (k.beginning s.beginnings)
refused_in ShutdownPending k init s = refused_by_tag (k.beginning s.beginnings)
refused_in ShutdownSent k init s = refused_by_tag (k.beginning s.beginnings)
refused_in ShutdownReceived k init s = refused_by_tag (k.beginning s.beginnings)
refused_in ShutdownAckSent k init s = Some ShuttingDown

abbrev pub judged : Option (List ℕ) → Secrets → InitValue → State → Option Refusal
judged (Some name) k init s = Some HostName
judged None k init s = if has_few_streams init then Some FewStreams else refused_in s.association.phase k init s

abbrev pub init_refusal : Secrets → InitValue → State → Option Refusal
init_refusal k init s =
    if nat_eq init.tag 0 then Some WithoutTag else judged (host_name_in init.parameters) k init s

-- ---- INIT ACK (§5.1 C)

abbrev pub refused_by_cookie : Option (List ℕ) → Option Refusal
refused_by_cookie None = Some WithoutCookie
refused_by_cookie (Some cookie) = if fits_echo cookie then None else Some LongCookie

abbrev pub unusable : (name : Option (List ℕ)) → InitValue → Option Refusal
unusable (Some name) init = Some HostName
unusable None init = if has_few_streams init then Some FewStreams else refused_by_cookie (cookie_in init.parameters)

abbrev pub try_refusal : Option Try → InitValue → Option Refusal
try_refusal None init = None
try_refusal (Some t) init =
    if nat_eq init.tag 0 then Some WithoutTag else unusable (host_name_in init.parameters) init

-- it counts in COOKIE-WAIT alone
abbrev pub init_ack_refusal : InitValue → State → Option Refusal
init_ack_refusal init s =
    if is_waiting s.association.phase then try_refusal s.association.trying init else None

-- ---- a datagram

-- both stand alone in their packet; an INIT ACK has the tag of the try
abbrev pub chunk_refusal : Secrets → (tag : ℕ) → ChunkValue → State → Option Refusal
chunk_refusal k tag (InitChunk init) s = init_refusal k init s
chunk_refusal k tag (InitAckChunk init) s =
    if nat_eq tag s.association.own_tag then init_ack_refusal init s else None
chunk_refusal k tag chunk s = None

abbrev pub first_refusal : Secrets → (tag : ℕ) → List ChunkValue → State → Option Refusal
first_refusal k tag [] s = None
first_refusal k tag (chunk ∷ chunks) s = chunk_refusal k tag chunk s

abbrev pub packet_refusal : Settings → Secrets → PacketValue → State → Option Refusal
packet_refusal c k p s =
    if nat_eq p.destination c.own_port && nat_eq p.source c.far_port
    then first_refusal k p.tag p.chunks s
    else None

-- why what a datagram asks for is refused, in this state; None if it isn't, or if it is neither of the two
unfoldable pub refusal : Option PacketValue → Settings → Secrets → State → Option Refusal
refusal None c k s = None
refusal (Some packet) c k s = packet_refusal c k packet s

-- ---- the laws

abbrev pub is_init_ack : ChunkValue → Bool
is_init_ack (InitAckChunk init) = true
is_init_ack chunk = false

abbrev pub has_init_ack : List Datagram → Bool
has_init_ack sent = list_any (λ (d : Datagram). list_any is_init_ack d.packet.chunks) sent

-- an INIT is answered by INIT ACK, or it is refused
abbrev pub inits_are_answered_or_refused : Type 0
inits_are_answered_or_refused =
    (c : Settings) (k : Secrets) (now : ℕ) (source : Address) (init : InitValue) (s : State) →
    has_init_ack (heard_init c k now source init s).sent ≡ is_none (init_refusal k init s)

-- an INIT ACK ends the try, which the generation counts, or it isn't refused
abbrev pub refused_init_acks_end_tries : Type 0
refused_init_acks_end_tries =
    (c : Settings) (now : ℕ) (init : InitValue) (s : State) →
    (heard_init_ack c now init s).left.generation
    ≡ (if is_some (init_ack_refusal init s) then s.generation + 1 else s.generation)
