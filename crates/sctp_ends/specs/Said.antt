-- What the packets that an endpoint put out say of the end of `sctp_moves` that it shows.
use Rattle.std.specs.Prelude.{◌≡◌, ◌<◌, ◌≤◌, ℕ, ◌+◌, true, List, [], ◌∷◌, Some, length, nat_lt}
use Rattle.std.specs.List.{Contains}
use Rattle.sctp_codec.specs.Packets.{ChunkValue, DataValue, InitValue, DataChunk, InitChunk, InitAckChunk, SackChunk}
use Rattle.sctp_codec.specs.Packets.{ShutdownChunk, CookieEchoChunk, CookieAckChunk}
use Rattle.sctp_codec.specs.Parameters.{cookie_in}
use Rattle.sctp_cookie.specs.declared.cookie.Cookie.{Cookie}
use Rattle.sctp_sending.specs.Sending.{most_octets}
use Rattle.sctp_rules.specs.declared.limits.TheConstants.{STREAMS}
use Rattle.sctp_rules.specs.Settings.{Secrets}
use Rattle.sctp_rules.specs.State.{Datagram}
use Rattle.sctp_moves.specs.Numbers.{modulus, window}
use Rattle.sctp_moves.specs.Ends.{Message, Name, Chunk, Acknowledgement, Epoch, End}
use Rattle.sctp_moves.specs.Ends as moves

-- each of a list
abbrev pub Each : {A : Type 0} → (A → Type 0) → List A → Type 0
Each P [] = Unit {0}
Each P (x ∷ xs) = P x × Each P xs

-- ---- names and cookies

abbrev pub named : (tag first : ℕ) → Name
named tag first = record { tag = tag; first = first }

-- what the sender of INIT or INIT ACK goes by
abbrev pub name_in : InitValue → Name
name_in init = named init.tag init.first_tsn

abbrev pub cookie_of : Cookie → moves.Cookie
cookie_of c = record {
  generation = c.generation;
  own = named c.own_tag c.own_first_tsn;
  far = named c.peer_tag c.peer_first_tsn;
}

-- ---- how old something is

-- how many messages were handed over and told in these associations
abbrev pub load : List Epoch → ℕ
load [] = 0
load (epoch ∷ past) = length epoch.sent + length epoch.received + load past

-- what is asked of DATA and of acknowledgements, as to their age
pub record Age : Type 1 where
  pub chunk : Chunk → Type 0
  pub ack : Acknowledgement → Type 0

-- they were made when the load of their end was as marked, or later: if the messages since then are added, DATA was in
-- the window, and an acknowledgement was of all that was received
abbrev pub since : (mark : ℕ) → End → Age
since mark e = record {
  chunk = λ d.
      (epoch : Epoch) → Contains e.epochs epoch → epoch.far.tag ≡ d.to →
      length epoch.sent + mark ≤ d.place + window + load e.epochs;
  ack = λ a.
      (epoch : Epoch) → Contains e.epochs epoch → epoch.far.tag ≡ a.to →
      length epoch.received + mark ≤ a.count + load e.epochs;
}

-- since then their end sent, or received, fewer messages than there are numbers, less a window
abbrev pub young : End → Age
young e = record {
  chunk = λ d.
      (epoch : Epoch) → Contains e.epochs epoch → epoch.far.tag ≡ d.to →
      length epoch.sent + window ≤ d.place + modulus;
  ack = λ a.
      (epoch : Epoch) → Contains e.epochs epoch → epoch.far.tag ≡ a.to →
      length epoch.received + window < a.count + modulus;
}

-- there are none
abbrev pub never : Age
never = record { chunk = λ d. ⊥; ack = λ a. ⊥ }

-- ---- chunks

-- an INIT ACK that the end put out: its cookie is one that it signed
pub record IsAnswer (own : Secrets) (e : End) (tag : ℕ) (init : InitValue) : Type 0 where
  pub cookie : Cookie
  pub signed : cookie_in init.parameters ≡ Some (own.signed cookie)
  pub there : Contains e.answers (record { to = tag; own = name_in init; cookie = cookie_of cookie })

-- a COOKIE ECHO that the end put out: its cookie is one that the other end signed
pub record IsEcho (far : Secrets) (e : End) (octets : List ℕ) : Type 0 where
  pub cookie : Cookie
  pub signed : octets ≡ far.signed cookie
  pub there : Contains e.echoes (cookie_of cookie)

abbrev pub text_in : DataValue → Message
text_in d = record { stream = d.stream; protocol = d.protocol; octets = d.octets }

abbrev pub chunk_in : (tag : ℕ) → DataValue → (place : ℕ) → Chunk
chunk_in tag d place = record { to = tag; number = d.tsn; message = text_in d; place = place }

-- a DATA chunk that the end put out: a whole message, of an existing stream
pub record IsData (age : Age) (e : End) (tag : ℕ) (d : DataValue) : Type 0 where
  pub begins : d.begins ≡ true
  pub ends : d.ends ≡ true
  pub stream : nat_lt d.stream STREAMS ≡ true
  pub octets : length d.octets ≤ most_octets
  pub place : ℕ
  pub there : Contains e.chunks (chunk_in tag d place)
  pub aged : age.chunk (chunk_in tag d place)

abbrev pub ack_in : (tag cumulative count : ℕ) → Acknowledgement
ack_in tag cumulative count = record { to = tag; number = cumulative; count = count }

-- a SACK or a SHUTDOWN that the end put out
pub record IsAck (age : Age) (e : End) (tag cumulative : ℕ) : Type 0 where
  pub count : ℕ
  pub there : Contains e.acks (ack_in tag cumulative count)
  pub aged : age.ack (ack_in tag cumulative count)

-- a chunk that is in a packet with others, with this tag. Those of no kind of `End` say nothing
abbrev pub Bundles : Age → End → (tag : ℕ) → ChunkValue → Type 0
Bundles age e tag (InitChunk init) = ⊥
Bundles age e tag (InitAckChunk init) = ⊥
Bundles age e tag (CookieEchoChunk octets) = ⊥
Bundles age e tag CookieAckChunk = Contains e.cookie_acks tag
Bundles age e tag (DataChunk carried) = IsData age e tag carried
Bundles age e tag (SackChunk sack) = IsAck age e tag sack.cumulative
Bundles age e tag (ShutdownChunk cumulative) = IsAck age e tag cumulative
Bundles age e tag chunk = Unit {0}

-- the first chunk of a packet. INIT and INIT ACK stand alone, and COOKIE ECHO is the first
abbrev pub Begins : (own far : Secrets) → Age → End → (tag : ℕ) → ChunkValue → Type 0
Begins own far age e tag (InitChunk init) = Contains e.inits (name_in init)
Begins own far age e tag (InitAckChunk init) = IsAnswer own e tag init
Begins own far age e tag (CookieEchoChunk octets) = IsEcho far e octets
Begins own far age e tag chunk = Bundles age e tag chunk

-- the chunks of a packet, whose tag is this one
abbrev pub IsSaid : (own far : Secrets) → Age → End → (tag : ℕ) → List ChunkValue → Type 0
IsSaid own far age e tag [] = Unit {0}
IsSaid own far age e tag (first ∷ more) = Begins own far age e tag first × Each (Bundles age e tag) more

-- all packets of a rule, made since the load was as marked
abbrev pub AreSaid : (own far : Secrets) → (mark : ℕ) → End → List Datagram → Type 0
AreSaid own far mark e datagrams = Each (λ d. IsSaid own far (since mark e) e d.packet.tag d.packet.chunks) datagrams
