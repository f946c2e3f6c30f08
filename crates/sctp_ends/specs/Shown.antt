-- What an end of `sctp_moves` shows of a state of the endpoint.
use Rattle.std.specs.Prelude.{◌≡◌, ◌<◌, ◌≤◌, ℕ, ◌+◌, ◌-◌, ◌%◌, Bool, true, List, [], ◌∷◌, Some, None}
use Rattle.std.specs.Prelude.{length, map, nat_lt, slice_get, slice_index_or, take}
use Rattle.std.specs.List.{Contains}
use Rattle.sctp_codec.specs.Packets.{ChunkValue, DataChunk, InitChunk, InitAckChunk, SackChunk, ShutdownChunk}
use Rattle.sctp_codec.specs.Packets.{CookieEchoChunk, CookieAckChunk}
use Rattle.sctp_rules.specs.declared.phase.Phase.{Phase}
use Rattle.sctp_rules.specs.declared.phase.Phase.TheVariants as phases
use Rattle.sctp_cookie.specs.declared.cookie.Cookie.{Cookie}
use Rattle.sctp_rules.specs.Settings.{Beginning, Secrets}
use Rattle.sctp_rules.specs.State.{Try, Association, State}
use Rattle.sctp_rules.specs.Sending.{is_established}
use Rattle.sctp_rules.specs.declared.limits.TheConstants.{STREAMS}
use Rattle.sctp_receiving.specs.declared.limits.TheConstants.{CHUNKS}
use Rattle.sctp_receiving.specs.Pieces.{Piece}
use Rattle.sctp_receiving.specs.Receiver.{Receiver}
use Rattle.sctp_sending.specs.Outgoing as outgoing
use Rattle.sctp_sending.specs.Sending.{Sending, most_octets}
use Rattle.sctp_rules.specs.GivenMessages.{IsInOrder, Course}
use Rattle.sctp_moves.specs.Numbers.{modulus, cumulative}
use Rattle.sctp_moves.specs.Moves.{IsTrying, chunk_of, ack_of}
use Rattle.sctp_moves.specs.Ends as ends
use Rattle.sctp_moves.specs.Ends.{Message, Name, Epoch, Closed, CookieWait, CookieEchoed, Established, End}
use Rattle.sctp_ends.specs.Said.{Each, named, load, since, never, Bundles, IsSaid}

-- ---- what an endpoint draws and signs

-- it draws no tag twice, and what it signed opens as itself, if it does
pub record AreGood (own : Secrets) : Type 0 where
  pub fresh :
      (i j : ℕ) (a b : Beginning) → own.beginning i ≡ Some a → own.beginning j ≡ Some b → a.tag ≡ b.tag → i ≡ j
  pub opens : (signed opened : Cookie) → own.cookie_in (own.signed signed) ≡ Some opened → opened ≡ signed
  -- TSNs have 32 bits
  pub beginnings_fit : (i : ℕ) (a : Beginning) → own.beginning i ≡ Some a → a.first < modulus
  pub cookies_fit :
      (octets : List ℕ) (opened : Cookie) → own.cookie_in octets ≡ Some opened → opened.own_first_tsn < modulus

-- a name that was drawn, or is the next one
pub record IsOffered (own : Secrets) (beginnings : ℕ) (name : Name) : Type 0 where
  pub place : ℕ
  pub before : place ≤ beginnings
  pub beginning : Beginning
  pub drawn : own.beginning place ≡ Some beginning
  pub same : named beginning.tag beginning.first ≡ name

-- a tag that was drawn
pub record IsDrawn (own : Secrets) (beginnings tag : ℕ) : Type 0 where
  pub place : ℕ
  pub before : place < beginnings
  pub beginning : Beginning
  pub drawn : own.beginning place ≡ Some beginning
  pub same : beginning.tag ≡ tag

-- ---- the states of an association, as the moves see them

pub data Stage : Type 0 where
  Off : Stage
  Waiting : Stage
  Echoing : Stage
  There : Stage

abbrev pub stage_of : Phase → Stage
stage_of phases.Closed = Off
stage_of phases.CookieWait = Waiting
stage_of phases.CookieEchoed = Echoing
stage_of phases.Established = There
stage_of phases.ShutdownPending = There
stage_of phases.ShutdownSent = There
stage_of phases.ShutdownReceived = There
stage_of phases.ShutdownAckSent = There

abbrev pub own_name : Association → Name
own_name a = named a.own_tag a.own_first

abbrev pub far_name : Association → Name
far_name a = named a.far_tag a.peer.first

-- a message as the sending half has it, and as a piece that came is one
abbrev pub given_as : Message → outgoing.Message
given_as m = record { stream = m.stream; protocol = m.protocol; octets = m.octets }

abbrev pub text_of : Piece → Message
text_of p = record { stream = p.stream; protocol = p.protocol; octets = p.octets }

abbrev pub texts : List Message → List outgoing.Message
texts messages = map given_as messages

abbrev pub course_of : Sending → List Message → (acked : ℕ) → Course
course_of s messages acked = record { half = s; messages = texts messages; confirmed = acked; chunks = [] }

-- a message that was taken has an existing stream, and fits into a chunk
pub record IsTaken (m : Message) : Type 0 where
  pub stream : nat_lt m.stream STREAMS ≡ true
  pub octets : length m.octets ≤ most_octets

-- the sending half keeps what was sent and isn't confirmed; of an association that is shut down, the first of it. All
-- that was sent counts as put out. In ESTABLISHED, which is open, nothing is dropped
pub record SendsOut (e : End) (epoch : Epoch) (is_open : Bool) (s : Sending) : Type 0 where
  pub given : List Message
  pub part : given ≡ take (length given) epoch.sent
  pub order : IsInOrder epoch.own.first (course_of s given epoch.acked)
  pub went : s.went ≤ length s.out
  pub within : epoch.acked ≤ length given
  pub all : is_open ≡ true → given ≡ epoch.sent
  pub taken : (place : ℕ) (m : Message) → slice_get epoch.sent place ≡ Some m → IsTaken m
  pub put : (place : ℕ) (m : Message) → slice_get epoch.sent place ≡ Some m → Contains e.chunks (chunk_of epoch place m)

-- a piece is a whole message
pub record IsWhole (p : Piece) : Type 0 where
  pub begins : p.begins ≡ true
  pub ends : p.ends ≡ true
  pub stream : nat_lt p.stream STREAMS ≡ true
  pub octets : length p.octets ≤ most_octets

-- the piece this far ahead of the cumulative TSN is one that was heard
pub record IsHeard (epoch : Epoch) (ahead : ℕ) (p : Piece) : Type 0 where
  pub whole : IsWhole p
  pub heard : Contains epoch.heard (record { place = length epoch.received + (ahead - 1); message = text_of p })

-- the receiving half holds what was heard and not received. What was received counts as acknowledged
pub record TakesIn (e : End) (epoch : Epoch) (r : Receiver) : Type 0 where
  pub streams : r.streams ≡ STREAMS
  pub partial : r.partial ≡ None
  pub cumulative_is : r.cumulative ≡ cumulative epoch.far.first (length epoch.received)
  pub places : length r.held ≡ CHUNKS
  pub held :
      (ahead : ℕ) (p : Piece) → 1 ≤ ahead → ahead ≤ CHUNKS →
      slice_index_or r.held ((r.cumulative + ahead) % CHUNKS) None ≡ Some p → IsHeard epoch ahead p
  pub acknowledged : Contains e.acks (ack_of epoch)

-- there is an association: the latest epoch has its names, and COOKIE ACK counts as put out
pub record IsPresent (e : End) (a : Association) : Type 0 where
  pub up : e.phase ≡ Established
  pub epoch : Epoch
  pub past : List Epoch
  pub now : e.epochs ≡ epoch ∷ past
  pub own : epoch.own ≡ own_name a
  pub far : epoch.far ≡ far_name a
  pub confirmed : Contains e.cookie_acks a.far_tag
  pub sends : SendsOut e epoch (is_established a.phase) a.sender
  pub takes : TakesIn e epoch a.receiver

pub record IsOff (e : End) (wanted : Bool) : Type 0 where
  pub phase : e.phase ≡ Closed
  pub wants : e.wanted ≡ wanted

pub record IsWaiting (e : End) (wanted : Bool) (a : Association) : Type 0 where
  pub phase : e.phase ≡ CookieWait (own_name a)
  pub fits : a.own_first < modulus
  pub wants : e.wanted ≡ true
  pub wanted_is : wanted ≡ true

pub record IsEchoing (e : End) (wanted : Bool) (a : Association) : Type 0 where
  pub phase : e.phase ≡ CookieEchoed (own_name a) (far_name a)
  pub fits : a.own_first < modulus
  pub wants : e.wanted ≡ true
  pub wanted_is : wanted ≡ true

-- what the end shows of an association, and whether the user wants one
abbrev pub IsIn : Stage → End → (wanted : Bool) → Association → Type 0
IsIn Off e wanted a = IsOff e wanted
IsIn Waiting e wanted a = IsWaiting e wanted a
IsIn Echoing e wanted a = IsEchoing e wanted a
IsIn There e wanted a = IsPresent e a

-- ---- what waits for the next packet

-- a chunk that says nothing of the association
abbrev pub IsPlain : ChunkValue → Type 0
IsPlain (InitChunk init) = ⊥
IsPlain (InitAckChunk init) = ⊥
IsPlain (CookieEchoChunk octets) = ⊥
IsPlain CookieAckChunk = ⊥
IsPlain (DataChunk carried) = ⊥
IsPlain (SackChunk sack) = ⊥
IsPlain (ShutdownChunk cumulative) = ⊥
IsPlain chunk = Unit {0}

-- an answer that waits: it was put out already, as the moves see it
abbrev pub Waits : Stage → (mark : ℕ) → End → (tag : ℕ) → ChunkValue → Type 0
Waits Off mark e tag chunk = IsPlain chunk
Waits Waiting mark e tag chunk = IsPlain chunk
Waits Echoing mark e tag chunk = IsPlain chunk
Waits There mark e tag chunk = Bundles (since mark e) e tag chunk

-- ---- names

abbrev pub own_of : Epoch → Name
own_of epoch = epoch.own

-- a try, the cookies that were echoed, and the associations have tags that were drawn, each of which is never the next
-- again
pub record AreDrawn (own : Secrets) (beginnings : ℕ) (phase : ends.Phase) (echoes : List ends.Cookie) (names : List Name) : Type 0 where
  pub tried : (n : Name) → IsTrying phase n → IsDrawn own beginnings n.tag
  pub echoed : (c : ends.Cookie) → Contains echoes c → IsDrawn own beginnings c.far.tag
  pub opened : (n : Name) → Contains names n → IsDrawn own beginnings n.tag

-- ---- an end shows a state

-- `own` are the secrets of this endpoint, `far` those of its peer; `mark` is the load of the end when packets were
-- asked for last
pub record Shows (own far : Secrets) (mark : ℕ) (e : End) (s : State) : Type 0 where
  pub generation : e.generation ≡ s.generation
  pub stage : IsIn (stage_of s.association.phase) e s.is_wanted s.association
  pub offered : (n : Name) → Contains e.drawn n → IsOffered own s.beginnings n
  pub drawn : AreDrawn own s.beginnings e.phase e.echoes (map own_of e.epochs)
  pub control : Each (Waits (stage_of s.association.phase) mark e s.association.far_tag) s.association.control
  pub trying : (t : Try) → s.association.trying ≡ Some t → IsSaid own far never e s.association.far_tag t.chunks
  pub later : mark ≤ load e.epochs
