-- Two exchanges that share a link set, with an endpoint of SCTP at each end of its links, and all packets that any of
-- these ever put out. Each may have whatever further links and neighbours, on which anything may happen.
use Rattle.std.specs.Prelude.{◌≡◌, ◌≢◌, ℕ, Bool, true, false, List, [], ◌∷◌, ◌++◌, Option, Some, None, nat_eq, slice_index, slice_get, option_to_list, if◌then◌else◌}
use Rattle.signalling_types.specs.Message.{Message}
use Rattle.settings.specs.Configuration.{Configuration}
use Rattle.m2pa_codec.specs.Frames.{FrameValue, spelled, link_status}
use Rattle.changeover.specs.Changeover.{users_of}
use Rattle.exchange_rules.specs.State.{Happening, CameUp, WentDown, FrameCame, Ticked, Submitted, Activated, Deactivated, Released, TitleAdded, TitleSet, TitleRemoved}
use Rattle.exchange_rules.specs.Exchange.{after, frame_to_take, taken, wants_of}
use Rattle.exchange_rules.specs.First.{Abstract, first_state}
use Rattle.exchange_rules.specs.Queues.{whole}
use Rattle.exchange_rules.specs.Conserving.{brought_in}
use Rattle.exchange_rules.specs.Receiving.{new_message}
use Rattle.exchange_rules.specs.declared.wants.Wants.TheVariants.{Open}
use Rattle.neighbour_rules.specs.Neighbours.{end_there, leads_elsewhere_by, speaks_for}
use Rattle.sctp_receiving.specs.Pieces as pieces
use Rattle.sctp_sending.specs.Outgoing as outgoing
use Rattle.sctp_rules.specs.State.{Told, Up, Heard, Down, Failed}
use Rattle.sctp_rules.specs.Sending.{may_send}
use Rattle.sctp_rules.specs.Endpoint as endpoint
use Rattle.sctp_rules.specs.Wishing.{Wish, Idle, Seeking, Served, wish_by_call, wish_after}
use Rattle.sctp_ends.specs.Worlds as ends

-- ---- what a link's association tells its exchange

-- the payload protocol identifier of M2PA (RFC 4165 §7.1)
abbrev pub m2pa : ℕ
m2pa = 5

-- an exchange, all user messages that it accepted, and all that came to it from the other one, whomever they are for
pub record Books : Type 0 where
  pub exchange : Abstract
  pub accepted : List Message
  pub received : List Message

-- the user message that an event newly carries
abbrev pub carried : Happening → Abstract → List Message
carried (FrameCame link text) a = users_of (option_to_list (new_message link text a))
carried what a = []

-- something happens to an exchange
abbrev pub happened : Happening → Books → Books
happened what b = record {
  exchange = after whole what b.exchange;
  accepted = b.accepted ++ brought_in what b.exchange;
  received = b.received ++ carried what b.exchange;
}

-- something happens to it on a link that leads elsewhere; what comes that way doesn't come from the other one
abbrev pub happened_elsewhere : Happening → Books → Books
happened_elsewhere what b = record b {
  exchange = after whole what b.exchange;
  accepted = b.accepted ++ brought_in what b.exchange;
}

-- a frame goes out on a link that leads elsewhere, if one is next
abbrev pub left_by : (link : ℕ) → Option FrameValue → Books → Books
left_by link None b = b
left_by link (Some frame) b = record b { exchange = taken whole b.exchange link }

abbrev pub is_frame : pieces.Message → Bool
is_frame m = nat_eq m.protocol m2pa

-- Up and Down are events of the association; a message is a frame by its payload protocol identifier
abbrev pub handed : (link : ℕ) → Told → Books → Books
handed link Up b = happened (CameUp link) b
handed link (Heard m) b = if is_frame m then happened (FrameCame link m.octets) b else b
handed link (Down why) b = happened (WentDown link) b
handed link (Failed why) b = b

-- all that is told, one after another
abbrev pub handed_all : (link : ℕ) → List Told → Books → Books
handed_all link [] b = b
handed_all link (told ∷ more) b = handed_all link more (handed link told b)

-- Link Status goes on stream 0, and User Data on stream 1 (RFC 4165 §4.1.2); the fourth octet of a frame is its type
abbrev pub stream_of : List ℕ → ℕ
stream_of frame = if nat_eq (slice_index frame 3) link_status then 0 else 1

abbrev pub message_of : List ℕ → outgoing.Message
message_of frame = record { stream = stream_of frame; protocol = m2pa; octets = frame }

-- ---- a node

-- the endpoint of a link between the two, all that it put out and was told, and whether its user wants an association,
-- by its calls and by what it was told
pub record Port : Type 0 where
  pub site : ends.Site
  pub wish : Wish

pub record Node : Type 0 where
  pub books : Books
  pub ports : (link : ℕ) → Port

-- how a node is made: its settings, and those of each link's endpoint
pub record Make : Type 0 where
  pub configuration : Configuration
  pub endpoints : (link : ℕ) → ends.Make

abbrev pub new_port : ends.Make → Port
new_port m = record { site = ends.new_site m.settings; wish = Idle }

abbrev pub new_node : Make → Node
new_node m = record {
  books = record { exchange = first_state m.configuration; accepted = []; received = [] };
  ports = λ link. new_port (m.endpoints link);
}

abbrev pub with_port : (link : ℕ) → Port → Node → Node
with_port link port n = record n { ports = λ other. if nat_eq other link then port else n.ports other }

-- ---- what is done at a node

pub data Doing : Type 0 where
  -- something happens to the exchange that its links don't bring
  Happens : (what : Happening) → Doing
  -- something happens to the endpoint of a link, and what that tells is handed in, in order
  Associates : (link : ℕ) (what : endpoint.Happening) → Doing
  -- the next frame of the link is taken, and given to its endpoint
  Sends : (link : ℕ) → Doing
  -- a link that leads elsewhere brings something, whatever joins it to a further neighbour; or its next frame goes
  Brings : (what : Happening) → Doing
  Leaves : (link : ℕ) → Doing

abbrev pub wished : Option Wish → (otherwise : Wish) → Wish
wished None otherwise = otherwise
wished (Some wish) otherwise = wish

-- once it was told to end what it has, it wants none
abbrev pub wish_left : endpoint.Happening → Option Wish → (otherwise : Wish) → Wish
wish_left endpoint.Aborts wish otherwise = Idle
wish_left what wish otherwise = wished wish otherwise

abbrev pub told_by : Make → (link : ℕ) → endpoint.Happening → Node → List Told
told_by m link what n =
    (endpoint.after (m.endpoints link).settings (m.endpoints link).secrets what (n.ports link).site.state).told

abbrev pub associated : Make → (link : ℕ) → endpoint.Happening → Node → Port
associated m link what n = record {
  site = ends.happened (m.endpoints link) what (n.ports link).site;
  wish = wish_left what (wish_after (told_by m link what n) (wish_by_call what (n.ports link).wish))
      (n.ports link).wish;
}

abbrev pub given : Make → (link : ℕ) → FrameValue → Node → Node
given m link frame n =
    with_port link (associated m link (endpoint.Sends (message_of (spelled frame))) n)
    (record n { books = record n.books { exchange = taken whole n.books.exchange link } })

abbrev pub sent : Make → (link : ℕ) → Option FrameValue → Node → Node
sent m link None n = n
sent m link (Some frame) n = given m link frame n

abbrev pub did : Make → Doing → Node → Node
did m (Happens what) n = record n { books = happened what n.books }
did m (Associates link what) n =
    with_port link (associated m link what n) (record n { books = handed_all link (told_by m link what n) n.books })
did m (Sends link) n = sent m link (frame_to_take whole n.books.exchange link) n
did m (Brings what) n = record n { books = happened_elsewhere what n.books }
did m (Leaves link) n = record n { books = left_by link (frame_to_take whole n.books.exchange link) n.books }

-- ---- links between the two, and links that lead elsewhere

-- a link of one node, and its number at the other one: they have the same signalling link code
pub record IsBetween (own other : Configuration) (link : ℕ) : Type 0 where
  pub there : ℕ
  pub is : end_there own other (slice_get own.links link) ≡ Some there

abbrev pub LeadsElsewhere : (own other : Configuration) → (link : ℕ) → Type 0
LeadsElsewhere own other link = leads_elsewhere_by own other (slice_get own.links link) ≡ true

-- ---- when

-- a user part hands a message over, a tick passes, the operator says something
abbrev pub IsOwn : Happening → Type 0
IsOwn (CameUp link) = ⊥
IsOwn (WentDown link) = ⊥
IsOwn (FrameCame link text) = ⊥
IsOwn Ticked = Unit {0}
IsOwn (Submitted message) = Unit {0}
IsOwn (Activated link emergency) = Unit {0}
IsOwn (Deactivated link) = Unit {0}
IsOwn (Released link) = Unit {0}
IsOwn (TitleAdded row is_memory_refused) = Unit {0}
IsOwn (TitleSet row is_memory_refused) = Unit {0}
IsOwn (TitleRemoved key digits) = Unit {0}

-- an endpoint doesn't keep a wish that its link doesn't have: if it wants an association, or begins to, its link wants
-- to open
abbrev pub IsLooked : (link : ℕ) → endpoint.Happening → Node → Type 0
IsLooked link what n = wish_by_call what (n.ports link).wish ≡ Seeking → wants_of n.books.exchange link ≡ Open

-- it is asked for one only if its link wants to open, and none is up
pub record IsAsked (link : ℕ) (n : Node) : Type 0 where
  pub wants : wants_of n.books.exchange link ≡ Open
  pub down : (n.ports link).wish ≢ Served

-- packets that come were put out by the other end of the link and aren't too old; messages are frames of the link. An
-- endpoint may be asked for packets at any moment, and told to end what it has, or to give up its wish
abbrev pub MayAssociate : (there : ends.Site) → (link : ℕ) → endpoint.Happening → Node → Type 0
MayAssociate there link (endpoint.Opens now is_active) n = IsAsked link n
MayAssociate there link (endpoint.Came now source packet) n =
    ends.Arrives there packet × IsLooked link (endpoint.Came now source packet) n
MayAssociate there link (endpoint.Ticked now) n = IsLooked link (endpoint.Ticked now) n
MayAssociate there link (endpoint.Sends message) n = ⊥
MayAssociate there link endpoint.Aborts n = Unit {0}
MayAssociate there link (endpoint.ShutsDown now) n = IsLooked link (endpoint.ShutsDown now) n
MayAssociate there link (endpoint.Flushes now) n = Unit {0}

-- a frame is taken only when it can go out
abbrev pub CanGo : (link : ℕ) → Node → Type 0
CanGo link n =
    (frame : FrameValue) → frame_to_take whole n.books.exchange link ≡ Some frame →
    may_send (message_of (spelled frame)) (n.ports link).site.state ≡ true

-- anything may happen on a link that leads elsewhere, except that a frame speaks for one of the two to the other
abbrev pub MayBring : (own other : Configuration) → Happening → Type 0
MayBring own other (CameUp link) = LeadsElsewhere own other link
MayBring own other (WentDown link) = LeadsElsewhere own other link
MayBring own other (FrameCame link text) =
    LeadsElsewhere own other link × (speaks_for own.own other.own text ≡ false)
MayBring own other Ticked = ⊥
MayBring own other (Submitted message) = ⊥
MayBring own other (Activated link emergency) = ⊥
MayBring own other (Deactivated link) = ⊥
MayBring own other (Released link) = ⊥
MayBring own other (TitleAdded row is_memory_refused) = ⊥
MayBring own other (TitleSet row is_memory_refused) = ⊥
MayBring own other (TitleRemoved key digits) = ⊥

abbrev pub MayDo : (own other : Configuration) → (there : Node) → Doing → Node → Type 0
MayDo own other there (Happens what) n = IsOwn what
MayDo own other there (Associates link what) n =
    (b : IsBetween own other link) × MayAssociate (there.ports b.there).site link what n
MayDo own other there (Sends link) n = IsBetween own other link × CanGo link n
MayDo own other there (Brings what) n = MayBring own other what
MayDo own other there (Leaves link) n = LeadsElsewhere own other link

-- ---- two nodes

-- the network between them is what each put out: any of it may come to the other end of its link, at any moment, any
-- number of times, in any order, or never
pub record World : Type 0 where
  pub near : Node
  pub far : Node

abbrev pub turned : World → World
turned w = record { near = w.far; far = w.near }

abbrev pub new_world : (near far : Make) → World
new_world near far = record { near = new_node near; far = new_node far }

pub data Step (near far : Make) (w v : World) : Type 0 where
  at_near : (what : Doing) → MayDo near.configuration far.configuration w.far what w.near →
      v ≡ record w { near = did near what w.near } → Step near far w v
  at_far : (what : Doing) → MayDo far.configuration near.configuration w.near what w.far →
      v ≡ record w { far = did far what w.far } → Step near far w v

-- from one world on, by steps, through the worlds of a list
abbrev pub Steps : (near far : Make) → World → List World → Type 0
Steps near far w [] = Unit {0}
Steps near far w (v ∷ rest) = Step near far w v × Steps near far v rest

abbrev pub last_world : World → List World → World
last_world w [] = w
last_world w (v ∷ rest) = last_world v rest
