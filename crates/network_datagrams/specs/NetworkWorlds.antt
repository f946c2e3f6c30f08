-- A network over datagrams: a node at each point, with an endpoint of SCTP at its end of each link, and all packets
-- that any of these ever put out. What an endpoint is told and does is that of `node_rules`, and what a node books that
-- of `network_rules`.
use Rattle.std.specs.Prelude.{◌≡◌, ℕ, List, [], ◌∷◌, Option, Some, None, nat_eq, if◌then◌else◌}
use Rattle.m2pa_codec.specs.Frames.{FrameValue, spelled}
use Rattle.exchange_rules.specs.State.{Happening, CameUp, WentDown, FrameCame, Submitted}
use Rattle.exchange_rules.specs.Exchange.{frame_to_take}
use Rattle.exchange_rules.specs.Queues.{whole}
use Rattle.sctp_rules.specs.State.{Told, Up, Heard, Down, Failed}
use Rattle.sctp_rules.specs.Endpoint as endpoint
use Rattle.network_rules.specs.Networks as networks
use Rattle.network_rules.specs.Networks.{NetworkNode, NetworkState, Place, first_node, other_end}
use Rattle.node_rules.specs.Worlds as nodes
use Rattle.node_rules.specs.Worlds.{Make, Port, new_port, associated, told_by, is_frame, message_of, IsOwn, MayAssociate, CanGo}

-- ---- a node

-- its exchange and its books, as in a network of `network_rules`, but that nothing is ever in flight to it: what is,
-- the endpoints put out; and the endpoint of each of its links
pub record Node : Type 0 where
  pub books : NetworkNode
  pub ports : (link : ℕ) → Port

-- its exchange and its endpoints alone, as `node_rules` has them
abbrev pub bare : Node → nodes.Node
bare n = record { books = record { exchange = n.books.exchange; accepted = []; received = [] }; ports = n.ports }

abbrev pub new_node : Make → Node
new_node m = record { books = first_node m.configuration; ports = λ link. new_port (m.endpoints link) }

-- something happens to its exchange, and it books what that brings
abbrev pub happened : Happening → NetworkNode → NetworkNode
happened (FrameCame link text) x = networks.deliver_frame (Some text) link x.incoming x
happened (Submitted message) x = networks.submit message x
happened what x = networks.happens what x

-- what the endpoint of a link tells, as in `node_rules`
abbrev pub handed : (link : ℕ) → Told → NetworkNode → NetworkNode
handed link Up x = happened (CameUp link) x
handed link (Heard m) x = if is_frame m then happened (FrameCame link m.octets) x else x
handed link (Down why) x = happened (WentDown link) x
handed link (Failed why) x = x

abbrev pub handed_all : (link : ℕ) → List Told → NetworkNode → NetworkNode
handed_all link [] x = x
handed_all link (told ∷ more) x = handed_all link more (handed link told x)

abbrev pub with_port : (link : ℕ) → Port → Node → Node
with_port link port n = record n { ports = λ other. if nat_eq other link then port else n.ports other }

-- ---- what is done at a node

pub data Doing : Type 0 where
  -- something happens to the exchange that its links don't bring
  Happens : (what : Happening) → Doing
  -- something happens to the endpoint of a link, and what that tells is handed in, in order
  Associates : (link : ℕ) (what : endpoint.Happening) → Doing
  -- the next frame of the link is taken, and given to its endpoint
  Sends : (link : ℕ) → Doing

abbrev pub sent : Make → (link : ℕ) → Option FrameValue → Node → Node
sent m link None n = n
sent m link (Some frame) n =
    with_port link (associated m link (endpoint.Sends (message_of (spelled frame))) (bare n))
    (record n { books = networks.sends link n.books })

abbrev pub did : Make → Doing → Node → Node
did m (Happens what) n = record n { books = happened what n.books }
did m (Associates link what) n =
    with_port link (associated m link what (bare n))
    (record n { books = handed_all link (told_by m link what (bare n)) n.books })
did m (Sends link) n = sent m link (frame_to_take whole n.books.exchange link) n

-- ---- all nodes

-- the network between them is what each endpoint put out: any of it may come to the other end of its link, at any
-- moment, any number of times, in any order, or never
pub record NetworkWorld : Type 0 where
  pub node : (point : ℕ) → Node

abbrev pub new_world : (make : (point : ℕ) → Make) → NetworkWorld
new_world make = record { node = λ point. new_node (make point) }

-- as a network whose nodes have booked this
abbrev pub shown : NetworkWorld → NetworkState
shown w = record { node = λ point. (w.node point).books }

abbrev pub after : (make : (point : ℕ) → Make) → (point : ℕ) → Doing → NetworkWorld → NetworkWorld
after make point what w =
    record { node = λ other. if nat_eq other point then did (make other) what (w.node other) else w.node other }

-- ---- when

-- a link joins two ends
pub record HasEnd (s : NetworkState) (point link : ℕ) : Type 0 where
  pub there : Place
  pub is : other_end s point link ≡ Some there

-- as between two nodes: packets that come were put out by the other end of the link, and frames are taken only when
-- they can go out
abbrev pub MayDo : (w : NetworkWorld) → (point : ℕ) → Doing → Type 0
MayDo w point (Happens what) = IsOwn what
MayDo w point (Associates link what) =
    (e : HasEnd (shown w) point link) ×
    MayAssociate ((w.node e.there.point).ports e.there.link).site link what (bare (w.node point))
MayDo w point (Sends link) = HasEnd (shown w) point link × CanGo link (bare (w.node point))

pub record Step (make : (point : ℕ) → Make) (w v : NetworkWorld) : Type 0 where
  pub point : ℕ
  pub what : Doing
  pub may : MayDo w point what
  pub is : v ≡ after make point what w

-- from one world on, by steps, through the worlds of a list
abbrev pub Steps : (make : (point : ℕ) → Make) → NetworkWorld → List NetworkWorld → Type 0
Steps make w [] = Unit {0}
Steps make w (v ∷ rest) = Step make w v × Steps make v rest

abbrev pub last_world : NetworkWorld → List NetworkWorld → NetworkWorld
last_world w [] = w
last_world w (v ∷ rest) = last_world v rest
