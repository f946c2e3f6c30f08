-- What a gate does at its end of a link, whatever its node keeps; and of two nodes, as steps of that node.
use Rattle.std.specs.Prelude.{◌≡◌, ◌+◌, ℕ, Bool, true, false, List, [], ◌∷◌, Some, None, map}
use Rattle.std.specs.List.{Contains}
use Rattle.settings.specs.Configuration.{Configuration}
use Rattle.sctp_codec.specs.Packets.{PacketValue}
use Rattle.sctp_rules.specs.State.{Datagram}
use Rattle.sctp_rules.specs.Wishing.{Wish, Idle, Seeking, Served}
use Rattle.sctp_ends.specs.Worlds as ends
use Rattle.sctp_endpoint.specs.Endpoints.{secrets_of}
use Rattle.exchange_rules.specs.State.{Happening, CameUp, WentDown, FrameCame}
use Rattle.exchange_rules.specs.Exchange.{taken}
use Rattle.exchange_rules.specs.First.{Abstract}
use Rattle.exchange_rules.specs.Queues.{WholeQueues, whole}
use Rattle.sctp_gate.specs.Watching.{Sight, Rose, CameIn, Dropped, Fell, Failed, WentOut}
use Rattle.sctp_gate.specs.Gates.{Gate, Did, is_lasting, new_gate}
use Rattle.sctp_gate.specs.Calling.{Call, Hears, Ticks, Settles, Fills, Closes, called}
use Rattle.node_rules.specs.Worlds.{Books, happened, Make, Node, Port, new_node, Doing, did, IsBetween, MayDo, World}
use Rattle.node_rules.specs.Promises.{Always}

-- ---- a gate and the port of a link

abbrev pub is_served : Wish → Bool
is_served Idle = false
is_served Seeking = false
is_served Served = true

abbrev pub is_seeking : Wish → Bool
is_seeking Idle = false
is_seeking Seeking = true
is_seeking Served = false

-- a gate is that of a link of a node so made: it has the link's endpoint, and knows what its user wants
pub record Shows (m : Make) (link : ℕ) (port : Port) (g : Gate) : Type 0 where
  pub link_is : g.link ≡ link
  pub settings : (m.endpoints link).settings ≡ g.endpoint.settings
  pub secrets : (m.endpoints link).secrets ≡ secrets_of g.endpoint
  pub state : port.site.state ≡ g.endpoint.state
  pub up : g.standing.is_up ≡ is_served port.wish
  pub seeking : g.standing.is_seeking ≡ is_seeking port.wish

-- ---- what is seen of a call

-- what a node keeps, its exchange and what that accepted and received: what happens to the exchange changes it, and the
-- next frame of a link that is taken
pub record Keeping (B : Type 0) : Type 0 where
  pub exchange : B → Abstract
  pub with_exchange : Abstract → B → B
  pub happened : Happening → B → B
  pub took : (link : ℕ) → B → B

abbrev pub books_kept : Keeping Books
books_kept = record {
  exchange = λ b. b.exchange;
  with_exchange = λ a b. record b { exchange = a };
  happened = happened;
  took = λ link b. record b { exchange = taken whole b.exchange link };
}

module _ {B : Type 0} (keeping : Keeping B) (link : ℕ) where
  -- what happened to the exchange
  abbrev pub seen_by : Sight → B → B
  seen_by Rose b = keeping.happened (CameUp link) b
  seen_by (CameIn frame outcome) b = keeping.happened (FrameCame link frame) b
  seen_by (Dropped message) b = b
  seen_by (Fell why) b = keeping.happened (WentDown link) b
  seen_by (Failed why) b = b
  seen_by (WentOut frame) b = keeping.took link b

  abbrev pub seen_all : List Sight → B → B
  seen_all [] b = b
  seen_all (sight ∷ more) b = seen_all more (seen_by sight b)

-- how many messages passed the gate
abbrev pub one_if_message : Sight → ℕ
one_if_message Rose = 0
one_if_message (CameIn frame outcome) = 1
one_if_message (Dropped message) = 1
one_if_message (Fell why) = 0
one_if_message (Failed why) = 0
one_if_message (WentOut frame) = 1

abbrev pub messages_in : List Sight → ℕ
messages_in [] = 0
messages_in (sight ∷ more) = one_if_message sight + messages_in more

-- ---- steps of a node, one after another

abbrev pub dids : Make → List Doing → Node → Node
dids m [] n = n
dids m (what ∷ more) n = dids m more (did m what n)

-- each may be done, while the other node, which has these settings, stands still
abbrev pub MayAll : Make → (peer : Configuration) → (other : Node) → List Doing → Node → Type 0
MayAll m peer other [] n = Unit {0}
MayAll m peer other (what ∷ more) n = MayDo m.configuration peer other what n × MayAll m peer other more (did m what n)

-- all packets that the endpoint of a link put out
abbrev pub packets_of : Node → (link : ℕ) → List PacketValue
packets_of n link = map (λ e. e.packet) (n.ports link).site.packets

-- what a call does is what steps do. The gate and the exchange afterwards are those of the node, which accepted and
-- received what is seen of the call, and the endpoint put out what the call puts out
pub record AreSteps (m : Make) (peer : Configuration) (other n : Node) (link : ℕ) (d : Did WholeQueues) : Type 0 where
  pub steps : List Doing
  pub may : MayAll m peer other steps n
  pub shows : Shows m link ((dids m steps n).ports link) d.gate
  pub exchange : (dids m steps n).books.exchange ≡ d.exchange
  pub books : (dids m steps n).books ≡ seen_all books_kept link d.seen n.books
  pub sent : (x : Datagram) → Contains d.sent x → Contains (packets_of (dids m steps n) link) x.packet

-- ---- calls

-- a packet that comes was put out at the other end of the link, and isn't too old. All else may be called at any moment
abbrev pub MayCall : (there : ends.Site) → Call → Type 0
MayCall there (Hears now None source) = Unit {0}
MayCall there (Hears now (Some packet) source) = ends.Arrives there packet
MayCall there (Ticks now) = Unit {0}
MayCall there (Settles now) = Unit {0}
MayCall there (Fills now) = Unit {0}
MayCall there (Closes now) = Unit {0}

-- whether a call asks the endpoint for packets
abbrev pub does_flush : Call → Gate → Bool
does_flush (Hears now packet source) g = false
does_flush (Ticks now) g = false
does_flush (Settles now) g = false
does_flush (Fills now) g = is_lasting now g.endpoint
does_flush (Closes now) g = false

-- for a node and the other one, whatever was done before, and the gate of each link between the two
abbrev pub CallsAreSteps : (m : Make) → (peer : Configuration) → (other n : Node) → Type 0
CallsAreSteps m peer other n =
    (link : ℕ) (g : Gate) (call : Call) (between : IsBetween m.configuration peer link) →
    Shows m link (n.ports link) g → MayCall (other.ports between.there).site call →
    AreSteps m peer other n link (called whole call g n.books.exchange)

pub record BothCall (near far : Make) (w : World) : Type 0 where
  pub near_calls : CallsAreSteps near far.configuration w.far w.near
  pub far_calls : CallsAreSteps far near.configuration w.near w.far

abbrev pub calls_are_steps : Type 0
calls_are_steps = Always BothCall

-- a new gate is that of a link of a new node
abbrev pub new_gates_show : Type 0
new_gates_show =
    (m : Make) (link : ℕ) (g : Gate) (tries : Bool) (tag_key cookie_key : List ℕ) →
    g ≡ new_gate link tries (m.endpoints link).settings tag_key cookie_key →
    (m.endpoints link).secrets ≡ secrets_of g.endpoint → Shows m link ((new_node m).ports link) g
