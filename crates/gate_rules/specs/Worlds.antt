-- What a call of a gate leaves of its node, whatever that keeps; and two nodes that share a link set, each an exchange
-- with a gate for each link of it, and all packets that these ever put out. What is done at them are calls of gates,
-- and other things that happen to exchanges. Each may have whatever further links and neighbours, on which anything may
-- happen.
use Rattle.std.specs.Prelude.{◌≡◌, ◌≤◌, ◌+◌, ◌*◌, ℕ, Bool, List, [], ◌∷◌, ◌++◌, Some, None, map, nat_eq, if◌then◌else◌}
use Rattle.std.specs.List.{Contains}
use Rattle.settings.specs.Configuration.{Configuration}
use Rattle.sctp_codec.specs.Packets.{PacketValue}
use Rattle.sctp_rules.specs.Settings.{Settings}
use Rattle.sctp_moves.specs.Numbers.{modulus, window}
use Rattle.sctp_ends.specs.Worlds.{Emitted, emitted}
use Rattle.exchange_rules.specs.State.{Happening}
use Rattle.exchange_rules.specs.Exchange.{frame_to_take}
use Rattle.exchange_rules.specs.First.{first_state}
use Rattle.exchange_rules.specs.Queues.{WholeQueues, whole}
use Rattle.sctp_gate.specs.Gates.{Gate, Did, new_gate}
use Rattle.sctp_gate.specs.Calling.{Call, Hears, Ticks, Settles, Fills, Closes, called}
use Rattle.node_rules.specs.Worlds.{Books, happened, happened_elsewhere, left_by, IsBetween, IsOwn, LeadsElsewhere, MayBring}
use Rattle.gate_rules.specs.Calls.{Keeping, books_kept, seen_all, messages_in, does_flush}

-- ---- a node with gates

-- a gate, and all packets that it put out, the latest first
pub record Port : Type 0 where
  pub gate : Gate
  pub packets : List Emitted
  -- how many messages passed it, and how many had when packets were asked for last
  pub messages : ℕ
  pub mark : ℕ

-- a node: what it keeps, and the gate of each of its links
pub record GateNode (B : Type 0) : Type 0 where
  pub books : B
  pub ports : (link : ℕ) → Port

-- how a gate is made: whether it tries to open, its endpoint's settings, and the keys of that
pub record GateMake : Type 0 where
  pub tries : Bool
  pub settings : Settings
  pub tag_key : List ℕ
  pub cookie_key : List ℕ

pub record Make : Type 0 where
  pub configuration : Configuration
  pub gates : (link : ℕ) → GateMake

abbrev pub new_port : (link : ℕ) → GateMake → Port
new_port link m = record {
  gate = new_gate link m.tries m.settings m.tag_key m.cookie_key;
  packets = [];
  messages = 0;
  mark = 0;
}

-- ---- a call

-- what it puts out was made since packets were asked for last
abbrev pub port_after : Call → Did WholeQueues → Port → Port
port_after call d p = record {
  gate = d.gate;
  packets = map (emitted p.mark) d.sent ++ p.packets;
  messages = p.messages + messages_in d.seen;
  mark = if does_flush call p.gate then p.messages + messages_in d.seen else p.mark;
}

module _ {B : Type 0} (keeping : Keeping B) where
  -- what a call of the gate of a link does
  abbrev pub done_by : Call → (link : ℕ) → GateNode B → Did WholeQueues
  done_by call link n = called whole call (n.ports link).gate (keeping.exchange n.books)

  -- the exchange is the one that the call leaves, and what is seen of the call says what else is kept
  abbrev pub books_after : (link : ℕ) → Did WholeQueues → B → B
  books_after link d b = keeping.with_exchange d.exchange (seen_all keeping link d.seen b)

  abbrev pub with_call : Call → (link : ℕ) → Did WholeQueues → GateNode B → GateNode B
  with_call call link d n = record {
    books = books_after link d n.books;
    ports = λ other. if nat_eq other link then port_after call d (n.ports link) else n.ports other;
  }

-- ---- one of two nodes

-- it keeps what its exchange accepted and received
abbrev pub Node : Type 0
Node = GateNode Books

abbrev pub new_node : Make → Node
new_node m = record {
  books = record { exchange = first_state m.configuration; accepted = []; received = [] };
  ports = λ link. new_port link (m.gates link);
}

-- ---- what is done at a node

pub data Doing : Type 0 where
  -- something happens to the exchange that its links don't bring
  Happens : (what : Happening) → Doing
  -- the gate of a link between the two is called
  Calls : (link : ℕ) (call : Call) → Doing
  -- a link that leads elsewhere brings something, or its next frame goes there
  Brings : (what : Happening) → Doing
  Leaves : (link : ℕ) → Doing

abbrev pub did : Doing → Node → Node
did (Happens what) n = record n { books = happened what n.books }
did (Calls link call) n = with_call books_kept call link (done_by books_kept call link n) n
did (Brings what) n = record n { books = happened_elsewhere what n.books }
did (Leaves link) n = record n { books = left_by link (frame_to_take whole n.books.exchange link) n.books }

-- ---- when

-- a packet that comes was put out at the other end of the link. Since it was made, no more messages passed there than
-- there are numbers, less two windows
pub record Arrives (other : Port) (packet : PacketValue) : Type 0 where
  pub one : Emitted
  pub there : Contains other.packets one
  pub is : one.packet ≡ packet
  pub young : other.messages + 2 * window ≤ one.made + modulus

-- all else may be called at any moment
abbrev pub MayCall : (other : Port) → Call → Type 0
MayCall other (Hears now None source) = Unit {0}
MayCall other (Hears now (Some packet) source) = Arrives other packet
MayCall other (Ticks now) = Unit {0}
MayCall other (Settles now) = Unit {0}
MayCall other (Fills now) = Unit {0}
MayCall other (Closes now) = Unit {0}

abbrev pub MayDo : (own other : Configuration) → (there : Node) → Doing → Type 0
MayDo own other there (Happens what) = IsOwn what
MayDo own other there (Calls link call) = (b : IsBetween own other link) × MayCall (there.ports b.there) call
MayDo own other there (Brings what) = MayBring own other what
MayDo own other there (Leaves link) = LeadsElsewhere own other link

-- ---- two nodes

-- the network between them is what each put out: any of it may come to the other end of its link, at any moment, any
-- number of times, in any order, or never
pub record World : Type 0 where
  pub near : Node
  pub far : Node

abbrev pub new_world : (near far : Make) → World
new_world near far = record { near = new_node near; far = new_node far }

pub data Step (near far : Make) (w v : World) : Type 0 where
  at_near : (what : Doing) → MayDo near.configuration far.configuration w.far what →
      v ≡ record w { near = did what w.near } → Step near far w v
  at_far : (what : Doing) → MayDo far.configuration near.configuration w.near what →
      v ≡ record w { far = did what w.far } → Step near far w v

-- from one world on, by steps, through the worlds of a list
abbrev pub Steps : (near far : Make) → World → List World → Type 0
Steps near far w [] = Unit {0}
Steps near far w (v ∷ rest) = Step near far w v × Steps near far v rest

abbrev pub last_world : World → List World → World
last_world w [] = w
last_world w (v ∷ rest) = last_world v rest
