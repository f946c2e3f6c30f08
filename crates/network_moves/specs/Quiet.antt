-- A network in which nothing is left: from any such one the laws hold, as from the first.
use Rattle.std.specs.Prelude.{◌≡◌, ℕ, false, List, [], ◌∷◌}
use Rattle.signalling_types.specs.Message.{Message}
use Rattle.link.specs.Queue.{first_queue}
use Rattle.network_moves.specs.Sayings.{Saying, Other}
use Rattle.network_moves.specs.Networks.{Live, LinkEnd, Line, Node, Network}
use Rattle.network_moves.specs.Flowing.{IsEnd}
use Rattle.network_moves.specs.Returning.{MayOpen}

-- an end that may open, so no message is in its queue
pub record IsClosed (x : LinkEnd) : Type 0 where
  pub end : IsEnd x
  pub may_open : MayOpen x
  pub live : x.phase ≡ Live
  pub came : x.came ≡ []
  pub gone : x.gone ≡ []

-- a line that is closed at both ends, of which neither may follow the other. What is in flight on it doesn't matter,
-- since an opening leaves nothing of it
pub record IsAtRest (z : Line) : Type 0 where
  pub near : IsClosed z.near
  pub far : IsClosed z.far
  pub near_alone : z.near_may_follow ≡ false
  pub far_alone : z.far_may_follow ≡ false

-- messages of which no law speaks
abbrev pub AreOthers : (Message → Saying) → List Message → Type 0
AreOthers read [] = Unit {0}
AreOthers read (m ∷ ms) = (read m ≡ Other) × AreOthers read ms

-- a node whose books begin, and that has no user message, order or answer
pub record IsIdle (read : Message → Saying) (n : Node) : Type 0 where
  pub bag : AreOthers read n.bag
  pub submitted : n.submitted ≡ []
  pub accepted : n.accepted ≡ []
  pub ended : n.ended ≡ []
  pub gone : n.gone ≡ []
  pub named : n.named ≡ []

pub record IsQuiet (read : Message → Saying) (p : Network) : Type 0 where
  pub lines : (link : ℕ) → IsAtRest (p.line link)
  pub nodes : (point : ℕ) → IsIdle read (p.node point)

-- ---- the first network

abbrev pub closed_end : LinkEnd
closed_end = record {
  queue = first_queue;
  phase = Live;
  up = false;
  serving = false;
  incomplete = false;
  awaited = false;
  heard = false;
  came = [];
  gone = [];
}

abbrev pub closed_line : Line
closed_line = record {
  near = closed_end;
  far = closed_end;
  to_far = [];
  to_near = [];
  told_far = 0;
  told_near = 0;
  near_may_follow = false;
  far_may_follow = false;
}

abbrev pub first_node : Node
first_node = record { bag = []; submitted = []; accepted = []; ended = []; gone = []; named = [] }

abbrev pub first_network : Network
first_network = record { node = λ point. first_node; line = λ link. closed_line; broken = λ point. false }

abbrev pub first_networks_are_quiet : Type 0
first_networks_are_quiet = (read : Message → Saying) → IsQuiet read first_network
