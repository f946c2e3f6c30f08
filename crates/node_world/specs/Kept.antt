-- What is kept of nodes with gates.
use Rattle.std.specs.Prelude.{◌≡◌, ◌<◌, ℕ, Bool, true, false, nat_eq, All, List, [], length, map, position, Option, Some, None, is_some, slice_get}
use Rattle.std.specs.List.{Contains}
use Rattle.std.specs.Option.{option_and_then, option_map}
use Rattle.settings.specs.Configuration.{Configuration, LinkEntry}
use Rattle.sctp_bundling.specs.Watching.{Sent}
use Rattle.sctp_gate.specs.Watching.{Sight}
use Rattle.sctp_gate.specs.Gates.{Gate, due}
use Rattle.exchange.specs.Calls.{Kept}
use Rattle.exchange_rules.specs.Messages.{link_with_code}
use Rattle.exchange_rules.specs.Routing.{adjacent_of}
use Rattle.exchange_rules.specs.State.{lost_any}

-- the datagrams that a gate put out, in order. If memory ran out for one, it isn't among them
pub record KeptLog : Type 0 where
  pub sent : List Sent
  pub is_whole : Bool

-- these were sent: each that is kept is one of them. While memory never ran out, all are kept; once it did, fewer are
pub record HasSent (log : KeptLog) (sent : List Sent) (seen : List Sight) : Type 0 where
  pub part : All (Contains sent) log.sent
  pub all : log.is_whole ≡ true → log.sent ≡ sent
  pub fewer : log.is_whole ≡ false → length log.sent < length sent

pub record KeptPort : Type 0 where
  pub gate : Gate
  pub log : KeptLog

pub record KeptNode : Type 0 where
  pub exchange : Kept
  pub ports : List KeptPort

-- the datagrams that are kept of the gate of a link
abbrev pub sent_of : Option KeptPort → List Sent
sent_of None = []
sent_of (Some port) = port.log.sent

abbrev pub sent_on : KeptNode → (link : ℕ) → List Sent
sent_on k link = sent_of (slice_get k.ports link)

-- whether all that it put out is kept
abbrev pub whole_of : Option KeptPort → Bool
whole_of None = false
whole_of (Some port) = port.log.is_whole

abbrev pub is_whole_on : KeptNode → (link : ℕ) → Bool
is_whole_on k link = whole_of (slice_get k.ports link)

-- when to call it next
abbrev pub due_of : Option KeptPort → Option ℕ
due_of None = None
due_of (Some port) = due port.gate

abbrev pub due_on : KeptNode → (link : ℕ) → Option ℕ
due_on k link = due_of (slice_get k.ports link)

abbrev pub octets_of : Option Sent → List ℕ
octets_of None = []
octets_of (Some x) = x.octets

-- ---- the node at a point

abbrev pub is_at : (point : ℕ) → KeptNode → Bool
is_at point n = nat_eq n.exchange.settings.own point

-- its place among the nodes, and the node by it
abbrev pub place_at : (point : ℕ) → List KeptNode → Option ℕ
place_at point k = position (is_at point) k

abbrev pub node_at : (point : ℕ) → List KeptNode → Option KeptNode
node_at point k = option_and_then (slice_get k) (place_at point k)

abbrev pub has_node : (point : ℕ) → List KeptNode → Bool
has_node point k = is_some (place_at point k)

-- the points of all nodes
abbrev pub points_of : List KeptNode → List ℕ
points_of k = map (λ n. n.exchange.settings.own) k

-- whether the exchange of a node may have lost a message, if it is there
abbrev pub lost_at : Option KeptNode → Bool
lost_at None = false
lost_at (Some n) = lost_any n.exchange.node.parts

-- what is kept of the gate of a link of a node, if that is there
abbrev pub sent_at : Option KeptNode → (link : ℕ) → List Sent
sent_at None link = []
sent_at (Some n) link = sent_on n link

abbrev pub is_whole_at : Option KeptNode → (link : ℕ) → Bool
is_whole_at None link = false
is_whole_at (Some n) link = is_whole_on n link

abbrev pub due_at : Option KeptNode → (link : ℕ) → Option ℕ
due_at None link = None
due_at (Some n) link = due_on n link

-- ---- the other end of a link

-- a link of the node at a place
pub record KeptPlace : Type 0 where
  pub place : ℕ
  pub link : ℕ

-- at the point that it leads to, the link to this point with its signalling link code
abbrev pub end_at : Configuration → LinkEntry → (place : ℕ) → Option KeptNode → Option KeptPlace
end_at c l place (Some far) =
    option_map (λ other. record { place = place; link = other }) (link_with_code far.exchange.settings c.own l.slc)
end_at c l place None = None

abbrev pub end_by : List KeptNode → Configuration → Option LinkEntry → Option KeptPlace
end_by k c (Some l) = option_and_then (λ place. end_at c l place (slice_get k place)) (place_at (adjacent_of c l.set) k)
end_by k c None = None

abbrev pub kept_other_end : List KeptNode → Option KeptNode → (link : ℕ) → Option KeptPlace
kept_other_end k (Some n) link = end_by k n.exchange.settings (slice_get n.exchange.settings.links link)
kept_other_end k None link = None

-- the datagrams that are kept of the gate there
abbrev pub sent_there : List KeptNode → Option KeptPlace → List Sent
sent_there k (Some there) = sent_at (slice_get k there.place) there.link
sent_there k None = []

abbrev pub sent_to : List KeptNode → (point link : ℕ) → List Sent
sent_to k point link = sent_there k (kept_other_end k (node_at point k) link)
