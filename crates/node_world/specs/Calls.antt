-- What calls of gates in code mean, and what becomes of them.
use Rattle.std.specs.Prelude.{◌≡◌, ◌<◌, ◌≤◌, ℕ, Bool, true, false, ◌&&◌, not, nat_eq, nat_lt, All, List, [], ◌++◌, Option, Some, None, map, length, slice_get, slice_set}
use Rattle.std.specs.List.{Contains}
use Rattle.sctp_codec.specs.Reading.{read_packet}
use Rattle.sctp_bundling.specs.Settings.{address_of}
use Rattle.sctp_bundling.specs.Watching.{Sent, sent_as}
use Rattle.exchange.specs.Calls.{Kept, StandsFor, happened}
use Rattle.exchange.specs.declared.event.Event.{Event}
use Rattle.signalling_types.specs.declared.outcome.Outcome.{Outcome}
use Rattle.exchange_rules.specs.Exchange.{after, outcome_of}
use Rattle.exchange_rules.specs.First.{Abstract}
use Rattle.exchange_rules.specs.Queues.{WholeQueues, whole}
use Rattle.sctp_gate.specs.Gates.{Did}
use Rattle.sctp_gate.specs.Calling as calling
use Rattle.sctp_gate.specs.Calling.{Hears, Ticks, Settles, Fills, Closes, called}
use Rattle.node_world.specs.declared.call.Call.{Call}
use Rattle.node_world.specs.declared.call.Call.TheVariants.{Hear, Tick, Settle, Fill, Close}
use Rattle.node_world.specs.Kept.{KeptPlace, KeptPort, KeptNode, kept_other_end, octets_of, place_at, sent_there}

-- the octets that come with a call, of all that the gate at the other end of the link put out
abbrev pub octets_heard : Call → (sent : List Sent) → List ℕ
octets_heard (Hear place source) sent = octets_of (slice_get sent place)
octets_heard Tick sent = []
octets_heard Settle sent = []
octets_heard Fill sent = []
octets_heard Close sent = []

-- there is such a datagram
abbrev pub is_there : Call → (sent : List Sent) → Bool
is_there (Hear place source) sent = nat_lt place (length sent)
is_there Tick sent = true
is_there Settle sent = true
is_there Fill sent = true
is_there Close sent = true

-- whether a call is made at the node at a place: its link leads to another node, it has a gate, and what comes is there
abbrev pub is_made_to : Call → (place link : ℕ) → List KeptNode → KeptNode → Option KeptPlace → Bool
is_made_to call place link k near (Some there) =
    not (nat_eq place there.place)
    && (nat_lt link (length near.ports) && is_there call (sent_there k (Some there)))
is_made_to call place link k near None = false

abbrev pub is_made_from : Call → (place link : ℕ) → List KeptNode → Option KeptNode → Bool
is_made_from call place link k (Some near) =
    is_made_to call place link k near (kept_other_end k (Some near) link)
is_made_from call place link k None = false

abbrev pub is_made_by : Call → (link : ℕ) → List KeptNode → (place : Option ℕ) → Bool
is_made_by call link k (Some place) = is_made_from call place link k (slice_get k place)
is_made_by call link k None = false

-- at a point: there is a node besides
abbrev pub is_made : Call → (point link : ℕ) → List KeptNode → Bool
is_made call point link k = is_made_by call link k (place_at point k)

-- what a call means, by the octets that come
abbrev pub told : Call → (octets : List ℕ) → (now : ℕ) → calling.Call
told (Hear place source) octets now = Hears now (read_packet octets) (address_of source)
told Tick octets now = Ticks now
told Settle octets now = Settles now
told Fill octets now = Fills now
told Close octets now = Closes now

-- ---- what becomes of a call, for an abstract exchange

-- the gate is as it should be, the exchange stands for what it should, and each datagram that is kept was put out;
-- while memory never ran out, all are kept. The log stays whole unless one that this call put out isn't kept
pub record PortCalls (was is : KeptPort) (exchange : Kept) (d : Did WholeQueues) : Type 0 where
  pub gate_is : is.gate ≡ d.gate
  pub stands : StandsFor exchange d.exchange
  pub part : All (Contains (was.log.sent ++ map sent_as d.sent)) is.log.sent
  pub was_whole : is.log.is_whole ≡ true → was.log.is_whole ≡ true
  pub all : is.log.is_whole ≡ true → is.log.sent ≡ was.log.sent ++ map sent_as d.sent
  pub few : length is.log.sent ≤ length (was.log.sent ++ map sent_as d.sent)
  pub fewer : was.log.is_whole ≡ true → is.log.is_whole ≡ false →
      length is.log.sent < length (was.log.sent ++ map sent_as d.sent)

-- the same gates, with another one for a single link
pub record NodeCalls (link : ℕ) (call : calling.Call) (was is : KeptNode) (a : Abstract) : Type 0 where
  pub old_port : KeptPort
  pub new_port : KeptPort
  pub old_is : slice_get was.ports link ≡ Some old_port
  pub new_is : is.ports ≡ slice_set was.ports link new_port
  pub calls : PortCalls old_port new_port is.exchange (called whole call old_port.gate a)

-- the same nodes, with another one at a single place
pub record NodesCall (place link : ℕ) (call : calling.Call) (was is : List KeptNode) : Type 0 where
  pub old : KeptNode
  pub new : KeptNode
  pub old_is : slice_get was place ≡ Some old
  pub new_is : is ≡ slice_set was place new
  pub calls : (a : Abstract) → StandsFor old.exchange a → NodeCalls link call old new a
  pub settings : new.exchange.settings ≡ old.exchange.settings

-- ---- what becomes of an event, for an abstract exchange

-- the same nodes, with another one at a single place, which has the same gates
pub record NodesStep (place : ℕ) (event : Event) (outcome : Outcome) (was is : List KeptNode) : Type 0 where
  pub old : KeptNode
  pub new : KeptNode
  pub old_is : slice_get was place ≡ Some old
  pub new_is : is ≡ slice_set was place new
  pub outcome_is : (a : Abstract) → StandsFor old.exchange a → outcome ≡ outcome_of whole (happened event outcome) a
  pub exchange : (a : Abstract) → StandsFor old.exchange a →
      StandsFor new.exchange (after whole (happened event outcome) a)
  pub ports : new.ports ≡ old.ports
  pub settings : new.exchange.settings ≡ old.exchange.settings
