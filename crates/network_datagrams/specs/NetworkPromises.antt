-- What the nodes of a network promise over datagrams: what those of `network_rules` promise from their first state on.
use Rattle.std.specs.Prelude.{◌≡◌, ℕ, true, List, Some}
use Rattle.signalling_types.specs.declared.point.Flow.{Flow}
use Rattle.settings.specs.Configuration.{Configuration}
use Rattle.m2pa_codec.specs.Frames.{FrameValue}
use Rattle.exchange_rules.specs.Exchange.{frame_to_take}
use Rattle.exchange_rules.specs.Queues.{whole}
use Rattle.sctp_ends.specs.Shown.{AreGood}
use Rattle.pair_rules.specs.Awaiting.{HoldInNoVain}
use Rattle.pair_rules.specs.Pairs.{PairState}
use Rattle.pair_rules.specs.Promises.{BothWays, IsPunctual, LostNothing}
use Rattle.pair_rules.specs.Sharing.{AreSharing}
use Rattle.neighbour_rules.specs.Awaiting.{AwaitsNothingInVain}
use Rattle.neighbour_rules.specs.Promises.{AreBooked, EachOnce, InOrder, StaysBetween}
use Rattle.network_rules.specs.Networks.{NetworkNode, NetworkState, Step, after_steps, first_network}
use Rattle.network_rules.specs.Hops.{AreOpenHops, IsOpenHop}
use Rattle.network_rules.specs.Pairs.{pair_of}
use Rattle.network_rules.specs.Paths.{ComesInOrder, EachHopInOrder, EachOnlyPasses, KeepsInOrder, PassesInOrder}
use Rattle.network_rules.specs.Totals.{ComeToPoint, HaveLostNothing, IsAccounted, IsJoined, is_listed}
use Rattle.node_rules.specs.Promises.{IsShort}
use Rattle.node_rules.specs.Worlds.{Make}
use Rattle.network_datagrams.specs.NetworkWorlds.{HasEnd, NetworkWorld, Steps, last_world, new_world, shown}

abbrev pub settings_of : (make : (point : ℕ) → Make) → (point : ℕ) → Configuration
settings_of make point = (make point).configuration

-- nodes whose links join them; no endpoint draws a tag twice, and cookies open as what was signed
pub record AreJoined (make : (point : ℕ) → Make) (points : List ℕ) : Type 0 where
  pub joined : IsJoined (settings_of make) points
  pub good : (point link : ℕ) → AreGood ((make point).endpoints link).secrets

-- what is said of a network with these settings, whose nodes stand at these points, by what they have booked
abbrev pub Always : ((settings : (point : ℕ) → Configuration) → (points : List ℕ) → NetworkState → Type 0) → Type 0
Always Statement =
    (make : (point : ℕ) → Make) (points : List ℕ) → AreJoined make points → (list : List NetworkWorld) →
    Steps make (new_world make) list → Statement (settings_of make) points (shown (last_world (new_world make) list))

-- ---- runs are runs of a network

-- two nodes have the same exchange and the same books
pub record AreOne (one other : NetworkNode) : Type 0 where
  pub exchange : one.exchange ≡ other.exchange
  pub accepted : one.accepted ≡ other.accepted
  pub arrived : one.arrived ≡ other.arrived
  pub entered : one.entered ≡ other.entered
  pub refused : one.refused ≡ other.refused

-- there are steps of a network with frames in flight in it that lead to the same exchanges, with the same books
pub record IsRunOfNetwork (settings : (point : ℕ) → Configuration) (points : List ℕ) (s : NetworkState) : Type 0 where
  pub steps : List Step
  pub is : (point : ℕ) → AreOne (s.node point) ((after_steps steps (first_network settings)).node point)

-- ---- what is said

module _ (settings : (point : ℕ) → Configuration) (points : List ℕ) (s : NetworkState) where
  -- between each two nodes that share a set
  abbrev pub Between : (PairState → Type 0) → Type 0
  Between Statement = (near far : ℕ) → AreSharing (settings near) (settings far) → Statement (pair_of s near far)

  -- "Exactly once"
  abbrev pub EachMessageOnce : Type 0
  EachMessageOnce = Between (λ p. LostNothing p → BothWays EachOnce p)

  -- "Order", where besides no T3 or T4 of the accepting end ended a hold
  abbrev pub EachFlowInOrder : Type 0
  EachFlowInOrder = Between (λ p. LostNothing p → BothWays (λ q. IsPunctual q → InOrder q) p)

  abbrev pub NothingAwaitedInVain : Type 0
  NothingAwaitedInVain = Between (λ p. LostNothing p → BothWays AwaitsNothingInVain p)

  -- whatever has been lost: the books of the two; where their flows to each other go; and that nothing is held in vain
  abbrev pub BooksAreOfTheTwo : Type 0
  BooksAreOfTheTwo = Between (λ p. BothWays AreBooked p)

  abbrev pub FlowsStayBetween : Type 0
  FlowsStayBetween = Between (λ p. BothWays StaysBetween p)

  abbrev pub NothingHeldInVain : Type 0
  NothingHeldInVain = Between HoldInNoVain

  -- from end to end
  abbrev pub EachMessageAccounted : Type 0
  EachMessageAccounted = HaveLostNothing points s → IsAccounted points s

  -- of the messages for one point, where all nodes have one network indicator
  abbrev pub MessagesComeToEnd : Type 0
  MessagesComeToEnd =
      (point : ℕ) → is_listed points point ≡ true →
      ((other : ℕ) → is_listed points other ≡ true → (settings other).network ≡ (settings point).network) →
      HaveLostNothing points s → ComeToPoint points s (settings point)

  -- order over a path: at each node, whatever has been lost
  abbrev pub NodesPassInOrder : Type 0
  NodesPassInOrder = (point : ℕ) → PassesInOrder (s.node point)

  -- over each path of which each hop keeps a flow in order
  abbrev pub PathsKeepOrder : Type 0
  PathsKeepOrder =
      (flow : Flow) (first : ℕ) (rest : List ℕ) → EachHopInOrder flow s first rest → EachOnlyPasses flow s first rest →
      ComesInOrder flow s first rest

  -- a hop keeps a flow in order that leads over it, where no status of its route is among what came from there
  abbrev pub HopsKeepFlows : Type 0
  HopsKeepFlows =
      (flow : Flow) (near far : ℕ) → IsOpenHop settings s flow near far → KeepsInOrder flow s near far

  -- so over a path of such hops the flow comes in order
  abbrev pub PathsKeepFlows : Type 0
  PathsKeepFlows =
      (flow : Flow) (first : ℕ) (rest : List ℕ) → AreOpenHops settings s flow first rest →
      EachOnlyPasses flow s first rest → ComesInOrder flow s first rest

  -- as the last hop does, where the flow is for the last point
  abbrev pub LastHopsKeepOrder : Type 0
  LastHopsKeepOrder =
      (near far sls : ℕ) → AreSharing (settings near) (settings far) → LostNothing (pair_of s near far) →
      IsPunctual (pair_of s near far) → KeepsInOrder (record { point = far; sls = sls }) s near far

  -- an endpoint takes each frame that a link sends next as a message, as in `node_rules`
  abbrev pub FramesAreShort : Type 0
  FramesAreShort =
      (point link : ℕ) → HasEnd s point link → (frame : FrameValue) →
      frame_to_take whole (s.node point).exchange link ≡ Some frame → IsShort frame
