-- What a network promises anew: from each state on in which nothing is left between two of its nodes, or in all of it,
-- whatever was lost before, and however often nodes have started again.
use Rattle.std.specs.Prelude.{◌≡◌, ◌≢◌, ◌<◌, ℕ, ⊤, true, false, List, [], ◌∷◌, All, length, slice_set}
use Rattle.settings.specs.Configuration.{Configuration}
use Rattle.pair_rules.specs.Pairs.{PairState, turned, may_follow, may_open_at}
use Rattle.pair_rules.specs.Promises.{BothWays}
use Rattle.pair_rules.specs.Sharing.{AreSharing}
use Rattle.neighbour_rules.specs.Promises.{EachOnce, InOrder}
use Rattle.neighbour_rules.specs.Anew.{IsQuietPair, LostNothingSince, Stays, times_late}
use Rattle.network_rules.specs.Networks.{NetworkNode, NetworkState, Step, after_step, after_steps, changed, end_of, first_network, first_node}
use Rattle.network_rules.specs.Pairs.{AreTheirPoints, AreWellOrAlone, HearsNothingElsewhere, pair_of}
use Rattle.network_rules.specs.Totals.{ComeToPoint, IsAccounted, IsJoined, is_listed}

-- ---- nodes that start again

-- what is done to a network: a step; a node starts again; or a node that may follow the other end of a link gives that
-- up
pub data Change : Type 0 where
  Steps : (step : Step) → Change
  Restarts : (point : ℕ) → Change
  GivesUp : (point link : ℕ) → Change

-- a node starts again: its exchange is as it was booted, with the same settings. Nothing is in flight to it, and it may
-- follow on no link. What it sent is in flight yet: the other end of each link sees its association lost later, by a
-- step, and may still follow, since what tells it that the link opened can be under way
abbrev pub restarted : NetworkNode → NetworkNode
restarted x = record (first_node x.exchange.settings) {
  accepted = x.accepted;
  arrived = x.arrived;
  entered = x.entered;
  refused = x.refused;
}

-- a node may not follow the other end of a link any more, as when its transport has seen that nobody answers
abbrev pub given_up : (link : ℕ) → NetworkNode → NetworkNode
given_up link x = record x { following = slice_set x.following link false }

abbrev pub after_change : Change → NetworkState → NetworkState
after_change (Steps step) w = after_step step w
after_change (Restarts point) w = changed point restarted w
after_change (GivesUp point link) w = changed point (given_up link) w

abbrev pub after_all : List Change → NetworkState → NetworkState
after_all [] w = w
after_all (change ∷ changes) w = after_all changes (after_change change w)

-- what the nodes booked before counts no more
abbrev pub begun_anew : NetworkState → NetworkState
begun_anew w =
    record { node = λ point. record (w.node point) { accepted = []; arrived = []; entered = []; refused = [] } }

-- ---- between two nodes

-- after every list of changes of a network, of each two nodes in it that share a set
abbrev pub AfterChanges : ((near far : ℕ) → NetworkState → Type 0) → Type 0
AfterChanges Statement =
    (settings : (point : ℕ) → Configuration) (changes : List Change) (near far : ℕ) → AreTheirPoints settings →
    AreWellOrAlone settings → AreSharing (settings near) (settings far) →
    Statement near far (after_all changes (first_network settings))

-- what the near node accepted for the far one since the two were p, that received once, or it waits; and each flow in
-- order, if furthermore no timer of the near one ended a hold since
pub record KeepsPromises (p q : PairState) : Type 0 where
  pub once : EachOnce q
  pub order : Stays (times_late p) (times_late q) → InOrder q

pub record BothKeep (p q : PairState) : Type 0 where
  pub there : KeepsPromises p q
  pub back : KeepsPromises (turned p) (turned q)

-- a step at any point; or a node at a third point starts again, or gives up following the other end of a link
abbrev pub IsStepOrThird : (near far : ℕ) → Change → Type 0
IsStepOrThird near far (Steps step) = ⊤
IsStepOrThird near far (Restarts point) = (near ≢ point) × (far ≢ point)
IsStepOrThird near far (GivesUp point link) = (near ≢ point) × (far ≢ point)

-- after every list of such changes of the network, while neither of the two may have lost a message since
abbrev pub HoldBetween : (near far : ℕ) → NetworkState → Type 0
HoldBetween near far w =
    (changes : List Change) → All (IsStepOrThird near far) changes →
    LostNothingSince (pair_of w near far) (pair_of (after_all changes (begun_anew w)) near far) →
    BothKeep (pair_of w near far) (pair_of (after_all changes (begun_anew w)) near far)

-- if nothing is left between the two, whatever may be in the others
abbrev pub neighbours_begin_anew : Type 0
neighbours_begin_anew = AfterChanges (λ near far w. IsQuietPair (pair_of w near far) → HoldBetween near far w)

-- and whatever was done or lost, nobody speaks for another
abbrev pub nobody_ever_speaks_for_another : Type 0
nobody_ever_speaks_for_another = AfterChanges (λ near far w. BothWays HearsNothingElsewhere (pair_of w near far))

-- ---- from end to end

-- each link of a node may open, and the node may follow on none; and nothing is in its Held
pub record IsQuietNode (x : NetworkNode) : Type 0 where
  pub links : (link : ℕ) → link < length x.exchange.settings.links →
      (may_open_at (end_of x) link ≡ true) × (may_follow (end_of x) link ≡ false)
  pub held : x.exchange.node.queues.held ≡ []

-- so it is at all of these nodes
abbrev pub IsQuietNetwork : (points : List ℕ) → NetworkState → Type 0
IsQuietNetwork points w = (point : ℕ) → is_listed points point ≡ true → IsQuietNode (w.node point)

-- none of them may have lost a message since the network was w
abbrev pub HaveLostNothingSince : (points : List ℕ) → (w v : NetworkState) → Type 0
HaveLostNothingSince points w v =
    (point : ℕ) → is_listed points point ≡ true →
    Stays (w.node point).exchange.node.parts.times_lost (v.node point).exchange.node.parts.times_lost

-- after every list of steps from a quiet network on, while nothing may have been lost since
abbrev pub HoldThroughout : (points : List ℕ) → (NetworkState → Type 0) → NetworkState → Type 0
HoldThroughout points Statement w =
    (steps : List Step) → HaveLostNothingSince points w (after_steps steps (begun_anew w)) →
    Statement (after_steps steps (begun_anew w))

abbrev pub networks_begin_anew : Type 0
networks_begin_anew =
    (settings : (point : ℕ) → Configuration) (points : List ℕ) (changes : List Change) → IsJoined settings points →
    IsQuietNetwork points (after_all changes (first_network settings)) →
    HoldThroughout points (IsAccounted points) (after_all changes (first_network settings))

-- and of the messages for one point, where all nodes have one network indicator
abbrev pub destinations_begin_anew : Type 0
destinations_begin_anew =
    (settings : (point : ℕ) → Configuration) (points : List ℕ) (changes : List Change) (point : ℕ) →
    IsJoined settings points → is_listed points point ≡ true →
    ((other : ℕ) → is_listed points other ≡ true → (settings other).network ≡ (settings point).network) →
    IsQuietNetwork points (after_all changes (first_network settings)) →
    HoldThroughout points (λ w. ComeToPoint points w (settings point)) (after_all changes (first_network settings))

-- at first the network is quiet
abbrev pub networks_begin_quietly : Type 0
networks_begin_quietly =
    (settings : (point : ℕ) → Configuration) (points : List ℕ) → IsQuietNetwork points (first_network settings)
