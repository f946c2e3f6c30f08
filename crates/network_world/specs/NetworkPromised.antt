-- What a network promises: of the messages that one node accepted for another with which it shares a set, and of all
-- from end to end.
use Rattle.std.specs.Prelude.{◌≡◌, ◌<◌, ℕ, Bool, true, false, List, [], Option, Some, None, length, slice_index_or}
use Rattle.settings.specs.Sharing.{SharesSet}
use Rattle.exchange_rules.specs.Routing.{peer_of}
use Rattle.signalling_types.specs.Message.{Message}
use Rattle.signalling_types.specs.declared.outcome.Outcome.{Outcome}
use Rattle.pair_rules.specs.Awaiting.{HoldInNoVain}
use Rattle.pair_rules.specs.Pairs.{Doing, PairState}
use Rattle.pair_rules.specs.Promises.{BothWays, LostNothing}
use Rattle.network_rules.specs.Networks.{Arrival, NetworkState}
use Rattle.network_rules.specs.Pairs.{pair_of, came_from}
use Rattle.network_rules.specs.Totals.{ComeToPoint, HaveLostNothing, is_listed}
use Rattle.neighbour_rules.specs.Neighbours.{users_to}
use Rattle.neighbour_rules.specs.Promises.{AreBooked}
use Rattle.network_world.specs.KeptNodes.{KeptNode}
use Rattle.network_world.specs.NetworkStands.{NetworkStandsFor}
use Rattle.network_world.specs.Promised.{ComeInOrder, ComeOnce, ComeOrWait}
use Rattle.network_world.specs.Tells.{AreAlone, TellsHere}
use Rattle.network_world.specs.Waiting.{kept_waiting}

-- the nodes at two points share a set
abbrev pub ShareSet : NetworkState → (near far : ℕ) → Type 0
ShareSet w near far = SharesSet (w.node near).exchange.settings (w.node far).exchange.settings

-- each link leads to a node with which its own shares a set
abbrev pub ShareAll : NetworkState → Type 0
ShareAll w =
    (point link : ℕ) → link < length (w.node point).exchange.settings.links →
    ShareSet w point (peer_of (w.node point).exchange.settings link)

-- of all that a node accepted, what is for another
abbrev pub AcceptedOnce : NetworkState → (near far : ℕ) → (accepted : List Message) → Type 0
AcceptedOnce w near far accepted =
    ShareSet w near far →
    ComeOnce (pair_of w near far) (users_to far accepted) (pair_of w near far).far.received

abbrev pub AcceptedInOrder : NetworkState → (near far : ℕ) → (accepted : List Message) → Type 0
AcceptedInOrder w near far accepted =
    ShareSet w near far →
    ComeInOrder (pair_of w near far) (users_to far accepted) (pair_of w near far).far.received

-- of all that came to a node, what is for it and came by links to the other
abbrev pub received_from : NetworkState → (near far : ℕ) → (arrived : List Arrival) → List Message
received_from w near far arrived =
    users_to near (came_from (w.node near).exchange.settings (w.node far).exchange.settings arrived)

abbrev pub ArrivedOnce : NetworkState → (near far : ℕ) → (arrived : List Arrival) → Type 0
ArrivedOnce w near far arrived =
    ShareSet w far near →
    ComeOnce (pair_of w far near) (pair_of w far near).near.accepted (received_from w near far arrived)

abbrev pub ArrivedInOrder : NetworkState → (near far : ℕ) → (arrived : List Arrival) → Type 0
ArrivedInOrder w near far arrived =
    ShareSet w far near →
    ComeInOrder (pair_of w far near) (pair_of w far near).near.accepted (received_from w near far arrived)

-- and how many that a choice takes were accepted, and how many wait
abbrev pub AcceptedOrWait : NetworkState → (near far : ℕ) → (picks : Message → Bool) → (count : ℕ) → Type 0
AcceptedOrWait w near far picks count = ShareSet w near far → ComeOrWait (pair_of w near far) picks count

-- while neither of two nodes that share a set may have lost a message, this holds between them in both directions, of
-- every abstract network that it stands for
abbrev pub HoldsBetween : (PairState → Type 0) → List KeptNode → Type 0
HoldsBetween Statement k =
    (w : NetworkState) → NetworkStandsFor k w → (near far : ℕ) → ShareSet w near far →
    LostNothing (pair_of w near far) → BothWays Statement (pair_of w near far)

-- whatever has been lost, what is booked of the two is for the one or the other
abbrev pub AreBookedBetween : List KeptNode → Type 0
AreBookedBetween k =
    (w : NetworkState) → NetworkStandsFor k w → (near far : ℕ) → ShareSet w near far →
    BothWays AreBooked (pair_of w near far)

-- and nothing is held in vain at either
abbrev pub HoldsNothingInVain : List KeptNode → Type 0
HoldsNothingInVain k =
    (w : NetworkState) → NetworkStandsFor k w → (near far : ℕ) → ShareSet w near far →
    HoldInNoVain (pair_of w near far)

-- the outcome of a delivery at a node tells what it received and accepted, where it and another have only each other
abbrev pub TellsBetween : Doing → NetworkState → (near far : ℕ) → Outcome → Type 0
TellsBetween what w near far outcome =
    ShareSet w near far → AreAlone (pair_of w near far) → TellsHere what (pair_of w near far) outcome

-- ---- from end to end

-- all nodes at these points have the network indicator of one
abbrev pub HaveIndicatorOf : (points : List ℕ) → NetworkState → (point : ℕ) → Type 0
HaveIndicatorOf points w point =
    (other : ℕ) → is_listed points other ≡ true →
    (w.node other).exchange.settings.network ≡ (w.node point).exchange.settings.network

-- while none of them may have lost a message, the messages for one of them are accounted for
abbrev pub ComeToEach : (points : List ℕ) → NetworkState → Type 0
ComeToEach points w =
    (point : ℕ) → is_listed points point ≡ true → HaveIndicatorOf points w point → HaveLostNothing points w →
    ComeToPoint points w (w.node point).exchange.settings

-- ---- what is kept

-- what is booked at a node, if it is there
abbrev pub booked : {A : Type 0} → (KeptNode → List A) → Option KeptNode → List A
booked of (Some n) = of n
booked of None = []

-- whether a node may follow on a link, if it is there
abbrev pub follows_at : (link : ℕ) → Option KeptNode → Bool
follows_at link (Some n) = slice_index_or n.following link false
follows_at link None = false

-- how many user messages wait at one node for another, if both are there
abbrev pub waiting_between : (picks : Message → Bool) → (near far : Option KeptNode) → ℕ
waiting_between picks (Some near) (Some far) = kept_waiting picks near.exchange far.exchange
waiting_between picks (Some near) None = 0
waiting_between picks None far = 0
