-- What two nodes of a network that share a link set have between them is what two neighbours have: so what neighbours
-- promise holds between any two nodes of a network that share a set.
use Rattle.std.specs.Prelude.{◌≡◌, ◌⊎◌, ℕ, true, false, not, List, [], filter, length, map, Some, slice_get}
use Rattle.signalling_types.specs.Message.{Message}
use Rattle.settings.specs.Configuration.{Configuration}
use Rattle.settings.specs.Well.{IsWell}
use Rattle.pair_rules.specs.Pairs.{End, PairState, Streams, first_pair, in_flight, may_follow}
use Rattle.pair_rules.specs.Awaiting.{HoldInNoVain}
use Rattle.pair_rules.specs.Promises.{BothWays, IsPunctual, LostNothing}
use Rattle.pair_rules.specs.Sharing.{AreSharing}
use Rattle.neighbour_rules.specs.Neighbours as neighbours
use Rattle.neighbour_rules.specs.Neighbours.{leads_elsewhere, leads_elsewhere_by, speaks_for_either, users_to}
use Rattle.neighbour_rules.specs.Awaiting.{AwaitsNothingInVain}
use Rattle.neighbour_rules.specs.Promises.{AreBooked, EachOnce, InOrder, StaysBetween}
use Rattle.network_rules.specs.Networks.{Arrival, NetworkNode, NetworkState, first_network}
use Rattle.network_rules.specs.Outside.{Move, after_moves}

-- ---- two nodes as a pair

-- of the messages that came to a node, those that came by links to the other
abbrev pub came_from : (near far : Configuration) → List Arrival → List Message
came_from near far arrived =
    map
    (λ a. a.message)
    (filter (λ a. not (leads_elsewhere_by near far (slice_get near.links a.link))) arrived)

-- a node as one end of the pair: of the messages that it took in, those for one point; of those that came by links to
-- the other, those for another
abbrev pub end_between_for : (to_far to_near : ℕ) → (near far : NetworkNode) → End
end_between_for to_far to_near near far = record {
  exchange = near.exchange;
  incoming = near.incoming;
  following = near.following;
  accepted = users_to to_far near.accepted;
  received = users_to to_near (came_from near.exchange.settings far.exchange.settings near.arrived);
}

abbrev pub pair_between_for : (to_far to_near : ℕ) → (near far : NetworkNode) → PairState
pair_between_for to_far to_near near far = record {
  near = end_between_for to_far to_near near far;
  far = end_between_for to_near to_far far near;
}

abbrev pub pair_of_for : (to_far to_near : ℕ) → NetworkState → (near far : ℕ) → PairState
pair_of_for to_far to_near w near far = pair_between_for to_far to_near (w.node near) (w.node far)

-- the same, where the messages are for the two themselves
abbrev pub end_between : (near far : NetworkNode) → End
end_between near far = end_between_for far.exchange.settings.own near.exchange.settings.own near far

abbrev pub pair_between : (near far : NetworkNode) → PairState
pair_between near far = pair_between_for far.exchange.settings.own near.exchange.settings.own near far

abbrev pub pair_of : NetworkState → (near far : ℕ) → PairState
pair_of w near far = pair_between (w.node near) (w.node far)

-- ---- each set of a network is that of two neighbours

-- on each link that doesn't lead elsewhere the same is in flight, and there are places for as many links
pub record CarryAlike (near far : Configuration) (one other : Streams) : Type 0 where
  pub statuses : (link : ℕ) → leads_elsewhere_by near far (slice_get near.links link) ≡ false →
      in_flight other.statuses link ≡ in_flight one.statuses link
  pub user_data : (link : ℕ) → leads_elsewhere_by near far (slice_get near.links link) ≡ false →
      in_flight other.user_data link ≡ in_flight one.user_data link
  pub status_links : length other.statuses ≡ length one.statuses
  pub data_links : length other.user_data ≡ length one.user_data

-- two ends are alike: their exchanges and their books are the same, and on each link that doesn't lead elsewhere the
-- same is in flight to them, and they may follow the other end alike
pub record AreAlike (near far : Configuration) (one other : End) : Type 0 where
  pub exchange : other.exchange ≡ one.exchange
  pub accepted : other.accepted ≡ one.accepted
  pub received : other.received ≡ one.received
  pub incoming : CarryAlike near far one.incoming other.incoming
  pub following : (link : ℕ) → leads_elsewhere_by near far (slice_get near.links link) ≡ false →
      may_follow other link ≡ may_follow one link
  pub following_links : length other.following ≡ length one.following

-- two pairs are alike at both ends
pub record ArePairsAlike (one other : PairState) : Type 0 where
  pub near_alike : AreAlike one.near.exchange.settings one.far.exchange.settings one.near other.near
  pub far_alike : AreAlike one.far.exchange.settings one.near.exchange.settings one.far other.far

-- by some steps of two neighbours that were just booted a pair comes to be that is alike
pub record IsRunOfNeighbours (p : PairState) : Type 0 where
  pub steps : List neighbours.Step
  pub is_alike : ArePairsAlike p
      (neighbours.after_steps steps (first_pair p.near.exchange.settings p.far.exchange.settings))

-- ---- the premises

-- each node is told the point at which it is
abbrev pub AreTheirPoints : ((point : ℕ) → Configuration) → Type 0
AreTheirPoints settings = (point : ℕ) → (settings point).own ≡ point

-- each keeps every limit, as accepted settings do, or has no link
abbrev pub AreWellOrAlone : ((point : ℕ) → Configuration) → Type 0
AreWellOrAlone settings = (point : ℕ) → IsWell (settings point) ⊎ ((settings point).links ≡ [])

-- ---- always

-- after every list of moves of a network, and of those outside, of each two nodes in it that share a set
abbrev pub Always : (PairState → Type 0) → Type 0
Always Statement =
    (settings : (point : ℕ) → Configuration) (moves : List Move) (near far : ℕ) → AreTheirPoints settings →
    AreWellOrAlone settings → AreSharing (settings near) (settings far) →
    Statement (pair_of (after_moves moves (first_network settings)) near far)

abbrev pub runs_are_runs_of_neighbours : Type 0
runs_are_runs_of_neighbours = Always IsRunOfNeighbours

-- the frame that comes next to the near end by a link that leads elsewhere carries no management of one of the two for
-- the other: so what the guard of neighbours asks holds by itself
pub record HearsNothingElsewhere (p : PairState) : Type 0 where
  pub user_data : (link : ℕ) (text : List ℕ) → leads_elsewhere p link ≡ true →
      slice_get (in_flight p.near.incoming.user_data link) 0 ≡ Some text → speaks_for_either p text ≡ false
  pub statuses : (link : ℕ) (text : List ℕ) → leads_elsewhere p link ≡ true →
      slice_get (in_flight p.near.incoming.statuses link) 0 ≡ Some text → speaks_for_either p text ≡ false

abbrev pub nobody_speaks_for_another : Type 0
nobody_speaks_for_another = Always (BothWays HearsNothingElsewhere)

-- "Exactly once"
abbrev pub each_message_once : Type 0
each_message_once = Always (λ p. LostNothing p → BothWays EachOnce p)

-- "Order", where besides no T3 or T4 of the accepting end ended a hold
abbrev pub each_flow_in_order : Type 0
each_flow_in_order = Always (λ p. LostNothing p → BothWays (λ q. IsPunctual q → InOrder q) p)

-- nothing is awaited in vain
abbrev pub nothing_is_awaited_in_vain : Type 0
nothing_is_awaited_in_vain = Always (λ p. LostNothing p → BothWays AwaitsNothingInVain p)

-- whatever has been lost: the books of the two; where their flows to each other go; and that nothing is held in vain
abbrev pub books_are_of_the_two : Type 0
books_are_of_the_two = Always (λ p. BothWays AreBooked p)

abbrev pub flows_stay_between : Type 0
flows_stay_between = Always (λ p. BothWays StaysBetween p)

abbrev pub nothing_is_held_in_vain : Type 0
nothing_is_held_in_vain = Always HoldInNoVain
