-- What becomes of all user messages of a network, from end to end.
use Rattle.std.specs.Prelude.{◌&&◌, ◌≡◌, ◌<◌, ◌+◌, ℕ, Bool, true, false, not, nat_eq, List, [], ◌++◌, count_by, drop, filter, length, map, sum_by, Option, Some, None}
use Rattle.std.specs.List.{list_any}
use Rattle.signalling_types.specs.Message.{Message}
use Rattle.settings.specs.Configuration.{Configuration}
use Rattle.settings.specs.Well.{IsWell}
use Rattle.mtp3_codec.specs.declared.discrimination.Discrimination.{Discrimination}
use Rattle.mtp3_codec.specs.declared.discrimination.Discrimination.TheVariants as whither
use Rattle.exchange_rules.specs.Conserving.{users_that}
use Rattle.exchange_rules.specs.Messages.{whither_goes}
use Rattle.exchange_rules.specs.Routing.{peer_of}
use Rattle.exchange_rules.specs.State.{lost_any}
use Rattle.pair_moves.specs.Order.{join_to}
use Rattle.pair_rules.specs.Promises.{queue_of}
use Rattle.pair_rules.specs.Sharing.{AreSharing}
use Rattle.network_rules.specs.Networks.{NetworkState, Place, Step, after_steps, end_of, first_network, goes_onward, other_end}
use Rattle.network_rules.specs.Pairs.{AreTheirPoints}

-- ---- what a node received, and what waits there

-- all that came to it and isn't for another point
abbrev pub received_at : NetworkState → (point : ℕ) → List Message
received_at w point =
    filter
    (λ m. not (goes_onward (w.node point).exchange.settings m))
    (map (λ a. a.message) (w.node point).arrived)

-- how many messages of a link the other end of it received
abbrev pub received_there : NetworkState → Option Place → ℕ
received_there w (Some there) = (queue_of (end_of (w.node there.point)) there.link).received
received_there w None = 0

-- the messages of a link that wait: those after that count
abbrev pub waiting_on : NetworkState → (point link : ℕ) → List Message
waiting_on w point link =
    drop (received_there w (other_end w point link)) (queue_of (end_of (w.node point)) link).all

-- all that wait at a node: those of each link, and those in Held
abbrev pub waiting_at : NetworkState → (point : ℕ) → List Message
waiting_at w point =
    join_to (waiting_on w point) (length (w.node point).exchange.settings.links)
    ++ (w.node point).exchange.node.queues.held

-- ---- the premises

abbrev pub is_listed : (points : List ℕ) → (point : ℕ) → Bool
is_listed points point = list_any (nat_eq point) points

-- where the nodes are
pub record IsPlaced (settings : (point : ℕ) → Configuration) (points : List ℕ) : Type 0 where
  -- each node is told the point at which it is
  pub own : AreTheirPoints settings
  -- each point of the list is there once, and the settings of its node keep every limit
  pub once : (point : ℕ) → is_listed points point ≡ true → count_by (nat_eq point) points ≡ 1
  pub well : (point : ℕ) → is_listed points point ≡ true → IsWell (settings point)
  -- no other point has a link
  pub others : (point : ℕ) → is_listed points point ≡ false → (settings point).links ≡ []

-- and that none of their links leads out
pub record IsJoined (settings : (point : ℕ) → Configuration) (points : List ℕ) : Type 0 where
  pub placed : IsPlaced settings points
  -- each link leads to a point whose node shares its set
  pub shared : (point link : ℕ) → link < length (settings point).links →
      AreSharing (settings point) (settings (peer_of (settings point) link))

-- none of these nodes may have lost a message
abbrev pub HaveLostNothing : (points : List ℕ) → NetworkState → Type 0
HaveLostNothing points w =
    (point : ℕ) → is_listed points point ≡ true → lost_any (w.node point).exchange.node.parts ≡ false

-- ---- from end to end

-- how many user messages satisfy a test, of those that are listed for each point
abbrev pub total : (of : Message → Bool) → (points : List ℕ) → (list : (point : ℕ) → List Message) → ℕ
total of points list = sum_by (λ point. users_that of (list point)) points

-- by any test, as many user messages entered the network as were received at a node that they aren't to leave, as wait
-- in nodes, and as were refused by a node on the way
abbrev pub IsAccounted : (points : List ℕ) → NetworkState → Type 0
IsAccounted points w =
    (of : Message → Bool) →
    total of points (λ point. (w.node point).entered)
    ≡ total of points (received_at w)
    + total of points (waiting_at w)
    + total of points (λ point. (w.node point).refused)

-- so it is after every list of steps
abbrev pub each_message_is_accounted_for : Type 0
each_message_is_accounted_for =
    (settings : (point : ℕ) → Configuration) (points : List ℕ) (steps : List Step) → IsJoined settings points →
    HaveLostNothing points (after_steps steps (first_network settings)) →
    IsAccounted points (after_steps steps (first_network settings))

-- ---- to one point

-- whether a message is for the node with these settings
abbrev pub is_here : Discrimination → Bool
is_here (whither.Here label) = true
is_here (whither.Transfer label) = false
is_here (whither.Refused fault) = false

abbrev pub is_for : Configuration → Message → Bool
is_for c m = is_here (whither_goes c m)

-- of those for one point, by any test, as many user messages entered the network as that point received, as wait in
-- nodes, and as were refused on the way
abbrev pub ComeToPoint : (points : List ℕ) → NetworkState → Configuration → Type 0
ComeToPoint points w c =
    (of : Message → Bool) →
    total (λ m. is_for c m && of m) points (λ point. (w.node point).entered)
    ≡ users_that (λ m. is_for c m && of m) (received_at w c.own)
    + total (λ m. is_for c m && of m) points (waiting_at w)
    + total (λ m. is_for c m && of m) points (λ point. (w.node point).refused)

-- so it is after every list of steps, where all nodes have one network indicator
abbrev pub messages_come_from_end_to_end : Type 0
messages_come_from_end_to_end =
    (settings : (point : ℕ) → Configuration) (points : List ℕ) (steps : List Step) (point : ℕ) →
    IsJoined settings points → is_listed points point ≡ true →
    ((other : ℕ) → is_listed points other ≡ true → (settings other).network ≡ (settings point).network) →
    HaveLostNothing points (after_steps steps (first_network settings)) →
    ComeToPoint points (after_steps steps (first_network settings)) (settings point)
