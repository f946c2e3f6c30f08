-- A hop of a network, from one node to an adjacent one, where one set alone leads from each of the two to the other,
-- whatever ways lead to other points: what becomes of the messages that the near node accepts for the far one.
use Rattle.std.specs.Prelude.{◌≡◌, ◌≤◌, ◌+◌, ◌-◌, ℕ, Bool, true, false, List, min}
use Rattle.signalling_types.specs.Message.{Message}
use Rattle.settings.specs.Configuration.{Configuration}
use Rattle.settings.specs.Sharing.{SharesSet}
use Rattle.exchange_rules.specs.State.{lost_any}
use Rattle.node_moves.specs.EndToEnd.{to_point}
use Rattle.node_moves.specs.Hops.{IsHop, over_hop}
use Rattle.node_moves.specs.Laws.{most, users_that}
use Rattle.pair_rules.specs.Promises.{IsPunctual, LostNothing}
use Rattle.network_rules.specs.Networks.{NetworkState, other_end}
use Rattle.network_rules.specs.Pairs.{pair_of}
use Rattle.network_rules.specs.Paths.{KeepsInOrder}
use Rattle.network_rules.specs.Totals.{is_listed, waiting_on}
use Rattle.node_law.specs.Ends.{Always, accepted_at, came_there}

-- the settings of the node at each point
abbrev pub settings_of : NetworkState → (point : ℕ) → Configuration
settings_of w point = (w.node point).exchange.settings

-- the nodes at two points are a hop
pub record AreHop (points : List ℕ) (w : NetworkState) (near far : ℕ) : Type 0 where
  pub near_there : is_listed points near ≡ true
  pub far_there : is_listed points far ≡ true
  pub leads : IsHop (settings_of w) near far

module _ (w : NetworkState) (near far : ℕ) where
  module _ (test : Message → Bool) where
    -- accepted by the near node, for the far one
    abbrev pub accepted_for : ℕ
    accepted_for = accepted_at w (to_point far test) near

    -- of these, those that came to the far node by a link from the near one
    abbrev pub came_over : ℕ
    came_over =
        over_hop (settings_of w) near far (λ link. users_that (to_point far test) (came_there w (other_end w near link)))

    -- those that wait at the near node, in Held or on a link to the far one
    abbrev pub waits_for : ℕ
    waits_for =
        users_that (to_point far test) (w.node near).exchange.node.queues.held
        + over_hop (settings_of w) near far (λ link. users_that (to_point far test) (waiting_on w near link))

    -- and how many neither came nor wait
    abbrev pub gone_for : ℕ
    gone_for = accepted_for - (came_over + waits_for)

  -- by any test, of the messages for the far node that the near one accepted, those that came to it from there and those
  -- that wait are together no more than were accepted. So one that was accepted once comes at most once, and doesn't wait
  -- if it came. And no more are gone than the near node counts as lost (`messages_lost`), up to the most that it counts
  pub record ComesOver : Type 0 where
    pub once : (test : Message → Bool) → accepted_for test ≡ came_over test + waits_for test + gone_for test
    pub counted : (test : Message → Bool) →
        min (gone_for test) most ≤ (w.node near).exchange.node.parts.messages_lost

  -- none is gone
  pub record ComesOverWhole : Type 0 where
    pub once : (test : Message → Bool) → accepted_for test ≡ came_over test + waits_for test

  -- neither of the two counts a break, whatever the others do
  pub record AreBothUnbroken : Type 0 where
    pub near_whole : (w.node near).exchange.node.parts.times_broken ≡ 0
    pub far_whole : (w.node far).exchange.node.parts.times_broken ≡ 0

  -- neither of the two has raised its flag of losses
  pub record HaveNoFlag : Type 0 where
    pub near_none : lost_any (w.node near).exchange.node.parts ≡ false
    pub far_none : lost_any (w.node far).exchange.node.parts ≡ false

-- ---- always

-- a statement of each hop, while a premise of it holds
abbrev pub OfEachHop :
    (Premise Statement : NetworkState → (near far : ℕ) → Type 0) → (points : List ℕ) → NetworkState → Type 0
OfEachHop Premise Statement points w =
    (near far : ℕ) → AreHop points w near far → Premise w near far → Statement w near far

-- while neither of the two counts a break
abbrev pub messages_come_over_a_hop : Type 0
messages_come_over_a_hop = Always (OfEachHop AreBothUnbroken ComesOver)

-- and while neither has raised its flag, none is gone
abbrev pub nothing_is_lost_over_a_hop : Type 0
nothing_is_lost_over_a_hop = Always (OfEachHop HaveNoFlag ComesOverWhole)

-- ---- order

-- the two have one network indicator
abbrev pub AreOfOneNetwork : NetworkState → (near far : ℕ) → Type 0
AreOfOneNetwork w near far = (settings_of w near).network ≡ (settings_of w far).network

-- then they share a set, so what two such nodes promise each other holds between them
abbrev pub HaveSet : NetworkState → (near far : ℕ) → Type 0
HaveSet w near far = SharesSet (settings_of w near) (settings_of w far)

abbrev pub hops_share_a_set : Type 0
hops_share_a_set = Always (OfEachHop AreOfOneNetwork HaveSet)

-- besides, neither has raised its flag of losses, and the near one none of its flag of lateness (Q.704 §6.4)
pub record AreInTime (w : NetworkState) (near far : ℕ) : Type 0 where
  pub network : AreOfOneNetwork w near far
  pub lossless : LostNothing (pair_of w near far)
  pub punctual : IsPunctual (pair_of w near far)

-- the messages of a flow for the far node, one of each selection, that the near one accepted are, in order, those that
-- came to the far one from there, and then those that wait
abbrev pub KeepsEachFlow : NetworkState → (near far : ℕ) → Type 0
KeepsEachFlow w near far = (sls : ℕ) → KeepsInOrder (record { point = far; sls = sls }) w near far

abbrev pub flows_come_in_order_over_a_hop : Type 0
flows_come_in_order_over_a_hop = Always (OfEachHop AreInTime KeepsEachFlow)
