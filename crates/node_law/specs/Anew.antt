-- A hop anew, and a network anew: what becomes of the messages that nodes accept from each state on in which nothing is
-- left, between the two nodes of the hop or at any node, whatever was lost or broken before, and however often nodes
-- have started again.
use Rattle.std.specs.Prelude.{◌≡◌, ◌≤◌, ◌<◌, ◌+◌, ℕ, ⊤, Bool, true, false, All, List, length, count_by, min}
use Rattle.signalling_types.specs.Message.{Message}
use Rattle.settings.specs.Configuration.{Configuration}
use Rattle.exchange_rules.specs.Routing.{peer_of}
use Rattle.node_moves.specs.Anew.{is_for_either}
use Rattle.node_moves.specs.Laws.{most}
use Rattle.pair_rules.specs.Pairs.{may_follow, may_open_at}
use Rattle.neighbour_rules.specs.Anew.{LostNothingSince, Stays, times_late}
use Rattle.network_rules.specs.Anew.{Change, GivesUp, Restarts, Steps, HaveLostNothingSince, IsQuietNetwork}
use Rattle.network_rules.specs.Anew.{IsStepOrThird, after_all, begun_anew}
use Rattle.network_rules.specs.Networks.{NetworkState, end_of, first_network}
use Rattle.network_rules.specs.Pairs.{pair_of}
use Rattle.network_rules.specs.Totals.{IsPlaced, is_listed}
use Rattle.node_law.specs.Alike.{AreLinked}
use Rattle.node_law.specs.Ends.{EndsWhole, TakesOrRefuses, accepted_at, came_from, gone_at, waits_at}
use Rattle.node_law.specs.Hops.{AreHop, AreOfOneNetwork, ComesOverWhole, KeepsEachFlow, accepted_for, came_over}
use Rattle.node_law.specs.Hops.{gone_for, settings_of, waits_for}
use Rattle.node_law.specs.Sums.{AreAccountedFor, ComeToNode, ComeWhole, IsWhole, ToEach}

-- ---- where nothing is left between two nodes

module _ (near far : ℕ) (w : NetworkState) where
  -- at one of the two, each link to the other may open, and this end may not follow; and no user message for one of the
  -- two is in Held
  pub record IsQuietThere (here there : ℕ) : Type 0 where
    pub links : (link : ℕ) → link < length (settings_of w here).links → peer_of (settings_of w here) link ≡ there →
        (may_open_at (end_of (w.node here)) link ≡ true) × (may_follow (end_of (w.node here)) link ≡ false)
    pub held : count_by (is_for_either near far) (w.node here).exchange.node.queues.held ≡ 0

  -- and so at both. (What is in third nodes doesn't matter, nor what is on links that lead there)
  pub record NothingIsLeft : Type 0 where
    pub near_quiet : IsQuietThere near far
    pub far_quiet : IsQuietThere far near

-- in a quiet network nothing is left between any two
abbrev pub quiet_networks_have_nothing_left : Type 0
quiet_networks_have_nothing_left =
    (points : List ℕ) (w : NetworkState) (near far : ℕ) → IsQuietNetwork points w → AreHop points w near far →
    NothingIsLeft near far w

-- ---- since then

module _ (before w : NetworkState) where
  -- a node hasn't counted one break more
  abbrev pub StaysWhole : (point : ℕ) → Type 0
  StaysWhole point =
      Stays (before.node point).exchange.node.parts.times_broken (w.node point).exchange.node.parts.times_broken

  -- neither of two has
  pub record AreUnbrokenSince (near far : ℕ) : Type 0 where
    pub near_whole : StaysWhole near
    pub far_whole : StaysWhole far

  -- what a node counts as lost since then is no less than this, up to the most that it counts
  abbrev pub CountsSince : (gone point : ℕ) → Type 0
  CountsSince gone point =
      min ((before.node point).exchange.node.parts.messages_lost + gone) most
      ≤ (w.node point).exchange.node.parts.messages_lost

  -- of the messages for the far node that the near one accepted since then, by any test, those that came to it from
  -- there and those that wait are together no more than were accepted. And no more are gone than the near node counted
  -- as lost since, up to the most that it counts
  pub record ComesOverSince (near far : ℕ) : Type 0 where
    pub once : (test : Message → Bool) →
        accepted_for w near far test
        ≡ came_over w near far test + waits_for w near far test + gone_for w near far test
    pub counted : (test : Message → Bool) → CountsSince (gone_for w near far test) near

  -- so it is of what a node accepted for whatever points
  pub record EndsOnceSince (point : ℕ) : Type 0 where
    pub once : (test : Message → Bool) →
        accepted_at w test point ≡ came_from w test point + waits_at w test point + gone_at w test point
    pub counted : (test : Message → Bool) → CountsSince (gone_at w test point) point

  -- neither of two may have lost a message since
  abbrev pub AreLosslessSince : (near far : ℕ) → Type 0
  AreLosslessSince near far = LostNothingSince (pair_of before near far) (pair_of w near far)

  -- and besides they have one network indicator, and no timer of the near one ended a hold since
  pub record AreInTimeSince (near far : ℕ) : Type 0 where
    pub network : AreOfOneNetwork before near far
    pub lossless : AreLosslessSince near far
    pub punctual : Stays (times_late (pair_of before near far)) (times_late (pair_of w near far))

-- ---- what nodes take in

-- of what a node booked since then, whatever was left there, done, lost or broken, and however often nodes have started
-- again, of any network
abbrev pub what_comes_is_taken_or_refused_anew : Type 0
what_comes_is_taken_or_refused_anew =
    (w : NetworkState) (changes : List Change) (point : ℕ) →
    TakesOrRefuses (after_all changes (begun_anew w)) point

-- ---- a hop

-- what became of a hop by these changes since its books began from a network in which nothing was left between the two
pub record IsHopSince (points : List ℕ) (from : NetworkState) (changes : List Change) (near far : ℕ) : Type 0 where
  pub hop : AreHop points from near far
  pub quiet : NothingIsLeft near far from
  -- neither of the two has started again since, or given up following the other end of a link
  pub others : All (IsStepOrThird near far) changes

-- a statement of what became of each hop, while a premise holds
abbrev pub OfEachHopSince :
    (Premise Statement : (before w : NetworkState) (near far : ℕ) → Type 0) →
    (points : List ℕ) → (from : NetworkState) → List Change → Type 0
OfEachHopSince Premise Statement points from changes =
    (near far : ℕ) → IsHopSince points from changes near far →
    Premise from (after_all changes (begun_anew from)) near far →
    Statement from (after_all changes (begun_anew from)) near far

-- from each network on that changes made, each of whose links has its other end in it
abbrev pub AlwaysFrom : ((points : List ℕ) → (from : NetworkState) → List Change → Type 0) → Type 0
AlwaysFrom Statement =
    (settings : (point : ℕ) → Configuration) (points : List ℕ) (before changes : List Change) →
    IsPlaced settings points → AreLinked (first_network settings) →
    Statement points (after_all before (first_network settings)) changes

-- while neither of the two counts one break more
abbrev pub hops_begin_anew : Type 0
hops_begin_anew = AlwaysFrom (OfEachHopSince AreUnbrokenSince ComesOverSince)

-- and while neither may have lost a message, each came or waits
abbrev pub nothing_is_lost_anew : Type 0
nothing_is_lost_anew = AlwaysFrom (OfEachHopSince AreLosslessSince (λ before w near far. ComesOverWhole w near far))

-- and each flow keeps its order
abbrev pub order_begins_anew : Type 0
order_begins_anew = AlwaysFrom (OfEachHopSince AreInTimeSince (λ before w near far. KeepsEachFlow w near far))

-- ---- a network

-- no node has started again, or given up following the other end of a link
abbrev pub IsStep : Change → Type 0
IsStep (Steps step) = ⊤
IsStep (Restarts point) = ⊥
IsStep (GivesUp point link) = ⊥

-- a statement of what the nodes did since a network was quiet, if only steps were made, while a premise holds
abbrev pub SinceQuiet :
    (Premise Statement : (points : List ℕ) → (before w : NetworkState) → Type 0) →
    (points : List ℕ) → (from : NetworkState) → List Change → Type 0
SinceQuiet Premise Statement points from changes =
    IsQuietNetwork points from → All IsStep changes →
    Premise points from (after_all changes (begun_anew from)) →
    Statement points from (after_all changes (begun_anew from))

-- none of all nodes has counted one break more
abbrev pub NoneBrokenSince : (points : List ℕ) → (before w : NetworkState) → Type 0
NoneBrokenSince points before w = (point : ℕ) → is_listed points point ≡ true → StaysWhole before w point

-- the node law begins anew, while no node counts one break more, and so do the sums from end to end
abbrev pub nodes_begin_anew : Type 0
nodes_begin_anew =
    AlwaysFrom
    (SinceQuiet NoneBrokenSince
    (λ points before w. (point : ℕ) → is_listed points point ≡ true → EndsOnceSince before w point))

abbrev pub sums_begin_anew : Type 0
sums_begin_anew =
    AlwaysFrom (SinceQuiet NoneBrokenSince (λ points before w. AreAccountedFor points w))

abbrev pub ends_begin_anew : Type 0
ends_begin_anew =
    AlwaysFrom (SinceQuiet NoneBrokenSince (λ points before w. ToEach ComeToNode points w))

-- and while none may have lost a message, none is gone: at each node
abbrev pub nodes_lose_nothing_anew : Type 0
nodes_lose_nothing_anew =
    AlwaysFrom
    (SinceQuiet HaveLostNothingSince
    (λ points before w. (point : ℕ) → is_listed points point ≡ true → EndsWhole w point))

-- in all
abbrev pub networks_lose_nothing_anew : Type 0
networks_lose_nothing_anew = AlwaysFrom (SinceQuiet HaveLostNothingSince (λ points before w. IsWhole points w))

-- and of the messages for each node
abbrev pub nothing_is_lost_from_end_to_end_anew : Type 0
nothing_is_lost_from_end_to_end_anew =
    AlwaysFrom (SinceQuiet HaveLostNothingSince (λ points before w. ToEach ComeWhole points w))
