-- When a network of the code stands for an abstract one whatever was lost there, and however often nodes have started
-- again, and what it promises since its books began anew.
use Rattle.std.specs.Prelude.{◌≡◌, ℕ, Bool, true, List, [], ◌∷◌, ◌++◌, All, if◌then◌else◌}
use Rattle.settings.specs.Configuration.{Configuration}
use Rattle.neighbour_rules.specs.Anew.{IsQuietPair, LostNothingSince}
use Rattle.network_rules.specs.Networks.{NetworkState, first_network}
use Rattle.network_rules.specs.Pairs.{pair_of}
use Rattle.network_rules.specs.Totals.{ComeToPoint, IsPlaced, is_listed}
use Rattle.network_rules.specs.Anew.{BothKeep, Change, HaveLostNothingSince, IsQuietNetwork, IsStepOrThird, after_all, after_change, begun_anew}
use Rattle.node_law.specs.Anew.{IsStep}
use Rattle.network_world.specs.KeptNodes.{KeptNode}
use Rattle.network_world.specs.KeptNetworks.{kept_at, points_of}
use Rattle.network_world.specs.NetworkPromised.{HaveIndicatorOf, ShareAll, ShareSet}
use Rattle.network_world.specs.NetworkStands.{IsNodeAt}

-- ---- it stands for an abstract network

-- by these changes, restarts among them, it comes of a network of nodes at these points that were just booted
pub record IsChanged (points : List ℕ) (w : NetworkState) : Type 0 where
  pub settings : (point : ℕ) → Configuration
  pub placed : IsPlaced settings points
  pub changes : List Change
  pub by : w ≡ after_all changes (first_network settings)

-- what became of a network by these changes, with what its nodes booked since
abbrev pub since : NetworkState → List Change → NetworkState
since from changes = after_all changes (begun_anew from)

-- when its books began anew the network was this one; since then these changes were made
pub record RunsSince (k : List KeptNode) (from : NetworkState) (changes : List Change) : Type 0 where
  pub changed : IsChanged (points_of k) from
  pub nodes : (point : ℕ) → IsNodeAt point (kept_at point k) ((since from changes).node point)

-- one change more, if a node is at the point where it is made
abbrev pub and_then : (is_there : Bool) → Change → List Change → List Change
and_then is_there change changes = if is_there then changes ++ change ∷ [] else changes

abbrev pub changed_if : (is_there : Bool) → Change → NetworkState → NetworkState
changed_if is_there change w = if is_there then after_change change w else w

-- the node at the point of these settings has them
abbrev pub HasSettings : NetworkState → Configuration → Type 0
HasSettings w c = (w.node c.own).exchange.settings ≡ c

-- ---- what is promised since

-- from end to end: if the network was quiet, and only steps were made since, this holds while no node of it may have
-- lost a message since
abbrev pub HoldsSince : List KeptNode → (NetworkState → Type 0) → Type 0
HoldsSince k Statement =
    (from : NetworkState) (changes : List Change) → RunsSince k from changes → ShareAll from →
    IsQuietNetwork (points_of k) from → All IsStep changes →
    HaveLostNothingSince (points_of k) from (since from changes) → Statement (since from changes)

-- the messages for one of its nodes are accounted for, if all have its network indicator
abbrev pub ComeToEachSince : (points : List ℕ) → NetworkState → Type 0
ComeToEachSince points w =
    (point : ℕ) → is_listed points point ≡ true → HaveIndicatorOf points w point →
    ComeToPoint points w (w.node point).exchange.settings

-- between two nodes: if nothing was left between them, and neither of the two started again since, or gave up following
-- the other, both promises hold while neither may have lost a message since
abbrev pub KeptBetween : List KeptNode → Type 0
KeptBetween k =
    (from : NetworkState) (changes : List Change) → RunsSince k from changes → (near far : ℕ) →
    ShareSet from near far → IsQuietPair (pair_of from near far) → All (IsStepOrThird near far) changes →
    LostNothingSince (pair_of from near far) (pair_of (since from changes) near far) →
    BothKeep (pair_of from near far) (pair_of (since from changes) near far)

-- nothing is left between two nodes of a quiet network
abbrev pub QuietBetween : List KeptNode → Type 0
QuietBetween k =
    (from : NetworkState) (changes : List Change) → RunsSince k from changes → (near far : ℕ) →
    ShareSet from near far → IsQuietNetwork (points_of k) from → IsQuietPair (pair_of from near far)
