-- What holds of a network whatever the routes, and however many ways lead to a point, if each of its links has its
-- other end in it.
use Rattle.std.specs.Prelude.{◌≡◌, ℕ, true, List}
use Rattle.network_rules.specs.Networks.{NetworkState}
use Rattle.network_rules.specs.Totals.{HaveLostNothing, is_listed}
use Rattle.network_rules.specs.Anew.{Change}
use Rattle.node_law.specs.Alike.{AreLinked}
use Rattle.node_law.specs.Ends.{AreUnbroken}
use Rattle.network_world.specs.KeptNetworks.{points_of}
use Rattle.network_world.specs.KeptNodes.{KeptNode}
use Rattle.network_world.specs.NetworkAnew.{RunsSince}
use Rattle.network_world.specs.NetworkStands.{NetworkStandsFor}

-- of every such abstract network that it stands for
abbrev pub HoldsLinked : List KeptNode → (NetworkState → Type 0) → Type 0
HoldsLinked k Statement = (w : NetworkState) → NetworkStandsFor k w → AreLinked w → Statement w

-- while no node counts a break
abbrev pub HoldsUnbroken : List KeptNode → (NetworkState → Type 0) → Type 0
HoldsUnbroken k Statement = HoldsLinked k (λ w. AreUnbroken (points_of k) w → Statement w)

-- while no node may have lost a message
abbrev pub HoldsLossless : List KeptNode → (NetworkState → Type 0) → Type 0
HoldsLossless k Statement = HoldsLinked k (λ w. HaveLostNothing (points_of k) w → Statement w)

-- at each node
abbrev pub AtEach : List KeptNode → ((point : ℕ) → NetworkState → Type 0) → NetworkState → Type 0
AtEach k Statement w = (point : ℕ) → is_listed (points_of k) point ≡ true → Statement point w

-- since its books began anew, of what became of such a network by changes
abbrev pub HoldsLinkedSince : List KeptNode → ((from : NetworkState) → List Change → Type 0) → Type 0
HoldsLinkedSince k Statement =
    (from : NetworkState) (changes : List Change) → RunsSince k from changes → AreLinked from → Statement from changes
