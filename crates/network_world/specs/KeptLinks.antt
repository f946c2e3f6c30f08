-- Whether each link has its other end at one of the nodes that are kept.
use Rattle.std.specs.Prelude.{◌≡◌, ◌<◌, ℕ, true, List, is_some, length, slice_get, Some}
use Rattle.network_world.specs.KeptNetworks.{kept_other_end}
use Rattle.network_world.specs.KeptNodes.{KeptNode}

-- the other end of each link of the node at a place is a link of one of them
abbrev pub IsLinkedAt : List KeptNode → (place : ℕ) → Type 0
IsLinkedAt k place =
    (n : KeptNode) → slice_get k place ≡ Some n → (link : ℕ) → link < length n.exchange.settings.links →
    is_some (kept_other_end k (Some n) link) ≡ true

abbrev pub AreAllLinked : List KeptNode → Type 0
AreAllLinked k = (place : ℕ) → IsLinkedAt k place
