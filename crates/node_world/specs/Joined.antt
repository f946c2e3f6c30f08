-- When the settings of nodes are those of a world.
use Rattle.std.specs.Prelude.{◌≡◌, ℕ, Bool, true, ◌&&◌, not, nat_eq, List, [], ◌∷◌, slice_get, Some}
use Rattle.std.specs.List.{list_any}
use Rattle.settings.specs.Configuration.{Configuration, LinkEntry}
use Rattle.settings.specs.Sharing.{SharesSet}
use Rattle.settings.specs.Well.{IsWell}
use Rattle.exchange_rules.specs.Routing.{adjacent_of}
use Rattle.node_world.specs.declared.node_making.NodeMaking.{NodeMaking}
use Rattle.node_world.specs.Making.{make_at}

-- no two are at the same point
abbrev pub are_apart : List NodeMaking → Bool
are_apart [] = true
are_apart (m ∷ nodes) = not (list_any (λ n. nat_eq n.settings.own m.settings.own) nodes) && are_apart nodes

-- a link leads to a node with which its own shares a set
abbrev pub IsJoinedBy : List NodeMaking → Configuration → LinkEntry → Type 0
IsJoinedBy nodes c l = SharesSet c (make_at nodes (adjacent_of c l.set)).configuration

-- each link of a node does, and each link of all
abbrev pub IsJoined : List NodeMaking → Configuration → Type 0
IsJoined nodes c = (link : ℕ) (l : LinkEntry) → slice_get c.links link ≡ Some l → IsJoinedBy nodes c l

abbrev pub AreJoined : List NodeMaking → Type 0
AreJoined nodes = (place : ℕ) (m : NodeMaking) → slice_get nodes place ≡ Some m → IsJoined nodes m.settings

-- all are within every limit
abbrev pub AreWell : List NodeMaking → Type 0
AreWell nodes = (place : ℕ) (m : NodeMaking) → slice_get nodes place ≡ Some m → IsWell m.settings
